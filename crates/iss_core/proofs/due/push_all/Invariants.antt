use Rattle.std.proofs.Common.{◌≡◌, ◌++◌, map, drop}
use Rattle.iss_core.specs.declared.due.Due.TheVariants.{Call}
use Rattle.iss_core.proofs.due.push_all.Given as goal

-- what went out, and then what is to come
abbrev pub invariant-loop-call : goal.invariant-loop-call
invariant-loop-call l = l.due.items ++ map Call (drop l.call-index l.calls) ≡ l.initial.due.items ++ map Call l.calls
