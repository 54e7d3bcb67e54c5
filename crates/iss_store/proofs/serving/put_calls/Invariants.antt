use Rattle.std.proofs.Common.{◌≡◌, ◌++◌, map, drop}
use Rattle.iss_model.specs.declared.entry.Entry.TheVariants.{Opened}
use Rattle.iss_store.proofs.serving.put_calls.Given as goal

abbrev pub invariant-loop-call : goal.invariant-loop-call
invariant-loop-call l = l.entries.items ++ map Opened (drop l.call-index l.calls) ≡ l.initial.entries.items ++ map Opened l.calls
