use Rattle.std.proofs.Common.{◌≡◌, ◌++◌}
use Rattle.iss_field.proofs.codes.listed.Given as goal

abbrev pub invariant-loop-code : goal.invariant-loop-code
invariant-loop-code l = l.codes.items ++ l.code-iterator ≡ l.set.keys
