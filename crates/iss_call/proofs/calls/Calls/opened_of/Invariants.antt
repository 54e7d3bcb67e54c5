use Rattle.std.proofs.Common.{◌≡◌, ◌++◌, drop}
use Rattle.iss_call.specs.States.{looked_up}
use Rattle.iss_call.proofs.calls.Calls.opened_of.Given as goal

abbrev pub invariant-loop-id : goal.invariant-loop-id
invariant-loop-id l = l.found.items ++ looked_up l.self (drop l.id-index l.ids) ≡ looked_up l.self l.ids
