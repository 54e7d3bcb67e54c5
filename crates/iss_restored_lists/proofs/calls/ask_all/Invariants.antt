use Rattle.std.proofs.Common.{drop}
use Rattle.iss_restored_lists.proofs.CallsAgain.{IsAsking}
use Rattle.iss_restored_lists.proofs.calls.ask_all.Given as goal

abbrev pub invariant-loop-call : goal.invariant-loop-call
invariant-loop-call l = IsAsking l.known (drop l.call-index l.known) l.calls
