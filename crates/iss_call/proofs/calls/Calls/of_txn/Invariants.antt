use Rattle.std.proofs.Common.{◌≡◌, ◌++◌, map}
use Rattle.iss_call.specs.States.{asked_of}
use Rattle.iss_call.specs.Orders.{call_of}
use Rattle.iss_call.proofs.calls.Calls.of_txn.Given as goal

abbrev pub invariant-loop-number : goal.invariant-loop-number
invariant-loop-number l =
    l.asked.items ++ map call_of l.number-iterator ≡ map (λ c. c.opened.call) (asked_of l.self l.txn)
