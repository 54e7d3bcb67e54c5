use Rattle.std.proofs.Common.{◌≡◌, ◌++◌, map}
use Rattle.iss_model.specs.rules.Due.{call_due}
use Rattle.iss_call.specs.States.{calls_due}
use Rattle.iss_call.specs.Orders.{call_of}
use Rattle.iss_call.proofs.calls.Calls.due.Given as goal

abbrev pub invariant-loop-number : goal.invariant-loop-number
invariant-loop-number l =
    map (λ id. call_due id.0) (l.due.items ++ map call_of l.number-iterator) ≡ map (λ item. item.thing) (calls_due l.self l.now)
