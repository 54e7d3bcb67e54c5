use Rattle.std.proofs.Common.{◌≡◌, ◌++◌, map, filter}
use Rattle.iss_model.specs.rules.Activity.{is_asked}
use Rattle.iss_call.specs.Orders.{id_of}
use Rattle.iss_call.proofs.calls.Calls.asked.Given as goal

abbrev pub invariant-loop-number : goal.invariant-loop-number
invariant-loop-number l =
    l.asked.items ++ map id_of l.number-iterator ≡ map (λ c. c.opened.call) (filter is_asked l.self)
