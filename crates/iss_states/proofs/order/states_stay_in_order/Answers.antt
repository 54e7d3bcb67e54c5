-- A record that is new keeps the events in order.
use Rattle.iss_states.proofs.EventOrder.{order_after}
use Rattle.iss_states.proofs.order.states_stay_in_order.Goals as goal

pub returns : goal.returns
returns c = order_after
