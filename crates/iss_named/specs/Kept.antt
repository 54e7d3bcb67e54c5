-- What the sums of a state name.
use Rattle.std.specs.Prelude.{List}
use Rattle.iss_model.specs.declared.input.Record.{Record}
use Rattle.iss_model.specs.declared.state.State.{State}
use Rattle.iss_model.specs.rules.Histories.{history_of}
use Rattle.iss_states.specs.OverBook.{state_of}
use Rattle.iss_named.specs.Balances.{AreBalancesInOrder}
use Rattle.iss_named.specs.Counters.{AreCountersInOrder}
use Rattle.iss_named.specs.Stood.{AreStoodInOrder}

-- The balances, the counters and the sums of stand-ins of a state name known users, products, controls and listed transactions. They
-- stand in their orders, once each.
pub record AreNamesKnown (s : State) : Type 0 where
  pub balances : AreBalancesInOrder s
  pub counters : AreCountersInOrder s
  pub stood : AreStoodInOrder s

-- those of the state of records do, told over their whole book
abbrev pub HaveNamesKnown : List Record → Type 0
HaveNamesKnown rs = AreNamesKnown (state_of (history_of rs))
