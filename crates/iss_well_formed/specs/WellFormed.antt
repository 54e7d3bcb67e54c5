-- When a state is well-formed.
use Rattle.std.specs.Prelude.{List}
use Rattle.iss_model.specs.declared.input.Record.{Record}
use Rattle.iss_model.specs.declared.state.State.{State}
use Rattle.iss_model.specs.rules.Histories.{history_of}
use Rattle.iss_model.specs.state.Cores.{no_core}
use Rattle.iss_state.specs.Few.{HasFewNumbers}
use Rattle.iss_states.specs.Order.{AreInOrder}
use Rattle.iss_states.specs.OverBook.{state_of}
use Rattle.iss_states.specs.Rebuilding.{rebuilt}
use Rattle.iss_well_formed.specs.Again.{AreOfTheirEvents}
use Rattle.iss_well_formed.specs.Events.{AreJudged, AreMarkedWell, ArePendingIfAsked}
use Rattle.iss_well_formed.specs.Notices.{AreToldWell}
use Rattle.iss_well_formed.specs.Txns.{AreFair, AreSumsDone, HoldWell}

-- notices made, with two for each asked call and one for each live transaction, are at most four for each record, and calls one
abbrev pub HasFewNotices : State → Type 0
HasFewNotices s = HasFewNumbers s.records (rebuilt s)

-- A state is well-formed. Its events are in order, each setting and load is decided by what those before it have set, and an event is pending
-- exactly if its call is asked. Calls and transactions are those of the events, and no call failed by the switch. Transactions hold well,
-- and their sums are fair, and what was done. Notices are told well, and there are no more than records can have made.
pub record IsWellFormed (s : State) : Type 0 where
  pub order : AreInOrder s
  pub judged : AreJudged no_core s.events
  pub pending : ArePendingIfAsked s
  pub own : AreOfTheirEvents s
  pub marked : AreMarkedWell s
  pub holds : HoldWell s
  pub done : AreSumsDone s
  pub fair : AreFair s
  pub told : AreToldWell s
  pub few : HasFewNotices s

-- the state of records, told over their whole book, is well-formed
abbrev pub HaveWellFormedState : List Record → Type 0
HaveWellFormedState rs = IsWellFormed (state_of (history_of rs))
