-- When a state is sound.
use Rattle.std.specs.Prelude.{List}
use Rattle.iss_model.specs.declared.input.Record.{Record}
use Rattle.iss_model.specs.declared.state.State.{State}
use Rattle.iss_model.specs.rules.Histories.{history_of}
use Rattle.iss_states.specs.Order.{AreInOrder}
use Rattle.iss_states.specs.OverBook.{state_of}
use Rattle.iss_well_formed.specs.Again.{AreOfTheirEvents}
use Rattle.iss_well_formed.specs.Events.{AreMarkedWell, ArePendingIfAsked}
use Rattle.iss_well_formed.specs.Notices.{AreToldWell}
use Rattle.iss_well_formed.specs.Txns.{AreFair, AreSumsDone, HoldWell}
use Rattle.iss_well_formed.specs.WellFormed.{HasFewNotices, IsWellFormed}
use Rattle.iss_balanced.specs.Owed.{AreOwed}
use Rattle.iss_bounded.specs.Bounds.{AreBounded}
use Rattle.iss_bounded.specs.Many.{AreFewEnough}
use Rattle.iss_decided.specs.Approved.{AreApproved, OwnAreUnpaid}
use Rattle.iss_decided.specs.Verdicts.{HaveSoundVerdicts}
use Rattle.iss_least.specs.Least.{ArePartsOfLeast}
use Rattle.iss_named.specs.Kept.{AreNamesKnown}
use Rattle.iss_noticed.specs.Addressed.{AreAddressed}
use Rattle.iss_noticed.specs.Commitments.{AmountsFit}
use Rattle.iss_noticed.specs.GivenBack.{GiveBackWithin}
use Rattle.iss_reasoned.specs.Origins.{ArePurchases, ComeInTurn}
use Rattle.iss_reasoned.specs.Reasons.{HaveReasons}

-- A state is sound. It is well-formed, and each verdict and each mark may stand where it does. Each part that an event
-- is approved for is at least the least amount. Transactions hold and are paid no more than was approved, and the programme pays nothing for
-- account products. A decline has a reason that its event may have. Transactions are purchases of known cards, and increments come in turn.
-- Balances, counters and sums of stand-ins name what is known, in their orders. Each account has the balance that it is owed. Counters and sums
-- of stand-ins reach no further than the records can have moved them, and are no more than the records can have made. Notices are addressed,
-- and tell no more than records can have held, of which they give back at most what they tell.
pub record IsSoundState (s : State) : Type 0 where
  pub formed : IsWellFormed s
  pub verdicts : HaveSoundVerdicts s
  pub least : ArePartsOfLeast s
  pub approved : AreApproved s
  pub unpaid : OwnAreUnpaid s
  pub reasons : HaveReasons s
  pub purchases : ArePurchases s
  pub turns : ComeInTurn s
  pub names : AreNamesKnown s
  pub owed : AreOwed s
  pub bounded : AreBounded s
  pub few : AreFewEnough s
  pub addressed : AreAddressed s
  pub amounts : AmountsFit s
  pub given : GiveBackWithin s

-- All rules of a sound state hold, but for one: that each setting and each load is decided as those before it have it.
pub record IsSoundButSettings (s : State) : Type 0 where
  pub order : AreInOrder s
  pub pending : ArePendingIfAsked s
  pub own : AreOfTheirEvents s
  pub marked : AreMarkedWell s
  pub holds : HoldWell s
  pub done : AreSumsDone s
  pub fair : AreFair s
  pub told : AreToldWell s
  pub committed : HasFewNotices s
  pub verdicts : HaveSoundVerdicts s
  pub least : ArePartsOfLeast s
  pub approved : AreApproved s
  pub unpaid : OwnAreUnpaid s
  pub reasons : HaveReasons s
  pub purchases : ArePurchases s
  pub turns : ComeInTurn s
  pub names : AreNamesKnown s
  pub owed : AreOwed s
  pub bounded : AreBounded s
  pub few : AreFewEnough s
  pub addressed : AreAddressed s
  pub amounts : AmountsFit s
  pub given : GiveBackWithin s

-- the state of records, told over their whole book, is sound
abbrev pub HaveSoundState : List Record → Type 0
HaveSoundState rs = IsSoundState (state_of (history_of rs))
