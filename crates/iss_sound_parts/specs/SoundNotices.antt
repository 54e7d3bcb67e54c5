-- When the sums of stand-ins of a state are sound, and when its notices are.
use Rattle.std.specs.Prelude.{◌≡◌, ◌≤◌, ◌+◌, true, length}
use Rattle.std.specs.List.{list_all}
use Rattle.iss_model.specs.declared.state.State.{State}
use Rattle.iss_states.specs.Rebuilding.{rebuilt}
use Rattle.iss_well_formed.specs.Notices.{AreToldWell}
use Rattle.iss_well_formed.specs.WellFormed.{HasFewNotices}
use Rattle.iss_named.specs.Stood.{AreStoodInOrder}
use Rattle.iss_noticed.specs.Addressed.{AreAddressed}
use Rattle.iss_noticed.specs.Commitments.{most_of_records, tells_at_most}
use Rattle.iss_noticed.specs.GivenBack.{GiveBackWithin}
use Rattle.iss_bounded.specs.Bounds.{asked_amounts, asked_number, is_stood_within}

-- The sums name what is known and stand in their order. Each of them, with what calls ask, is within what the records may come
-- to. They and the asked calls together are no more than the records.
pub record AreStandInsSound (s : State) : Type 0 where
  pub order : AreStoodInOrder s
  pub within : list_all (is_stood_within (asked_amounts (rebuilt s).calls) (most_of_records s.records)) s.sums ≡ true
  pub few : length s.sums + asked_number (rebuilt s).calls ≤ s.records

-- Notices are told well and addressed. They tell no more than records may have held, and give back at most what they tell, save
-- in a capture. They are no more than records can have made, and so are calls.
pub record AreNoticesSound (s : State) : Type 0 where
  pub told : AreToldWell s
  pub addressed : AreAddressed s
  pub amounts : list_all (tells_at_most (most_of_records s.records)) s.notices ≡ true
  pub given : GiveBackWithin s
  pub few : HasFewNotices s
