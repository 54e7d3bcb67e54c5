use Rattle.iss_halves.proofs.Openings.{openings_keep, openings_go_on, one_form}
use Rattle.iss_halves.proofs.FoundHalves.{found_may_begin, held_is_found, held_has_layout, not_too_long, held_once}
use Rattle.iss_halves.proofs.laws.what_is_found_is_held.Goals as goal

pub returns-clause-begins : goal.returns-clause-begins
returns-clause-begins c = found_may_begin

pub returns-clause-held : goal.returns-clause-held
returns-clause-held c = held_is_found

pub returns-clause-keep : goal.returns-clause-keep
returns-clause-keep c = openings_keep

pub returns-clause-once : goal.returns-clause-once
returns-clause-once c = held_once

pub returns-clause-layout : goal.returns-clause-layout
returns-clause-layout c = held_has_layout

pub returns-clause-length : goal.returns-clause-length
returns-clause-length c = not_too_long

pub returns-clause-go_on : goal.returns-clause-go_on
returns-clause-go_on c = openings_go_on

pub returns-clause-form : goal.returns-clause-form
returns-clause-form c = one_form
