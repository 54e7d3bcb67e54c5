-- The test of notices.
use Rattle.std.specs.Prelude.{ℕ, ◌+◌, ◌*◌, nat_le, Bool, ◌&&◌, List, length}
use Rattle.std.specs.List.{list_all}
use Rattle.iss_model.specs.declared.call.Notice.{Notice}
use Rattle.iss_well_formed.specs.Notices.{do_notices_rise, is_told_well}
use Rattle.iss_noticed.specs.Addressed.{names_its_call, names_its_txn}
use Rattle.iss_noticed.specs.Commitments.{most_of_records, tells_at_most}
use Rattle.iss_noticed.specs.GivenBack.{gives_back_within}
use Rattle.iss_known.specs.Known.{KnownNow}
use Rattle.iss_sound_parts.specs.declared.totals.Open.{Open}

-- a notice is told well and addressed, tells at most this, and gives back at most what it tells
abbrev pub is_notice_sound : KnownNow → ℕ → Notice → Bool
is_notice_sound known most n =
    is_told_well n
    && (names_its_txn known.txns n && (names_its_call known.calls n && (tells_at_most most n && gives_back_within n)))

-- calls are no more than the records, and the notices that were made or may still come no more than four for each record
abbrev pub are_notices_few : KnownNow → Open → ℕ → ℕ → Bool
are_notices_few known o records made = nat_le (length known.calls) records && nat_le (made + 2 * o.asked + o.live) (4 * records)

-- Notices are few, numbered as they were made, and each is sound.
abbrev pub do_notices_pass : KnownNow → Open → ℕ → ℕ → List Notice → Bool
do_notices_pass known o records made ns =
    are_notices_few known o records made
    && (do_notices_rise 0 made ns && list_all (is_notice_sound known (most_of_records records)) ns)
