-- The test of the sums of stand-ins.
use Rattle.std.specs.Prelude.{ℕ, ◌+◌, ℤ, pos, nat_le, int_le, not, Bool, ◌&&◌, List, None, is_some, length}
use Rattle.std.specs.List.{list_all}
use Rattle.iss_model.specs.declared.counted.Stood.{Stood}
use Rattle.iss_model.specs.rules.CardReasons.{is_account_funded}
use Rattle.iss_model.specs.rules.Reasons.{is_some_with}
use Rattle.iss_model.specs.rules.Settings.{product_named}
use Rattle.iss_index.specs.Places.{place_of}
use Rattle.iss_named.specs.Stood.{place_of_stood}
use Rattle.iss_noticed.specs.Commitments.{most_of_records}
use Rattle.iss_bounded.specs.Bounds.{is_stood_within}
use Rattle.iss_known.specs.Known.{KnownNow}
use Rattle.iss_sound_parts.specs.declared.totals.Open.{Open}
use Rattle.iss_sound_parts.specs.Rising.{do_follow}
use Rattle.iss_sound_parts.specs.declared.stand_ins.TheConstants.{LAST_DAY}

-- a day is one of 1970 or later, up to that of the last stamp
abbrev pub is_day : ℤ → Bool
is_day day = int_le (pos 0) day && int_le day (pos LAST_DAY)

-- the gateway pays a known product of this name
abbrev pub is_paid_by_gateway : KnownNow → List ℕ → Bool
is_paid_by_gateway known name = is_some_with (λ p. not (is_account_funded p.funding)) (product_named name known.products)

-- a sum is of a known user, of a product that the gateway pays, and of a day, and within a bound with what is asked
abbrev pub is_stand_in_sound : KnownNow → ℕ → ℕ → Stood → Bool
is_stand_in_sound known asked most x =
    is_some (place_of x.user known.users)
    && (is_paid_by_gateway known x.product && (is_day x.day && is_stood_within asked most x))

-- The sums and the asked calls are no more than the records. Each sum is sound, and they are in their order.
abbrev pub do_stand_ins_pass : KnownNow → Open → ℕ → List Stood → Bool
do_stand_ins_pass known o records xs =
    nat_le (length xs + o.asked) records
    && (list_all (is_stand_in_sound known o.asked_amount (most_of_records records)) xs && do_follow place_of_stood None xs)
