-- Which records fit a room, and which room they leave.
use Rattle.std.proofs.Common.{◌≡◌, ℕ, ◌-◌, ◌<◌, Bool, true, false, cond, not, ◌||◌, List, refl, ap, ◌∙◌, arith}
use Rattle.std.specs.Prelude.{max, ◌&&◌, nat_le, nat_lt, length, take, drop}
use Rattle.std.proofs.lemmas.Bool.Decides.{nat_tests}
use Rattle.iss_model.specs.declared.decision.Judged.{Judged}
use Rattle.iss_model.specs.declared.decision.Judged.TheVariants as judged
use Rattle.iss_model.specs.declared.input.Record.{Record}
use Rattle.iss_model.specs.declared.limits.TheConstants.{MOST_RECORDS}
use Rattle.iss_model.specs.run.Rooms.{Room, need_of, free_in, free_turned, needs_of, most_free, fits, room_after, unless_spent, judgement_after}
use Rattle.iss_agreement.specs.Stepped.{free_after}

within_either : (n a b : ℕ) → nat_le n (max a b) ≡ (nat_le n a || nat_le n b)
within_either n a b = grind (arith, nat_tests)

pub fits_either : (room : Room) (rs : List Record) (r : Record) → room.halved ≡ true
    → fits room rs r ≡ (nat_le (need_of r) (free_in room rs) || nat_le (need_of r) (free_turned room rs))
fits_either room rs r halved =
    ap (λ (h : Bool). nat_le (need_of r) (cond h (max (free_in room rs) (free_turned room rs)) (free_in room rs))) halved
    ∙ within_either (need_of r) (free_in room rs) (free_turned room rs)

pub free_in_journal : (room : Room) (rs : List Record) → room.halved ≡ false → most_free room rs ≡ free_after room rs
free_in_journal room rs whole =
    ap (λ (h : Bool). cond h (max (free_in room rs) (free_turned room rs)) (free_in room rs)) whole
    ∙ ap (λ (h : Bool). cond h (free_turned room (take room.point rs) - needs_of (drop room.point rs)) (free_after room rs)) whole

pub journal_stays : (room : Room) (rs : List Record) (r : Record) → room.halved ≡ false → room_after room rs r ≡ room
journal_stays room rs r whole =
    ap (λ (h : Bool). cond (h && not (nat_le (need_of r) (free_in room rs))) (record room { second = not room.second; point = length rs }) room) whole

-- ---- fewer records than there may be

pub not_spent : (count : ℕ) (made : Judged) → count < MOST_RECORDS → unless_spent count made ≡ made
not_spent count made few =
    let may : nat_lt count MOST_RECORDS ≡ true = grind (arith, nat_tests) in
    rw may refl

pub judged_unspent : (count : ℕ) (j : Judged) → count < MOST_RECORDS → judgement_after count j ≡ j
judged_unspent count (judged.New r) few = not_spent count (judged.New r) few
judged_unspent count (judged.Clock r) few = not_spent count (judged.Clock r) few
judged_unspent count (judged.Told a) few = refl
