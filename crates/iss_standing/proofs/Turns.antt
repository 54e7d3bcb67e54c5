-- How often a device turns: only for a record that has no room.
use Rattle.std.proofs.Common.{◌≡◌, ℕ, ◌+◌, ◌*◌, ◌-◌, ◌<◌, ◌≤◌, Bool, true, false, cond, not, ◌&&◌, List, [], ◌∷◌, ◌++◌, length, take, drop, refl, ap, ◌∙◌, arith}
use Rattle.std.specs.Prelude.{nat_le}
use Rattle.std.proofs.lemmas.Bool.Decides.{nat_tests}
use Rattle.std.proofs.lemmas.List.{drop-append-le, take-append-le}
use Rattle.iss_halves.specs.Forms.{Form, Seat, in_halves, seat_at}
use Rattle.iss_image.specs.States.{image_of_state}
use Rattle.iss_model.specs.declared.input.Record.{Record}
use Rattle.iss_model.specs.run.Rooms.{Room, need_of, needs_of, half_size, free_in, free_turned, needs_turn}
use Rattle.iss_standing.specs.Standing.{image_after}
use Rattle.iss_standing.specs.Rooms.{room_in}
use Rattle.iss_standing.specs.Writes.{seat_then}
use Rattle.iss_standing.specs.Counts.{turns, TurnsAreFew, NewDevicesHaveRoom, TurnsComeWhenFull}
use Rattle.iss_standing.proofs.Ends.{needs_more, needs_first}
use Rattle.iss_standing.proofs.NextRecords.{with_record, one_more}

-- ---- one record

one_most : (b : Bool) (n m : ℕ) → n ≤ m → cond b 1 0 + n ≤ m + 1
one_most true n m le = omega (arith, le)
one_most false n m le = omega (arith, le)

pub turns_most : (form : Form) (seat : Seat) (rs later : List Record) → turns form seat rs later ≤ length later
turns_most form seat rs [] = omega arith
turns_most form seat rs (r ∷ later) =
    let b = needs_turn (room_in form seat) rs r in
    let n = turns form (seat_then form seat rs r) (rs ++ r ∷ []) later in
    let most : cond b 1 0 + n ≤ length later + 1 = one_most b n (length later) (turns_most form (seat_then form seat rs r) (rs ++ r ∷ []) later) in
    omega (arith, most)

-- a record that doesn't turn adds nothing, and the rest goes on from the same seat
stays : (form : Form) (seat : Seat) (rs later : List Record) (r : Record) → needs_turn (room_in form seat) rs r ≡ false
    → turns form seat (rs ++ r ∷ []) later ≡ 0 → turns form seat rs (r ∷ later) ≡ 0
stays form seat rs later r here rest =
    ap (λ (b : Bool). cond b 1 0 + turns form (cond b (seat_at (not seat.second) (length rs)) seat) (rs ++ r ∷ []) later) here
    ∙ none (turns form seat (rs ++ r ∷ []) later) rest
  where
    none : (n : ℕ) → n ≡ 0 → 0 + n ≡ 0
    none n e = omega (arith, e)

never : (halved test : Bool) → halved ≡ false → (halved && not test) ≡ false
never true test e = absurd cc
never false test e = refl

one_journal : (form : Form) (seat : Seat) (rs later : List Record) → form.halved ≡ false → turns form seat rs later ≡ 0
one_journal form seat rs [] one = refl
one_journal form seat rs (r ∷ later) one =
    stays form seat rs later r (never form.halved (nat_le (need_of r) (free_in (room_in form seat) rs)) one) (one_journal form seat (rs ++ r ∷ []) later one)

-- ---- in halves

fits_so : (need free : ℕ) → need ≤ free → not (nat_le need free) ≡ false
fits_so need free le = let yes : nat_le need free ≡ true = grind (arith, nat_tests) in ap not yes

module _ (instance size : ℕ) (seat : Seat) where
  abbrev room : Room
  room = room_in (in_halves instance size) seat

  -- one more record leaves less room by what it needs
  free_more : (rs : List Record) (r : Record) → seat.point ≤ length rs → free_in room (with_record rs r) ≡ free_in room rs - need_of r
  free_more rs r low =
      let p = seat.point in
      let needs : needs_of (drop p (with_record rs r)) ≡ needs_of (drop p rs) + need_of r = ap needs_of (drop-append-le p rs (r ∷ []) low) ∙ needs_more (drop p rs) r in
      let turned : free_turned room (take p (with_record rs r)) ≡ free_turned room (take p rs) = ap (free_turned room) (take-append-le p rs (r ∷ []) low) in
      less (free_turned room (take p (with_record rs r))) (free_turned room (take p rs)) (needs_of (drop p (with_record rs r))) (needs_of (drop p rs)) (need_of r) turned needs
    where
      less : (a b x y n : ℕ) → a ≡ b → x ≡ y + n → a - x ≡ b - y - n
      less a b x y n e f = omega (arith, e, f)

  has_room : (rs later : List Record) → seat.point ≤ length rs → needs_of later ≤ free_in room rs → turns (in_halves instance size) seat rs later ≡ 0
  has_room rs [] low fits = refl
  has_room rs (r ∷ later) low fits =
      let first : needs_of (r ∷ later) ≡ need_of r + needs_of later = needs_first r later in
      let more : free_in room (with_record rs r) ≡ free_in room rs - need_of r = free_more rs r low in
      let parts = apart (needs_of (r ∷ later)) (need_of r) (needs_of later) (free_in room rs) (free_in room (with_record rs r)) first more fits in
      stays (in_halves instance size) seat rs later r (fits_so (need_of r) (free_in room rs) parts.0)
      (has_room (with_record rs r) later (omega (arith, low, one_more rs r)) parts.1)
    where
      apart : (all need rest free left : ℕ) → all ≡ need + rest → left ≡ free - need → all ≤ free → (need ≤ free) × (rest ≤ left)
      apart all need rest free left e f le = (omega (arith, e, le), omega (arith, e, f, le))

few_by : (halved : Bool) (instance size : ℕ) (seat : Seat) (rs later : List Record) → seat.point ≤ length rs
    → needs_of later ≤ free_in (room_in (record { halved = halved; instance = instance; size = size }) seat) rs
    → turns (record { halved = halved; instance = instance; size = size }) seat rs later ≡ 0
few_by true instance size seat rs later low fits = has_room instance size seat rs later low fits
few_by false instance size seat rs later low fits = one_journal (record { halved = false; instance = instance; size = size }) seat rs later refl

pub turns_are_few : TurnsAreFew
turns_are_few form seat rs later =
    record {
      most = turns_most form seat rs later;
      one_journal = one_journal form seat rs later;
      has_room = few_by form.halved form.instance form.size seat rs later;
    }

-- ---- a device that was just made

-- no records have an image of no bytes
no_image : image_after [] ≡ []
unfolding image_of_state
no_image = refl

half_room : (size needs image : ℕ) → image ≡ 0 → 27 + 2 * needs ≤ size → needs ≤ half_size size - 5 - image - 0
half_room size needs image none fits = omega (arith, none, fits)

pub new_devices_have_room : NewDevicesHaveRoom
new_devices_have_room instance size later fits =
    has_room instance size (seat_at false 0) [] later (omega arith)
    (half_room size (needs_of later) (length (image_after [])) (ap (λ (l : List ℕ). length l) no_image) fits)

-- ---- when a record turns

is_full : (halved : Bool) (need turned before : ℕ) → (halved && not (nat_le need (cond halved (turned - before) 0))) ≡ true → turned < before + need
is_full true need turned before e =
    let no : nat_le need (turned - before) ≡ false = by (nat_le need (turned - before)) e in
    let less : turned - before < need = grind (arith, nat_tests) in
    omega (arith, less)
  where
    by : (b : Bool) → not b ≡ true → b ≡ false
    by true e = absurd cc
    by false e = refl
is_full false need turned before e = absurd cc

full_by : (halved : Bool) (instance size : ℕ) (seat : Seat) (rs : List Record) (r : Record) → needs_turn (room_in (record { halved = halved; instance = instance; size = size }) seat) rs r ≡ true
    → free_turned (room_in (record { halved = halved; instance = instance; size = size }) seat) (take seat.point rs) < needs_of (drop seat.point rs) + need_of r
full_by true instance size seat rs r e =
    is_full true (need_of r) (free_turned (room_in (in_halves instance size) seat) (take seat.point rs)) (needs_of (drop seat.point rs)) e
full_by false instance size seat rs r e = absurd cc

pub turns_come_when_full : TurnsComeWhenFull
turns_come_when_full form seat rs r e = full_by form.halved form.instance form.size seat rs r e
