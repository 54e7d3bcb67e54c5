-- Where a store is after a record was put on its device: at its seat, or at the one to which it turned.
use Rattle.std.proofs.Common.{◌≡◌, ℕ, ◌+◌, ◌≤◌, Bool, true, false, not, ◌&&◌, cond, List, length, take, refl, sym, ap, subst, ◌∙◌, arith}
use Rattle.std.specs.Prelude.{Some, nat_le}
use Rattle.std.proofs.lemmas.Bool.{and_parts}
use Rattle.std.proofs.lemmas.List.{take_all}
use Rattle.iss_journal.specs.Place.{Place, free_at}
use Rattle.iss_halves.specs.Forms.{Form, Layout, form_of, in_halves, seat_at}
use Rattle.iss_halves.specs.Standing.{EndsHere}
use Rattle.iss_halves.specs.Turning.{half_bytes, turned_place}
use Rattle.iss_halves.proofs.Standings.{turn_ends_here}
use Rattle.iss_model.specs.declared.input.Record.{Record}
use Rattle.iss_model.specs.run.Rooms.{Room, need_of, needs_turn, room_left}
use Rattle.iss_standing.specs.Standing.{image_after, saved_of}
use Rattle.iss_standing.specs.Rooms.{room_in}
use Rattle.iss_standing.proofs.NextRecords.{with_record, one_more}
use Rattle.iss_opening.specs.Values.{StoreNow, IsStore, form_under, seat_under, room_of}
use Rattle.iss_opening.specs.Standing.{StandsFor}
use Rattle.iss_store.specs.Planning.{image_now, turns_for, store_turned, store_for}
use Rattle.iss_store.proofs.Books.{count_on_book}
use Rattle.iss_store.proofs.Rooms.{image_is, turns_is, ends_more}

-- only a device in halves turns
pub turns_halved : (s : StoreNow) (r : Record) → turns_for s r ≡ true → s.layout.halved ≡ true
turns_halved s r e = (and_parts s.layout.halved (not (nat_le (need_of r) (free_at s.place))) e).0

-- a form that is in halves
pub in_halves_so : (layout : Layout) → layout.halved ≡ true → in_halves layout.instance layout.size ≡ form_of layout
in_halves_so layout is = λ i. record { halved = sym is i; instance = layout.instance; size = layout.size }

-- where records end at a seat, as a store there has it
abbrev EndsThere : List Record → ℕ → Layout → ℕ → Place → Type 0
EndsThere rs n layout point place = EndsHere (form_of layout) (seat_at layout.second point) (saved_of rs) n place

module _ (s : StoreNow) (rs : List Record) (r : Record) (is : IsStore s) (stands : StandsFor s rs) where
  count_is : s.core.state.count ≡ length rs
  count_is = count_on_book s.core rs stands.core

  -- the image that a turn writes is that of all records
  pub half_is : half_bytes (image_now s) ≡ half_bytes (image_after (take (length rs) rs))
  half_is = ap half_bytes (image_is s is rs stands) ∙ ap (λ (l : List Record). half_bytes (image_after l)) (sym (take_all (length rs) rs (omega arith)))

  low_for : (b : Bool) → (cond b (store_turned s) s).point ≤ length rs
  low_for true = omega (arith, count_is)
  low_for false = stands.low

  -- at that seat the records end at its gate
  ends_for : (b : Bool) → turns_for s r ≡ b → EndsThere rs (length rs) (cond b (store_turned s) s).layout (cond b (store_turned s) s).point (cond b (store_turned s) s).place
  ends_for true e =
      let there = turn_ends_here s.layout.instance s.layout.size s.layout.second (saved_of rs) (length rs) (half_bytes (image_now s)) half_is in
      let formed = subst (λ (form : Form). EndsHere form (seat_at (not s.layout.second) (length rs)) (saved_of rs) (length rs) (turned_place s.layout.size s.layout.second (half_bytes (image_now s)))) (in_halves_so s.layout (turns_halved s r e)) there in
      subst (λ (n : ℕ). EndsHere (form_of s.layout) (seat_at (not s.layout.second) n) (saved_of rs) (length rs) (turned_place s.layout.size s.layout.second (half_bytes (image_now s)))) (sym count_is) formed
  ends_for false e = stands.ends

  -- ---- after the record

  pub after_low : (after : StoreNow) → after.point ≡ (store_for s r).point → after.point ≤ length (with_record rs r)
  after_low after point = omega (arith, point, low_for (turns_for s r), one_more rs r)

  pub after_ends : (after : StoreNow) → after.place ≡ record { gate = (store_for s r).place.gate + need_of r; to = (store_for s r).place.to } → after.layout ≡ (store_for s r).layout → after.point ≡ (store_for s r).point
      → EndsHere (form_under after) (seat_under after) (saved_of (with_record rs r)) (length (with_record rs r)) after.place
  after_ends after place layout point =
      let t = store_for s r in
      let more = ends_more (form_of t.layout) (seat_at t.layout.second t.point) rs r t.place after.place (low_for (turns_for s r)) (ends_for (turns_for s r) refl) place in
      subst (λ (l : Layout). EndsThere (with_record rs r) (length (with_record rs r)) l after.point after.place) (sym layout)
      (subst (λ (n : ℕ). EndsThere (with_record rs r) (length (with_record rs r)) t.layout n after.place) (sym point) more)

  abbrev room : Room
  room = room_in (form_under s) (seat_under s)

  turned_second : (halved second : Bool) → halved ≡ true → halved && not second ≡ not (halved && second)
  turned_second true second e = refl
  turned_second false second e = absurd cc

  room_for : (b : Bool) → turns_for s r ≡ b
      → room_in (form_of (cond b (store_turned s) s).layout) (seat_at (cond b (store_turned s) s).layout.second (cond b (store_turned s) s).point)
      ≡ cond b (record room { second = not room.second; point = length rs }) room
  room_for true e =
      let second : s.layout.halved && not s.layout.second ≡ not (s.layout.halved && s.layout.second) = turned_second s.layout.halved s.layout.second (turns_halved s r e) in
      λ i. record { halved = s.layout.halved; size = s.layout.size; second = second i; point = count_is i; image = image_after }
  room_for false e = refl

  pub room_moved : (after : StoreNow) → after.layout ≡ (store_for s r).layout → after.point ≡ (store_for s r).point → room_of after ≡ room_left (room_of s) rs (Some r)
  room_moved after layout point =
      let turns : turns_for s r ≡ needs_turn room rs r = turns_is s is rs stands r in
      ap (λ (l : Layout). Some (room_in (form_of l) (seat_at l.second after.point))) layout
      ∙ ap (λ (n : ℕ). Some (room_in (form_of (store_for s r).layout) (seat_at (store_for s r).layout.second n))) point
      ∙ ap (λ (x : Room). Some x) (room_for (turns_for s r) refl)
      ∙ ap (λ (b : Bool). Some (cond b (record room { second = not room.second; point = length rs }) room)) turns
