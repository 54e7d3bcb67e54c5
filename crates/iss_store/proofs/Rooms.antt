-- The room of a store's device is that of the records for which the store stands.
use Rattle.std.proofs.Common.{◌≡◌, ℕ, ◌+◌, ◌-◌, ◌≤◌, max, Bool, true, false, not, ◌&&◌, cond, List, [], ◌∷◌, ◌++◌, length, take, drop, refl, sym, ap, subst, ◌∙◌, arith}
use Rattle.std.specs.Prelude.{nat_le}
use Rattle.std.proofs.lemmas.List.{drop-append-le}
use Rattle.iss_journal.specs.Place.{Place, free_at}
use Rattle.iss_journal.specs.Region.{frames}
use Rattle.iss_halves.specs.Forms.{Form, Seat}
use Rattle.iss_halves.specs.Standing.{gate_after, end_of, first_gate, EndsHere, IsNextBody}
use Rattle.iss_model.specs.declared.input.Record.{Record}
use Rattle.iss_model.specs.texts.Spelling.{spelling, is_record}
use Rattle.iss_model.specs.run.Rooms.{Room, need_of, needs_of, end_gate, free_in, free_turned, most_free, needs_turn}
use Rattle.iss_image.specs.States.{image_of_state}
use Rattle.iss_states.proofs.AlikeShown.{shown_alike}
use Rattle.iss_states.proofs.StateOfBook.{state_shown}
use Rattle.iss_model.specs.state.Cores.{core_of}
use Rattle.iss_standing.specs.Standing.{image_after, bodies_of, saved_of}
use Rattle.iss_standing.specs.Rooms.{room_in}
use Rattle.iss_standing.specs.Goings.{AreFirstOf}
use Rattle.iss_standing.proofs.Bodies.{take_bodies, bodies_more, first_image, first_between, between_all}
use Rattle.iss_standing.proofs.Ends.{frames_need, end_by_frames, needs_more}
use Rattle.iss_standing.proofs.Lengths.{record_body}
use Rattle.iss_standing.proofs.NextRecords.{with_record, one_more, first_one, comes_next}
use Rattle.iss_opening.specs.Values.{StoreNow, IsStore, form_under, seat_under}
use Rattle.iss_opening.specs.Standing.{StandsFor}
use Rattle.iss_store.specs.Planning.{image_now, free_turned_at, most_free_at, turns_for}

-- ---- where records end

-- at their seat, records end at the same place if more are to come
pub ends_first : (form : Form) (seat : Seat) (rs all : List Record) (place : Place) → AreFirstOf rs all → seat.point ≤ length rs → EndsHere form seat (saved_of rs) (length rs) place
    → EndsHere form seat (saved_of all) (length rs) place
ends_first form seat rs all place first low ends =
    let p = seat.point in
    let n = length rs in
    record {
      gate =
          ends.gate
          ∙ ap (λ (image : List ℕ). first_gate form seat image + length (frames (take (n - p) (drop p (bodies_of rs))))) (sym (first_image p rs all first low))
          ∙ ap (λ (b : List (List ℕ)). first_gate form seat (image_after (take p all)) + length (frames b)) (sym (first_between p n rs all first low (omega arith)));
      to = ends.to;
    }

-- after them the body of the next one comes next
pub next_body : (rs all : List Record) (r : Record) → is_record r ≡ true → AreFirstOf (with_record rs r) all → IsNextBody (saved_of all) (length rs) (spelling r)
next_body rs all r spelled first =
    let next = comes_next rs all r first in
    record {
      is_body = record_body r spelled;
      next =
          take_bodies (length rs + 1) all
          ∙ ap bodies_of next.1
          ∙ bodies_more rs r
          ∙ ap (λ (l : List Record). bodies_of l ++ spelling r ∷ []) (sym next.0)
          ∙ ap (λ (b : List (List ℕ)). b ++ spelling r ∷ []) (sym (take_bodies (length rs) all));
    }

-- the gate is as far after the first one as the records after the point need
pub gate_by_needs : (form : Form) (seat : Seat) (rs : List Record) (place : Place) → seat.point ≤ length rs → EndsHere form seat (saved_of rs) (length rs) place
    → place.gate ≡ first_gate form seat (image_after (take seat.point rs)) + needs_of (drop seat.point rs)
gate_by_needs form seat rs place low ends =
    ends.gate
    ∙ ap (λ (b : List (List ℕ)). first_gate form seat (image_after (take seat.point rs)) + length (frames b)) (between_all seat.point rs low)
    ∙ ap (λ (n : ℕ). first_gate form seat (image_after (take seat.point rs)) + n) (frames_need (drop seat.point rs))

ends_by_needs : (form : Form) (seat : Seat) (rs : List Record) (place : Place) (n : ℕ) → n ≡ length rs → seat.point ≤ length rs → place.gate ≡ first_gate form seat (image_after (take seat.point rs)) + needs_of (drop seat.point rs)
    → place.to ≡ end_of form.halved form.size seat.second → EndsHere form seat (saved_of rs) n place
ends_by_needs form seat rs place n is low gate to =
    subst (λ (m : ℕ). EndsHere form seat (saved_of rs) m place) (sym is)
    (record {
      gate =
          gate
          ∙ ap (λ (m : ℕ). first_gate form seat (image_after (take seat.point rs)) + m) (sym (frames_need (drop seat.point rs)))
          ∙ ap (λ (b : List (List ℕ)). first_gate form seat (image_after (take seat.point rs)) + length (frames b)) (sym (between_all seat.point rs low));
      to = to;
    })

-- one more record ends as much later as it needs
pub ends_more : (form : Form) (seat : Seat) (rs : List Record) (r : Record) (place now : Place) → seat.point ≤ length rs → EndsHere form seat (saved_of rs) (length rs) place
    → now ≡ record { gate = place.gate + need_of r; to = place.to } → EndsHere form seat (saved_of (with_record rs r)) (length (with_record rs r)) now
ends_more form seat rs r place now low ends moved =
    let p = seat.point in
    let more = with_record rs r in
    let longer : length more ≡ length rs + 1 = one_more rs r in
    let image : image_after (take p more) ≡ image_after (take p rs) = first_image p rs more (first_one rs r) low in
    let first : first_gate form seat (image_after (take p more)) ≡ first_gate form seat (image_after (take p rs)) = ap (λ (l : List ℕ). first_gate form seat l) image in
    let needs : needs_of (drop p more) ≡ needs_of (drop p rs) + need_of r = ap needs_of (drop-append-le p rs (r ∷ []) low) ∙ needs_more (drop p rs) r in
    let gate : now.gate ≡ place.gate + need_of r = ap (λ (x : Place). x.gate) moved in
    ends_by_needs form seat more now (length more) refl (omega (arith, longer, low))
    (omega (arith, gate, gate_by_needs form seat rs place low ends, first, needs))
    (ap (λ (x : Place). x.to) moved ∙ ends.to)

-- ---- how much is free

free_by : (halved : Bool) (size : ℕ) (second : Bool) (point : ℕ) (instance : ℕ) (rs : List Record) (place : Place) → (halved ≡ false → point ≡ 0)
    → place.gate ≡ gate_after halved size second (length (image_after (take point rs))) + needs_of (drop point rs) → place.to ≡ end_of halved size second
    → free_at place ≡ free_in (room_in (record { halved = halved; instance = instance; size = size }) (record { second = second; point = point })) rs
free_by true size second point instance rs place none gate to = omega (arith, gate, to)
free_by false size second point instance rs place none gate to =
    let zero : needs_of (drop point rs) ≡ needs_of rs = ap (λ (n : ℕ). needs_of (drop n rs)) (none refl) in
    let end : end_gate rs ≡ 16 + needs_of rs = sym (end_by_frames rs) ∙ ap (λ (n : ℕ). 16 + n) (frames_need rs) in
    omega (arith, gate, to, zero, end)

module _ (s : StoreNow) (is : IsStore s) (rs : List Record) (stands : StandsFor s rs) where
  abbrev room : Room
  room = room_in (form_under s) (seat_under s)

  -- what is free after the gate is what the room has free after the records
  pub free_is : free_at s.place ≡ free_in room rs
  free_is =
      free_by s.layout.halved s.layout.size s.layout.second s.point s.layout.instance rs s.place is.no_image
      (gate_by_needs (form_under s) (seat_under s) rs s.place stands.low stands.ends) stands.ends.to

  -- the image of what the store keeps is that of the records
  pub image_is : image_now s ≡ image_after rs
  image_is = ap image_of_state (shown_alike s.core.state (core_of rs) stands.core ∙ state_shown rs)

  pub turned_is : free_turned_at s ≡ free_turned room rs
  turned_is = let same : length (image_now s) ≡ length (image_after rs) = ap (λ (l : List ℕ). length l) image_is in omega (arith, same)

  most_by : (halved : Bool) (x y z w : ℕ) → x ≡ z → y ≡ w → cond halved (max x y) x ≡ cond halved (max z w) z
  most_by halved x y z w e f = ap (λ (n : ℕ). cond halved (max n y) n) e ∙ ap (λ (n : ℕ). cond halved (max z n) z) f

  pub most_is : most_free_at s ≡ most_free room rs
  most_is = most_by s.layout.halved (free_at s.place) (free_turned_at s) (free_in room rs) (free_turned room rs) free_is turned_is

  pub turns_is : (r : Record) → turns_for s r ≡ needs_turn room rs r
  turns_is r = ap (λ (n : ℕ). s.layout.halved && not (nat_le (need_of r) n)) free_is
