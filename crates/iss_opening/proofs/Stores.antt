-- A store that was opened on a device that stands for records stands for them, at the same seat.
use Rattle.std.proofs.Common.{◌≡◌, ℕ, ◌+◌, ◌-◌, ◌≤◌, Bool, true, false, ◌&&◌, List, ◌++◌, length, take, drop, refl, sym, ap, subst, ◌∙◌, length-append}
use Rattle.std.proofs.lemmas.List.{take-append-drop}
use Rattle.iss_journal.specs.Region.{frames}
use Rattle.iss_halves.specs.Forms.{Form, Seat, form_of, seat_at}
use Rattle.iss_halves.specs.Standing.{EndsHere, gate_after}
use Rattle.iss_halves.proofs.FoundHalves.{found_may_begin}
use Rattle.iss_model.specs.declared.input.Record.{Record}
use Rattle.iss_core.specs.Values.{CoreNow, CoreStandsFor}
use Rattle.iss_standing.specs.Standing.{bodies_of, image_after, saved_of, DeviceStandsFor}
use Rattle.iss_standing.specs.Rooms.{room_in}
use Rattle.iss_standing.proofs.Bodies.{between_all}
use Rattle.iss_opening.specs.Values.{StoreNow, form_under, seat_under}
use Rattle.iss_opening.specs.Opening.{OpensStore, OpenedStoresStand, end_gate_at}
use Rattle.iss_opening.proofs.Afters.{stands_after}
use Rattle.iss_opening.proofs.Held.{by_halves}
use Rattle.iss_opening.proofs.Stands.{all_later, forms, image_is, point_is, start_stands}

-- in one journal there is no half to name
one_gate : (halved : Bool) (size : ℕ) (second other : Bool) (image : ℕ) → (halved ≡ true → other ≡ second) → gate_after halved size second image ≡ gate_after halved size other image
one_gate true size second other image same = ap (λ (b : Bool). gate_after true size b image) (sym (same refl))
one_gate false size second other image same = refl

module _ (s : StoreNow) (device : List ℕ) (form : Form) (seat : Seat) (rs : List Record) (opens : OpensStore s device) (stands : DeviceStandsFor form seat rs device) where
  abbrev its_form : Form
  its_form = form_of s.layout

  same_form : (form ≡ form_of s.layout) × (form.halved ≡ true → seat.second ≡ s.layout.second)
  same_form = forms s.layout opens.image opens.start device opens.reads.begins form seat rs stands

  same_point : seat.point ≡ s.point
  same_point =
      point_is s.layout opens.image opens.start device opens.reads.begins form seat rs stands ∙ sym opens.point

  read : opens.rs ≡ drop seat.point rs
  read =
      all_later s.layout opens.image opens.start device opens.reads.begins form seat rs stands opens.rs s.place opens.reads opens.shut

  same_half : (s.layout.halved && s.layout.second) ≡ (s.layout.halved && seat.second)
  same_half =
      by_halves s.layout.halved
      (λ halved. ap (λ (b : Bool). s.layout.halved && b) (sym (same_form.1 (ap (λ (f : Form). f.halved) same_form.0 ∙ halved))))
      (λ one. ap (λ (b : Bool). b && s.layout.second) one ∙ sym (ap (λ (b : Bool). b && seat.second) one))

  same_room : room_in (form_under s) (seat_under s) ≡ room_in form seat
  same_room =
      (λ i. record { halved = s.layout.halved; size = s.layout.size; second = same_half i; point = sym same_point i; image = image_after })
      ∙ ap (λ (f : Form). room_in f seat) (sym same_form.0)

  core_stands : CoreStandsFor s.core rs
  core_stands =
      let begun = start_stands s.layout opens.image opens.start device opens.reads.begins form seat rs stands in
      let after = stands_after opens.start (take seat.point rs) opens.rs begun in
      let cut : take seat.point rs ++ opens.rs ≡ rs = ap (λ (l : List Record). take seat.point rs ++ l) read ∙ take-append-drop seat.point rs in
      subst (λ (l : List Record). CoreStandsFor s.core l) cut (subst (λ (c : CoreNow). CoreStandsFor c (take seat.point rs ++ opens.rs)) (sym opens.core) after)

  first_image : opens.image ≡ image_after (take seat.point rs)
  first_image = image_is s.layout opens.image opens.start device opens.reads.begins form seat rs stands

  -- the gate that was found comes after what was read
  at : s.place.gate ≡ gate_after s.layout.halved s.layout.size s.layout.second (length opens.image) + length (frames (bodies_of opens.rs))
  at =
      let begin = found_may_begin s.layout opens.image device opens.reads.begins.found in
      let below = length-append {A = ℕ} _ (frames (bodies_of opens.rs)) in
      sym opens.reads.read.end_gate.here ∙ below ∙ ap (λ (n : ℕ). n + length (frames (bodies_of opens.rs))) begin.first

  ends : EndsHere (form_under s) (seat_under s) (saved_of rs) (length rs) s.place
  ends =
      let begin = found_may_begin s.layout opens.image device opens.reads.begins.found in
      let gate = opens.reads.read.end_gate in
      let bodies : bodies_of opens.rs ≡ take (length rs - seat.point) (drop seat.point (bodies_of rs)) = ap bodies_of read ∙ sym (between_all seat.point rs stands.low) in
      let here : EndsHere (form_of s.layout) (seat_at s.layout.second seat.point) (saved_of rs) (length rs) s.place =
      record {
        gate =
            at
            ∙ ap (λ (l : List ℕ). gate_after s.layout.halved s.layout.size s.layout.second (length l) + length (frames (bodies_of opens.rs))) first_image
            ∙ ap (λ (l : List (List ℕ)). gate_after s.layout.halved s.layout.size s.layout.second (length (image_after (take seat.point rs))) + length (frames l)) bodies;
        to = sym gate.to ∙ begin.last;
      } in
      subst (λ (n : ℕ). EndsHere (form_of s.layout) (seat_at s.layout.second n) (saved_of rs) (length rs) s.place) same_point here

  -- the gate that was found is the end gate of these records
  pub gate_found : s.place.gate ≡ end_gate_at form seat rs
  gate_found =
      let halved : s.layout.halved ≡ form.halved = ap (λ (f : Form). f.halved) (sym same_form.0) in
      let n = length (image_after (take seat.point rs)) in
      at
      ∙ ap (λ (l : List ℕ). gate_after s.layout.halved s.layout.size s.layout.second (length l) + length (frames (bodies_of opens.rs))) first_image
      ∙ ap (λ (l : List Record). gate_after s.layout.halved s.layout.size s.layout.second n + length (frames (bodies_of l))) read
      ∙ ap (λ (place : ℕ). place + length (frames (bodies_of (drop seat.point rs)))) (one_gate s.layout.halved s.layout.size s.layout.second seat.second n (λ e. same_form.1 (sym halved ∙ e)))
      ∙ ap (λ (f : Form). gate_after f.halved f.size seat.second n + length (frames (bodies_of (drop seat.point rs)))) (sym same_form.0)

pub opened_stand : OpenedStoresStand
opened_stand s device form seat rs opens stands =
    record {
      form_is = sym (same_form s device form seat rs opens stands).0;
      room_is = same_room s device form seat rs opens stands;
      stands = record {
        history = stands.history;
        core = core_stands s device form seat rs opens stands;
        low = subst (λ (n : ℕ). n ≤ length rs) (same_point s device form seat rs opens stands) stands.low;
        ends = ends s device form seat rs opens stands;
      };
    }
