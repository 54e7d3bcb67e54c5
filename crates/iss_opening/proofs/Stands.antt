-- What was read of a device that stands for records: the core of its image stands for the first ones, and the others come after the image.
use Rattle.std.proofs.Common.{◌≡◌, ℕ, ◌+◌, ◌≤◌, true, false, List, [], ◌∷◌, ◌++◌, length, take, drop, refl, sym, ap, subst, ◌∙◌, arith, append_assoc, length-append}
use Rattle.std.specs.Prelude.{slice_index}
use Rattle.std.specs.List.{list_all}
use Rattle.std.proofs.lemmas.Bool.{and_parts}
use Rattle.std.proofs.lemmas.List.{take-append-drop, length-take-le}
use Rattle.std.proofs.lemmas.List.Folds.{list_all-append}
use Rattle.iss_journal.specs.Place.{Place}
use Rattle.iss_journal.specs.Region.{Region, Shows}
use Rattle.iss_journal.proofs.Records.{one_list}
use Rattle.iss_journal.proofs.ReadLemmas.{reads_to_the_end}
use Rattle.iss_halves.specs.Forms.{Form, Seat, Layout, form_of}
use Rattle.iss_halves.specs.Finding.{found_region}
use Rattle.iss_halves.specs.Opening.{IsSame}
use Rattle.iss_model.specs.declared.input.Record.{Record}
use Rattle.iss_model.specs.declared.limits.TheConstants.{MOST_RECORDS}
use Rattle.iss_model.specs.texts.Spelling.{is_record}
use Rattle.iss_model.specs.rules.Histories.{IsLegalAfter, nothing_yet}
use Rattle.iss_core.specs.Values.{CoreNow, CoreStandsFor, IsNext}
use Rattle.iss_snapshot.specs.Loaded.{IsLoaded}
use Rattle.iss_standing.specs.Standing.{bodies_of, image_after, DeviceStandsFor}
use Rattle.iss_standing.proofs.Few.{few_stand}
use Rattle.iss_standing.proofs.NextRecords.{history_taken}
use Rattle.iss_opening.specs.Reading.{core_after, AreNext, BeginsWith, ReadsOn}
use Rattle.iss_opening.proofs.Afters.{count_on_book, follows_next, stands_after}
use Rattle.iss_opening.proofs.Faultless.{ShowsNext}
use Rattle.iss_opening.proofs.Held.{HoldsHere, forms as held_forms, image_found, no_point, shows_found}
use Rattle.iss_opening.proofs.Spelled.{follows_at, same_records}
use Rattle.iss_opening.proofs.Images.{image_of_none, loaded_stands}

-- a core that is loaded from no image stands for no records
pub stands_for_none : (image : List ℕ) (own : ℕ) (c : CoreNow) → image ≡ [] → IsLoaded image own c → CoreStandsFor c []
stands_for_none image own c none loaded =
    loaded_stands image own c [] (record { legal = tt; spelled = refl }) (omega arith) (none ∙ sym image_of_none) loaded

spelled_later : (p : ℕ) (rs : List Record) → list_all is_record rs ≡ true → list_all is_record (drop p rs) ≡ true
spelled_later p rs all =
    (and_parts (list_all is_record (take p rs)) (list_all is_record (drop p rs))
    (sym (list_all-append is_record (take p rs) (drop p rs)) ∙ ap (list_all is_record) (take-append-drop p rs) ∙ all)).1

-- a record that is legal after others is next on a core that stands for those, and one more is legal
record OneLegal (c : CoreNow) (xs : List Record) (y : Record) (ys : List Record) : Type 0 where
  next : IsNext c y
  stands : CoreStandsFor (core_after c (y ∷ [])) (xs ++ y ∷ [])
  legal : IsLegalAfter nothing_yet ((xs ++ y ∷ []) ++ ys)

one_legal : (c : CoreNow) (xs : List Record) (y : Record) (ys : List Record) → CoreStandsFor c xs → IsLegalAfter nothing_yet (xs ++ y ∷ ys) → OneLegal c xs y ys
one_legal c xs y ys stands legal =
    record {
      next = follows_next c xs y stands (follows_at nothing_yet xs y ys legal);
      stands = stands_after c xs (y ∷ []) stands;
      legal = subst (λ (l : List Record). IsLegalAfter nothing_yet l) (sym (append_assoc xs (y ∷ []) ys)) legal;
    }

-- legal records are next, each on a core that stands for those before it
legal_next : (c : CoreNow) (xs ys : List Record) → CoreStandsFor c xs → IsLegalAfter nothing_yet (xs ++ ys) → AreNext c ys
legal_next c xs [] stands legal = tt
legal_next c xs (y ∷ ys) stands legal =
    let one = one_legal c xs y ys stands legal in
    (one.next, legal_next (core_after c (y ∷ [])) (xs ++ y ∷ []) ys one.stands one.legal)

-- what such a device holds
pub stands_here : (form : Form) (seat : Seat) (rs : List Record) (device : List ℕ) → DeviceStandsFor form seat rs device → HoldsHere form seat (image_after (take seat.point rs)) (bodies_of (drop seat.point rs)) device
stands_here form seat rs device stands =
    let point = no_point form.halved form.instance form.size seat.second seat.point (image_after (take seat.point rs)) (λ (region : Region). Shows region (bodies_of (drop seat.point rs)) device) stands.shows in
    record {
      form_is = stands.form_is;
      size = stands.size;
      none = λ one. ap (λ (n : ℕ). image_after (take n rs)) (point one) ∙ image_of_none;
      shows = stands.shows;
    }

-- its first records are no more than there may be
pub first_few : (form : Form) (seat : Seat) (rs : List Record) (device : List ℕ) → DeviceStandsFor form seat rs device → length (take seat.point rs) ≤ MOST_RECORDS
first_few form seat rs device stands =
    omega (arith, length-take-le seat.point rs stands.low, stands.low, few_stand form seat rs device stands)

module _ (layout : Layout) (image : List ℕ) (start : CoreNow) (device : List ℕ) (begins : BeginsWith layout image start device) (form : Form) (seat : Seat) (rs : List Record) (stands : DeviceStandsFor form seat rs device) where
  here : HoldsHere form seat (image_after (take seat.point rs)) (bodies_of (drop seat.point rs)) device
  here = stands_here form seat rs device stands

  pub forms : (form ≡ form_of layout) × (form.halved ≡ true → seat.second ≡ layout.second)
  forms =
      held_forms form seat (image_after (take seat.point rs)) (bodies_of (drop seat.point rs)) device here layout begins.found.has begins.found.size

  pub same : IsSame layout image (image_after (take seat.point rs)) (bodies_of (drop seat.point rs)) device
  same =
      shows_found form seat (image_after (take seat.point rs)) (bodies_of (drop seat.point rs)) device here layout image begins.found

  pub image_is : image ≡ image_after (take seat.point rs)
  image_is =
      image_found form seat (image_after (take seat.point rs)) (bodies_of (drop seat.point rs)) device here layout image begins.found

  pub point_of_one : layout.halved ≡ false → seat.point ≡ 0
  point_of_one one =
      no_point form.halved form.instance form.size seat.second seat.point (image_after (take seat.point rs)) (λ (region : Region). Shows region (bodies_of (drop seat.point rs)) device) stands.shows
      (ap (λ (f : Form). f.halved) forms.0 ∙ one)

  first_taken_length : length (take seat.point rs) ≡ seat.point
  first_taken_length = length-take-le seat.point rs stands.low

  pub start_stands : CoreStandsFor start (take seat.point rs)
  start_stands =
      loaded_stands image layout.instance start (take seat.point rs) (history_taken seat.point rs stands.history) (first_few form seat rs device stands) image_is begins.loaded

  pub point_is : seat.point ≡ start.state.count
  point_is = sym (count_on_book start (take seat.point rs) start_stands ∙ first_taken_length)

  -- after the image the device shows the records after the point
  pub shows_later : ShowsNext layout image start (drop seat.point rs) device
  shows_later =
      let cut : take seat.point rs ++ drop seat.point rs ≡ rs = take-append-drop seat.point rs in
      let both : length (take seat.point rs) + length (drop seat.point rs) ≡ length rs = sym (length-append (take seat.point rs) (drop seat.point rs)) ∙ ap (λ (l : List Record). length l) cut in
      record {
        spelled = spelled_later seat.point rs stands.history.spelled;
        next =
            legal_next start (take seat.point rs) (drop seat.point rs) start_stands
            (subst (λ (l : List Record). IsLegalAfter nothing_yet l) (sym cut) stands.history.legal);
        few = omega (arith, point_is, first_taken_length, both, few_stand form seat rs device stands);
        shows = same.shows;
      }

  -- if all was read, the records that were read are those after the point
  pub all_later : (read : List Record) (place : Place) → ReadsOn layout image start read place device → (slice_index device place.gate ≡ 1 → ⊥) → read ≡ drop seat.point rs
  all_later read place reads shut =
      same_records read (drop seat.point rs) reads.spelled (spelled_later seat.point rs stands.history.spelled)
      (one_list (found_region layout image device) (bodies_of read) (bodies_of (drop seat.point rs)) device
      (reads_to_the_end (found_region layout image device) (bodies_of read) place device reads.read shut) same.shows)
