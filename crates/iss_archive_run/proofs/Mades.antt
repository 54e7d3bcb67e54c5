-- The records of a device after its image, each with what it makes: they are next one after the other, and are those of the records for
-- which the device stands.
use Rattle.std.proofs.Common.{◌≡◌, ℕ, ◌+◌, ◌&&◌, ◌==◌, Bool, true, List, [], ◌∷◌, ◌++◌, length, take, drop, refl, sym, ap, subst, ◌∙◌, arith, append_assoc, append-nil, length-append, eq-eqb}
use Rattle.std.specs.List.{list_all}
use Rattle.std.proofs.lemmas.List.{take-append-drop, length-take-le}
use Rattle.std.proofs.Math.Seq.{take-append_seam, get_or-append_seam}
use Rattle.iss_halves.specs.Forms.{Form, Seat}
use Rattle.iss_model.specs.declared.input.Record.{Record}
use Rattle.iss_model.specs.declared.entry.Entry.{Entry}
use Rattle.iss_model.specs.declared.entry.Entry.TheVariants as entry
use Rattle.iss_model.specs.rules.Histories.{history_keeper, history_of}
use Rattle.iss_model.specs.rules.Stepping.{step}
use Rattle.iss_model.specs.state.Cores.{CoreState, core_keeper}
use Rattle.iss_acts.specs.Posts.{posts_within_one_currency}
use Rattle.iss_acts.proofs.Posts.{step_posts_within}
use Rattle.iss_archive.specs.declared.source.Stepped.{Stepped}
use Rattle.iss_archive.specs.Archiving.{has_plain_post, IsStepOf}
use Rattle.iss_archive.specs.Steps.{is_next, are_next, AreStepsOf}
use Rattle.iss_core.specs.Values.{CoreNow, CoreStandsFor}
use Rattle.iss_core.proofs.OnBook.{steps_on_book}
use Rattle.iss_standing.specs.Standing.{DeviceStandsFor}
use Rattle.iss_opening.specs.Values.{StoreNow}
use Rattle.iss_opening.specs.Reading.{core_after}
use Rattle.iss_opening.proofs.Afters.{after_count, count_on_book, stands_after}
use Rattle.iss_opening.proofs.Counts.{step_count}
use Rattle.iss_opening.proofs.Stands.{all_later, point_is, start_stands}
use Rattle.iss_archive_run.specs.Made.{IsMadeOn, AreMadeOn, fits, StepsOn}

-- ---- one record more

pub made_more : (c : CoreNow) (rs : List Record) (steps : List Stepped) (r : Record) (s : Stepped) → AreMadeOn c rs steps → IsMadeOn (core_after c rs) r s → AreMadeOn c (rs ++ r ∷ []) (steps ++ s ∷ [])
made_more c [] [] r s made is = (record { number = is.number; at = is.at; entries = is.entries }, tt)
made_more c [] (t ∷ steps) r s made is = absurd made
made_more c (x ∷ rs) [] r s made is = absurd made
made_more c (x ∷ rs) (t ∷ steps) r s made is = (made.0, made_more (core_after c (x ∷ [])) rs steps r s made.1 is)

-- ---- no post goes between two currencies

same_test : (e : Entry) → has_plain_post e ≡ posts_within_one_currency e
same_test (entry.Post from to amount txn) = refl
same_test e = refl

same_tests : (es : List Entry) → list_all has_plain_post es ≡ list_all posts_within_one_currency es
same_tests [] = refl
same_tests (e ∷ es) = λ i. same_test e i && same_tests es i

plain_step : (s : CoreState) (r : Record) (es : List Entry) → es ≡ (step core_keeper s r).entries → list_all has_plain_post es ≡ true
plain_step s r es is =
    ap (list_all has_plain_post) is ∙ same_tests (step core_keeper s r).entries ∙ (step_posts_within core_keeper s r).all

-- ---- each is next after those before it

both_hold : (a b : Bool) → a ≡ true → b ≡ true → (a && b) ≡ true
both_hold a b p q = rw (p, q) refl

made_next : (c : CoreNow) (rs : List Record) (steps : List Stepped) → AreMadeOn c rs steps → are_next c.state.count steps ≡ true
made_next c [] [] made = refl
made_next c [] (s ∷ steps) made = absurd made
made_next c (r ∷ rs) [] made = absurd made
made_next c (r ∷ rs) (s ∷ steps) made =
    let n : ℕ = c.state.count in
    let number : (s.number == n + 1) ≡ true = eq-eqb s.number (n + 1) made.0.number in
    let plain : list_all has_plain_post s.entries.items ≡ true = plain_step c.state r s.entries.items made.0.entries in
    let rest : are_next (n + 1) steps ≡ true = subst (λ (m : ℕ). are_next m steps ≡ true) (step_count c.state r) (made_next (core_after c (r ∷ [])) rs steps made.1) in
    both_hold (is_next n s) (are_next (n + 1) steps) (both_hold (s.number == n + 1) (list_all has_plain_post s.entries.items) number plain) rest

made_count : (c : CoreNow) (rs : List Record) (steps : List Stepped) → AreMadeOn c rs steps → length steps ≡ length rs
made_count c [] [] made = refl
made_count c [] (s ∷ steps) made = absurd made
made_count c (r ∷ rs) [] made = absurd made
made_count c (r ∷ rs) (s ∷ steps) made =
    let rest : length steps ≡ length rs = made_count (core_after c (r ∷ [])) rs steps made.1 in
    omega (arith, rest)

pub steps_fit : (s : StoreNow) (steps : List Stepped) (device : List ℕ) → StepsOn s steps device → fits s.point s.core.state.count steps
steps_fit s steps device there =
    let opens = there.opens in
    let many : length steps ≡ length opens.rs = made_count opens.start opens.rs steps there.made in
    let count : s.core.state.count ≡ opens.start.state.count + length opens.rs = ap (λ (c : CoreNow). c.state.count) opens.core ∙ after_count opens.start opens.rs in (
      omega (arith, many, count, opens.point),
      subst (λ (n : ℕ). are_next n steps ≡ true) (sym opens.point) (made_next opens.start opens.rs steps there.made),
    )

-- ---- by the records for which the device stands

one_step : (c : CoreNow) (xs : List Record) (y : Record) (ys : List Record) (s : Stepped) → CoreStandsFor c xs → IsMadeOn c y s → IsStepOf (xs ++ y ∷ ys) (length xs) s
one_step c xs y ys s stands is =
    let book = steps_on_book c (core_after c (y ∷ [])) xs y s.entries.items stands (record { kept = refl; state = refl; entries = is.entries }) in
    record {
      within = omega (arith, length-append {A = Record} xs (y ∷ ys));
      number = is.number ∙ ap (λ (n : ℕ). n + 1) (count_on_book c xs stands);
      at = λ d. is.at ∙ ap (λ (x : Record). x.at) (sym (get_or-append_seam xs y ys d));
      entries = λ d.
          book.entries
          ∙ (λ i. (step history_keeper (history_of (sym (take-append_seam xs (y ∷ ys)) i)) (sym (get_or-append_seam xs y ys d) i)).entries);
      plain = plain_step c.state y s.entries.items is.entries;
    }

made_steps : (c : CoreNow) (xs ys : List Record) (steps : List Stepped) → CoreStandsFor c xs → AreMadeOn c ys steps → AreStepsOf (xs ++ ys) (length xs) steps
made_steps c xs [] [] stands made = ap (λ (l : List Record). length l) (append-nil xs)
made_steps c xs [] (s ∷ steps) stands made = absurd made
made_steps c xs (y ∷ ys) [] stands made = absurd made
made_steps c xs (y ∷ ys) (s ∷ steps) stands made =
    let rest = made_steps (core_after c (y ∷ [])) (xs ++ y ∷ []) ys steps (stands_after c xs (y ∷ []) stands) made.1 in
    let many : length (xs ++ y ∷ []) ≡ length xs + 1 = length-append {A = Record} xs (y ∷ []) in (
      one_step c xs y ys s stands made.0,
      subst (λ (n : ℕ). AreStepsOf (xs ++ y ∷ ys) n steps) many
          (subst (λ (l : List Record). AreStepsOf l (length (xs ++ y ∷ [])) steps) (append_assoc xs (y ∷ []) ys) rest),
    )

-- whichever records the device stands for, these are those after the first ones
pub steps_of : (s : StoreNow) (steps : List Stepped) (device : List ℕ) → StepsOn s steps device → (form : Form) (seat : Seat) (rs : List Record) → DeviceStandsFor form seat rs device → AreStepsOf rs s.point steps
steps_of s steps device there form seat rs stands =
    let opens = there.opens in
    let begins = opens.reads.begins in
    let p : ℕ = seat.point in
    let read : opens.rs ≡ drop p rs = all_later s.layout opens.image opens.start device begins form seat rs stands opens.rs s.place opens.reads opens.shut in
    let cut : take p rs ++ opens.rs ≡ rs = ap (λ (l : List Record). take p rs ++ l) read ∙ take-append-drop p rs in
    let here : length (take p rs) ≡ s.point = length-take-le p rs stands.low ∙ point_is s.layout opens.image opens.start device begins form seat rs stands ∙ sym opens.point in
    let made = made_steps opens.start (take p rs) opens.rs steps (start_stands s.layout opens.image opens.start device begins form seat rs stands) there.made in
    subst (λ (n : ℕ). AreStepsOf rs n steps) here (subst (λ (l : List Record). AreStepsOf l (length (take p rs)) steps) cut made)
