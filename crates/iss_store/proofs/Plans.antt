-- A plan is the record that judging returns, if it fits; with the half for a turn, if it needs one.
use Rattle.std.proofs.Common.{◌≡◌, ℕ, ◌<◌, ◌≤◌, max, Bool, true, false, not, ◌&&◌, cond, List, length, refl, sym, ap, subst, ◌∙◌, arith}
use Rattle.std.specs.Prelude.{Some, None, Result, Ok, Err, IsTrue, nat_le, nat_lt}
use Rattle.std.proofs.lemmas.Bool.Decides.{nat_tests}
use Rattle.iss_journal.specs.Place.{free_at}
use Rattle.iss_halves.specs.Turning.{half_bytes}
use Rattle.iss_model.specs.declared.limits.TheConstants.{MOST_RECORDS}
use Rattle.iss_model.specs.declared.input.Input.{Input}
use Rattle.iss_model.specs.declared.input.Record.{Record}
use Rattle.iss_model.specs.declared.decision.Answer.TheVariants as answer
use Rattle.iss_model.specs.declared.decision.Judged.{Judged}
use Rattle.iss_model.specs.declared.decision.Judged.TheVariants as judged
use Rattle.iss_model.specs.Forms.{is_in_form, is_stamp}
use Rattle.iss_model.specs.rules.Judging.{judge}
use Rattle.iss_model.specs.rules.Histories.{history_keeper, history_of}
use Rattle.iss_model.specs.state.Cores.{core_keeper}
use Rattle.iss_model.specs.run.Rooms.{need_of, unless_spent, where_it_fits, judgement_within}
use Rattle.iss_core.specs.Values.{IsNext}
use Rattle.iss_core.proofs.OnBook.{judged_on_book}
use Rattle.iss_opening.specs.Values.{StoreNow, IsStore, room_of}
use Rattle.iss_opening.specs.Standing.{StandsFor}
use Rattle.iss_store.specs.declared.fault.PlanFault.{PlanFault}
use Rattle.iss_store.specs.declared.fault.PlanFault.TheVariants as plan_fault
use Rattle.iss_store.specs.Values.{Plan}
use Rattle.iss_store.specs.Planning.{image_now, free_turned_at, most_free_at, half_for, judged_plan, judged_as, made_on, judged_within, judged_at, Plans, IsPlanOf}
use Rattle.iss_store.proofs.Books.{count_on_book}
use Rattle.iss_store.proofs.Rooms.{most_is}

-- ---- a record that fits, one that doesn't, and one too many

pub spent : (s : StoreNow) (r : Record) (is_clock : Bool) → s.core.state.count ≡ MOST_RECORDS → Plans (made_on s r (judged_plan r is_clock)) (Err (plan_fault.Told answer.Spent))
spent s r is_clock full =
    let no : nat_lt s.core.state.count MOST_RECORDS ≡ false = grind (arith, nat_tests) in
    rw no refl

-- below as many as there may be, what is made is by how much is free
made_by : (s : StoreNow) (r : Record) (made : Judged) (b : Bool) → s.core.state.count < MOST_RECORDS → nat_le (need_of r) (most_free_at s) ≡ b
    → made_on s r made ≡ cond b made (judged.Told (answer.Full (most_free_at s) (need_of r)))
made_by s r made b few fits =
    let yes : nat_lt s.core.state.count MOST_RECORDS ≡ true = grind (arith, nat_tests) in
    rw (yes, fits) refl

fits_so : (s : StoreNow) (p : Plan) → s.core.state.count < MOST_RECORDS → need_of p.accepted ≤ most_free_at s → Plans (made_on s p.accepted (judged_as p)) (Ok p)
fits_so s p few fits =
    let yes : nat_le (need_of p.accepted) (most_free_at s) ≡ true = grind (arith, nat_tests) in
    sym (made_by s p.accepted (judged_as p) true few yes)

full_so : (s : StoreNow) (r : Record) (made : Judged) (free need : ℕ) → s.core.state.count < MOST_RECORDS → free ≡ most_free_at s → need ≡ need_of r → free < need → Plans (made_on s r made) (Err (plan_fault.Told (answer.Full free need)))
full_so s r made free need few is needs less =
    let no : nat_le (need_of r) (most_free_at s) ≡ false = grind (arith, nat_tests) in
    (λ i. judged.Told (answer.Full (is i) (needs i))) ∙ sym (made_by s r made false few no)

-- ---- after the gate, and after a turn

most_here : (halved : Bool) (free turned need : ℕ) → need ≤ free → need ≤ cond halved (max free turned) free
most_here true free turned need le = omega (arith, le)
most_here false free turned need le = le

most_after : (halved : Bool) (free turned need : ℕ) → halved ≡ true → need ≤ turned → need ≤ cond halved (max free turned) free
most_after true free turned need is le = omega (arith, le)
most_after false free turned need is le = absurd cc

most_short : (halved : Bool) (free turned : ℕ) → halved ≡ true → max free turned ≡ cond halved (max free turned) free
most_short true free turned is = refl
most_short false free turned is = absurd cc

most_one : (halved : Bool) (free turned : ℕ) → halved ≡ false → free ≡ cond halved (max free turned) free
most_one false free turned is = refl
most_one true free turned is = absurd cc

-- it fits after the gate, so it needs no turn
half_here : (s : StoreNow) (r : Record) → need_of r ≤ free_at s.place → None ≡ half_for s r
half_here s r fits = by s.layout.halved
  where
    yes : nat_le (need_of r) (free_at s.place) ≡ true
    yes = grind (arith, nat_tests)

    by : (halved : Bool) → None ≡ cond (halved && not (nat_le (need_of r) (free_at s.place))) (Some (half_bytes (image_now s))) None
    by true = rw yes refl
    by false = refl

half_after : (s : StoreNow) (r : Record) (half : List ℕ) → s.layout.halved ≡ true → free_at s.place < need_of r → half ≡ half_bytes (image_now s) → Some half ≡ half_for s r
half_after s r half is less bytes =
    let no : nat_le (need_of r) (free_at s.place) ≡ false = grind (arith, nat_tests) in
    rw (is, no) (ap (λ (h : List ℕ). Some h) bytes)

-- ---- the plan

module _ (s : StoreNow) (r : Record) (is_clock : Bool) (free need : ℕ) (few : s.core.state.count < MOST_RECORDS) (free_is : free ≡ free_at s.place) (need_is : need ≡ need_of r) where
  -- one that fits after the gate
  abbrev here : Plan
  here = record { accepted = r; is_clock = is_clock; half = None }

  fits_after_gate : need ≤ free → need_of r ≤ free_at s.place
  fits_after_gate le = omega (arith, free_is, need_is, le)

  pub planned_here : need ≤ free → Plans (made_on s r (judged_plan r is_clock)) (Ok here)
  planned_here le = fits_so s here few (most_here s.layout.halved (free_at s.place) (free_turned_at s) (need_of r) (fits_after_gate le))

  pub plan_here : need ≤ free → IsNext s.core r → IsTrue (is_in_form r.input) × IsTrue (is_stamp r.at) → IsPlanOf s here
  plan_here le next f =
      record {
        next = next;
        input_form = f.0;
        stamp_form = f.1;
        few = few;
        fits = most_here s.layout.halved (free_at s.place) (free_turned_at s) (need_of r) (fits_after_gate le);
        half = half_here s r (fits_after_gate le);
      }

  -- one that needs a turn
  abbrev after : List ℕ → Plan
  after half = record { accepted = r; is_clock = is_clock; half = Some half }

  pub planned_after : (half : List ℕ) → free < need → s.layout.halved ≡ true → need ≤ free_turned_at s → Plans (made_on s r (judged_plan r is_clock)) (Ok (after half))
  planned_after half less is le =
      fits_so s (after half) few (most_after s.layout.halved (free_at s.place) (free_turned_at s) (need_of r) is (omega (arith, need_is, le)))

  pub plan_after : (half : List ℕ) → free < need → s.layout.halved ≡ true → half ≡ half_bytes (image_now s) → need ≤ free_turned_at s → IsNext s.core r → IsTrue (is_in_form r.input) × IsTrue (is_stamp r.at) → IsPlanOf s (after half)
  plan_after half less is bytes le next f =
      record {
        next = next;
        input_form = f.0;
        stamp_form = f.1;
        few = few;
        fits = most_after s.layout.halved (free_at s.place) (free_turned_at s) (need_of r) is (omega (arith, need_is, le));
        half = half_after s r half is (omega (arith, free_is, need_is, less)) bytes;
      }

  -- none that fits
  pub full_one : free < need → s.layout.halved ≡ false → Plans (made_on s r (judged_plan r is_clock)) (Err (plan_fault.Told (answer.Full free need)))
  full_one less is =
      full_so s r (judged_plan r is_clock) free need few (free_is ∙ most_one s.layout.halved (free_at s.place) (free_turned_at s) is) need_is less

  pub full_halved : (turned : ℕ) → free < need → s.layout.halved ≡ true → turned ≡ free_turned_at s → turned < need
      → Plans (made_on s r (judged_plan r is_clock)) (Err (plan_fault.Told (answer.Full (max free turned) need)))
  full_halved turned less is turned_is short =
      full_so s r (judged_plan r is_clock) (max free turned) need few
      (ap (λ (n : ℕ). max n turned) free_is ∙ ap (λ (n : ℕ). max (free_at s.place) n) turned_is ∙ most_short s.layout.halved (free_at s.place) (free_turned_at s) is)
      need_is (omega (arith, less, short))

-- ---- by what judging gave

pub plans_new : (s : StoreNow) (i : Input) (at : ℕ) (r : Record) (result : Result Plan PlanFault) → judged.New r ≡ judge core_keeper s.core.state i at
    → Plans (made_on s r (judged_plan r false)) result → Plans (judged_at s i at) result
plans_new s i at r result is plans = subst (λ (j : Judged). Plans (judged_within s j) result) is plans

pub plans_clock : (s : StoreNow) (i : Input) (at : ℕ) (r : Record) (result : Result Plan PlanFault) → judged.Clock r ≡ judge core_keeper s.core.state i at
    → Plans (made_on s r (judged_plan r true)) result → Plans (judged_at s i at) result
plans_clock s i at r result is plans = subst (λ (j : Judged). Plans (judged_within s j) result) is plans

-- ---- on the book

module _ (s : StoreNow) (is : IsStore s) (rs : List Record) (stands : StandsFor s rs) where
  made_within : (r : Record) (made : Judged) → made_on s r made ≡ where_it_fits (room_of s) rs r made
  made_within r made =
      ap (λ (n : ℕ). unless_spent n (cond (nat_le (need_of r) (most_free_at s)) made (judged.Told (answer.Full (most_free_at s) (need_of r))))) (count_on_book s.core rs stands.core)
      ∙ ap (λ (n : ℕ). unless_spent (length rs) (cond (nat_le (need_of r) n) made (judged.Told (answer.Full n (need_of r))))) (most_is s is rs stands)

  within_room : (j : Judged) → judged_within s j ≡ judgement_within (room_of s) rs j
  within_room (judged.New r) = made_within r (judged.New r)
  within_room (judged.Clock r) = made_within r (judged.Clock r)
  within_room (judged.Told a) = refl

  pub planned_on_book : (i : Input) (at : ℕ) (result : Result Plan PlanFault) → Plans (judged_at s i at) result → Plans (judgement_within (room_of s) rs (judge history_keeper (history_of rs) i at)) result
  planned_on_book i at result plans =
      let here : judged_at s i at ≡ judgement_within (room_of s) rs (judge history_keeper (history_of rs) i at) =
      within_room (judge core_keeper s.core.state i at)
      ∙ ap (judgement_within (room_of s) rs) (judged_on_book s.core rs i at (judge core_keeper s.core.state i at) stands.core refl) in
      subst (λ (j : Judged). Plans j result) here plans
