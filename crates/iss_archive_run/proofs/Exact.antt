-- The statuses 11 and 12 come exactly by the records and how many of them were archived.
use Rattle.std.proofs.Common.{◌≡◌, inl, inr, ◌^◌, ℕ, zero, suc, ◌+◌, ◌-◌, ◌<◌, ◌≤◌, ◌==◌, ◌||◌, not, nat_lt, true, false, List, [], ◌∷◌, ◌++◌, length, take, get_or, Option, Some, None, Result, Ok, Err, refl, sym, ap, subst, ◌∙◌, arith, length-append, take_all, eq-eqb}
use Rattle.std.proofs.lemmas.Bool.Decides.{nat_tests}
use Rattle.std.proofs.lemmas.List.{take_more, length-take-le}
use Rattle.iss_edge.specs.World.{World, Told, Faults}
use Rattle.iss_halves.specs.Forms.{Form, Seat}
use Rattle.iss_model.specs.declared.input.Record.{Record}
use Rattle.iss_archive.specs.declared.post.Head.{Head}
use Rattle.iss_archive.specs.declared.post.PostRow.{PostRow}
use Rattle.iss_archive.specs.declared.source.Stepped.{Stepped}
use Rattle.iss_archive.specs.declared.archiving.ArchiveFault.{ArchiveFault}
use Rattle.iss_archive.specs.declared.archiving.ArchiveFault.TheVariants as archive_fault
use Rattle.iss_archive.specs.Archived.{Archived, records_in, posts_in}
use Rattle.iss_archive.specs.Postings.{IsArchiveOf, IsHeadOver, own_postings, postings_of}
use Rattle.iss_archive.specs.Archiving.{HoldsFirst, IsStepOf, head_next, is_foreign, postings_next}
use Rattle.iss_archive.specs.Steps.{AreStepsOf, IsAllOf, IsBehind, IsFilled, IsOfOther, IsTooFar}
use Rattle.iss_archive.proofs.KeepingLaws.{adds_next, records_are}
use Rattle.iss_archive.proofs.PostingLaws.{postings_more}
use Rattle.iss_standing.specs.Standing.{DeviceStandsFor}
use Rattle.iss_opening.specs.declared.fault.OpenFault.TheVariants as open_fault
use Rattle.iss_opening.proofs.GoodDevices.{good_device}
use Rattle.iss_device.specs.Refusals.{IsNoStore}
use Rattle.iss_follow_runs.proofs.Images.{count_opened, instance_opened, point_opened}
use Rattle.iss_archive_run.specs.declared.stop.Stop.{Stop}
use Rattle.iss_archive_run.specs.declared.stop.Stop.TheVariants as stop
use Rattle.iss_archive_run.specs.Statuses.{exit_status}
use Rattle.iss_archive_run.specs.Keeping.{IsCalledForOn, KeepDone}
use Rattle.iss_archive_run.specs.Exactly.{ExactFor, ExactOn, IsExact, IsFailure, IsTooMany, KeptExactly}
use Rattle.iss_archive_run.proofs.Exits.{posts_are}
use Rattle.iss_archive_run.proofs.Mades.{steps_of}

-- ---- a device that stands for records has a store

stands_somewhere : (a : World) (form : Form) (seat : Seat) (rs : List Record) → DeviceStandsFor form seat rs a.device → IsNoStore a.device → ⊥
stands_somewhere a form seat rs stands none =
    elim none [
      | inl unformatted ↦ good_device form seat rs open_fault.NotFormatted a a stands unformatted
      | inr found ↦
          elim found.1 [
            | inl image_bad ↦ good_device form seat rs (open_fault.BadImage found.0) a a stands image_bad
            | inr others ↦
                elim others [
                  | inl record_bad ↦ good_device form seat rs (open_fault.BadRecord found.0) a a stands record_bad
                  | inr more ↦
                      elim more [
                        | inl spelling_bad ↦ good_device form seat rs (open_fault.BadSpelling found.0) a a stands spelling_bad
                        | inr history_bad ↦ good_device form seat rs (open_fault.BadHistory found.0) a a stands history_bad
                      ]
                ]
          ]
    ]

-- ---- a record more has no fewer postings

grown : (rs : List Record) (r : Record) → length (postings_of rs) ≤ length (postings_of (rs ++ r ∷ []))
grown rs r = omega (arith, ap (λ (l : List PostRow). length l) (postings_more rs r), length-append (postings_of rs) (own_postings rs r))

grown_by : (rs : List Record) (n m : ℕ) → n + m ≤ length rs → length (postings_of (take n rs)) ≤ length (postings_of (take (n + m) rs))
grown_by rs n zero le = subst (λ (k : ℕ). length (postings_of (take n rs)) ≤ length (postings_of (take k rs))) (same n) (omega arith)
  where
    same : (n : ℕ) → n ≡ n + 0
    same n = omega arith
grown_by [] n (suc m) le = absurd (omega (arith, le))
grown_by (x ∷ xs) n (suc m) le =
    let rs : List Record = x ∷ xs in
    let before : length (postings_of (take n rs)) ≤ length (postings_of (take (n + m) rs)) = grown_by rs n m (omega (arith, le)) in
    let here : n + m < length rs = omega (arith, le) in
    let more : take (n + m + 1) rs ≡ take (n + m) rs ++ get_or rs (n + m) x ∷ [] = take_more rs (n + m) x here in
    let one = grown (take (n + m) rs) (get_or rs (n + m) x) in
    let last : n + m + 1 ≡ n + suc m = omega arith in
    subst (λ (k : ℕ). length (postings_of (take n rs)) ≤ length (postings_of (take k rs))) last
    (subst (λ (l : List Record). length (postings_of (take n rs)) ≤ length (postings_of l)) (sym more) (through before one))
  where
    through : {a b c : ℕ} → a ≤ b → b ≤ c → a ≤ c
    through p q = omega (arith, p, q)

fewer_postings : (rs : List Record) (n : ℕ) → n ≤ length rs → length (postings_of (take n rs)) ≤ length (postings_of rs)
fewer_postings rs n le =
    let m : ℕ = length rs - n in
    let whole : n + m ≡ length rs = omega arith in
    subst (λ (l : List Record). length (postings_of (take n rs)) ≤ length (postings_of l)) (take_all (length rs) rs (omega arith))
    (subst (λ (k : ℕ). length (postings_of (take n rs)) ≤ length (postings_of (take k rs))) whole (grown_by rs n m (omega (arith, whole))))

-- ---- what is archived

-- the head of some of the first records is of this device and of no more records
not_foreign : (instance count : ℕ) (rs : List Record) (head : Option Head) → IsHeadOver instance rs head → length rs ≤ count → is_foreign instance count head ≡ false
not_foreign instance count rs None is le = refl
not_foreign instance count rs (Some h) is le =
    subst (λ (k : Head). is_foreign instance count (Some k) ≡ false) (sym is) (neither instance count (length rs) le)
  where
    within : (count n : ℕ) → n ≤ count → nat_lt count n ≡ false
    within count n le = grind (arith, nat_tests)

    neither : (instance count n : ℕ) → n ≤ count → (not (instance == instance) || nat_lt count n) ≡ false
    neither instance count n le = rw (eq-eqb instance instance refl, within count n le) refl

-- the record of a place in the list
step_in : (rs : List Record) (p : ℕ) (before : List Stepped) (s : Stepped) (after : List Stepped) → AreStepsOf rs p (before ++ s ∷ after) → IsStepOf rs (p + length before) s
step_in rs p [] s after made = subst (λ (n : ℕ). IsStepOf rs n s) (same p) made.0
  where
    same : (p : ℕ) → p ≡ p + 0
    same p = omega arith
step_in rs p (x ∷ before) s after made = subst (λ (n : ℕ). IsStepOf rs n s) (later p (length before)) (step_in rs (p + 1) before s after made.1)
  where
    later : (p n : ℕ) → p + 1 + n ≡ p + suc n
    later p n = omega arith

-- the postings with the record after the archived ones are among those of all
all_pass : (instance n : ℕ) (rs : List Record) (s : Stepped) (b : Archived) → IsArchiveOf instance (take n rs) b → IsStepOf rs n s → 2 ^ 63 ≤ (head_next instance b.head s).posts → 2 ^ 63 ≤ length (postings_of rs)
all_pass instance n rs s b archive is full =
    let next : Archived = record { head = Some (head_next instance b.head s); rows = b.rows ++ postings_next b.head s } in
    let one : IsArchiveOf instance (take (n + 1) rs) next = adds_next instance n rs s b next archive is refl in
    let posts : (head_next instance b.head s).posts ≡ length (postings_of (take (n + 1) rs)) = ap (λ (h : Head). h.posts) one.head in
    through posts full (fewer_postings rs (n + 1) is.within)
  where
    through : {a b c : ℕ} → a ≡ b → 2 ^ 63 ≤ a → b ≤ c → 2 ^ 63 ≤ c
    through p q r = omega (arith, p, q, r)

module _ (a : World) (form : Form) (seat : Seat) (rs : List Record) (stands : DeviceStandsFor form seat rs a.device) (k : ℕ) (le : k ≤ length rs) (v w : Archived) (first : IsArchiveOf form.instance (take k rs) v) where
  archived_first : records_in v.head ≡ k
  archived_first = records_are form.instance (take k rs) v.head first.head ∙ length-take-le k rs le

  module _ (kept : Result (Option Head) ArchiveFault) (due : IsCalledForOn a.device kept v w) where
    instance_is : due.store.core.instance ≡ form.instance
    instance_is = instance_opened due.store a.device form seat rs due.there.opens stands

    point_is : due.store.point ≡ seat.point
    point_is = point_opened due.store a.device form seat rs due.there.opens stands

    count_is : due.store.core.state.count ≡ length rs
    count_is = count_opened due.store a.device form seat rs due.there.opens stands

    own : is_foreign due.store.core.instance due.store.core.state.count v.head ≡ false
    own =
        subst (λ (n : ℕ). is_foreign n due.store.core.state.count v.head ≡ false) (sym instance_is)
        (not_foreign form.instance due.store.core.state.count (take k rs) v.head first.head (omega (arith, count_is, length-take-le k rs le)))

    behind : IsBehind due.store.core.instance due.store.point due.store.core.state.count v → seat.point ≤ k
    behind is = omega (arith, is.near, point_is, archived_first)

    too_far : IsTooFar due.store.core.instance due.store.point due.store.core.state.count v → k < seat.point
    too_far is = omega (arith, is.gap, point_is, archived_first)

    not_other : IsOfOther due.store.core.instance due.store.core.state.count v w → ⊥
    not_other is = cc_false (sym own ∙ is.other)
      where
        cc_false : false ≡ true → ⊥
        cc_false e = cc

    filled : HoldsFirst form.instance rs k w → IsFilled due.store.core.instance due.store.point due.store.core.state.count due.steps v w → IsTooMany seat.point rs k
    filled holds is =
        let full = is.full in
        let n : ℕ = holds.count in
        let many : records_in w.head ≡ n = records_are form.instance (take n rs) w.head holds.archive.head ∙ length-take-le n rs holds.most in
        let made : AreStepsOf rs due.store.point (full.before ++ full.next ∷ full.after) =
        subst (AreStepsOf rs due.store.point) full.cut (steps_of due.store due.steps a.device due.there form seat rs stands) in
        let here : due.store.point + length full.before ≡ n = full.here ∙ many in
        let step : IsStepOf rs n full.next = subst (λ (m : ℕ). IsStepOf rs m full.next) here (step_in rs due.store.point full.before full.next full.after made) in
        let posts : 2 ^ 63 ≤ (head_next form.instance w.head full.next).posts = full.posts in
        record {
          near = behind is.behind;
          left = omega (arith, holds.least, step.within);
          many = all_pass form.instance n rs full.next w holds.archive step posts;
        }

    not_all : (head : Option Head) → IsArchiveOf form.instance rs w → IsAllOf due.store.core.state.count head v w → IsTooMany seat.point rs k → ⊥
    not_all head whole all many =
        elim all.few [
          | inl same ↦ omega (arith, same, archived_first, count_is, many.left)
          | inr few ↦
              let posts : posts_in head ≡ length (postings_of rs) = ap (λ (h : Option Head). posts_in h) (sym all.held) ∙ posts_are form.instance rs w.head whole.head in
              omega (arith, few, posts, many.many)
        ]

not_both : (k point : ℕ) → point ≤ k → k < point → ⊥
not_both k point near h = omega (arith, near, h)

-- a failure says nothing
failed : (n point : ℕ) (rs : List Record) (k : ℕ) → (n ≡ 11 → ⊥) → (n ≡ 12 → ⊥) → IsFailure n → IsExact n point rs k
failed n point rs k gap many failure =
    record {
      gap = λ e. absurd (gap e);
      gap_there = λ h. inr failure;
      many = λ e. absurd (many e);
      many_there = λ h. inr failure;
    }

-- all was archived
kept_all : (n point : ℕ) (rs : List Record) (k : ℕ) → (n ≡ 11 → ⊥) → (n ≡ 12 → ⊥) → point ≤ k → (IsTooMany point rs k → ⊥) → IsExact n point rs k
kept_all n point rs k gap many near none =
    record {
      gap = λ e. absurd (gap e);
      gap_there = λ h. absurd (not_both k point near h);
      many = λ e. absurd (many e);
      many_there = λ h. absurd (none h);
    }

statuses_exact : (before now : Faults) (a b : World) (g h : ℕ) (v w : Archived) (left_was left_now : Archived → Type 0) (result : Result (Unit {0}) Stop)
    → KeepDone before now (Some a) (Some b) g h (Some v) (Some w) left_was left_now result → ExactOn (exit_status result) a.device v w
statuses_exact before now a b g h v w left_was left_now (Err stop.Device) done form seat rs stands k le first = absurd (stands_somewhere a form seat rs stands (done.refused.only refl).0)
statuses_exact before now a b g h v w left_was left_now (Err stop.Disk) done form seat rs stands k le first =
    failed 6 seat.point rs k (λ e. absurd cc) (λ e. absurd cc) (inl refl)
statuses_exact before now a b g h v w left_was left_now (Err stop.Memory) done form seat rs stands k le first =
    failed 7 seat.point rs k (λ e. absurd cc) (λ e. absurd cc) (inr (inl refl))
statuses_exact before now a b g h v w left_was left_now (Err stop.Keeper) done form seat rs stands k le first =
    failed 13 seat.point rs k (λ e. absurd cc) (λ e. absurd cc) (inr (inr refl))
statuses_exact before now a b g h v w left_was left_now (Err stop.Gap) done form seat rs stands k le first =
    let far = too_far a form seat rs stands k le v w first (Err archive_fault.Gap) done.due done.due.why.1 in
    record {
      gap = λ e. far;
      gap_there = λ x. inl refl;
      many = λ e. absurd cc;
      many_there = λ x. absurd (not_both k seat.point x.near far);
    }
statuses_exact before now a b g h v w left_was left_now (Err stop.Strange) done form seat rs stands k le first =
    elim done.due.why [
      | inl other ↦ absurd (not_other a form seat rs stands k le v w first (Err archive_fault.Strange) done.due other)
      | inr full ↦
          let many = filled a form seat rs stands k le v w first (Err archive_fault.Strange) done.due ((done.archive form seat rs stands).kept k le first) full in
          record {
            gap = λ e. absurd cc;
            gap_there = λ x. absurd (not_both k seat.point many.near x);
            many = λ e. many;
            many_there = λ x. inl refl;
          }
    ]
statuses_exact before now a b g h v w left_was left_now (Err stop.Output) done form seat rs stands k le first =
    let kept : Result (Option Head) ArchiveFault = Ok done.due.0 in
    kept_all 5 seat.point rs k (λ e. absurd cc) (λ e. absurd cc) (behind a form seat rs stands k le v w first kept done.due.1 done.due.1.why.0)
    (not_all a form seat rs stands k le v w first kept done.due.1 done.due.0 ((done.archive form seat rs stands).whole (inr refl) k le first) done.due.1.why.1)
statuses_exact before now a b g h v w left_was left_now (Ok unit) done form seat rs stands k le first =
    let kept : Result (Option Head) ArchiveFault = Ok done.due.0 in
    kept_all 0 seat.point rs k (λ e. absurd cc) (λ e. absurd cc) (behind a form seat rs stands k le v w first kept done.due.1 done.due.1.why.0)
    (not_all a form seat rs stands k le v w first kept done.due.1 done.due.0 ((done.archive form seat rs stands).whole (inl refl) k le first) done.due.1.why.1)

exact_held : (before now : Faults) (a b : World) (g h : ℕ) (v w : Option Archived) (left_was left_now : Archived → Type 0) (result : Result (Unit {0}) Stop)
    → KeepDone before now (Some a) (Some b) g h v w left_was left_now result → ExactFor (exit_status result) v w a b
exact_held before now a b g h None None left_was left_now result done = tt
exact_held before now a b g h (Some p) None left_was left_now result done = tt
exact_held before now a b g h None (Some q) left_was left_now result done = absurd done.due
exact_held before now a b g h (Some p) (Some q) left_was left_now result done = statuses_exact before now a b g h p q left_was left_now result done

exact_told : (before now : Faults) (x y : Option World) (g h : ℕ) (v w : Option Archived) (left_was left_now : Archived → Type 0) (result : Result (Unit {0}) Stop)
    → KeepDone before now x y g h v w left_was left_now result → Told (ExactFor (exit_status result) v w) x y
exact_told before now None None g h v w left_was left_now result done = tt
exact_told before now (Some a) None g h v w left_was left_now result done = tt
exact_told before now None (Some b) g h v w left_was left_now result done = absurd done.moments
exact_told before now (Some a) (Some b) g h v w left_was left_now result done = exact_held before now a b g h v w left_was left_now result done

pub exactly : {before now : Faults} {x y : Option World} {g h : ℕ} {v w : Option Archived} {left_was left_now : Archived → Type 0} {result : Result (Unit {0}) Stop}
    → KeepDone before now x y g h v w left_was left_now result → KeptExactly before now x y g h v w left_was left_now result
exactly {before = before} {now = now} {x = x} {y = y} {g = g} {h = h} {v = v} {w = w} {left_was = left_was} {left_now = left_now} {result = result} done =
    record { done = done; exact = exact_told before now x y g h v w left_was left_now result done }
