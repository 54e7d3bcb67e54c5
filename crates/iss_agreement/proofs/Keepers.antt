-- Steps keep what is good, and two keepers of which one shows the other make the same entries and judge alike.
use Rattle.std.proofs.Common.{◌≡◌, ℕ, List, [], ◌∷◌, ◌++◌, max, fold, refl, ap, ◌∙◌, ap₂}
use Rattle.iss_model.specs.declared.entry.Entry.{Entry}
use Rattle.iss_model.specs.declared.input.Input.{Input}
use Rattle.iss_model.specs.declared.input.Record.{Record}
use Rattle.iss_model.specs.rules.Facts.{Facts}
use Rattle.iss_model.specs.rules.Due.{DueItem, due_items, thing_entries, is_quiet}
use Rattle.iss_model.specs.rules.Keeper.{Keeper, Growth, grow}
use Rattle.iss_model.specs.rules.Stepping.{own_entries, settle, after_due, step}
use Rattle.iss_model.specs.rules.Judging.{judge, judgement_at, judgement_on}
use Rattle.iss_agreement.specs.Laws.{KeptBySteps, Shows}

module _ {W : Type 0} (k : Keeper W) (IsGood : W → Type 0) (Fit : Facts → List Entry → Type 0) (kept : KeptBySteps k IsGood Fit) where
  pub settle-kept : (at : ℕ) (g : Growth W) (item : DueItem) → IsGood g.world → IsGood (settle k at g item).world
  settle-kept at g item good = kept.adds g.world (thing_entries item.thing at (k.facts g.world)) good (kept.due g.world item.thing at good)

  pub settled-kept : (at : ℕ) (g : Growth W) (items : List DueItem) → IsGood g.world → IsGood (fold (settle k at) g items).world
  settled-kept at g [] good = good
  settled-kept at g (item ∷ items) good = settled-kept at (settle k at g item) items (settle-kept at g item good)

  pub after_due-kept : (w : W) (at : ℕ) → IsGood w → IsGood (after_due k w at).world
  after_due-kept w at good = settled-kept at (record { world = w; entries = [] }) (due_items (k.facts w) at) good

  pub step-kept : (w : W) (r : Record) → IsGood w → IsGood (step k w r).world
  unfolding step
  step-kept w r good =
      let ready = after_due-kept (k.take_up w r) r.at (kept.up w r good) in
      kept.adds (after_due k (k.take_up w r) r.at).world (own_entries r (k.facts (after_due k (k.take_up w r) r.at).world)) ready
      (kept.own (after_due k (k.take_up w r) r.at).world r ready)

  -- what each piece keeps, every history keeps
  pub steps-kept : (w : W) (rs : List Record) → IsGood w → IsGood (fold (λ v r. (step k v r).world) w rs)
  steps-kept w [] good = good
  steps-kept w (r ∷ rs) good = steps-kept (step k w r).world rs (step-kept w r good)

-- the growth of one keeper as the other shows it
abbrev pub shown : {W V : Type 0} → (W → V) → Growth W → Growth V
shown show g = record { world = show g.world; entries = g.entries }

module _ {W V : Type 0} (m : Keeper W) (n : Keeper V) (show : W → V) (IsGood : W → Type 0) (Fit : Facts → List Entry → Type 0)
    (kept : KeptBySteps m IsGood Fit) (shows : Shows m n show IsGood Fit) where
  pub grow-shown : (g : Growth W) (make : Facts → List Entry) → IsGood g.world → Fit (m.facts g.world) (make (m.facts g.world))
      → grow n (shown show g) make ≡ shown show (grow m g make)
  grow-shown g make good fit =
      let more = make (m.facts g.world) in
      ap (λ (f : Facts). record { world = n.add (show g.world) (make f); entries = g.entries ++ make f }) (shows.facts g.world good)
      ∙ ap (λ (v : V). record { world = v; entries = g.entries ++ more }) (shows.add g.world more good fit)

  pub settled-shown : (at : ℕ) (g : Growth W) (items : List DueItem) → IsGood g.world
      → fold (settle n at) (shown show g) items ≡ shown show (fold (settle m at) g items)
  settled-shown at g [] good = refl
  settled-shown at g (item ∷ items) good =
      ap (λ (h : Growth V). fold (settle n at) h items) (grow-shown g (thing_entries item.thing at) good (kept.due g.world item.thing at good))
      ∙ settled-shown at (settle m at g item) items (settle-kept m IsGood Fit kept at g item good)

  pub after_due-shown : (w : W) (at : ℕ) → IsGood w → after_due n (show w) at ≡ shown show (after_due m w at)
  after_due-shown w at good =
      ap (λ (f : Facts). fold (settle n at) (record { world = show w; entries = [] }) (due_items f at)) (shows.facts w good)
      ∙ settled-shown at (record { world = w; entries = [] }) (due_items (m.facts w) at) good

  pub step-shown : (w : W) (r : Record) → IsGood w → step n (show w) r ≡ shown show (step m w r)
  unfolding step
  step-shown w r good =
      let ready : IsGood (m.take_up w r) = kept.up w r good in
      let due : Growth W = after_due m (m.take_up w r) r.at in
      let due_good : IsGood due.world = after_due-kept m IsGood Fit kept (m.take_up w r) r.at ready in
      ap (λ (v : V). grow n (after_due n v r.at) (own_entries r)) (shows.take_up w r)
      ∙ ap (λ (g : Growth V). grow n g (own_entries r)) (after_due-shown (m.take_up w r) r.at ready)
      ∙ grow-shown due (own_entries r) due_good (kept.own due.world r due_good)

  judged_on_same : (i : Input) (at : ℕ) (f h : Facts) (a b : Facts) → f ≡ h → a ≡ b
      → judgement_on (is_quiet (due_items f at)) f a i at ≡ judgement_on (is_quiet (due_items h at)) h b i at
  judged_on_same i at f h a b before after =
      ap₂ (λ (x y : Facts). judgement_on (is_quiet (due_items x at)) x y i at) before after

  pub judged_at-shown : (w : W) (i : Input) (at : ℕ) → IsGood w → judgement_at n (show w) i at ≡ judgement_at m w i at
  judged_at-shown w i at good =
      let due_good : IsGood (after_due m w at).world = after_due-kept m IsGood Fit kept w at good in
      judged_on_same i at (n.facts (show w)) (m.facts w) (n.facts (after_due n (show w) at).world) (m.facts (after_due m w at).world)
      (shows.facts w good)
      (ap (λ (g : Growth V). n.facts g.world) (after_due-shown w at good) ∙ shows.facts (after_due m w at).world due_good)

  pub judge-shown : (w : W) (i : Input) (stamp : ℕ) → IsGood w → judge n (show w) i stamp ≡ judge m w i stamp
  unfolding judge
  judge-shown w i stamp good =
      ap (λ (f : Facts). judgement_at n (show w) i (max stamp f.now)) (shows.facts w good)
      ∙ judged_at-shown w i (max stamp (m.facts w).now) good

  -- the history of one keeper, shown, is the history of the other
  pub steps-shown : (w : W) (rs : List Record) → IsGood w
      → fold (λ v r. (step n v r).world) (show w) rs ≡ show (fold (λ v r. (step m v r).world) w rs)
  steps-shown w [] good = refl
  steps-shown w (r ∷ rs) good =
      ap (λ (g : Growth V). fold (λ v r. (step n v r).world) g.world rs) (step-shown w r good)
      ∙ steps-shown (step m w r).world rs (step-kept m IsGood Fit kept w r good)
