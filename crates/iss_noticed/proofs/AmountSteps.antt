-- A step leaves what transactions hold and calls ask, and the amounts of notices, within the greatest amount for each record.
use Rattle.std.proofs.Common.{◌≡◌, ◌∙◌, ◌++◌, ◌∷◌, ◌&&◌, ◌+◌, ◌*◌, ◌≤◌, ℕ, ap, arith, Bool, cond, false, fold, length, List, [], map, nat_le, not, refl, subst, suc, sym, true, zero}
use Rattle.std.specs.Prelude.{Option, Some, None}
use Rattle.std.specs.List.{list_all, list_any}
use Rattle.std.specs.Str.{bytes_eq}
use Rattle.std.proofs.lemmas.Bool.{and_parts}
use Rattle.std.proofs.lemmas.Bool.Decides.{nat_tests}
use Rattle.std.proofs.lemmas.List.{length-append}
use Rattle.std.proofs.lemmas.List.Folds.{list_all-append}
use Rattle.iss_model.specs.declared.account.Part.{Part}
use Rattle.iss_model.specs.declared.account.Part.TheVariants as part
use Rattle.iss_model.specs.declared.call.Notice.{Notice}
use Rattle.iss_model.specs.declared.input.Input.{Input}
use Rattle.iss_model.specs.declared.input.Input.TheVariants as input
use Rattle.iss_model.specs.declared.input.Record.{Record}
use Rattle.iss_model.specs.declared.limits.TheConstants.{GREATEST_AMOUNT}
use Rattle.iss_model.specs.declared.state.Carried.{Carried}
use Rattle.iss_model.specs.declared.state.State.{State}
use Rattle.iss_model.specs.Forms.{is_amount, is_in_form, is_mcc, is_stamp}
use Rattle.iss_model.specs.rules.Activity.{TxnNow, txn_named}
use Rattle.iss_model.specs.rules.Due.{DueThing, thing_acts, thing_entries}
use Rattle.iss_model.specs.rules.Facts.{not_below}
use Rattle.iss_model.specs.rules.Histories.{IsLegal, history_of}
use Rattle.iss_model.specs.rules.Settings.{is_named_in}
use Rattle.iss_model.specs.rules.Stepping.{acts_of, after_due, entries_of, step}
use Rattle.iss_model.specs.state.Cores.{CoreState, after_entry, core_facts, core_keeper, core_of, no_core, with_record}
use Rattle.iss_model.specs.texts.Spelling.{has_spelling, tokens_of}
use Rattle.iss_model.specs.Tokens.{is_token}
use Rattle.iss_model.proofs.Lists.{all_weaker, map-map}
use Rattle.iss_model.proofs.Names.{its_name, one_name, same_name}
use Rattle.iss_acts.specs.Causes.{ComesOf, FallsDue}
use Rattle.iss_acts.proofs.Causes.{input_row, thing_row}
use Rattle.iss_acts.proofs.Stepping.{due_stays}
use Rattle.iss_state.specs.Dockets.{docket_of}
use Rattle.iss_state.specs.Holdings.{IsHeldWell, part_sum}
use Rattle.iss_state.specs.Pending.{HasTakenUp, IsWell}
use Rattle.iss_state.specs.Sound.{AreInForm, IsNewEvent}
use Rattle.iss_state.specs.Stakes.{IsOrderlyState, are_distinct, at_least_one, total_asked, total_held, txn_tokens, whole_held}
use Rattle.iss_state.specs.Well.{HaveOwnTokens, IsWellAmong, Known}
use Rattle.iss_state.proofs.calls.Legal.{nothing_well}
use Rattle.iss_state.proofs.calls.Steps.{ready_settled, ready_taken, step_well}
use Rattle.iss_state.proofs.docket.Lists.{Each, any_mapped, both_so, found_any, not_both}
use Rattle.iss_state.proofs.effects.Finds.{found_passes}
use Rattle.iss_state.proofs.held.Acts.{IsReadyFor}
use Rattle.iss_state.proofs.held.Begun.{not_live}
use Rattle.iss_state.proofs.held.Inputs.{due_ready, input_ready}
use Rattle.iss_state.proofs.held.Steps.{nothing_held, step_held, thing_held}
use Rattle.iss_state.proofs.invariants.Legal.{IsKept, legal_induction}
use Rattle.iss_state.proofs.invariants.NewEvents.{judged_new}
use Rattle.iss_state.proofs.invariants.OwnEntries.{most_amount}
use Rattle.iss_states.specs.Order.{IsNewOnState}
use Rattle.iss_states.specs.OverBook.{state_of}
use Rattle.iss_states.specs.Rebuilding.{carried_named, rebuilt, state_after}
use Rattle.iss_states.specs.Showing.{carried_in, no_state, shown}
use Rattle.iss_states.proofs.Decided.{step_takes_up}
use Rattle.iss_states.proofs.StateOfBook.{state_shown}
use Rattle.iss_rebuilt.specs.Purchases.{HasCallsAgain}
use Rattle.iss_rebuilt.proofs.MadeSteps.{legal_calls_rebuilt}
use Rattle.iss_well_formed.specs.Again.{listed, standing}
use Rattle.iss_well_formed.specs.WellFormed.{IsWellFormed}
use Rattle.iss_well_formed.proofs.HeldAgain.{amount_in, carried_part, held_again, part_at}
use Rattle.iss_well_formed.proofs.FormedSteps.{record_count}
use Rattle.iss_well_formed.proofs.WellAgain.{well_again}
use Rattle.iss_noticed.specs.Commitments.{AmountsFit, committed_in, held_together, most_of_records, tells_at_most}
use Rattle.iss_noticed.proofs.AddressedSteps.{again_after}
use Rattle.iss_noticed.proofs.AmountActs.{row_at_most}
use Rattle.iss_noticed.proofs.Commitments.{added_by, own_adds, thing_adds, unnamed_too}
use Rattle.iss_noticed.proofs.KeptNotices.{AllPass, Lasts, entries_pass, passes_told}
use Rattle.iss_noticed.proofs.News.{own_said, thing_said, told_amount}
use Rattle.iss_noticed.proofs.Weights.{weight}

-- a core that is well is orderly ----

distinct_names : (ts : List TxnNow) → HaveOwnTokens ts → are_distinct (txn_tokens ts) ≡ true
distinct_names [] h = refl
distinct_names (t ∷ ts) h = both_so (not (is_named_in (txn_tokens ts) t.txn.token)) (are_distinct (txn_tokens ts)) (ap not (unnamed_too ts t.txn.token h.0)) (distinct_names ts h.1)

unfound : (ts : List TxnNow) (token : List ℕ) → is_named_in (txn_tokens ts) token ≡ false → txn_named token ts ≡ None
unfound ts token h = by (txn_named token ts) refl
  where
    by : (o : Option TxnNow) → txn_named token ts ≡ o → o ≡ None
    by None e = refl
    by (Some t) e =
        not_both (list_any (λ (t : TxnNow). bytes_eq t.txn.token token) ts)
        (found_any (λ (t : TxnNow). bytes_eq t.txn.token token) (λ (t : TxnNow). bytes_eq t.txn.token token) ts t e (found_passes (λ (t : TxnNow). bytes_eq t.txn.token token) ts t e))
        (sym (any_mapped (λ (name : List ℕ). bytes_eq name token) (λ (t : TxnNow). t.txn.token) ts) ∙ h)

orderly : {known : Known} (s : CoreState) → IsWellAmong known (docket_of s) → IsHeldWell s → IsOrderlyState s
orderly s well held =
    record {
      distinct = distinct_names s.holdings.txns well.txns.tokens;
      unbegun = λ token none.
          let nothing = held.ended token (not_live (txn_named token s.holdings.txns) (unfound s.holdings.txns token none)) in
          omega (arith, ap not_below (nothing part.G), ap not_below (nothing part.P), ap not_below (nothing part.S));
    }

-- what an input adds and tells ----

at_most_one : (n : ℕ) → n ≤ GREATEST_AMOUNT → at_least_one n ≤ GREATEST_AMOUNT
at_most_one zero le = omega arith
at_most_one (suc n) le = omega (arith, le)

record IsOfAmounts (i : Input) : Type 0 where
  added : added_by (ComesOf i) ≤ GREATEST_AMOUNT
  told : told_amount i ≤ GREATEST_AMOUNT

of_amounts : (i : Input) → is_in_form i ≡ true → IsOfAmounts i
of_amounts (input.Authorization token card currency amount mcc mid partial) form =
    record { added = at_most_one amount (most_amount amount (and_parts (is_amount amount) (is_mcc mcc) form).0); told = omega arith }
of_amounts (input.Increment token txn currency amount) form = record { added = at_most_one amount (most_amount amount form); told = omega arith }
of_amounts (input.Clearing token txn currency amount last) form = record { added = omega arith; told = most_amount amount form }
of_amounts (input.Refund token txn currency amount) form = record { added = omega arith; told = most_amount amount form }
of_amounts _ form = record { added = omega arith; told = omega arith }

-- a step of a core ----

-- the test of a notice, whatever stands
abbrev is_told : ℕ → CoreState → Notice → Bool
is_told most s n = tells_at_most most n

told_lasts : (most : ℕ) → Lasts (is_told most)
told_lasts most s e n h = h

-- a record was taken up, all is held well, and amounts are within these
record StaysWithin (i : Input) (few most : ℕ) (s : CoreState) : Type 0 where
  taken : HasTakenUp s i
  held : IsHeldWell s
  weighs : weight s ≤ few
  told : AllPass (is_told most) s

module _ (few most : ℕ) (room : few ≤ most) where
  thing_within : (i : Input) (at : ℕ) (s : CoreState) (thing : DueThing) → StaysWithin i few most s → StaysWithin i few most (fold after_entry s (thing_entries thing at (core_facts s)))
  thing_within i at s thing now =
      let ready : IsReadyFor FallsDue s = due_ready now.taken.well now.held in
      let h : IsOrderlyState s = orderly s now.taken.well now.held in
      let es = thing_entries thing at (core_facts s) in
      record {
        taken = ready_settled s i thing at now.taken;
        held = thing_held s i thing at now.taken now.held;
        weighs = omega (arith, thing_adds s thing at ready h, now.weighs);
        told = entries_pass (is_told most) (told_lasts most) s es
            (passes_told (is_told most) (told_lasts most) s es
            (row_at_most FallsDue at s ready h 0 most (omega (arith, now.weighs, room)) (omega arith) (omega arith) (thing_acts thing at (core_facts s)) (thing_row (core_facts s) thing at) (thing_said (core_facts s) 0 thing at))) now.told;
      }

-- what is within after a step
record IsWithin (few most : ℕ) (s : CoreState) : Type 0 where
  weighs : weight s ≤ few
  told : AllPass (is_told most) s

own_within : (few : ℕ) (i : Input) (at : ℕ) (s : CoreState) → IsOfAmounts i → StaysWithin i few (few + GREATEST_AMOUNT) s → IsWithin (few + GREATEST_AMOUNT) (few + GREATEST_AMOUNT) (fold after_entry s (entries_of i at (core_facts s)))
own_within few i at s amounts now =
    let most : ℕ = few + GREATEST_AMOUNT in
    let ready : IsReadyFor (ComesOf i) s = input_ready now.taken now.held in
    let h : IsOrderlyState s = orderly s now.taken.well now.held in
    let es = entries_of i at (core_facts s) in
    record {
      weighs = omega (arith, own_adds s i at ready h, now.weighs, amounts.added);
      told = entries_pass (is_told (few + GREATEST_AMOUNT)) (told_lasts (few + GREATEST_AMOUNT)) s es
          (passes_told (is_told (few + GREATEST_AMOUNT)) (told_lasts (few + GREATEST_AMOUNT)) s es
          (row_at_most (ComesOf i) at s ready h (told_amount i) (few + GREATEST_AMOUNT) (omega (arith, now.weighs)) (omega (arith, amounts.added)) (omega (arith, amounts.told)) (acts_of i at (core_facts s))
          (input_row (core_facts s) i at) (own_said (core_facts s) i at))) now.told;
    }

-- a limit that is raised
raised : (few : ℕ) (ns : List Notice) → list_all (tells_at_most few) ns ≡ true → list_all (tells_at_most (few + GREATEST_AMOUNT)) ns ≡ true
raised few ns h = all_weaker (tells_at_most few) (tells_at_most (few + GREATEST_AMOUNT)) one ns h
  where
    still : (n few extra : ℕ) → nat_le n few ≡ true → nat_le n (few + extra) ≡ true
    still n few extra h = grind (arith, nat_tests)

    one : (n : Notice) → tells_at_most few n ≡ true → tells_at_most (few + GREATEST_AMOUNT) n ≡ true
    one n h =
        let both = and_parts (nat_le n.amount few) (nat_le n.gateway few) h in
        both_so (nat_le n.amount (few + GREATEST_AMOUNT)) (nat_le n.gateway (few + GREATEST_AMOUNT)) (still n.amount few GREATEST_AMOUNT both.0) (still n.gateway few GREATEST_AMOUNT both.1)

step_within : (few : ℕ) (c : CoreState) (r : Record) → is_in_form r.input ≡ true → IsNewEvent c r.input → IsWell c → IsHeldWell c → IsWithin few few c
    → IsWithin (few + GREATEST_AMOUNT) (few + GREATEST_AMOUNT) (step core_keeper c r).world
unfolding step
step_within few c r form new well held now =
    let up : CoreState = with_record c r in
    let due : CoreState = (after_due core_keeper up r.at).world in
    own_within few r.input r.at due (of_amounts r.input form)
    (due_stays (StaysWithin r.input few (few + GREATEST_AMOUNT)) r.at (λ s thing now. thing_within few (few + GREATEST_AMOUNT) (omega arith) r.input r.at s thing now) up
    (record { taken = ready_taken c r well new; held = held; weighs = now.weighs; told = raised few c.outbox.pending now.told }))

-- a state, and the core that is made again ----

carried_own : (ts : List Carried) → are_distinct (map (λ t. t.txn) ts) ≡ true → Each (λ t. carried_named t.txn ts ≡ Some t) ts
carried_own [] h = tt
carried_own (t ∷ ts) h =
    let both = and_parts (not (is_named_in (map (λ t. t.txn) ts) t.txn)) (are_distinct (map (λ t. t.txn) ts)) h in
    (ap (λ (b : Bool). cond b (Some t) (carried_named t.txn ts)) (its_name t.txn), later (turned (is_named_in (map (λ t. t.txn) ts) t.txn) both.0) ts (carried_own ts both.1))
  where
    turned : (b : Bool) → not b ≡ true → b ≡ false
    turned true h = cc
    turned false h = refl

    later : is_named_in (map (λ t. t.txn) ts) t.txn ≡ false → (xs : List Carried) → Each (λ x. carried_named x.txn ts ≡ Some x) xs → Each (λ x. carried_named x.txn (t ∷ ts) ≡ Some x) xs
    later none [] e = tt
    later none (x ∷ xs) e = (by (bytes_eq t.txn x.txn) refl, later none xs e.1)
      where
        by : (b : Bool) → bytes_eq t.txn x.txn ≡ b → cond b (Some t) (carried_named x.txn ts) ≡ Some x
        by false k = e.0
        by true k =
            not_both (list_any (λ (y : Carried). bytes_eq y.txn t.txn) ts)
            (found_any (λ (y : Carried). bytes_eq y.txn x.txn) (λ (y : Carried). bytes_eq y.txn t.txn) ts x e.0 (same_name x.txn t.txn (sym (one_name t.txn x.txn k))))
            (sym (any_mapped (λ (name : List ℕ). bytes_eq name t.txn) (λ (y : Carried). y.txn) ts) ∙ none)

module _ (s : State) (h : IsWellFormed s) where
  abbrev c : CoreState
  c = rebuilt s

  same_names : txn_tokens c.holdings.txns ≡ map (λ (t : Carried). t.txn) s.txns
  same_names =
      sym (map-map standing (λ (p : List ℕ × Bool). p.0) c.holdings.txns) ∙ ap (map (λ (p : List ℕ × Bool). p.0)) h.own.begun ∙ map-map listed (λ (p : List ℕ × Bool). p.0) s.txns

  part_is : (t : Carried) → carried_named t.txn s.txns ≡ Some t → (p : Part) → not_below (part_sum c.holdings.parts t.txn p) ≡ amount_in p t
  part_is t e p = ap not_below (part_at s h.own h.holds t.txn p ∙ ap (carried_part p) e)

  held_of_each : (ts : List Carried) → Each (λ t. carried_named t.txn s.txns ≡ Some t) ts → total_held (map (λ t. t.txn) ts) c.holdings.parts ≡ held_together ts
  held_of_each [] e = refl
  held_of_each (t ∷ ts) e = λ i. (part_is t e.0 part.G i + part_is t e.0 part.P i + part_is t e.0 part.S i) + held_of_each ts e.1 i

  same_weight : weight c ≡ committed_in s
  same_weight =
      let well : IsWell c = well_again s h.order h.pending h.own in
      let distinct = distinct_names c.holdings.txns well.docket.txns.tokens in
      ap (λ (n : ℕ). n + total_asked c.calls)
      (ap (λ (names : List (List ℕ)). total_held names c.holdings.parts) same_names ∙ held_of_each s.txns (carried_own s.txns (ap are_distinct (sym same_names) ∙ distinct)))

-- what is shown ----

held_shown : (w : CoreState) (ts : List TxnNow) → held_together (map (carried_in w) ts) ≡ total_held (txn_tokens ts) w.holdings.parts
held_shown w [] = refl
held_shown w (t ∷ ts) = ap (λ (n : ℕ). whole_held w.holdings.parts t.txn.token + n) (held_shown w ts)

within_shown : (w : CoreState) → HasCallsAgain w → IsWithin (most_of_records w.count) (most_of_records w.count) w → AmountsFit (shown w)
within_shown w calls now = record { held = omega (arith, held_shown w w.holdings.txns, ap total_asked calls, now.weighs); told = now.told }

one_more : (records count : ℕ) → count ≡ records + 1 → records * GREATEST_AMOUNT + GREATEST_AMOUNT ≡ most_of_records count
one_more records count e = omega (arith, e)

pub amounts_after : (s : State) (r : Record) → IsWellFormed s → AmountsFit s → IsNewOnState s r → AmountsFit (state_after s r)
amounts_after s r h amounts now =
    let c : CoreState = rebuilt s in
    let w : CoreState = (step core_keeper c r).world in
    let new : IsNewEvent c r.input = judged_new c r now.new in
    let well : IsWell c = well_again s h.order h.pending h.own in
    let form : is_in_form r.input ≡ true = (and_parts (is_in_form r.input) (list_all is_token (tokens_of r.input)) (and_parts (is_stamp r.at) (has_spelling r.input) now.form).1).0 in
    let later = step_within (most_of_records s.records) c r form new well (held_again s h.own h.holds) (record { weighs = omega (arith, same_weight s h, amounts.held); told = amounts.told }) in
    within_shown w (again_after s r h now).calls (subst (λ (n : ℕ). IsWithin n n w) (one_more s.records w.count (step_takes_up c r).count) later)

pub none_within : AmountsFit no_state
none_within = record { held = omega arith; told = refl }

-- legal records ----

record IsOfRecords (n : ℕ) (c : CoreState) : Type 0 where
  well : IsWell c
  held : IsHeldWell c
  within : IsWithin (most_of_records n) (most_of_records n) c

abbrev IsOfRecordsInForm : List Record → CoreState → Type 0
IsOfRecordsInForm rs c = AreInForm rs → IsOfRecords (length rs) c

of_records_kept : IsKept IsOfRecordsInForm
of_records_kept rs r new h form =
    let c : CoreState = core_of rs in
    let both = and_parts (list_all (λ (x : Record). is_in_form x.input) rs) (is_in_form r.input && true) (sym (list_all-append (λ (x : Record). is_in_form x.input) rs (r ∷ [])) ∙ form) in
    let own = and_parts (is_in_form r.input) true both.1 in
    let before = h both.0 in
    record {
      well = step_well c r new before.well;
      held = step_held c r new before.well before.held;
      within =
          subst (λ (n : ℕ). IsWithin n n (step core_keeper c r).world) (one_more (length rs) (length (rs ++ r ∷ [])) (length-append rs (r ∷ [])))
          (step_within (most_of_records (length rs)) c r own.0 new before.well before.held before.within);
    }

of_none : IsOfRecords 0 no_core
of_none = record { well = nothing_well; held = nothing_held; within = record { weighs = omega arith; told = refl } }

pub legal_amounts : (rs : List Record) → IsLegal rs → AreInForm rs → AmountsFit (state_of (history_of rs))
legal_amounts rs legal form =
    let its = legal_induction IsOfRecordsInForm (λ none. of_none) of_records_kept rs legal form in
    subst AmountsFit (state_shown rs)
    (within_shown (core_of rs) (legal_calls_rebuilt rs legal) (subst (λ (n : ℕ). IsWithin (most_of_records n) (most_of_records n) (core_of rs)) (sym (record_count rs)) its.within))
