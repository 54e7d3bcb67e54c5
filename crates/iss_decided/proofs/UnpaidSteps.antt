-- A step pays nothing from the programme for transactions that the gateway doesn't pay, and so it is shown.
use Rattle.std.proofs.Common.{◌≡◌, ◌∙◌, ◌∷◌, ◌||◌, ◌==◌, ◌+ℤ◌, ◌≤◌, ℕ, ℤ, pos, ap, arith, Bool, cond, false, fold, List, [], map, not, refl, subst, sym, true}
use Rattle.std.specs.Prelude.{Option, Some, None, unwrap_or}
use Rattle.std.specs.List.{list_all}
use Rattle.std.specs.Cmp.Lexicographic.{slice_cmp}
use Rattle.std.specs.FinMap.Entries.{find}
use Rattle.std.specs.Ordering.{nat_cmp}
use Rattle.std.specs.Str.{bytes_eq}
use Rattle.std.proofs.lemmas.Bool.{and_parts}
use Rattle.std.proofs.lemmas.Int.{ints}
use Rattle.iss_model.specs.declared.account.Part.TheVariants as part
use Rattle.iss_model.specs.declared.entry.Entry.{Entry}
use Rattle.iss_model.specs.declared.input.Input.{Input}
use Rattle.iss_model.specs.declared.input.Record.{Record}
use Rattle.iss_model.specs.declared.state.Carried.{Carried}
use Rattle.iss_model.specs.declared.state.State.{State}
use Rattle.iss_model.specs.Sums.{paid_by, txn_changes}
use Rattle.iss_model.specs.rules.Activity.{TxnNow, txn_named}
use Rattle.iss_model.specs.rules.CardReasons.{is_account_funded}
use Rattle.iss_model.specs.rules.Due.{DueThing, thing_entries}
use Rattle.iss_model.specs.rules.Facts.{not_below}
use Rattle.iss_model.specs.rules.Histories.{IsLegal}
use Rattle.iss_model.specs.rules.Reasons.{is_some_with}
use Rattle.iss_model.specs.rules.Stepping.{after_due, entries_of, step}
use Rattle.iss_model.specs.state.Cores.{CoreState, after_entry, core_facts, core_keeper, core_of, with_record}
use Rattle.iss_model.specs.state.Kept.{kept_at}
use Rattle.iss_model.proofs.Names.{one_name}
use Rattle.iss_acts.specs.Causes.{ComesOf, FallsDue}
use Rattle.iss_acts.proofs.Stepping.{due_stays}
use Rattle.iss_acts.proofs.Walk.{due_goes, own_goes}
use Rattle.iss_state.specs.Holdings.{IsHeldWell, is_part_of, may_have}
use Rattle.iss_state.specs.Pending.{HasTakenUp, IsWell}
use Rattle.iss_state.specs.Sound.{IsNewEvent}
use Rattle.iss_state.proofs.calls.Steps.{ready_settled, ready_taken}
use Rattle.iss_state.proofs.effects.Finds.{number_is}
use Rattle.iss_state.proofs.held.Inputs.{due_ready, input_ready}
use Rattle.iss_state.proofs.held.Steps.{nothing_held, step_held, thing_held}
use Rattle.iss_state.proofs.held.Times.{entries_now, stamp_by_now}
use Rattle.iss_state.proofs.calls.Legal.{nothing_well}
use Rattle.iss_state.proofs.calls.Steps.{step_well}
use Rattle.iss_state.proofs.invariants.Legal.{legal_induction}
use Rattle.iss_states.specs.Rebuilding.{rebuilt}
use Rattle.iss_states.specs.Showing.{carried_in, shown}
use Rattle.iss_states.proofs.FairSums.{entries_sum, entry_paid}
use Rattle.iss_rebuilt.specs.Purchases.{HasTxnsAgain}
use Rattle.iss_rebuilt.proofs.MadeShown.{own_found}
use Rattle.iss_rebuilt.proofs.MadeSteps.{legal_txns_rebuilt}
use Rattle.iss_well_formed.proofs.FairAgain.{found_at, got}
use Rattle.iss_well_formed.proofs.HeldAgain.{same_test}
use Rattle.iss_well_formed.proofs.OwnEvents.{all_of_each}
use Rattle.iss_well_formed.proofs.ShownTxns.{IsFound, all_carried, no_amount}
use Rattle.iss_well_formed.proofs.SumSteps.{none_kept}
use Rattle.iss_decided.specs.Approved.{OwnAreUnpaid, is_unpaid_if_own}
use Rattle.iss_decided.proofs.UnpaidActs.{StaysUnpaid, before_too, paid_among, start_now, stay_unpaid}

-- what the programme has paid for a transaction
abbrev pub paid_in : CoreState → List ℕ → ℤ
paid_in c token = kept_at c.txn_sums.paid token

-- the programme has paid nothing for a transaction that the gateway doesn't pay, or that isn't listed
abbrev pub IsUnpaid : CoreState → Type 0
IsUnpaid c = (token : List ℕ) → may_have c.holdings.txns token part.G ≡ false → paid_in c token ≡ pos 0

-- a step ----

entries_unpaid : (s : CoreState) (es : List Entry) → IsUnpaid s → StaysUnpaid s es → IsUnpaid (fold after_entry s es)
entries_unpaid s es h more token out =
    both_nothing (paid_in (fold after_entry s es) token) (paid_in s token) (paid_among token es) (entries_sum paid_in (txn_changes paid_by) entry_paid s es token) (h token (before_too s es token out)) (more token out)
  where
    both_nothing : (x y z : ℤ) → x ≡ y +ℤ z → y ≡ pos 0 → z ≡ pos 0 → x ≡ pos 0
    both_nothing x y z e f g = omega (arith, ints, e, f, g)

-- a record of this stamp was taken up, all is held well, and nothing is paid
record IsUnpaidReady (i : Input) (at : ℕ) (s : CoreState) : Type 0 where
  early : at ≤ s.now
  taken : HasTakenUp s i
  held : IsHeldWell s
  unpaid : IsUnpaid s

due_unpaid : (i : Input) (at : ℕ) (s : CoreState) (thing : DueThing) → IsUnpaidReady i at s → IsUnpaidReady i at (fold after_entry s (thing_entries thing at (core_facts s)))
due_unpaid i at s thing now =
    let es : List Entry = thing_entries thing at (core_facts s) in
    let ready = due_ready now.taken.well now.held in
    record {
      early = subst (λ (n : ℕ). at ≤ n) (sym (entries_now s es)) now.early;
      taken = ready_settled s i thing at now.taken;
      held = thing_held s i thing at now.taken now.held;
      unpaid = entries_unpaid s es now.unpaid (due_goes (core_facts s) thing at s (stay_unpaid FallsDue at s ready (λ i e. cc)) (start_now FallsDue at s ready (λ i e. cc))).holds;
    }

pub step_unpaid : (c : CoreState) (r : Record) → IsNewEvent c r.input → IsWell c → IsHeldWell c → IsUnpaid c → IsUnpaid (step core_keeper c r).world
unfolding step
step_unpaid c r new well held h =
    let up : CoreState = with_record c r in
    let later : CoreState = (after_due core_keeper up r.at).world in
    let now : IsUnpaidReady r.input r.at later =
    due_stays (IsUnpaidReady r.input r.at) r.at (due_unpaid r.input r.at) up (record { early = stamp_by_now c r; taken = ready_taken c r well new; held = held; unpaid = h })
    in
    let ready = input_ready now.taken now.held in
    entries_unpaid later (entries_of r.input r.at (core_facts later)) now.unpaid
    (own_goes (core_facts later) r.input r.at later (stay_unpaid (ComesOf r.input) r.at later ready (λ i e. now.early)) (start_now (ComesOf r.input) r.at later ready (λ i e. now.early))).holds

-- a core that is made again ----

unpaid_at : (txns : List TxnNow) (token : List ℕ) → may_have txns token part.G ≡ false → (ts : List Carried) → list_all (is_unpaid_if_own txns) ts ≡ true → found_at token (map (λ t. (t.txn, pos t.sums.paid)) ts) ≡ pos 0
unpaid_at txns token out [] h = refl
unpaid_at txns token out (t ∷ ts) h =
    let both = and_parts (is_unpaid_if_own txns t) (list_all (is_unpaid_if_own txns) ts) h in
    ap (λ (b : Bool). unwrap_or (cond b (Some (pos t.sums.paid)) (find (slice_cmp nat_cmp) token (map (λ t. (t.txn, pos t.sums.paid)) ts))) (pos 0)) (same_test token t)
    ∙ by (bytes_eq t.txn token) refl both.0 (unpaid_at txns token out ts both.1)
  where
    nothing : (n : ℕ) → (n == 0) ≡ true → pos n ≡ pos 0
    nothing n h = ap (λ (n : ℕ). pos n) (number_is n 0 h)

    own : (o : Option TxnNow) → is_some_with (λ (x : TxnNow). is_part_of part.G x.txn.funding) o ≡ false
        → is_some_with (λ (x : TxnNow). not (is_account_funded x.txn.funding) || t.sums.paid == 0) o ≡ true → pos t.sums.paid ≡ pos 0
    own None e g = cc
    own (Some x) e g = nothing t.sums.paid (ap (λ (b : Bool). b || t.sums.paid == 0) (sym e) ∙ g)

    by : (b : Bool) → bytes_eq t.txn token ≡ b → is_unpaid_if_own txns t ≡ true → found_at token (map (λ t. (t.txn, pos t.sums.paid)) ts) ≡ pos 0
        → unwrap_or (cond b (Some (pos t.sums.paid)) (find (slice_cmp nat_cmp) token (map (λ t. (t.txn, pos t.sums.paid)) ts))) (pos 0) ≡ pos 0
    by false e g rest = rest
    by true e g rest =
        own (txn_named token txns) out
        (ap (λ (k : List ℕ). is_some_with (λ (x : TxnNow). not (is_account_funded x.txn.funding) || t.sums.paid == 0) (txn_named k txns)) (sym (one_name t.txn token e)) ∙ g)

pub unpaid_again : (s : State) → OwnAreUnpaid s → IsUnpaid (rebuilt s)
unpaid_again s h token out = got (map (λ t. (t.txn, pos t.sums.paid)) s.txns) token ∙ unpaid_at (rebuilt s).holdings.txns token out s.txns h

-- what is shown ----

unpaid_one : (w : CoreState) → IsUnpaid w → (t : TxnNow) → IsFound w t → is_unpaid_if_own w.holdings.txns (carried_in w t) ≡ true
unpaid_one w h t found =
    ap (is_some_with (λ (x : TxnNow). not (is_account_funded x.txn.funding) || not_below (paid_in w t.txn.token) == 0)) found ∙ by (is_account_funded t.txn.funding) refl
  where
    by : (b : Bool) → is_account_funded t.txn.funding ≡ b → (not b || not_below (paid_in w t.txn.token) == 0) ≡ true
    by false e = refl
    by true e = no_amount (paid_in w t.txn.token) (h t.txn.token (ap (is_some_with (λ (x : TxnNow). is_part_of part.G x.txn.funding)) found ∙ ap not e))

pub unpaid_shown : (w : CoreState) → IsWell w → HasTxnsAgain w → IsUnpaid w → OwnAreUnpaid (shown w)
unpaid_shown w well txns h =
    ap (λ (ts : List TxnNow). list_all (is_unpaid_if_own ts) (shown w).txns) txns
    ∙ all_carried w (is_unpaid_if_own w.holdings.txns) w.holdings.txns
    (all_of_each (IsFound w) (λ (t : TxnNow). is_unpaid_if_own w.holdings.txns (carried_in w t)) (unpaid_one w h) w.holdings.txns (own_found w.holdings.txns well.docket.txns.tokens))

-- all records ----

record IsUnpaidWell (c : CoreState) : Type 0 where
  well : IsWell c
  held : IsHeldWell c
  unpaid : IsUnpaid c

pub legal_unpaid : (rs : List Record) → IsLegal rs → OwnAreUnpaid (shown (core_of rs))
legal_unpaid rs legal =
    let h = legal_induction (λ rs c. IsUnpaidWell c) (record { well = nothing_well; held = nothing_held; unpaid = λ token out. none_kept token })
    (λ rs r new h. record {
      well = step_well (core_of rs) r new h.well;
      held = step_held (core_of rs) r new h.well h.held;
      unpaid = step_unpaid (core_of rs) r new h.well h.held h.unpaid;
    }) rs legal
    in unpaid_shown (core_of rs) h.well (legal_txns_rebuilt rs legal) h.unpaid
