-- The transactions of a sound state are in image form.
use Rattle.std.proofs.Common.{◌≡◌, ◌∙◌, ◌∷◌, ◌+◌, ◌*◌, ◌≤◌, ℕ, ap, arith, Bool, cond, false, length, List, [], refl, sym, true}
use Rattle.std.specs.Prelude.{Some, is_some}
use Rattle.std.specs.List.{list_all}
use Rattle.std.specs.Str.{bytes_eq}
use Rattle.std.proofs.lemmas.Bool.{and_parts}
use Rattle.iss_model.specs.declared.limits.TheConstants.{GREATEST_AMOUNT, MOST_RECORDS}
use Rattle.iss_model.specs.declared.state.Carried.{Carried}
use Rattle.iss_model.specs.declared.state.State.{State}
use Rattle.iss_model.specs.rules.Activity.{TxnNow, txn_named}
use Rattle.iss_model.proofs.Names.{its_name}
use Rattle.iss_state.proofs.docket.Lists.{Each, both_so, some_mapped}
use Rattle.iss_states.specs.Order.{AreInOrder}
use Rattle.iss_states.specs.Rebuilding.{carried_named, rebuilt}
use Rattle.iss_well_formed.specs.Again.{AreOfTheirEvents}
use Rattle.iss_well_formed.specs.Events.{AreMarkedWell, ArePendingIfAsked}
use Rattle.iss_well_formed.specs.Txns.{AreSumsDone}
use Rattle.iss_well_formed.proofs.HeldAgain.{carried_live}
use Rattle.iss_decided.specs.Approved.{AreApproved}
use Rattle.iss_decided.specs.Verdicts.{HaveSoundVerdicts}
use Rattle.iss_least.proofs.EventWeights.{approved_by, asked_by, done_by, events_fit, total_by}
use Rattle.iss_image_lists.specs.Forms.{are_sums, are_txns, has_room, is_txn}
use Rattle.iss_image_forms.proofs.TxnsCount.{txns_few, up_to}
use Rattle.iss_image_forms.proofs.TxnsSums.{HasSumsWithin, room_of_count, sums_have_room, sums_within}

-- what holds of each token that is found holds of each of these
all_named : (p : List ℕ → Bool) (ts : List Carried) → ((token : List ℕ) → is_some (carried_named token ts) ≡ true → p token ≡ true) → list_all (λ t. p t.txn) ts ≡ true
all_named p [] h = refl
all_named p (t ∷ ts) h =
    both_so (p t.txn) (list_all (λ x. p x.txn) ts) (h t.txn (ap (λ (b : Bool). is_some (cond b (Some t) (carried_named t.txn ts))) (its_name t.txn)))
    (all_named p ts (λ token e. h token (by token (bytes_eq t.txn token) e)))
  where
    by : (token : List ℕ) (b : Bool) → is_some (carried_named token ts) ≡ true → is_some (cond b (Some t) (carried_named token ts)) ≡ true
    by token true e = refl
    by token false e = e

-- a carried transaction is one that was begun
carried_begun : (s : State) → AreOfTheirEvents s → (token : List ℕ) → is_some (carried_named token s.txns) ≡ true → is_some (txn_named token (rebuilt s).holdings.txns) ≡ true
carried_begun s own token h =
    sym (some_mapped (λ (t : TxnNow). t.live) (txn_named token (rebuilt s).holdings.txns))
    ∙ ap is_some (sym (carried_live s own token))
    ∙ some_mapped (λ (t : Carried). t.sums.live) (carried_named token s.txns) ∙ h

-- a test of names that each transaction passes which was begun
abbrev pub PassesBegun : (List ℕ → Bool) → State → Type 0
PassesBegun is_name s = (token : List ℕ) → is_some (txn_named token (rebuilt s).holdings.txns) ≡ true → is_name token ≡ true

each_in_form : (is_name : List ℕ → Bool) (most : ℕ) (ts : List Carried) → most ≤ MOST_RECORDS * GREATEST_AMOUNT → list_all (λ t. is_name t.txn) ts ≡ true
    → Each (HasSumsWithin most) ts → list_all (is_txn is_name) ts ≡ true
each_in_form is_name most [] small h k = refl
each_in_form is_name most (t ∷ ts) small h k =
    let both = and_parts (is_name t.txn) (list_all (λ (x : Carried). is_name x.txn) ts) h in
    both_so (is_txn is_name t) (list_all (is_txn is_name) ts) (both_so (is_name t.txn) (are_sums t.sums) both.0 (sums_have_room most t small k.0))
    (each_in_form is_name most ts small both.1 k.1)

-- Transactions are in image form, for each test of names that those which were begun pass.
pub txns_in_form : (s : State) (is_name : List ℕ → Bool) → AreInOrder s → ArePendingIfAsked s → AreMarkedWell s → HaveSoundVerdicts s → AreOfTheirEvents s → AreApproved s
    → AreSumsDone s → PassesBegun is_name s → are_txns is_name s.txns ≡ true
txns_in_form s is_name order pending marked verdicts own approved done listed =
    let most : ℕ = s.records * GREATEST_AMOUNT in
    let few : s.records ≤ MOST_RECORDS = up_to s.records MOST_RECORDS order.few in
    both_so (has_room 4 (length s.txns)) (list_all (is_txn is_name) s.txns) (room_of_count (length s.txns) (fewer (length s.txns) s.records (txns_few s order own) few))
    (each_in_form is_name most s.txns (times s.records few) (all_named is_name s.txns (λ token e. listed token (carried_begun s own token e)))
    (sums_within most s.events s.txns
    (part (total_by approved_by s.events) (total_by done_by s.events) (total_by asked_by s.events) most
    (events_fit s.records s.events order.numbers (record { records = order.records; pending = pending; marked = marked; parts = verdicts.parts })))
    approved done.listed))
  where
    part : (a d q most : ℕ) → (a + d) + q ≤ most → a + d ≤ most
    part a d q most h = omega (arith, h)

    times : (n : ℕ) → n ≤ MOST_RECORDS → n * GREATEST_AMOUNT ≤ MOST_RECORDS * GREATEST_AMOUNT
    times n h = omega (arith, h)

    fewer : (n m : ℕ) → n ≤ m → m ≤ MOST_RECORDS → n ≤ 4 * MOST_RECORDS
    fewer n m h k = omega (arith, h, k)
