-- Nothing is cleared or refunded of a transaction that isn't listed, and a step keeps it so.
use Rattle.std.proofs.Common.{◌≡◌, ◌∙◌, ◌∷◌, ◌+ℤ◌, ℕ, ℤ, pos, ap, arith, Bool, cond, false, fold, List, [], refl, sym, true}
use Rattle.std.specs.Prelude.{Option, Some, None, unwrap_or}
use Rattle.std.specs.Str.{bytes_eq}
use Rattle.std.proofs.lemmas.Int.{ints}
use Rattle.iss_model.specs.declared.entry.Entry.{Entry}
use Rattle.iss_model.specs.declared.input.Input.{Input}
use Rattle.iss_model.specs.declared.input.Input.TheVariants as input
use Rattle.iss_model.specs.declared.input.Record.{Record}
use Rattle.iss_model.specs.Inputs.{event_token}
use Rattle.iss_model.specs.Sums.{Change, cleared_by, refunded_by, txn_changes}
use Rattle.iss_model.specs.rules.Activity.{TxnNow, txn_named}
use Rattle.iss_model.specs.rules.CardActs.{clearing_acts, refund_acts}
use Rattle.iss_model.specs.rules.CardReasons.{clearing_reason, refund_reason}
use Rattle.iss_model.specs.rules.Due.{DueThing, thing_entries}
use Rattle.iss_model.specs.rules.Facts.{verdict_in}
use Rattle.iss_model.specs.rules.Acts.{entries_of_acts}
use Rattle.iss_model.specs.rules.Stepping.{acts_unless, after_due, entries_of, step}
use Rattle.iss_model.specs.state.Cores.{CoreState, after_entry, core_facts, core_keeper, with_record}
use Rattle.iss_model.proofs.Names.{one_name}
use Rattle.iss_acts.proofs.Stepping.{due_stays}
use Rattle.iss_state.specs.Pending.{HasTakenUp, IsWell}
use Rattle.iss_state.specs.Sound.{IsNewEvent}
use Rattle.iss_state.proofs.calls.Steps.{ready_settled, ready_taken}
use Rattle.iss_states.specs.Fairness.{changed_among}
use Rattle.iss_states.specs.Rebuilding.{is_done}
use Rattle.iss_states.proofs.FairSums.{entries_sum, entry_cleared, entry_refunded}
use Rattle.iss_states.proofs.Found.{entry_keeps}
use Rattle.iss_well_formed.proofs.DonePosts.{due_clears, due_refunds, own_clears, own_refunds}
use Rattle.iss_well_formed.proofs.SumSteps.{cleared_in, refunded_in}

-- what isn't listed after entries wasn't before
pub unlisted_before : (s : CoreState) (es : List Entry) (key : List ℕ) → txn_named key (fold after_entry s es).holdings.txns ≡ None → txn_named key s.holdings.txns ≡ None
unlisted_before s [] key h = h
unlisted_before s (e ∷ es) key h = by (txn_named key s.holdings.txns) refl (unlisted_before (after_entry s e) es key h)
  where
    by : (o : Option TxnNow) → txn_named key s.holdings.txns ≡ o → txn_named key (after_entry s e).holdings.txns ≡ None → o ≡ None
    by None f g = refl
    by (Some t) f g = let later = (entry_keeps s e).txns key t f in let bad : None ≡ Some later.0 = sym g ∙ later.1 in cc

-- nothing is kept of what isn't listed
abbrev pub IsUnkept : (CoreState → List ℕ → ℤ) → CoreState → Type 0
IsUnkept sum c = (key : List ℕ) → txn_named key c.holdings.txns ≡ None → sum c key ≡ pos 0

module _ (sum : CoreState → List ℕ → ℤ) (changes : Entry → List Change)
    (entries_sums : (s : CoreState) (es : List Entry) (key : List ℕ) → sum (fold after_entry s es) key ≡ sum s key +ℤ changed_among changes key es)
    (taken : (s : CoreState) (r : Record) (key : List ℕ) → sum (with_record s r) key ≡ sum s key)
    (due : (s : CoreState) (thing : DueThing) (at : ℕ) (key : List ℕ) → changed_among changes key (thing_entries thing at (core_facts s)) ≡ pos 0)
    (own : (s : CoreState) (i : Input) (at : ℕ) (key : List ℕ) → HasTakenUp s i → txn_named key s.holdings.txns ≡ None → changed_among changes key (entries_of i at (core_facts s)) ≡ pos 0) where
  record StaysUnkept (i : Input) (s : CoreState) : Type 0 where
    ready : HasTakenUp s i
    unkept : IsUnkept sum s

  both_nothing : (x y z : ℤ) → x ≡ y +ℤ z → y ≡ pos 0 → z ≡ pos 0 → x ≡ pos 0
  both_nothing x y z e f g = omega (arith, ints, e, f, g)

  entries_unkept : (s : CoreState) (es : List Entry) → IsUnkept sum s → ((key : List ℕ) → txn_named key s.holdings.txns ≡ None → changed_among changes key es ≡ pos 0) → IsUnkept sum (fold after_entry s es)
  entries_unkept s es h none key out =
      let before = unlisted_before s es key out in both_nothing (sum (fold after_entry s es) key) (sum s key) (changed_among changes key es) (entries_sums s es key) (h key before) (none key before)

  pub step_unkept : (c : CoreState) (r : Record) → IsNewEvent c r.input → IsWell c → IsUnkept sum c → IsUnkept sum (step core_keeper c r).world
  unfolding step
  step_unkept c r new well h =
      let up : CoreState = with_record c r in
      let later : CoreState = (after_due core_keeper up r.at).world in
      let now : StaysUnkept r.input later = due_stays (StaysUnkept r.input) r.at one up (record { ready = ready_taken c r well new; unkept = λ key out. taken c r key ∙ h key out }) in
      entries_unkept later (entries_of r.input r.at (core_facts later)) now.unkept (λ key out. own later r.input r.at key now.ready out)
    where
      one : (s : CoreState) (thing : DueThing) → StaysUnkept r.input s → StaysUnkept r.input (fold after_entry s (thing_entries thing r.at (core_facts s)))
      one s thing now =
          record { ready = ready_settled s r.input thing r.at now.ready; unkept = entries_unkept s (thing_entries thing r.at (core_facts s)) now.unkept (λ key out. due s thing r.at key) }

-- a worth of 0 is 0, done or not
no_worth : (b : Bool) (n : ℕ) → n ≡ 0 → pos (cond b n 0) ≡ pos 0
no_worth true n e = ap (λ (n : ℕ). pos n) e
no_worth false n e = refl

-- an amount of another transaction is none of this one
other_amount : (b : Bool) (amount : ℕ) → b ≡ false → cond b amount 0 ≡ 0
other_amount true amount e = cc
other_amount false amount e = refl

clears_listed : (s : CoreState) (i : Input) (at : ℕ) (key : List ℕ) → HasTakenUp s i → txn_named key s.holdings.txns ≡ None → changed_among (txn_changes cleared_by) key (entries_of i at (core_facts s)) ≡ pos 0
clears_listed s (input.Clearing token txn currency amount last) at key ready out = by (bytes_eq txn key) refl
  where
    none : (o : Option TxnNow) → o ≡ None → changed_among (txn_changes cleared_by) key (entries_of_acts (acts_unless (clearing_reason o currency) token (clearing_acts (core_facts s) token amount last at o))) ≡ pos 0
    none None e = refl
    none (Some t) e = cc

    by : (b : Bool) → bytes_eq txn key ≡ b → changed_among (txn_changes cleared_by) key (entries_of (input.Clearing token txn currency amount last) at (core_facts s)) ≡ pos 0
    by true e = none (txn_named txn s.holdings.txns) (ap (λ (k : List ℕ). txn_named k s.holdings.txns) (one_name txn key e) ∙ out)
    by false e =
        own_clears s (input.Clearing token txn currency amount last) at key ready
        ∙ no_worth (is_done (verdict_in (fold after_entry s (entries_of (input.Clearing token txn currency amount last) at (core_facts s))).decisions token)) (cond (bytes_eq txn key) amount 0) (other_amount (bytes_eq txn key) amount e)
clears_listed s i at key ready out =
    own_clears s i at key ready ∙ no_worth (is_done (verdict_in (fold after_entry s (entries_of i at (core_facts s))).decisions (unwrap_or (event_token i) []))) 0 refl

refunds_listed : (s : CoreState) (i : Input) (at : ℕ) (key : List ℕ) → HasTakenUp s i → txn_named key s.holdings.txns ≡ None → changed_among (txn_changes refunded_by) key (entries_of i at (core_facts s)) ≡ pos 0
refunds_listed s (input.Refund token txn currency amount) at key ready out = by (bytes_eq txn key) refl
  where
    none : (o : Option TxnNow) → o ≡ None → changed_among (txn_changes refunded_by) key (entries_of_acts (acts_unless (refund_reason (core_facts s) o currency amount) token (refund_acts (core_facts s) token amount o))) ≡ pos 0
    none None e = refl
    none (Some t) e = cc

    by : (b : Bool) → bytes_eq txn key ≡ b → changed_among (txn_changes refunded_by) key (entries_of (input.Refund token txn currency amount) at (core_facts s)) ≡ pos 0
    by true e = none (txn_named txn s.holdings.txns) (ap (λ (k : List ℕ). txn_named k s.holdings.txns) (one_name txn key e) ∙ out)
    by false e =
        own_refunds s (input.Refund token txn currency amount) at key ready
        ∙ no_worth (is_done (verdict_in (fold after_entry s (entries_of (input.Refund token txn currency amount) at (core_facts s))).decisions token)) (cond (bytes_eq txn key) amount 0) (other_amount (bytes_eq txn key) amount e)
refunds_listed s i at key ready out =
    own_refunds s i at key ready ∙ no_worth (is_done (verdict_in (fold after_entry s (entries_of i at (core_facts s))).decisions (unwrap_or (event_token i) []))) 0 refl

-- both sums
pub record AreUnkept (c : CoreState) : Type 0 where
  pub cleared : IsUnkept cleared_in c
  pub refunded : IsUnkept refunded_in c

pub sums_unkept : (c : CoreState) (r : Record) → IsNewEvent c r.input → IsWell c → AreUnkept c → AreUnkept (step core_keeper c r).world
sums_unkept c r new well h =
    record {
      cleared = step_unkept cleared_in (txn_changes cleared_by) (entries_sum cleared_in (txn_changes cleared_by) entry_cleared) (λ s r key. refl) due_clears clears_listed c r new well h.cleared;
      refunded = step_unkept refunded_in (txn_changes refunded_by) (entries_sum refunded_in (txn_changes refunded_by) entry_refunded) (λ s r key. refl) due_refunds refunds_listed c r new well h.refunded;
    }
