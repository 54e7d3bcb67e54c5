-- Parts go with marks: what a core shows of them, and what its events show of it.
use Rattle.std.proofs.Common.{◌≡◌, ◌∙◌, ◌&&◌, ◌==◌, ℕ, ap, Bool, false, find, List, map, nat_lt, not, refl, sym, true}
use Rattle.std.specs.Prelude.{Option, Some, None, is_some}
use Rattle.std.specs.List.{list_all}
use Rattle.std.proofs.lemmas.Bool.{and_parts}
use Rattle.iss_model.specs.declared.call.CallState.{CallState}
use Rattle.iss_model.specs.declared.call.CallState.TheVariants as call_state
use Rattle.iss_model.specs.declared.call.How.{How}
use Rattle.iss_model.specs.declared.call.How.TheVariants as how
use Rattle.iss_model.specs.declared.call.Opened.{Opened}
use Rattle.iss_model.specs.declared.currency.Currency.{Currency}
use Rattle.iss_model.specs.declared.decision.Verdict.{Verdict}
use Rattle.iss_model.specs.declared.decision.Verdict.TheVariants as verdict
use Rattle.iss_model.specs.declared.input.Input.{Input}
use Rattle.iss_model.specs.declared.input.Input.TheVariants as input
use Rattle.iss_model.specs.Currencies.{iso_number, same_currency}
use Rattle.iss_model.specs.Inputs.{is_event}
use Rattle.iss_model.specs.rules.Activity.{CallNow, TxnNow, call_numbered, txn_named}
use Rattle.iss_model.specs.rules.CardReasons.{is_account_funded}
use Rattle.iss_model.specs.rules.Facts.{Accepted, verdict_in}
use Rattle.iss_model.specs.rules.Reasons.{is_some_with}
use Rattle.iss_model.specs.state.Cores.{CoreState}
use Rattle.iss_model.proofs.Accounts.{one_currency}
use Rattle.iss_model.proofs.Lists.{find_passes}
use Rattle.iss_model.proofs.Names.{one_name}
use Rattle.iss_state.specs.Pending.{IsWell}
use Rattle.iss_state.specs.Well.{is_decided}
use Rattle.iss_state.proofs.docket.Lists.{Each, both_so, inside, not_both}
use Rattle.iss_state.proofs.effects.Finds.{number_is, same_number}
use Rattle.iss_states.specs.Again.{AreCallsAgain, IsCallAgain, amount_of_event, permits_part}
use Rattle.iss_states.specs.Parts.{PartsAgree}
use Rattle.iss_states.specs.Showing.{mark_in, mark_of, seen_in, token_of_event}
use Rattle.iss_states.proofs.Marks.{call_mark}
use Rattle.iss_states.proofs.SetSteps.{undecided_verdict}
use Rattle.iss_well_formed.proofs.OwnEvents.{IsOwn, all_of_each, own_token}
use Rattle.iss_well_formed.proofs.ShownEvents.{marked_as}
use Rattle.iss_well_formed.proofs.WellAgain.{all_mapped}
use Rattle.iss_decided.specs.Verdicts.{goes_with_part, do_parts_agree, may_be_marked, permits_this_part}
use Rattle.iss_decided.proofs.Fits.{FitTheirEvents, begins_own, call_begins, call_fits}
use Rattle.iss_decided.proofs.FitRows.{gateway_too}
use Rattle.iss_decided.proofs.ShownFits.{WasAccepted, passes_of, was_accepted}

-- verdicts and marks ----

abbrev is_part : Option Verdict → Bool
is_part (Some (verdict.Partial currency amount)) = true
is_part _ = false

-- without a part in the verdict there is none in the mark
unless_part : (i : Input) (v : Option Verdict) (m : Option CallState) → is_part v ≡ false → ((part : ℕ) → m ≡ Some (call_state.Closed (how.Partial part)) → ⊥) → goes_with_part i v m ≡ true
unless_part i (Some (verdict.Partial currency amount)) m plain none = cc
unless_part i v (Some (call_state.Closed (how.Partial part))) plain none = absurd (none part refl)
unless_part i v m plain none = refl

-- a part in the mark is one in the verdict
record IsVerdictOfPart (i : Input) (v : Option Verdict) (part : ℕ) : Type 0 where
  currency : Currency
  decided : v ≡ Some (verdict.Partial currency part)
  permitted : permits_this_part i currency part ≡ true

verdict_of_part : (i : Input) (v : Option Verdict) (part : ℕ) → goes_with_part i v (Some (call_state.Closed (how.Partial part))) ≡ true → IsVerdictOfPart i v part
verdict_of_part i (Some (verdict.Partial currency amount)) part h =
    let both = and_parts (amount == part) (permits_this_part i currency amount) h in
    let same : amount ≡ part = number_is amount part both.0 in
    record {
      currency = currency;
      decided = ap (λ (n : ℕ). Some (verdict.Partial currency n)) same;
      permitted = ap (permits_this_part i currency) (sym same) ∙ both.1;
    }
verdict_of_part i (Some verdict.Approved) part h = cc
verdict_of_part i (Some verdict.Done) part h = cc
verdict_of_part i (Some (verdict.Declined why)) part h = cc
verdict_of_part i None part h = cc

-- and a part in the verdict is one in the mark
record IsMarkOfPart (i : Input) (m : Option CallState) (currency : Currency) (amount : ℕ) : Type 0 where
  marked : m ≡ Some (call_state.Closed (how.Partial amount))
  permitted : permits_this_part i currency amount ≡ true

mark_of_part : (i : Input) (m : Option CallState) (currency : Currency) (amount : ℕ) → goes_with_part i (Some (verdict.Partial currency amount)) m ≡ true → IsMarkOfPart i m currency amount
mark_of_part i (Some (call_state.Closed (how.Partial part))) currency amount h =
    let both = and_parts (amount == part) (permits_this_part i currency amount) h in
    record { marked = ap (λ (n : ℕ). Some (call_state.Closed (how.Partial n))) (sym (number_is amount part both.0)); permitted = both.1 }
mark_of_part i _ currency amount h = cc

-- events and calls ----

-- the call of an event that permits a part is in the event's currency
in_its_currency : (ts : List TxnNow) (i : Input) (o : Opened) (its : TxnNow) → txn_named o.txn ts ≡ Some its → o.currency ≡ its.txn.currency → begins_own o.txn i ≡ true → may_be_marked ts i ≡ true → permits_part i ≡ true
    → (amount : ℕ) → nat_lt amount (amount_of_event i) ≡ true → permits_this_part i o.currency amount ≡ true
in_its_currency ts (input.Authorization token card currency whole mcc mid partial) o its stands same begins marked permitted amount less =
    let token_is : token ≡ o.txn = one_name token o.txn begins in
    let paid : (not (is_account_funded its.txn.funding) && same_currency its.txn.currency currency) ≡ true =
    ap (is_some_with (λ (t : TxnNow). not (is_account_funded t.txn.funding) && same_currency t.txn.currency currency)) (sym (ap (λ (k : List ℕ). txn_named k ts) token_is ∙ stands)) ∙ marked
    in
    both_so (partial && same_currency o.currency currency) (nat_lt amount whole)
    (both_so partial (same_currency o.currency currency) permitted
    (ap (λ (c : Currency). same_currency c currency) same ∙ gateway_too (is_account_funded its.txn.funding) (same_currency its.txn.currency currency) paid)) less
in_its_currency ts _ o its stands same begins marked permitted amount less = cc

-- what an event permits, as its call has it
record IsPermitted (i : Input) (currency : Currency) (amount : ℕ) : Type 0 where
  permitted : permits_part i ≡ true
  less : nat_lt amount (amount_of_event i) ≡ true
  its_own : (ts : List TxnNow) (o : Opened) (its : TxnNow) → txn_named o.txn ts ≡ Some its → o.currency ≡ its.txn.currency → begins_own o.txn i ≡ true → may_be_marked ts i ≡ true → o.currency ≡ currency

permitted_so : (i : Input) (currency : Currency) (amount : ℕ) → permits_this_part i currency amount ≡ true → IsPermitted i currency amount
permitted_so (input.Authorization token card own whole mcc mid partial) currency amount h =
    let both = and_parts (partial && same_currency currency own) (nat_lt amount whole) h in
    let first = and_parts partial (same_currency currency own) both.0 in
    record {
      permitted = first.0;
      less = both.1;
      its_own = λ ts o its stands same begins marked.
          let token_is : token ≡ o.txn = one_name token o.txn begins in
          let paid : (not (is_account_funded its.txn.funding) && same_currency its.txn.currency own) ≡ true =
          ap (is_some_with (λ (t : TxnNow). not (is_account_funded t.txn.funding) && same_currency t.txn.currency own)) (sym (ap (λ (k : List ℕ). txn_named k ts) token_is ∙ stands)) ∙ marked
          in
          same ∙ same_one its.txn.currency own (gateway_too (is_account_funded its.txn.funding) (same_currency its.txn.currency own) paid) ∙ sym (same_one currency own first.1);
    }
  where
    same_one : (a b : Currency) → same_currency a b ≡ true → a ≡ b
    same_one a b h = one_currency a b (number_is (iso_number a) (iso_number b) h)
permitted_so _ currency amount h = cc

module _ (w : CoreState) (well : IsWell w) (again : AreCallsAgain w) (fit : FitTheirEvents w) where
  abbrev ts : List TxnNow
  ts = w.holdings.txns

  -- a call that stands, as its event has it
  record StandsAs (a : Accepted) (x : CallNow) : Type 0 where
    its : TxnNow
    listed : txn_named x.opened.txn ts ≡ Some its
    currency : x.opened.currency ≡ its.txn.currency
    amount : x.opened.amount ≡ amount_of_event a.input
    partial : x.opened.partial ≡ permits_part a.input
    own : begins_own x.opened.txn a.input ≡ true
    marked : may_be_marked ts a.input ≡ true

  stands_as : (a : Accepted) (x : CallNow) (n : ℕ) → call_numbered n w.calls ≡ Some x → find (λ b. is_event x.opened.event b.input) w.accepted ≡ Some a → StandsAs a x
  stands_as a x n stands found =
      let call : IsCallAgain w x.opened = again n x stands in
      let event : call.event ≡ a = inside (sym call.was_accepted ∙ found) in
      record {
        its = call.its;
        listed = call.stands;
        currency = ap (λ (o : Opened). o.currency) call.same;
        amount = ap (λ (o : Opened). o.amount) call.same ∙ ap (λ (b : Accepted). amount_of_event b.input) event;
        partial = ap (λ (o : Opened). o.partial) call.same ∙ ap (λ (b : Accepted). permits_part b.input) event;
        own = passes_of (begins_own x.opened.txn) w.accepted x.opened.event a found (find_passes (λ (y : CallNow). y.opened.call.0 == n) (call_begins w.accepted) w.calls x fit.begins stands);
        marked = passes_of (may_be_marked ts) w.accepted x.opened.event a found (find_passes (λ (y : CallNow). y.opened.call.0 == n) (call_fits w.accepted ts) w.calls x fit.calls stands);
      }

  -- what is shown ----

  part_shown : PartsAgree w → (a : Accepted) → IsOwn w.accepted a → do_parts_agree (seen_in w a) ≡ true
  part_shown agree a own = by (verdict_in w.decisions (token_of_event a)) refl
    where
      token : List ℕ
      token = token_of_event a

      found : find (λ b. is_event token b.input) w.accepted ≡ Some a
      found = ap (λ (k : List ℕ). find (λ b. is_event k b.input) w.accepted) (own_token own) ∙ own.found

      -- an event whose mark is of a part is approved for it
      approved : (part : ℕ) → mark_in w.calls token ≡ Some (call_state.Closed (how.Partial part)) → is_part (verdict_in w.decisions token) ≡ true
      approved part e =
          let x = marked_as w token part well e in
          ap is_part (ap (verdict_in w.decisions) (sym x.its_event) ∙ (agree.closed x.call.opened.call.0 x.call part x.stands x.closed).decided)

      without : (v : Option Verdict) → verdict_in w.decisions token ≡ v → is_part v ≡ false → goes_with_part a.input v (mark_in w.calls token) ≡ true
      without v e plain = unless_part a.input v (mark_in w.calls token) plain (λ part marked. let both : true ≡ false = sym (approved part marked) ∙ ap is_part e ∙ plain in cc)

      by : (v : Option Verdict) → verdict_in w.decisions token ≡ v → goes_with_part a.input v (mark_in w.calls token) ≡ true
      by (Some (verdict.Partial currency amount)) e =
          let part = agree.decided token currency amount e in
          let closed = agree.closed part.number part.call amount part.stands part.closed in
          let its = stands_as a part.call part.number part.stands (ap (λ (k : List ℕ). find (λ b. is_event k b.input) w.accepted) part.its_event ∙ found) in
          let mark : mark_in w.calls token ≡ Some (call_state.Closed (how.Partial amount)) =
          ap (mark_in w.calls) (sym part.its_event) ∙ call_mark w part.number part.call well part.stands ∙ ap (λ (h : Option How). Some (mark_of h)) part.closed
          in
          let permitted : permits_this_part a.input part.call.opened.currency amount ≡ true =
          in_its_currency ts a.input part.call.opened its.its its.listed its.currency its.own its.marked (sym its.partial ∙ closed.permitted) amount (ap (nat_lt amount) (sym its.amount) ∙ closed.less)
          in
          ap (goes_with_part a.input (Some (verdict.Partial currency amount))) mark
          ∙ both_so (amount == amount) (permits_this_part a.input currency amount) (same_number amount) (ap (λ (c : Currency). permits_this_part a.input c amount) (sym part.its_currency) ∙ permitted)
      by None e = without None e refl
      by (Some verdict.Done) e = without (Some verdict.Done) e refl
      by (Some verdict.Approved) e = without (Some verdict.Approved) e refl
      by (Some (verdict.Declined why)) e = without (Some (verdict.Declined why)) e refl

  pub parts_shown : PartsAgree w → Each (IsOwn w.accepted) w.accepted → list_all do_parts_agree (map (seen_in w) w.accepted) ≡ true
  parts_shown agree own =
      all_mapped do_parts_agree (seen_in w) w.accepted ∙ all_of_each (IsOwn w.accepted) (λ (a : Accepted). do_parts_agree (seen_in w a)) (part_shown agree) w.accepted own

  -- what shows ----

  module _ (h : list_all do_parts_agree (map (seen_in w) w.accepted) ≡ true) where
    -- the event of a token shows its part
    shows : (event : List ℕ) (was : WasAccepted w event) → goes_with_part was.its.input (verdict_in w.decisions event) (mark_in w.calls event) ≡ true
    shows event was =
        ap (λ (k : List ℕ). goes_with_part was.its.input (verdict_in w.decisions k) (mark_in w.calls k)) (sym was.token)
        ∙ find_passes (λ (a : Accepted). is_event event a.input) (λ (a : Accepted). do_parts_agree (seen_in w a)) w.accepted was.its (sym (all_mapped do_parts_agree (seen_in w) w.accepted) ∙ h) was.found

    pub parts_again : PartsAgree w
    parts_again =
        record {
          closed = λ n x amount stands closed.
              let was = was_accepted w x.opened.event (well.docket.calls.events n x stands) in
              let mark : mark_in w.calls x.opened.event ≡ Some (call_state.Closed (how.Partial amount)) = call_mark w n x well stands ∙ ap (λ (h : Option How). Some (mark_of h)) closed in
              let part = verdict_of_part was.its.input (verdict_in w.decisions x.opened.event) amount
              (ap (goes_with_part was.its.input (verdict_in w.decisions x.opened.event)) (sym mark) ∙ shows x.opened.event was)
              in
              let may = permitted_so was.its.input part.currency amount part.permitted in
              let its = stands_as was.its x n stands was.found in
              record {
                decided = part.decided ∙ ap (λ (c : Currency). Some (verdict.Partial c amount)) (sym (may.its_own ts x.opened its.its its.listed its.currency its.own its.marked));
                permitted = its.partial ∙ may.permitted;
                less = ap (nat_lt amount) its.amount ∙ may.less;
              };
          decided = λ event currency amount e.
              let was = was_accepted w event (well.docket.decisions.events event (decided_so event (Some (verdict.Partial currency amount)) e refl)) in
              let part = mark_of_part was.its.input (mark_in w.calls event) currency amount
              (ap (λ (v : Option Verdict). goes_with_part was.its.input v (mark_in w.calls event)) (sym e) ∙ shows event was)
              in
              let may = permitted_so was.its.input currency amount part.permitted in
              let x = marked_as w event amount well part.marked in
              let its = stands_as was.its x.call x.call.opened.call.0 x.stands (ap (λ (k : List ℕ). find (λ b. is_event k b.input) w.accepted) x.its_event ∙ was.found) in
              record {
                number = x.call.opened.call.0;
                call = x.call;
                stands = x.stands;
                its_event = x.its_event;
                its_currency = may.its_own ts x.call.opened its.its its.listed its.currency its.own its.marked;
                closed = x.closed;
              };
        }
      where
        -- an event with a verdict is decided
        decided_so : (event : List ℕ) (v : Option Verdict) → verdict_in w.decisions event ≡ v → is_some v ≡ true → is_decided w.decisions event ≡ true
        decided_so event v e some = by (is_decided w.decisions event) refl
          where
            by : (b : Bool) → is_decided w.decisions event ≡ b → b ≡ true
            by true f = refl
            by false f = not_both (is_some v) some (ap is_some (sym e ∙ undecided_verdict w.decisions event f))
