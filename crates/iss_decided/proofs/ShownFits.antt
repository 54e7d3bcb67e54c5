-- What fits in a core shows in its events, and what its events show fits.
use Rattle.std.proofs.Common.{◌≡◌, ◌∙◌, ◌∷◌, ◌||◌, ℕ, ap, Bool, cond, false, find, List, [], map, not, refl, sym, true}
use Rattle.std.specs.Prelude.{Option, Some, None, is_none, is_some, option_map}
use Rattle.std.specs.List.{list_all}
use Rattle.std.specs.Str.{bytes_eq}
use Rattle.std.proofs.lemmas.Bool.{and_parts}
use Rattle.iss_model.specs.declared.decision.Verdict.{Verdict}
use Rattle.iss_model.specs.declared.decision.Verdict.TheVariants as verdict
use Rattle.iss_model.specs.declared.input.Input.{Input}
use Rattle.iss_model.specs.Inputs.{is_event}
use Rattle.iss_model.specs.rules.Activity.{CallNow, TxnNow}
use Rattle.iss_model.specs.rules.Facts.{Accepted, Decision, verdict_in}
use Rattle.iss_model.specs.rules.Reasons.{is_some_with}
use Rattle.iss_model.specs.state.Cores.{CoreState}
use Rattle.iss_model.proofs.Lists.{find_passes}
use Rattle.iss_model.proofs.Names.{its_name, one_name}
use Rattle.iss_state.specs.Pending.{IsWell}
use Rattle.iss_state.specs.Sound.{is_accepted}
use Rattle.iss_state.specs.Well.{HaveOwnEvents, is_decided}
use Rattle.iss_state.proofs.docket.Closing.{StandsItself, all_stand}
use Rattle.iss_state.proofs.docket.Lists.{Each, both_so, found_any, not_both}
use Rattle.iss_state.proofs.effects.Finds.{found_passes}
use Rattle.iss_states.specs.Showing.{mark_in, mark_of, seen_in, token_of_event}
use Rattle.iss_states.proofs.Marks.{call_mark}
use Rattle.iss_well_formed.proofs.OwnEvents.{IsOwn, all_of_each, own_token}
use Rattle.iss_well_formed.proofs.WellAgain.{all_mapped, token_is}
use Rattle.iss_decided.specs.Verdicts.{fits_kind, is_decided_by_kind, is_marked_in_its_txn, is_of_its_txn, may_be_marked, takes_effect, takes_effect_in_its_txn}
use Rattle.iss_decided.proofs.Fits.{FitTheirEvents, call_begins, call_fits, decision_fits, event_passes, may_have_verdict, verdict_fits}

-- what the events of a core show
pub record ShowFit (c : CoreState) : Type 0 where
  pub kinds : list_all is_decided_by_kind (map (seen_in c) c.accepted) ≡ true
  pub listed : list_all (takes_effect_in_its_txn c.holdings.txns) (map (seen_in c) c.accepted) ≡ true
  pub marked : list_all (is_marked_in_its_txn c.holdings.txns) (map (seen_in c) c.accepted) ≡ true

-- the test of an event that was accepted
pub passes_of : (test : Input → Bool) (xs : List Accepted) (event : List ℕ) (a : Accepted) → find (λ a. is_event event a.input) xs ≡ Some a → event_passes test xs event ≡ true → test a.input ≡ true
passes_of test xs event a e h = ap (is_some_with (λ (a : Accepted). test a.input)) (sym e) ∙ h

verdict_of : (xs : List Accepted) (ts : List TxnNow) (event : List ℕ) (a : Accepted) → find (λ a. is_event event a.input) xs ≡ Some a → (v : Verdict) → verdict_fits xs ts event v ≡ true → may_have_verdict ts (Some v) a.input ≡ true
verdict_of xs ts event a e (verdict.Declined why) h = refl
verdict_of xs ts event a e verdict.Done h = passes_of (may_have_verdict ts (Some verdict.Done)) xs event a e h
verdict_of xs ts event a e verdict.Approved h = passes_of (may_have_verdict ts (Some verdict.Approved)) xs event a e h
verdict_of xs ts event a e (verdict.Partial currency amount) h = passes_of (may_have_verdict ts (Some (verdict.Partial currency amount))) xs event a e h

-- what is shown ----

module _ (w : CoreState) (fit : FitTheirEvents w) where
  abbrev ts : List TxnNow
  ts = w.holdings.txns

  own_found : (a : Accepted) (own : IsOwn w.accepted a) → find (λ b. is_event (token_of_event a) b.input) w.accepted ≡ Some a
  own_found a own = ap (λ (k : List ℕ). find (λ b. is_event k b.input) w.accepted) (own_token own) ∙ own.found

  has_verdict : (a : Accepted) → IsOwn w.accepted a → may_have_verdict ts (verdict_in w.decisions (token_of_event a)) a.input ≡ true
  has_verdict a own = by (find (λ d. bytes_eq d.event (token_of_event a)) w.decisions) refl
    where
      by : (o : Option Decision) → find (λ d. bytes_eq d.event (token_of_event a)) w.decisions ≡ o → may_have_verdict ts (option_map (λ (d : Decision). d.verdict) o) a.input ≡ true
      by None e = refl
      by (Some d) e =
          let token : d.event ≡ token_of_event a = one_name d.event (token_of_event a) (found_passes (λ (d : Decision). bytes_eq d.event (token_of_event a)) w.decisions d e) in
          let fits = find_passes (λ (d : Decision). bytes_eq d.event (token_of_event a)) (decision_fits w.accepted ts) w.decisions d fit.decisions e in
          verdict_of w.accepted ts (token_of_event a) a (own_found a own) d.verdict (ap (λ (k : List ℕ). verdict_fits w.accepted ts k d.verdict) (sym token) ∙ fits)

  both_of : (a : Accepted) → IsOwn w.accepted a → (is_decided_by_kind (seen_in w a) ≡ true) × (takes_effect_in_its_txn ts (seen_in w a) ≡ true)
  both_of a own = and_parts (is_decided_by_kind (seen_in w a)) (takes_effect_in_its_txn ts (seen_in w a)) (has_verdict a own)

  has_mark : (a : Accepted) → IsOwn w.accepted a → is_marked_in_its_txn ts (seen_in w a) ≡ true
  has_mark a own = by (find (λ x. bytes_eq x.opened.event (token_of_event a)) w.calls) refl
    where
      by : (o : Option CallNow) → find (λ x. bytes_eq x.opened.event (token_of_event a)) w.calls ≡ o → (is_none (option_map (λ x. mark_of x.how) o) || may_be_marked ts a.input) ≡ true
      by None e = refl
      by (Some x) e =
          let token : x.opened.event ≡ token_of_event a = one_name x.opened.event (token_of_event a) (found_passes (λ (x : CallNow). bytes_eq x.opened.event (token_of_event a)) w.calls x e) in
          let fits = find_passes (λ (x : CallNow). bytes_eq x.opened.event (token_of_event a)) (call_fits w.accepted ts) w.calls x fit.calls e in
          passes_of (may_be_marked ts) w.accepted (token_of_event a) a (own_found a own) (ap (event_passes (may_be_marked ts) w.accepted) (sym token) ∙ fits)

  pub fits_shown : Each (IsOwn w.accepted) w.accepted → ShowFit w
  fits_shown own =
      record {
        kinds =
            all_mapped is_decided_by_kind (seen_in w) w.accepted
            ∙ all_of_each (IsOwn w.accepted) (λ (a : Accepted). is_decided_by_kind (seen_in w a)) (λ a its. (both_of a its).0) w.accepted own;
        listed =
            all_mapped (takes_effect_in_its_txn ts) (seen_in w) w.accepted
            ∙ all_of_each (IsOwn w.accepted) (λ (a : Accepted). takes_effect_in_its_txn ts (seen_in w a)) (λ a its. (both_of a its).1) w.accepted own;
        marked =
            all_mapped (is_marked_in_its_txn ts) (seen_in w) w.accepted
            ∙ all_of_each (IsOwn w.accepted) (λ (a : Accepted). is_marked_in_its_txn ts (seen_in w a)) has_mark w.accepted own;
      }

-- what shows fits ----

-- each decision is the one that is found of its event
pub own_decided : (ds : List Decision) → HaveOwnEvents ds → Each (λ d. find (λ x. bytes_eq x.event d.event) ds ≡ Some d) ds
own_decided [] h = tt
own_decided (d ∷ ds) h = (ap (λ (b : Bool). cond b (Some d) (find (λ x. bytes_eq x.event d.event) ds)) (its_name d.event), later ds (own_decided ds h.1))
  where
    later : (xs : List Decision) → Each (λ x. find (λ y. bytes_eq y.event x.event) ds ≡ Some x) xs → Each (λ x. find (λ y. bytes_eq y.event x.event) (d ∷ ds) ≡ Some x) xs
    later [] e = tt
    later (x ∷ xs) e = (by (bytes_eq d.event x.event) refl, later xs e.1)
      where
        by : (b : Bool) → bytes_eq d.event x.event ≡ b → cond b (Some d) (find (λ y. bytes_eq y.event x.event) ds) ≡ Some x
        by false k = e.0
        by true k =
            not_both (is_decided ds d.event) (ap (is_decided ds) (one_name d.event x.event k) ∙ found_any (λ y. bytes_eq y.event x.event) (λ y. bytes_eq y.event x.event) ds x e.0 (its_name x.event)) h.0

-- the event of this token was accepted
pub record WasAccepted (c : CoreState) (event : List ℕ) : Type 0 where
  pub its : Accepted
  pub found : find (λ a. is_event event a.input) c.accepted ≡ Some its
  pub token : token_of_event its ≡ event

pub was_accepted : (c : CoreState) (event : List ℕ) → is_accepted c.accepted event ≡ true → WasAccepted c event
was_accepted c event h = by (find (λ a. is_event event a.input) c.accepted) refl h
  where
    by : (o : Option Accepted) → find (λ a. is_event event a.input) c.accepted ≡ o → is_some o ≡ true → WasAccepted c event
    by None e g = cc
    by (Some a) e g = record { its = a; found = e; token = token_is a event (found_passes (λ (a : Accepted). is_event event a.input) c.accepted a e) }

module _ (c : CoreState) (well : IsWell c) (begins : list_all (call_begins c.accepted) c.calls ≡ true) (h : ShowFit c) where
  abbrev us : List TxnNow
  us = c.holdings.txns

  verdict_fits_its : (event : List ℕ) (v : Verdict) → is_accepted c.accepted event ≡ true → verdict_in c.decisions event ≡ Some v → event_passes (may_have_verdict us (Some v)) c.accepted event ≡ true
  verdict_fits_its event v known e =
      let was = was_accepted c event known in
      let its : verdict_in c.decisions (token_of_event was.its) ≡ Some v = ap (verdict_in c.decisions) was.token ∙ e in
      let kind = find_passes (λ (a : Accepted). is_event event a.input) (λ (a : Accepted). is_decided_by_kind (seen_in c a)) c.accepted was.its (sym (all_mapped is_decided_by_kind (seen_in c) c.accepted) ∙ h.kinds) was.found in
      let place = find_passes (λ (a : Accepted). is_event event a.input) (λ (a : Accepted). takes_effect_in_its_txn us (seen_in c a)) c.accepted was.its (sym (all_mapped (takes_effect_in_its_txn us) (seen_in c) c.accepted) ∙ h.listed) was.found in
      ap (is_some_with (λ (a : Accepted). may_have_verdict us (Some v) a.input)) was.found
      ∙ ap (λ (o : Option Verdict). may_have_verdict us o was.its.input) (sym its)
      ∙ both_so (fits_kind was.its.input (verdict_in c.decisions (token_of_event was.its))) (not (takes_effect (verdict_in c.decisions (token_of_event was.its))) || is_of_its_txn us was.its.input) kind place

  decided_fits : (event : List ℕ) (v : Verdict) → is_accepted c.accepted event ≡ true → verdict_in c.decisions event ≡ Some v → verdict_fits c.accepted us event v ≡ true
  decided_fits event (verdict.Declined why) known e = refl
  decided_fits event verdict.Done known e = verdict_fits_its event verdict.Done known e
  decided_fits event verdict.Approved known e = verdict_fits_its event verdict.Approved known e
  decided_fits event (verdict.Partial currency amount) known e = verdict_fits_its event (verdict.Partial currency amount) known e

  one_decision : (d : Decision) → find (λ x. bytes_eq x.event d.event) c.decisions ≡ Some d → decision_fits c.accepted us d ≡ true
  one_decision d e =
      let there : is_decided c.decisions d.event ≡ true = found_any (λ x. bytes_eq x.event d.event) (λ x. bytes_eq x.event d.event) c.decisions d e (its_name d.event) in
      decided_fits d.event d.verdict (well.docket.decisions.events d.event there) (ap (option_map (λ (d : Decision). d.verdict)) e)

  one_call : (x : CallNow) → StandsItself c.calls x → call_fits c.accepted us x ≡ true
  one_call x stands =
      let was = was_accepted c x.opened.event (well.docket.calls.events x.opened.call.0 x stands) in
      let mark : mark_in c.calls (token_of_event was.its) ≡ Some (mark_of x.how) = ap (mark_in c.calls) was.token ∙ call_mark c x.opened.call.0 x well stands in
      let its = find_passes (λ (a : Accepted). is_event x.opened.event a.input) (λ (a : Accepted). is_marked_in_its_txn us (seen_in c a)) c.accepted was.its (sym (all_mapped (is_marked_in_its_txn us) (seen_in c) c.accepted) ∙ h.marked) was.found in
      ap (is_some_with (λ (a : Accepted). may_be_marked us a.input)) was.found
      ∙ ap (λ o. is_none o || may_be_marked us was.its.input) (sym mark) ∙ its

  pub fits_again : FitTheirEvents c
  fits_again =
      record {
        calls = all_of_each (StandsItself c.calls) (call_fits c.accepted us) one_call c.calls (all_stand c.calls well.docket.calls.numbers);
        begins = begins;
        decisions = all_of_each (λ d. find (λ x. bytes_eq x.event d.event) c.decisions ≡ Some d) (decision_fits c.accepted us) one_decision c.decisions (own_decided c.decisions well.docket.decisions.once);
      }
