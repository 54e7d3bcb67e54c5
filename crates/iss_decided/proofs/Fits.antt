-- Verdicts and calls that fit the events that they are of, and what entries leave of them.
use Rattle.std.proofs.Common.{◌≡◌, ◌∙◌, ◌∷◌, ◌&&◌, ◌||◌, ℕ, ap, Bool, false, find, fold, List, [], map, not, refl, true}
use Rattle.std.specs.Prelude.{Option, Some, None}
use Rattle.std.specs.List.{list_all}
use Rattle.std.specs.Str.{bytes_eq}
use Rattle.std.proofs.lemmas.Bool.{and_parts}
use Rattle.std.proofs.lemmas.List.Folds.{list_all-append}
use Rattle.iss_model.specs.declared.call.How.{How}
use Rattle.iss_model.specs.declared.call.Opened.{Opened}
use Rattle.iss_model.specs.declared.decision.Verdict.{Verdict}
use Rattle.iss_model.specs.declared.decision.Verdict.TheVariants as verdict
use Rattle.iss_model.specs.declared.entry.Entry.{Entry}
use Rattle.iss_model.specs.declared.entry.Entry.TheVariants as entry
use Rattle.iss_model.specs.declared.input.Input.{Input}
use Rattle.iss_model.specs.declared.input.Input.TheVariants as input
use Rattle.iss_model.specs.declared.txn.Txn.{Txn}
use Rattle.iss_model.specs.Currencies.{same_currency}
use Rattle.iss_model.specs.Inputs.{is_event}
use Rattle.iss_model.specs.rules.Activity.{CallNow, TxnNow, txn_named}
use Rattle.iss_model.specs.rules.CardReasons.{is_account_funded}
use Rattle.iss_model.specs.rules.Facts.{Accepted, Decision}
use Rattle.iss_model.specs.rules.Reasons.{is_some_with}
use Rattle.iss_model.specs.state.Cores.{CoreState, after_entry, call_after_close}
use Rattle.iss_model.proofs.Lists.{all_weaker}
use Rattle.iss_state.proofs.docket.Closing.{same_opened}
use Rattle.iss_state.proofs.docket.Lists.{both_so}
use Rattle.iss_state.proofs.effects.Effects.{setting_calls}
use Rattle.iss_states.proofs.Decided.{setting_decisions}
use Rattle.iss_states.proofs.Found.{entry_keeps}
use Rattle.iss_decided.specs.Verdicts.{fits_kind, is_of_its_txn, may_be_marked, takes_effect}

-- what fits ----

-- the event of a token was accepted, and passes a test
abbrev pub event_passes : (Input → Bool) → List Accepted → List ℕ → Bool
event_passes test xs event = is_some_with (λ (a : Accepted). test a.input) (find (λ a. is_event event a.input) xs)

-- an event may have a verdict
abbrev pub may_have_verdict : List TxnNow → Option Verdict → Input → Bool
may_have_verdict ts v i = fits_kind i v && (not (takes_effect v) || is_of_its_txn ts i)

-- a verdict other than a decline fits the event that it is of
abbrev pub verdict_fits : List Accepted → List TxnNow → List ℕ → Verdict → Bool
verdict_fits xs ts event (verdict.Declined why) = true
verdict_fits xs ts event v = event_passes (may_have_verdict ts (Some v)) xs event

abbrev pub decision_fits : List Accepted → List TxnNow → Decision → Bool
decision_fits xs ts d = verdict_fits xs ts d.event d.verdict

-- the event of a call may have a mark
abbrev pub call_fits : List Accepted → List TxnNow → CallNow → Bool
call_fits xs ts x = event_passes (may_be_marked ts) xs x.opened.event

-- an authorisation begins this transaction
abbrev pub begins_own : List ℕ → Input → Bool
begins_own txn (input.Authorization token card currency amount mcc mid partial) = bytes_eq token txn
begins_own txn _ = true

-- the call of an authorisation is of its own transaction
abbrev pub call_begins : List Accepted → CallNow → Bool
call_begins xs x = event_passes (begins_own x.opened.txn) xs x.opened.event

-- what an entry decides fits, and what it opens
abbrev pub entry_fits : List Accepted → List TxnNow → Entry → Bool
entry_fits xs ts (entry.Opened o) = event_passes (may_be_marked ts) xs o.event && event_passes (begins_own o.txn) xs o.event
entry_fits xs ts (entry.Decided event v) = verdict_fits xs ts event v
entry_fits xs ts _ = true

-- the calls and decisions of a core fit these events and transactions
pub record FitAmong (xs : List Accepted) (ts : List TxnNow) (c : CoreState) : Type 0 where
  pub calls : list_all (call_fits xs ts) c.calls ≡ true
  pub begins : list_all (call_begins xs) c.calls ≡ true
  pub decisions : list_all (decision_fits xs ts) c.decisions ≡ true

-- those of the core itself
abbrev pub FitTheirEvents : CoreState → Type 0
FitTheirEvents c = FitAmong c.accepted c.holdings.txns c

-- more transactions ----

-- each transaction of one list is found in another, as it began
abbrev pub StayListed : List TxnNow → List TxnNow → Type 0
StayListed ts us = (token : List ℕ) (x : TxnNow) → txn_named token ts ≡ Some x → (y : TxnNow) × (txn_named token us ≡ Some y) × (y.txn ≡ x.txn)

-- each event of one list is found in another
abbrev pub StayAccepted : List Accepted → List Accepted → Type 0
StayAccepted xs ys = (token : List ℕ) (a : Accepted) → find (λ a. is_event token a.input) xs ≡ Some a → find (λ a. is_event token a.input) ys ≡ Some a

still_passes : (test : Txn → Bool) (ts us : List TxnNow) → StayListed ts us → (token : List ℕ) → is_some_with (λ (t : TxnNow). test t.txn) (txn_named token ts) ≡ true
    → is_some_with (λ (t : TxnNow). test t.txn) (txn_named token us) ≡ true
still_passes test ts us stay token h = by (txn_named token ts) refl h
  where
    by : (o : Option TxnNow) → txn_named token ts ≡ o → is_some_with (λ (t : TxnNow). test t.txn) o ≡ true → is_some_with (λ (t : TxnNow). test t.txn) (txn_named token us) ≡ true
    by None e g = cc
    by (Some x) e g = let later = stay token x e in ap (is_some_with (λ (t : TxnNow). test t.txn)) later.1 ∙ ap test later.2 ∙ g

still_of_its_txn : (ts us : List TxnNow) → StayListed ts us → (i : Input) → is_of_its_txn ts i ≡ true → is_of_its_txn us i ≡ true
still_of_its_txn ts us stay (input.Authorization token card currency amount mcc mid partial) h = still_passes (λ x. same_currency x.currency currency) ts us stay token h
still_of_its_txn ts us stay (input.Increment token txn currency amount) h = still_passes (λ x. same_currency x.currency currency) ts us stay txn h
still_of_its_txn ts us stay (input.Reversal token txn currency amount) h = still_passes (λ x. same_currency x.currency currency) ts us stay txn h
still_of_its_txn ts us stay (input.Clearing token txn currency amount last) h = still_passes (λ x. same_currency x.currency currency) ts us stay txn h
still_of_its_txn ts us stay (input.Refund token txn currency amount) h = still_passes (λ x. same_currency x.currency currency) ts us stay txn h
still_of_its_txn ts us stay _ h = refl

still_marked : (ts us : List TxnNow) → StayListed ts us → (i : Input) → may_be_marked ts i ≡ true → may_be_marked us i ≡ true
still_marked ts us stay (input.Authorization token card currency amount mcc mid partial) h =
    still_passes (λ x. not (is_account_funded x.funding) && same_currency x.currency currency) ts us stay token h
still_marked ts us stay (input.Increment token txn currency amount) h = still_passes (λ x. not (is_account_funded x.funding) && same_currency x.currency currency) ts us stay txn h
still_marked ts us stay _ h = cc

still_has : (ts us : List TxnNow) → StayListed ts us → (v : Option Verdict) (i : Input) → may_have_verdict ts v i ≡ true → may_have_verdict us v i ≡ true
still_has ts us stay v i h =
    let both = and_parts (fits_kind i v) (not (takes_effect v) || is_of_its_txn ts i) h in
    both_so (fits_kind i v) (not (takes_effect v) || is_of_its_txn us i) both.0 (by (takes_effect v) both.1)
  where
    by : (b : Bool) → (not b || is_of_its_txn ts i) ≡ true → (not b || is_of_its_txn us i) ≡ true
    by true h = still_of_its_txn ts us stay i h
    by false h = refl

-- what is weaker still passes of more events
event_still : (p q : Input → Bool) → ((i : Input) → p i ≡ true → q i ≡ true) → (xs ys : List Accepted) → StayAccepted xs ys → (event : List ℕ) → event_passes p xs event ≡ true → event_passes q ys event ≡ true
event_still p q so xs ys stay event h = by (find (λ a. is_event event a.input) xs) refl h
  where
    by : (o : Option Accepted) → find (λ a. is_event event a.input) xs ≡ o → is_some_with (λ (a : Accepted). p a.input) o ≡ true → event_passes q ys event ≡ true
    by None e g = cc
    by (Some a) e g = ap (is_some_with (λ (a : Accepted). q a.input)) (stay event a e) ∙ so a.input g

verdict_still : (xs ys : List Accepted) (ts us : List TxnNow) → StayAccepted xs ys → StayListed ts us → (event : List ℕ) (v : Verdict) → verdict_fits xs ts event v ≡ true → verdict_fits ys us event v ≡ true
verdict_still xs ys ts us known listed event (verdict.Declined why) h = refl
verdict_still xs ys ts us known listed event verdict.Done h =
    event_still (may_have_verdict ts (Some verdict.Done)) (may_have_verdict us (Some verdict.Done)) (still_has ts us listed (Some verdict.Done)) xs ys known event h
verdict_still xs ys ts us known listed event verdict.Approved h =
    event_still (may_have_verdict ts (Some verdict.Approved)) (may_have_verdict us (Some verdict.Approved)) (still_has ts us listed (Some verdict.Approved)) xs ys known event h
verdict_still xs ys ts us known listed event (verdict.Partial currency amount) h =
    event_still (may_have_verdict ts (Some (verdict.Partial currency amount))) (may_have_verdict us (Some (verdict.Partial currency amount)))
    (still_has ts us listed (Some (verdict.Partial currency amount))) xs ys known event h

pub fit_still : {xs ys : List Accepted} {ts us : List TxnNow} {c : CoreState} → StayAccepted xs ys → StayListed ts us → FitAmong xs ts c → FitAmong ys us c
fit_still {xs} {ys} {ts} {us} {c} known listed h =
    record {
      calls =
          all_weaker (call_fits xs ts) (call_fits ys us)
          (λ (x : CallNow) k. event_still (may_be_marked ts) (may_be_marked us) (still_marked ts us listed) xs ys known x.opened.event k) c.calls h.calls;
      begins =
          all_weaker (call_begins xs) (call_begins ys)
          (λ (x : CallNow) k. event_still (begins_own x.opened.txn) (begins_own x.opened.txn) (λ i its. its) xs ys known x.opened.event k) c.calls h.begins;
      decisions = all_weaker (decision_fits xs ts) (decision_fits ys us) (λ (d : Decision) k. verdict_still xs ys ts us known listed d.event d.verdict k) c.decisions h.decisions;
    }

-- entries ----

-- a test of what was opened passes when a call is closed
still_opened : (test : Opened → Bool) (call : ℕ) (w : How) (calls : List CallNow) → list_all (λ x. test x.opened) calls ≡ true → list_all (λ x. test x.opened) (map (call_after_close call w) calls) ≡ true
still_opened test call w [] h = refl
still_opened test call w (x ∷ calls) h =
    let both = and_parts (test x.opened) (list_all (λ (x : CallNow). test x.opened) calls) h in
    both_so (test (call_after_close call w x).opened) (list_all (λ (x : CallNow). test x.opened) (map (call_after_close call w) calls)) (ap test (same_opened call w x) ∙ both.0) (still_opened test call w calls both.1)

entry_fit : (xs : List Accepted) (ts : List TxnNow) (s : CoreState) (e : Entry) → entry_fits xs ts e ≡ true → FitAmong xs ts s → FitAmong xs ts (after_entry s e)
entry_fit xs ts s (entry.Conf i) so h =
    record {
      calls = ap (λ (calls : List CallNow). list_all (call_fits xs ts) calls) (setting_calls s i) ∙ h.calls;
      begins = ap (λ (calls : List CallNow). list_all (call_begins xs) calls) (setting_calls s i) ∙ h.begins;
      decisions = ap (λ (ds : List Decision). list_all (decision_fits xs ts) ds) (setting_decisions s i) ∙ h.decisions;
    }
entry_fit xs ts s (entry.Opened o) so h =
    let both = and_parts (event_passes (may_be_marked ts) xs o.event) (event_passes (begins_own o.txn) xs o.event) so in
    record {
      calls =
          list_all-append (call_fits xs ts) s.calls (record { opened = o; how = None } ∷ [])
          ∙ both_so (list_all (call_fits xs ts) s.calls) (event_passes (may_be_marked ts) xs o.event && true) h.calls (both_so (event_passes (may_be_marked ts) xs o.event) true both.0 refl);
      begins =
          list_all-append (call_begins xs) s.calls (record { opened = o; how = None } ∷ [])
          ∙ both_so (list_all (call_begins xs) s.calls) (event_passes (begins_own o.txn) xs o.event && true) h.begins (both_so (event_passes (begins_own o.txn) xs o.event) true both.1 refl);
      decisions = h.decisions;
    }
entry_fit xs ts s (entry.Closed call w) so h =
    record {
      calls = still_opened (λ (o : Opened). event_passes (may_be_marked ts) xs o.event) call.0 w s.calls h.calls;
      begins = still_opened (λ (o : Opened). event_passes (begins_own o.txn) xs o.event) call.0 w s.calls h.begins;
      decisions = h.decisions;
    }
entry_fit xs ts s (entry.Decided event v) so h =
    record {
      calls = h.calls;
      begins = h.begins;
      decisions =
          list_all-append (decision_fits xs ts) s.decisions (record { event = event; verdict = v } ∷ [])
          ∙ both_so (list_all (decision_fits xs ts) s.decisions) (verdict_fits xs ts event v && true) h.decisions (both_so (verdict_fits xs ts event v) true so refl);
    }
entry_fit xs ts s _ so h = record { calls = h.calls; begins = h.begins; decisions = h.decisions }

pub entries_fit : (xs : List Accepted) (ts : List TxnNow) (s : CoreState) (es : List Entry) → list_all (entry_fits xs ts) es ≡ true → FitAmong xs ts s → FitAmong xs ts (fold after_entry s es)
entries_fit xs ts s [] so h = h
entries_fit xs ts s (e ∷ es) so h = let both = and_parts (entry_fits xs ts e) (list_all (entry_fits xs ts) es) so in entries_fit xs ts (after_entry s e) es both.1 (entry_fit xs ts s e both.0 h)

-- what is listed and accepted before entries is so after them
pub entries_list : (s : CoreState) (es : List Entry) → StayListed s.holdings.txns (fold after_entry s es).holdings.txns
entries_list s [] token x e = (x, e, refl)
entries_list s (first ∷ es) token x e =
    let now = (entry_keeps s first).txns token x e in
    let later = entries_list (after_entry s first) es token now.0 now.1 in
    (later.0, later.1, later.2 ∙ now.2)
