-- What falls due may be entered, and accounts for each event as before.
use Rattle.std.proofs.Common.{◌≡◌, ℕ, ◌+◌, Bool, true, false, cond, List, [], ◌∷◌, ◌++◌, refl, sym, subst, ap, ◌∙◌}
use Rattle.std.specs.Prelude.{Option, Some, None}
use Rattle.std.specs.Str.{bytes_eq}
use Rattle.std.proofs.lemmas.List.{append-nil}
use Rattle.iss_model.specs.declared.call.Failure.{Failure}
use Rattle.iss_model.specs.declared.call.Failure.TheVariants as failure
use Rattle.iss_model.specs.declared.call.How.{How}
use Rattle.iss_model.specs.declared.call.How.TheVariants as how
use Rattle.iss_model.specs.declared.call.Opened.{Opened}
use Rattle.iss_model.specs.declared.decision.Reason.{Reason}
use Rattle.iss_model.specs.declared.decision.Reason.TheVariants as reason
use Rattle.iss_model.specs.declared.decision.Verdict.{Verdict}
use Rattle.iss_model.specs.declared.decision.Verdict.TheVariants as verdict
use Rattle.iss_model.specs.declared.entry.Entry.{Entry}
use Rattle.iss_model.specs.declared.entry.Entry.TheVariants as entry
use Rattle.iss_model.specs.declared.input.Outcome.{Outcome}
use Rattle.iss_model.specs.declared.input.Outcome.TheVariants as outcome
use Rattle.iss_model.specs.declared.txn.Txn.{Txn}
use Rattle.iss_model.specs.rules.Activity.{TxnNow, CallNow, txn_named, call_numbered, is_asked}
use Rattle.iss_model.specs.rules.Acts.{Act, FundsPart, entries_of_acts}
use Rattle.iss_model.specs.rules.Asks.{call_ask, is_authorization}
use Rattle.iss_model.specs.rules.CardActs.{acts_of_asked, acts_of_txn, counts_as_part, failed_acts, outcome_acts, stand_acts}
use Rattle.iss_model.specs.rules.Due.{DueThing, call_due, expiry_acts, live_expiry_acts, thing_acts, txn_due, thing_entries}
use Rattle.iss_model.specs.rules.Facts.{Facts, asked_calls_of, next_notice}
use Rattle.iss_model.specs.rules.Pieces.{parts_held, in_all, failure_reason}
use Rattle.iss_model.specs.rules.Reasons.{is_some_with}
use Rattle.iss_model.specs.rules.StandIns.{Stand, allowed, over_limit, stand, uncovered}
use Rattle.iss_model.specs.state.Cores.{CoreState, core_facts}
use Rattle.iss_model.proofs.Names.{one_name}
use Rattle.iss_state.proofs.effects.Finds.{found_passes}
use Rattle.iss_state.specs.Dockets.{Docket, docket_of}
use Rattle.iss_state.specs.Well.{IsAsked, IsWellAmong, Known, has_live}
use Rattle.iss_state.proofs.docket.Abandoning.{abandoned_then}
use Rattle.iss_state.proofs.docket.Docketed.{acts_docketed, closings, docketed_by, some_docketed, told_docketed, turned_down}
use Rattle.iss_state.proofs.docket.Enters.{Enters, enters_as, enters_closed, enters_ended, enters_none}
use Rattle.iss_state.proofs.docket.Lists.{inside, never, not_both}

-- the acts of due things ----

-- acts for an asked call, if one of the number is asked and its transaction is live
pub if_asked : (P : List Act → Type 0) (s : CoreState) (make : Opened → Txn → List Act) (n : ℕ)
    → (((c : CallNow) → IsAsked s.calls n c → has_live s.holdings.txns c.opened.txn ≡ true → ⊥) → P [])
    → ((c : CallNow) (t : TxnNow) → IsAsked s.calls n c → txn_named c.opened.txn s.holdings.txns ≡ Some t → P (make c.opened t.txn))
    → P (acts_of_asked make (call_numbered n s.calls) (core_facts s))
if_asked P s make n none some = of_call (call_numbered n s.calls) refl
  where
    of_txn : (c : CallNow) → IsAsked s.calls n c → (now : Option TxnNow) → txn_named c.opened.txn s.holdings.txns ≡ now → P (acts_of_txn (make c.opened) now)
    of_txn c asked None e = none (λ x its live. dead x c its asked live (ap (is_some_with (λ (t : TxnNow). t.live)) e))
      where
        dead : (x c : CallNow) → IsAsked s.calls n x → IsAsked s.calls n c → has_live s.holdings.txns x.opened.txn ≡ true → has_live s.holdings.txns c.opened.txn ≡ false → ⊥
        dead x c its asked live other =
            not_both (has_live s.holdings.txns c.opened.txn) (ap (λ (x : CallNow). has_live s.holdings.txns x.opened.txn) (inside (sym asked.stands ∙ its.stands)) ∙ live) other
    of_txn c asked (Some now) e = some c now asked e

    of_call : (o : Option CallNow) → call_numbered n s.calls ≡ o → P (acts_of_asked make o (core_facts s))
    of_call None e = none (λ c its live. gone c (sym e ∙ its.stands))
      where
        gone : (c : CallNow) → None ≡ Some c → ⊥
        gone c e = cc
    of_call (Some c) e = by (is_asked c) refl
      where
        by : (b : Bool) → is_asked c ≡ b → P (cond b (acts_of_txn (make c.opened) (txn_named c.opened.txn s.holdings.txns)) [])
        by true h = of_txn c (record { stands = e; asked = h }) (txn_named c.opened.txn s.holdings.txns) refl
        by false h = none (λ x its live. not_both (is_asked x) its.asked (ap is_asked (inside (sym its.stands ∙ e)) ∙ h))

-- acts for a live transaction that expires
pub if_expired : (P : List Act → Type 0) (s : CoreState) (token : List ℕ) → (has_live s.holdings.txns token ≡ false → P [])
    → ((t : TxnNow) → txn_named token s.holdings.txns ≡ Some t → t.live ≡ true → P (expiry_acts (core_facts s) t.txn))
    → P (live_expiry_acts (core_facts s) (txn_named token s.holdings.txns))
if_expired P s token none some = of_txn (txn_named token s.holdings.txns) refl
  where
    of_txn : (now : Option TxnNow) → txn_named token s.holdings.txns ≡ now → P (live_expiry_acts (core_facts s) now)
    of_txn None e = none (ap (is_some_with (λ (t : TxnNow). t.live)) e)
    of_txn (Some t) e = by t.live refl
      where
        by : (b : Bool) → t.live ≡ b → P (cond b (expiry_acts (core_facts s) t.txn) [])
        by true h = some t e h
        by false h = none (ap (is_some_with (λ (t : TxnNow). t.live)) e ∙ h)

-- a call is answered ----

module _ (known : Known) (d : Docket) (n : ℕ) (c : CallNow) (t : Txn) (well : IsWellAmong known d) (now : IsAsked d.calls n c) (its : t.token ≡ c.opened.txn) where
  decided : (w : How) (v : Verdict) → Enters known d None (entry.Closed c.opened.call w ∷ entry.Decided c.opened.event v ∷ [])
  decided w v = enters_closed known d n c w t.token false v well now its never

  turned : (w : How) (why : Reason) → Enters known d None (entry.Closed c.opened.call w ∷ (turned_down (call_ask c.opened t) why ++ []))
  turned w why =
      subst (λ (es : List Entry). Enters known d None (entry.Closed c.opened.call w ∷ es)) (sym (append-nil (turned_down (call_ask c.opened t) why)))
      (enters_closed known d n c w t.token (is_authorization c.opened.method) (verdict.Declined why) well now its (λ e. e))

  stood : (x : Stand) (number : ℕ) (why : Failure) (at : ℕ) → Enters known d None (entry.Closed c.opened.call (how.Failed why) ∷ docketed_by (stand_acts x number (call_ask c.opened t) why at))
  stood (allowed set) number why at = decided (how.Failed why) verdict.Approved
  stood (over_limit set) number why at = turned (how.Failed why) (reason.StandInLimit set.name)
  stood uncovered number why at = turned (how.Failed why) (failure_reason why)

  failed_enters : (f : Facts) (why : Failure) (at : ℕ) → Enters known d None (docketed_by (failed_acts f c.opened t why at))
  failed_enters f why at = stood (stand f (call_ask c.opened t) why at) (next_notice f + 1) why at

  pub outcome_enters : (what : Outcome) (f : Facts) (at : ℕ) → Enters known d None (docketed_by (outcome_acts what f c.opened t at))
  outcome_enters outcome.Funded f at = decided how.Funded verdict.Approved
  outcome_enters outcome.Refused f at = turned how.Refused reason.GatewayDeclined
  outcome_enters outcome.Connection f at = failed_enters f failure.Connection at
  outcome_enters outcome.Application f at = failed_enters f failure.Application at
  outcome_enters (outcome.Partial currency amount) f at = by (counts_as_part c.opened currency amount)
    where
      by : (b : Bool) → Enters known d None (docketed_by (cond b (FundsPart c.opened t amount ∷ []) (failed_acts f c.opened t failure.Application at)))
      by true = decided (how.Partial amount) (verdict.Partial t.currency amount)
      by false = failed_enters f failure.Application at

-- what is found by a token has it
pub its_token : (txns : List TxnNow) (token : List ℕ) (t : TxnNow) → txn_named token txns ≡ Some t → t.txn.token ≡ token
its_token txns token t e = one_name t.txn.token token (found_passes (λ (t : TxnNow). bytes_eq t.txn.token token) txns t e)

-- a transaction that is found and live
pub found_live : (txns : List TxnNow) (token : List ℕ) (t : TxnNow) → txn_named token txns ≡ Some t → t.live ≡ true → has_live txns t.txn.token ≡ true
found_live txns token t e live =
    ap (λ (o : Option TxnNow). is_some_with (λ (t : TxnNow). t.live) o) (ap (λ (k : List ℕ). txn_named k txns) (its_token txns token t e) ∙ e) ∙ live

-- what is due ----

-- acts enter as what they put on the docket
pub acts_enter : {known : Known} {d : Docket} {own : Option (List ℕ)} (acts : List Act) → Enters known d own (docketed_by acts) → Enters known d own (entries_of_acts acts)
acts_enter {known} {d} {own} acts h = enters_as known d own (entries_of_acts acts) (docketed_by acts) (acts_docketed acts) h

pub expiry_docketed : (f : Facts) (t : Txn) → docketed_by (expiry_acts f t) ≡ closings reason.Expired (asked_calls_of f t.token) ++ entry.Ended t.token ∷ []
expiry_docketed f t =
    ap (λ (es : List Entry). closings reason.Expired (asked_calls_of f t.token) ++ entry.Ended t.token ∷ es) (told_docketed t _ (some_docketed (in_all (parts_held f t)) _ refl))

thing_enters_by : (known : Known) (s : CoreState) (thing : DueThing) (at : ℕ) → IsWellAmong known (docket_of s) → Enters known (docket_of s) None (docketed_by (thing_acts thing at (core_facts s)))
thing_enters_by known s (call_due number) at well =
    if_asked (λ acts. Enters known (docket_of s) None (docketed_by acts)) s (λ o t. failed_acts (core_facts s) o t failure.Timeout at) number (λ none. enters_none known (docket_of s))
    (λ c t asked stands. failed_enters known (docket_of s) number c t.txn well asked (its_token s.holdings.txns c.opened.txn t stands) (core_facts s) failure.Timeout at)
thing_enters_by known s (txn_due token) at well =
    if_expired (λ acts. Enters known (docket_of s) None (docketed_by acts)) s token (λ none. enters_none known (docket_of s))
    (λ t stands live.
    subst (Enters known (docket_of s) None) (sym (expiry_docketed (core_facts s) t.txn))
    (abandoned_then known reason.Expired (docket_of s) t.txn.token None (entry.Ended t.txn.token ∷ []) well (found_live s.holdings.txns token t stands live)
    (λ q may new. enters_ended known q t.txn.token may)))

pub thing_enters : (known : Known) (s : CoreState) (thing : DueThing) (at : ℕ) → IsWellAmong known (docket_of s)
    → Enters known (docket_of s) None (thing_entries thing at (core_facts s))
thing_enters known s thing at well = acts_enter (thing_acts thing at (core_facts s)) (thing_enters_by known s thing at well)
