-- A record's own entries may be entered if its event is new, and they account for it.
use Rattle.std.proofs.Common.{◌≡◌, ℕ, ◌+◌, min, Bool, true, false, not, cond, ◌&&◌, ◌||◌, nat_eq, List, [], ◌∷◌, ◌++◌, length, refl, sym, ap, subst, ◌∙◌}
use Rattle.std.specs.Prelude.{Option, Some, None, is_some, is_none, option_map, option_and_then}
use Rattle.std.specs.List.{list_any}
use Rattle.std.specs.Str.{bytes_eq}
use Rattle.std.proofs.lemmas.Bool.{and_parts, not-false}
use Rattle.std.proofs.lemmas.List.{append-nil}
use Rattle.iss_model.specs.declared.call.Failure.{Failure}
use Rattle.iss_model.specs.declared.call.Failure.TheVariants as failure
use Rattle.iss_model.specs.declared.call.Method.TheVariants as method
use Rattle.iss_model.specs.declared.currency.Currency.{Currency}
use Rattle.iss_model.specs.declared.decision.Reason.{Reason}
use Rattle.iss_model.specs.declared.decision.Reason.TheVariants as reason
use Rattle.iss_model.specs.declared.decision.Verdict.{Verdict}
use Rattle.iss_model.specs.declared.decision.Verdict.TheVariants as verdict
use Rattle.iss_model.specs.declared.entry.Entry.{Entry}
use Rattle.iss_model.specs.declared.entry.Entry.TheVariants as entry
use Rattle.iss_model.specs.declared.input.Input.{Input}
use Rattle.iss_model.specs.declared.setting.Card.{Card}
use Rattle.iss_model.specs.declared.setting.Product.{Product}
use Rattle.iss_model.specs.declared.txn.Txn.{Txn}
use Rattle.iss_model.specs.Inputs.{event_token}
use Rattle.iss_model.specs.rules.Activity.{TxnNow, CallNow, is_asked, txn_named}
use Rattle.iss_model.specs.rules.Acts.{Acknowledges, Act, Asks, Does, Ends, HoldsOwn, Tells, captured}
use Rattle.iss_model.specs.rules.CardActs.{acts_for_gateway, after_clearing_acts, authorization_acts, clearing_acts, funding_acts, gateway_acts, increment_acts, outcome_acts, refund_acts, reversal_acts, stand_acts}
use Rattle.iss_model.specs.rules.Asks.{Ask, txn_begun, is_authorization}
use Rattle.iss_model.specs.rules.Pieces.{call_for, Parts, parts_held, in_all, left_of, taken_to_clear, notice_after_abandonment, failure_reason}
use Rattle.iss_model.specs.rules.CardReasons.{authorization_reason, first_ask, further_ask, is_account_funded, increment_reason, is_in_currency, is_pending, reversal_reason}
use Rattle.iss_model.specs.rules.Facts.{Facts, asked_calls_of, next_notice, is_notice}
use Rattle.iss_model.specs.rules.Reasons.{user_is, is_some_with}
use Rattle.iss_model.specs.rules.Settings.{card_named, product_named, is_active_user, is_named_in, is_active_card}
use Rattle.iss_model.specs.rules.StandIns.{Stand, allowed, over_limit, stand, uncovered}
use Rattle.iss_model.specs.rules.Stepping.{acts_of, authorization_ask, entries_of}
use Rattle.iss_model.specs.state.Cores.{CoreState, core_facts}
use Rattle.iss_model.proofs.Names.{same_name}
use Rattle.iss_acts.proofs.ByKind.{EachKind, walk}
use Rattle.iss_state.specs.Numbers.{CallsNumberedFrom}
use Rattle.iss_state.specs.Dockets.{Docket, docket_after, docket_of}
use Rattle.iss_state.specs.Well.{IsWellAmong, Known, NoneAskedOf, has_live}
use Rattle.iss_state.proofs.docket.Abandoning.{IsNewTo, abandoned_then, new_decides}
use Rattle.iss_state.proofs.docket.Docketed.{closings, docketed_by, done_docketed, some_docketed, told_docketed, turned_down}
use Rattle.iss_state.proofs.docket.Enters.{Enters, enters_append, enters_began, enters_decided, enters_none, enters_opened, enters_settled}
use Rattle.iss_state.proofs.docket.Lists.{both_so, found_filtered, never, not_both}
use Rattle.iss_state.specs.Pending.{known_of}
use Rattle.iss_state.specs.Holdings.{MayHold}
use Rattle.iss_state.proofs.calls.Due.{acts_enter, found_live, its_token, if_asked, outcome_enters}
use Rattle.iss_state.proofs.held.Begun.{begun_live, not_live}

-- an ask seeks funding ----

-- an ask's event is new, and its transaction may hold more; if it is the first one, no call of that transaction is asked
record MaySeek (known : Known) (d : Docket) (ask : Ask) : Type 0 where
  new : IsNewTo known d ask.event
  numbers : CallsNumberedFrom 1 d.calls
  may : MayHold d ask.txn.token
  alone : ask.is_first ≡ true → NoneAskedOf d.calls ask.txn.token

pub first_method : (b : Bool) → is_authorization (cond b method.Authorization method.Incremental) ≡ true → b ≡ true
first_method true h = refl
first_method false h = h

no_product : {P : Type 0} (o : Option Product) → is_some o ≡ true → o ≡ None → P
no_product None h e = cc
no_product (Some x) h e = cc

module _ (known : Known) (d : Docket) (f : Facts) (ask : Ask) (same : f.calls ≡ d.calls) (may : MaySeek known d ask) where
  decided : (v : Verdict) → Enters known d (Some ask.event) (entry.Decided ask.event v ∷ [])
  decided v = enters_decided known d ask.event v may.new.its_event (new_decides known d ask.event may.new)

  turned : (why : Reason) → Enters known d (Some ask.event) (turned_down ask why ++ [])
  turned why =
      subst (Enters known d (Some ask.event)) (sym (append-nil (turned_down ask why)))
      (enters_settled known d ask.txn.token ask.event ask.is_first (verdict.Declined why) may.new.its_event
      (λ first. record { its_live = may.may.its_live; none_asked = may.alone first }) (new_decides known d ask.event may.new))

  stood : (x : Stand) (number : ℕ) (why : Failure) (at : ℕ) → Enters known d (Some ask.event) (docketed_by (stand_acts x number ask why at))
  stood (allowed set) number why at = decided verdict.Approved
  stood (over_limit set) number why at = turned (reason.StandInLimit set.name)
  stood uncovered number why at = turned (failure_reason why)

  asked : (product : Product) → Enters known d (Some ask.event) (docketed_by (Asks f product ask ∷ []))
  asked product =
      enters_opened known d (call_for f product ask) may.new.its_event may.numbers
      (record {
        number = ap (λ (cs : List CallNow). length cs + 1) same;
        its_live = may.may.its_live;
        none_pending = may.may.none_pending;
        undecided = may.new.undecided;
        none_opened = may.new.none_opened;
        alone = λ h. may.alone (first_method ask.is_first h);
      })

  gateway_enters : (product : Option Product) → is_some product ≡ true → Enters known d (Some ask.event) (docketed_by (gateway_acts product f ask))
  gateway_enters None stands = no_product None stands refl
  gateway_enters (Some product) stands = by (is_named_in f.switched product.name)
    where
      by : (b : Bool) → Enters known d (Some ask.event) (docketed_by (cond b (stand_acts (stand f ask failure.Switch ask.at) (next_notice f) ask failure.Switch ask.at) (Asks f product ask ∷ [])))
      by true = stood (stand f ask failure.Switch ask.at) (next_notice f) failure.Switch ask.at
      by false = asked product

  funding_enters : is_some (product_named ask.txn.product f.products) ≡ true → Enters known d (Some ask.event) (docketed_by (funding_acts f ask))
  funding_enters stands = by (is_account_funded ask.txn.funding)
    where
      by : (b : Bool) → Enters known d (Some ask.event) (docketed_by (cond b (HoldsOwn ask ∷ []) (gateway_acts (product_named ask.txn.product f.products) f ask)))
      by true = decided verdict.Approved
      by false = gateway_enters (product_named ask.txn.product f.products) stands

-- a record's own event ----

-- the event is new to the state, and names no transaction
pub record IsNewOn (s : CoreState) (event : List ℕ) : Type 0 where
  pub new : IsNewTo (known_of s) (docket_of s) event
  pub unnamed : txn_named event s.holdings.txns ≡ None

-- the event is decided
decides : (s : CoreState) (event : List ℕ) (v : Verdict) → IsNewOn s event → Enters (known_of s) (docket_of s) (Some event) (entry.Decided event v ∷ [])
decides s event v its = enters_decided (known_of s) (docket_of s) event v its.new.its_event (new_decides (known_of s) (docket_of s) event its.new)

-- if no reason stands, the first test fails and no later reason stands
pub first_fails : (b : Bool) (why : Reason) (rest : Option Reason) → cond b (Some why) rest ≡ None → (b ≡ false) × (rest ≡ None)
first_fails true why rest h = cc
first_fails false why rest h = (refl, h)

-- an authorisation ----

-- an ask of a new transaction, which this event names, and of a product that stands
record IsAskOf (f : Facts) (event : List ℕ) (x : Ask) : Type 0 where
  its_event : x.event ≡ event
  its_token : x.txn.token ≡ event
  its_product : is_some (product_named x.txn.product f.products) ≡ true

ask_of : (f : Facts) (token : List ℕ) (currency : Currency) (amount mcc : ℕ) (mid : List ℕ) (partial : Bool) (at : ℕ) (c : Card) (test : Product → Bool) (product : Option Product)
    → product_named c.product f.products ≡ product → is_some_with test product ≡ true
    → (x : Ask) × (option_map (first_ask token amount partial at) (option_map (λ product. txn_begun f c product token currency mcc mid at) product) ≡ Some x) × IsAskOf f token x
ask_of f token currency amount mcc mid partial at c test None e h = cc
ask_of f token currency amount mcc mid partial at c test (Some product) e h =
    (first_ask token amount partial at (txn_begun f c product token currency mcc mid at), refl, record { its_event = refl; its_token = refl; its_product = ap (λ (o : Option Product). is_some o) e })

ask_there : (f : Facts) (token : List ℕ) (currency : Currency) (amount mcc : ℕ) (mid : List ℕ) (partial : Bool) (at : ℕ) (card : Option Card)
    → is_some_with (is_in_currency f currency) card ≡ true
    → (x : Ask) × (option_map (first_ask token amount partial at) (option_and_then (λ c. option_map (λ product. txn_begun f c product token currency mcc mid at) (product_named c.product f.products)) card) ≡ Some x) × IsAskOf f token x
ask_there f token currency amount mcc mid partial at None h = cc
ask_there f token currency amount mcc mid partial at (Some c) h = ask_of f token currency amount mcc mid partial at c _ (product_named c.product f.products) refl h

-- no call of a transaction that doesn't stand is asked, and it may hold more when it begins
pub unasked : (known : Known) (d : Docket) (token : List ℕ) → IsWellAmong known d → txn_named token d.txns ≡ None → NoneAskedOf d.calls token
unasked known d token well none n c now e = not_both (has_live d.txns token) (ap (has_live d.txns) (sym e) ∙ well.live n c now) (not_live (txn_named token d.txns) none)

pub begun_may : (known : Known) (d : Docket) (t : Txn) → IsWellAmong known d → txn_named t.token d.txns ≡ None → MayHold (docket_after d (entry.Began t)) t.token
begun_may known d t well none = record { its_live = begun_live d.txns t none; none_pending = λ n c now e first. unasked known d t.token well none n c now e }

begun_enters : (s : CoreState) (event : List ℕ) (x : Ask) → IsWellAmong (known_of s) (docket_of s) → IsNewOn s event → IsAskOf (core_facts s) event x
    → Enters (known_of s) (docket_of s) (Some x.event) (docketed_by (authorization_acts (core_facts s) (Some x)))
begun_enters s event x well its ask =
    let known : Known = known_of s in
    let d : Docket = docket_of s in
    let none : txn_named x.txn.token d.txns ≡ None = ap (λ (k : List ℕ). txn_named k d.txns) ask.its_token ∙ its.unnamed in
    enters_append known d (Some x.event) (entry.Began x.txn ∷ []) (docketed_by (funding_acts (core_facts s) x))
    (enters_began known d x.txn (ap known.events ask.its_token ∙ its.new.its_event) ask.its_product none)
    (funding_enters known (docket_after d (entry.Began x.txn)) (core_facts s) x refl
    (record {
      new = record {
        its_event = ap known.events ask.its_event ∙ its.new.its_event;
        none_opened = λ n c e same. its.new.none_opened n c e (same ∙ ask.its_event);
        undecided = ap (λ (k : List ℕ). list_any (λ d. bytes_eq d.event k) d.decisions) ask.its_event ∙ its.new.undecided;
      };
      numbers = well.calls.numbers;
      may = begun_may known d x.txn well none;
      alone = λ h. unasked known d x.txn.token well none;
    }) ask.its_product)

authorization_enters : (s : CoreState) (token card : List ℕ) (currency : Currency) (amount mcc : ℕ) (mid : List ℕ) (partial : Bool) (at : ℕ) (ask : Option Ask)
    → authorization_ask (core_facts s) token card currency amount mcc mid partial at ≡ ask → IsWellAmong (known_of s) (docket_of s) → IsNewOn s token
    → authorization_reason (core_facts s) card currency ask ≡ None → Enters (known_of s) (docket_of s) (Some token) (docketed_by (authorization_acts (core_facts s) ask))
authorization_enters s token card currency amount mcc mid partial at ask made well its none =
    let f : Facts = core_facts s in
    let known : Option Card = card_named card f.cards in
    let first = first_fails (is_none known) reason.CardUnknown _ none in
    let second = first_fails (not (is_some_with (λ c. is_active_card c.state) known)) reason.CardState _ first.1 in
    let third = first_fails (not (is_some_with (λ c. user_is is_active_user f c.user) known)) reason.UserState _ second.1 in
    let fourth = first_fails (not (is_some_with (is_in_currency f currency) known)) reason.Currency _ third.1 in
    let there = ask_there f token currency amount mcc mid partial at known (not-false (is_some_with (is_in_currency f currency) known) fourth.0) in
    subst (λ (o : Option Ask). Enters (known_of s) (docket_of s) (Some token) (docketed_by (authorization_acts f o))) (sym there.1 ∙ made)
    (subst (λ (own : List ℕ). Enters (known_of s) (docket_of s) (Some own) (docketed_by (authorization_acts f (Some there.0)))) there.2.its_event
    (begun_enters s token there.0 well its there.2))

-- an increment ----

-- the transaction of an increment that isn't declined may hold more
pub raised_may : (currency : Currency) (ask : Option Ask) (s : CoreState) (txn : List ℕ) (now : TxnNow) → txn_named txn s.holdings.txns ≡ Some now
    → increment_reason (core_facts s) (Some now) currency ask ≡ None → MayHold (docket_of s) now.txn.token
raised_may currency ask s txn now e none =
    let second = first_fails (not now.live) reason.TxnClosed _ none in
    let third = first_fails (is_pending (core_facts s) now.txn) reason.TxnPending _ second.1 in
    record {
      its_live = found_live s.holdings.txns txn now e (not-false now.live second.0);
      none_pending = λ n c asked same method.
          not_both (is_pending (core_facts s) now.txn)
          (found_filtered (λ (x : CallNow). nat_eq x.opened.call.0 n) (λ (x : CallNow). is_asked x && bytes_eq x.opened.txn now.txn.token) (λ (x : CallNow). is_authorization x.opened.method)
          s.calls c asked.stands (both_so (is_asked c) (bytes_eq c.opened.txn now.txn.token) asked.asked (same_name c.opened.txn now.txn.token same)) method)
          third.0;
    }

increment_enters : (s : CoreState) (event txn : List ℕ) (currency : Currency) (amount at : ℕ) (now : TxnNow) → txn_named txn s.holdings.txns ≡ Some now
    → IsWellAmong (known_of s) (docket_of s) → IsNewOn s event → increment_reason (core_facts s) (Some now) currency (Some (further_ask event amount at now.txn)) ≡ None
    → Enters (known_of s) (docket_of s) (Some event) (docketed_by (increment_acts (core_facts s) (Some (further_ask event amount at now.txn))))
increment_enters s event txn currency amount at now e well its none =
    funding_enters (known_of s) (docket_of s) (core_facts s) (further_ask event amount at now.txn) refl
    (record { new = its.new; numbers = well.calls.numbers; may = raised_may currency (Some (further_ask event amount at now.txn)) s txn now e none; alone = never })
    (well.txns.products txn now e)

-- reversals, clearings and refunds ----

-- calls are abandoned, their transaction may end, the gateway may be told, and the event is done
abandoned_done : (s : CoreState) (why : Reason) (t : Txn) (event : List ℕ) (ends : Bool) (news : List Act) → docketed_by news ≡ [] → IsWellAmong (known_of s) (docket_of s)
    → has_live s.holdings.txns t.token ≡ true → IsNewOn s event
    → Enters (known_of s) (docket_of s) (Some event) (closings why (asked_calls_of (core_facts s) t.token) ++ docketed_by ((cond ends (Ends t ∷ []) [] ++ news) ++ Does event ∷ []))
abandoned_done s why t event ends news quiet well live its =
    abandoned_then (known_of s) why (docket_of s) t.token (Some event) (docketed_by ((cond ends (Ends t ∷ []) [] ++ news) ++ Does event ∷ [])) well live
    (λ q may new. subst (Enters (known_of s) q (Some event)) (sym (docketed_so ends))
    (enters_settled (known_of s) q t.token event ends verdict.Done its.new.its_event (λ e. may) (new_decides (known_of s) q event (new event its.new))))
  where
    docketed_so : (b : Bool) → docketed_by ((cond b (Ends t ∷ []) [] ++ news) ++ Does event ∷ []) ≡ cond b (entry.Ended t.token ∷ []) [] ++ entry.Decided event verdict.Done ∷ []
    docketed_so true = ap (λ (es : List Entry). entry.Ended t.token ∷ es) (done_docketed event news quiet)
    docketed_so false = done_docketed event news quiet

-- the gateway may be told, and the event is done
told_done : (s : CoreState) (t : Txn) (event : List ℕ) (news : List Act) → docketed_by news ≡ [] → IsNewOn s event
    → Enters (known_of s) (docket_of s) (Some event) (docketed_by (acts_for_gateway t news ++ Does event ∷ []))
told_done s t event news quiet its =
    subst (Enters (known_of s) (docket_of s) (Some event)) (sym (done_docketed event (acts_for_gateway t news) (told_docketed t news quiet))) (decides s event verdict.Done its)

reversal_enters : (s : CoreState) (event txn : List ℕ) (amount : ℕ) (currency : Currency) (now : TxnNow) → txn_named txn s.holdings.txns ≡ Some now
    → IsWellAmong (known_of s) (docket_of s) → IsNewOn s event → reversal_reason (Some now) currency ≡ None
    → Enters (known_of s) (docket_of s) (Some event) (docketed_by (reversal_acts (core_facts s) event amount (Some now)))
reversal_enters s event txn amount currency now e well its none =
    let t : Txn = now.txn in
    let held : Parts = parts_held (core_facts s) t in
    let second = first_fails (not now.live) reason.TxnClosed _ none in
    abandoned_done s reason.Reversed t event (nat_eq (min amount (in_all held)) (in_all held)) _ (told_docketed t _ (some_docketed (min amount (in_all held)) _ refl)) well
    (found_live s.holdings.txns txn now e (not-false now.live second.0)) its

after_clearing_enters : (s : CoreState) (event txn : List ℕ) (now : TxnNow) (rest : Parts) (amount : ℕ) (ends : Bool) → (ends ≡ true → now.live ≡ true) → txn_named txn s.holdings.txns ≡ Some now
    → IsWellAmong (known_of s) (docket_of s) → IsNewOn s event
    → Enters (known_of s) (docket_of s) (Some event) (docketed_by (after_clearing_acts (core_facts s) now.txn rest amount ends ++ Does event ∷ []))
after_clearing_enters s event txn now rest amount true live e well its =
    let told : List Act = Tells (notice_after_abandonment (next_notice (core_facts s)) (core_facts s) now.txn) captured now.txn amount rest.g ∷ [] in
    abandoned_done s reason.Cleared now.txn event true (acts_for_gateway now.txn told) (told_docketed now.txn told refl) well (found_live s.holdings.txns txn now e (live refl)) its
after_clearing_enters s event txn now rest amount false live e well its = told_done s now.txn event _ refl its

clearing_enters : (s : CoreState) (event txn : List ℕ) (amount : ℕ) (last : Bool) (at : ℕ) (now : TxnNow) → txn_named txn s.holdings.txns ≡ Some now
    → IsWellAmong (known_of s) (docket_of s) → IsNewOn s event
    → Enters (known_of s) (docket_of s) (Some event) (docketed_by (clearing_acts (core_facts s) event amount last at (Some now)))
clearing_enters s event txn amount last at now e well its =
    let rest = left_of (parts_held (core_facts s) now.txn) (taken_to_clear (parts_held (core_facts s) now.txn) amount) in
    let closes : Bool = last || nat_eq (in_all rest) 0 in
    after_clearing_enters s event txn now rest amount (now.live && closes) (λ h. (and_parts now.live closes h).0) e well its

refund_enters : (s : CoreState) (event : List ℕ) (amount : ℕ) (now : TxnNow) → IsNewOn s event
    → Enters (known_of s) (docket_of s) (Some event) (docketed_by (refund_acts (core_facts s) event amount (Some now)))
refund_enters s event amount now its = told_done s now.txn event _ refl its

-- all inputs ----

-- if an input's event is new, its acts may be entered, and they account for the event
abbrev EnterIfNew : CoreState → Input → List Act → Type 0
EnterIfNew s i acts = ((event : List ℕ) → event_token i ≡ Some event → IsNewOn s event) → Enters (known_of s) (docket_of s) (event_token i) (docketed_by acts)

decides_own : (s : CoreState) (i : Input) (token : List ℕ) (v : Verdict) → event_token i ≡ Some token → IsNewOn s token
    → Enters (known_of s) (docket_of s) (event_token i) (entry.Decided token v ∷ [])
decides_own s i token v its new = subst (λ (own : Option (List ℕ)). Enters (known_of s) (docket_of s) own (entry.Decided token v ∷ [])) (sym its) (decides s token v new)

ack_enters : (s : CoreState) (notice : ℕ) (b : Bool) → Enters (known_of s) (docket_of s) None (docketed_by (cond b (Acknowledges notice ∷ []) []))
ack_enters s notice true = enters_none (known_of s) (docket_of s)
ack_enters s notice false = enters_none (known_of s) (docket_of s)

kinds_enter : (s : CoreState) (at : ℕ) → IsWellAmong (known_of s) (docket_of s) → EachKind (EnterIfNew s) (core_facts s) at
kinds_enter s at well =
    record {
      declined = λ i token why its new. decides_own s i token (verdict.Declined why) its (new token its);
      setting = λ i token its none new. decides_own s i token verdict.Done its (new token its);
      load = λ token user currency amount new. decides s token verdict.Done (new token refl);
      authorization = λ token card currency amount mcc mid partial ask made none new. authorization_enters s token card currency amount mcc mid partial at ask made well (new token refl) none;
      increment = λ token txn currency amount now stands none new. increment_enters s token txn currency amount at now stands well (new token refl) none;
      reversal = λ token txn currency amount now stands none new. reversal_enters s token txn amount currency now stands well (new token refl) none;
      clearing = λ token txn currency amount last now stands none new. clearing_enters s token txn amount last at now stands well (new token refl);
      refund = λ token txn currency amount now stands none new. refund_enters s token amount now (new token refl);
      answer = λ call what new.
          if_asked (λ acts. Enters (known_of s) (docket_of s) None (docketed_by acts)) s (λ o t. outcome_acts what (core_facts s) o t at) call.0 (λ none. enters_none (known_of s) (docket_of s))
          (λ c t asked stands. outcome_enters (known_of s) (docket_of s) call.0 c t.txn well asked (its_token s.holdings.txns c.opened.txn t stands) what (core_facts s) at);
      acknowledgement = λ notice new. ack_enters s notice (is_notice (core_facts s) notice);
      time = λ new. enters_none (known_of s) (docket_of s);
    }

pub own_enters : (s : CoreState) (i : Input) (at : ℕ) → IsWellAmong (known_of s) (docket_of s) → ((event : List ℕ) → event_token i ≡ Some event → IsNewOn s event)
    → Enters (known_of s) (docket_of s) (event_token i) (entries_of i at (core_facts s))
own_enters s i at well new = acts_enter (acts_of i at (core_facts s)) (walk (kinds_enter s at well) i new)
