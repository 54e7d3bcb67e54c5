-- Why an input is declined: its first reason is one that it may have.
use Rattle.std.proofs.Common.{◌≡◌, ◌∙◌, ◌∷◌, ◌&&◌, ◌||◌, ℕ, ap, Bool, cond, false, find, List, [], not, refl, true}
use Rattle.std.specs.Prelude.{Option, Some, None, is_none, is_some, option_and_then, unwrap_or}
use Rattle.std.specs.List.{list_all}
use Rattle.std.specs.Str.{bytes_eq}
use Rattle.std.proofs.lemmas.Bool.{and_parts}
use Rattle.iss_model.specs.declared.call.Opened.{Opened}
use Rattle.iss_model.specs.declared.decision.Reason.{Reason}
use Rattle.iss_model.specs.declared.decision.Reason.TheVariants as reason
use Rattle.iss_model.specs.declared.input.Input.{Input}
use Rattle.iss_model.specs.declared.input.Input.TheVariants as input
use Rattle.iss_model.specs.declared.setting.Card.{Card}
use Rattle.iss_model.specs.declared.setting.Moved.TheVariants as moved
use Rattle.iss_model.specs.declared.setting.Set.{Set}
use Rattle.iss_model.specs.declared.setting.User.{User}
use Rattle.iss_model.specs.declared.txn.Txn.{Txn}
use Rattle.iss_model.specs.rules.Activity.{TxnNow}
use Rattle.iss_model.specs.rules.Acts.{Act, Loads, Sets}
use Rattle.iss_model.specs.rules.Asks.{Ask, breach, declines}
use Rattle.iss_model.specs.rules.CardActs.{authorization_acts, clearing_acts, increment_acts, outcome_acts, refund_acts, reversal_acts}
use Rattle.iss_model.specs.rules.CardReasons.{authorization_reason, clearing_reason, control_breach, increment_reason, is_in_currency, is_pending, lacks_funds, passes_cleared, refund_reason, reversal_reason}
use Rattle.iss_model.specs.rules.Controls.{ControlNow, control_named, group_named, set_named}
use Rattle.iss_model.specs.Currencies.{same_currency}
use Rattle.iss_model.specs.rules.Facts.{Facts, call_in, is_notice, txn_in}
use Rattle.iss_model.specs.rules.Reasons.{card_move_reason, card_reason, control_reason, first_reason, group_reason, is_full, is_same_control, is_some_with, lacks_group, lacks_product, lacks_user, load_reason, move_reason, product_reason, put_control_reason, put_set_reason, set_reason, switch_reason, user_is, user_move_reason, user_reason}
use Rattle.iss_model.specs.rules.Settings.{card_may_move, card_named, is_active_card, is_active_user, is_closed_user, product_named, user_may_move, user_named}
use Rattle.iss_model.specs.rules.Stepping.{acts_of, acts_unless, authorization_ask, entries_of, increment_ask}
use Rattle.iss_model.proofs.Names.{its_name, same_name}
use Rattle.iss_acts.specs.Causes.{Cause, ComesOf}
use Rattle.iss_acts.proofs.Passing.{EachPasses}
use Rattle.iss_agreement.proofs.StayStanding.{is-some-find}
use Rattle.iss_state.proofs.docket.Lists.{found_any, mapped_is, or_true}
use Rattle.iss_reasoned.proofs.ReasonedActs.{AreReasoned, acts_reasoned, asked, begun, cleared, either_acts, is_reason_by, is_reasoned, no_act, of_outcome, one_act, raised, refunded, reversed}

-- the first reason ----

-- a reason passes, if there is one
abbrev passes : (Reason → Bool) → Option Reason → Bool
passes p None = true
passes p (Some why) = p why

record Passes (p : Reason → Bool) (o : Option Reason) : Type 0 where
  holds : passes p o ≡ true

-- each reason passes, or its test fails
first_passes : (p : Reason → Bool) (rs : List (Bool × Reason)) → list_all (λ r. p r.1 || not r.0) rs ≡ true → Passes p (first_reason rs)
first_passes p [] h = record { holds = refl }
first_passes p (r ∷ rs) h =
    let both = and_parts (p r.1 || not r.0) (list_all (λ r. p r.1 || not r.0) rs) h in
    record { holds = by r.0 both.0 (first_passes p rs both.1).holds }
  where
    by : (b : Bool) → (p r.1 || not b) ≡ true → passes p (first_reason rs) ≡ true → passes p (cond b (Some r.1) (first_reason rs)) ≡ true
    by false k rest = rest
    by true k rest = strip (p r.1) k
      where
        strip : (b : Bool) → (b || false) ≡ true → b ≡ true
        strip true k = refl
        strip false k = cc

unless : {f : Facts} {by : Cause} (why : Option Reason) (token : List ℕ) (acts : List Act) → Passes (is_reason_by f by token) why → AreReasoned f by acts → AreReasoned f by (acts_unless why token acts)
unless None token acts h k = k
unless (Some why) token acts h k = one_act h.holds

-- the control that an ask breaches is known
breach_known : (f : Facts) (ask : Option Ask) → (is_some (control_named (unwrap_or (option_and_then (breach f) ask) []) f.controls) || not (is_some (option_and_then (breach f) ask))) ≡ true
breach_known f None = or_true (is_some (control_named [] f.controls)) true refl
breach_known f (Some ask) = by (breach f ask) refl
  where
    by : (o : Option (List ℕ)) → breach f ask ≡ o → (is_some (control_named (unwrap_or o []) f.controls) || not (is_some o)) ≡ true
    by None e = or_true (is_some (control_named [] f.controls)) true refl
    by (Some name) e =
        let its = mapped_is (λ (c : ControlNow). c.control.name) (find (declines f ask) f.controls) name e in
        ap (λ (b : Bool). b || false)
        (is-some-find (λ (c : ControlNow). bytes_eq c.control.name name) f.controls
        ∙ found_any (declines f ask) (λ (c : ControlNow). bytes_eq c.control.name name) f.controls its.0 its.1 (same_name its.0.control.name name its.2))

-- own acts ----

own_acts : (f : Facts) (i : Input) (at : ℕ) → AreReasoned f (ComesOf i) (acts_of i at f)
own_acts f (input.User token user) at =
    unless (user_reason f user) token (Sets (input.User token user) token ∷ []) (first_passes _ ((is_some (user_named user f.users), reason.Exists) ∷ []) refl) (one_act refl)
own_acts f (input.Card token card user product active) at =
    unless (card_reason f card user product) token (Sets (input.Card token card user product active) token ∷ [])
    (first_passes _
    ((is_none (user_named user f.users), reason.UserUnknown) ∷ (is_none (product_named product f.products), reason.ProductUnknown) ∷ (is_some (card_named card f.cards), reason.Exists) ∷ []) refl)
    (one_act refl)
own_acts f (input.Move token (moved.Card card to)) at = unless (move_reason f (moved.Card card to)) token (Sets (input.Move token (moved.Card card to)) token ∷ []) (by (card_named card f.cards)) (one_act refl)
  where
    by : (o : Option Card) → Passes (is_reason_by f (ComesOf (input.Move token (moved.Card card to))) token) (card_move_reason o to)
    by None = record { holds = refl }
    by (Some x) =
        first_passes (is_reason_by f (ComesOf (input.Move token (moved.Card card to))) token) ((not (card_may_move x.state to), reason.MoveCard x.state to) ∷ [])
        (ap (λ (b : Bool). (b || not (not (card_may_move x.state to))) && true) (its_name token))
own_acts f (input.Move token (moved.User user to)) at = unless (move_reason f (moved.User user to)) token (Sets (input.Move token (moved.User user to)) token ∷ []) (by (user_named user f.users)) (one_act refl)
  where
    by : (o : Option User) → Passes (is_reason_by f (ComesOf (input.Move token (moved.User user to))) token) (user_move_reason o to)
    by None = record { holds = refl }
    by (Some x) =
        first_passes (is_reason_by f (ComesOf (input.Move token (moved.User user to))) token) ((not (user_may_move x.state to), reason.MoveUser x.state to) ∷ [])
        (ap (λ (b : Bool). (b || not (not (user_may_move x.state to))) && true) (its_name token))
own_acts f (input.Product token product currency funding timeout_ms hold_ms) at =
    unless (product_reason f product) token (Sets (input.Product token product currency funding timeout_ms hold_ms) token ∷ [])
    (first_passes _ ((is_some (product_named product f.products), reason.Exists) ∷ (is_full f.products, reason.Limit) ∷ []) refl) (one_act refl)
own_acts f (input.Group token group mccs) at =
    unless (group_reason f group) token (Sets (input.Group token group mccs) token ∷ [])
    (first_passes _ ((is_some (group_named group f.groups), reason.Exists) ∷ (is_full f.groups, reason.Limit) ∷ []) refl) (one_act refl)
own_acts f (input.Control token control currency window amount_limit usage_limit association scope offset active) at =
    unless (control_reason f control currency window association scope offset) token
    (Sets (input.Control token control currency window amount_limit usage_limit association scope offset active) token ∷ []) (by (control_named control f.controls)) (one_act refl)
  where
    by : (o : Option ControlNow)
        → Passes (is_reason_by f (ComesOf (input.Control token control currency window amount_limit usage_limit association scope offset active)) token) (put_control_reason o f currency window association scope offset)
    by None =
        first_passes (is_reason_by f (ComesOf (input.Control token control currency window amount_limit usage_limit association scope offset active)) token)
        ((lacks_user f association, reason.UserUnknown) ∷ (lacks_product f association, reason.ProductUnknown) ∷ (lacks_group f scope, reason.GroupUnknown) ∷ (is_full f.controls, reason.Limit) ∷ []) refl
    by (Some c) =
        first_passes (is_reason_by f (ComesOf (input.Control token control currency window amount_limit usage_limit association scope offset active)) token)
        ((not (is_same_control c.control currency window association scope offset), reason.ControlFixed) ∷ []) refl
own_acts f (input.Set token set product currency connection timeout application max day_limit active) at =
    unless (set_reason f set product currency) token (Sets (input.Set token set product currency connection timeout application max day_limit active) token ∷ [])
    (by (set_named set f.sets)) (one_act refl)
  where
    by : (o : Option Set)
        → Passes (is_reason_by f (ComesOf (input.Set token set product currency connection timeout application max day_limit active)) token) (put_set_reason o f product currency)
    by None =
        first_passes (is_reason_by f (ComesOf (input.Set token set product currency connection timeout application max day_limit active)) token)
        ((is_none (product_named product f.products), reason.ProductUnknown)
        ∷ (not (is_some_with (λ p. same_currency p.currency currency) (product_named product f.products)), reason.Currency) ∷ (is_full f.sets, reason.Limit) ∷ []) refl
    by (Some s) =
        first_passes (is_reason_by f (ComesOf (input.Set token set product currency connection timeout application max day_limit active)) token)
        ((not (bytes_eq s.product product && same_currency s.currency currency), reason.SetFixed) ∷ []) refl
own_acts f (input.Switch token product on) at =
    unless (switch_reason f product) token (Sets (input.Switch token product on) token ∷ [])
    (first_passes _ ((is_none (product_named product f.products), reason.ProductUnknown) ∷ []) refl) (one_act refl)
own_acts f (input.Load token user currency amount) at =
    unless (load_reason f user) token (Loads token user currency amount ∷ [])
    (first_passes _ ((is_none (user_named user f.users), reason.UserUnknown) ∷ (user_is is_closed_user f user, reason.UserState) ∷ []) refl) (one_act refl)
own_acts f (input.Authorization token card currency amount mcc mid partial) at =
    let ask : Option Ask = authorization_ask f token card currency amount mcc mid partial at in
    let known : Option Card = card_named card f.cards in
    unless (authorization_reason f card currency ask) token (authorization_acts f ask)
    (first_passes (is_reason_by f (ComesOf (input.Authorization token card currency amount mcc mid partial)) token)
    ((is_none known, reason.CardUnknown) ∷ (not (is_some_with (λ c. is_active_card c.state) known), reason.CardState)
    ∷ (not (is_some_with (λ c. user_is is_active_user f c.user) known), reason.UserState) ∷ (not (is_some_with (is_in_currency f currency) known), reason.Currency)
    ∷ control_breach (option_and_then (breach f) ask) ∷ (is_some_with (lacks_funds f) ask, reason.InsufficientFunds) ∷ [])
    (ap (λ (b : Bool). b && true) (breach_known f ask))) (begun ask)
own_acts f (input.Increment token txn currency amount) at =
    let ask : Option Ask = increment_ask f token txn amount at in
    let known : Option TxnNow = txn_in f txn in
    unless (increment_reason f known currency ask) token (increment_acts f ask)
    (first_passes (is_reason_by f (ComesOf (input.Increment token txn currency amount)) token)
    ((is_none known, reason.TxnUnknown) ∷ (not (is_some_with (λ t. t.live) known), reason.TxnClosed) ∷ (is_some_with (λ t. is_pending f t.txn) known, reason.TxnPending)
    ∷ (not (is_some_with (λ t. is_some_with (λ c. is_active_card c.state) (card_named t.txn.card f.cards)) known), reason.CardState)
    ∷ (not (is_some_with (λ t. user_is is_active_user f t.txn.user) known), reason.UserState)
    ∷ (not (is_some_with (λ t. same_currency t.txn.currency currency) known), reason.Currency)
    ∷ control_breach (option_and_then (breach f) ask) ∷ (is_some_with (lacks_funds f) ask, reason.InsufficientFunds) ∷ [])
    (ap (λ (b : Bool). b && true) (breach_known f ask))) (raised ask)
own_acts f (input.Reversal token txn currency amount) at =
    let known : Option TxnNow = txn_in f txn in
    unless (reversal_reason known currency) token (reversal_acts f token amount known)
    (first_passes _
    ((is_none known, reason.TxnUnknown) ∷ (not (is_some_with (λ t. t.live) known), reason.TxnClosed)
    ∷ (not (is_some_with (λ t. same_currency t.txn.currency currency) known), reason.Currency) ∷ []) refl) (reversed token amount known)
own_acts f (input.Clearing token txn currency amount last) at =
    let known : Option TxnNow = txn_in f txn in
    unless (clearing_reason known currency) token (clearing_acts f token amount last at known)
    (first_passes _ ((is_none known, reason.TxnUnknown) ∷ (not (is_some_with (λ t. same_currency t.txn.currency currency) known), reason.Currency) ∷ []) refl)
    (cleared token amount last at known)
own_acts f (input.Refund token txn currency amount) at =
    let known : Option TxnNow = txn_in f txn in
    unless (refund_reason f known currency amount) token (refund_acts f token amount known)
    (first_passes _
    ((is_none known, reason.TxnUnknown) ∷ (not (is_some_with (λ t. same_currency t.txn.currency currency) known), reason.Currency)
    ∷ (is_some_with (passes_cleared f amount) known, reason.RefundOver) ∷ []) refl) (refunded token amount known)
own_acts f (input.Answer call what) at = asked (λ (o : Opened) (t : Txn). outcome_acts what f o t at) (λ o t. of_outcome what o t at) (call_in f call.0)
own_acts f (input.Ack notice) at = either_acts (is_notice f notice) (one_act refl) no_act
own_acts f input.Time at = no_act

pub own_reasoned : (f : Facts) (i : Input) (at : ℕ) → EachPasses (is_reasoned f (ComesOf i)) (entries_of i at f)
own_reasoned f i at = acts_reasoned f (ComesOf i) (acts_of i at f) (own_acts f i at).all
