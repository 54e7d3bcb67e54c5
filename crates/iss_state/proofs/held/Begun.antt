-- A transaction that an authorisation begins, and the event of a record that was taken up.
use Rattle.std.proofs.Common.{◌≡◌, ℕ, Bool, true, false, not, cond, ◌&&◌, ◌||◌, List, [], ◌∷◌, ◌++◌, refl, sym, ap, ◌∙◌}
use Rattle.std.specs.Prelude.{Option, Some, None, option_map, option_and_then}
use Rattle.std.specs.List.{list_any}
use Rattle.std.specs.Option.{option_or}
use Rattle.std.specs.Str.{bytes_eq}
use Rattle.iss_model.specs.declared.currency.Currency.{Currency}
use Rattle.iss_model.specs.declared.input.Input.{Input}
use Rattle.iss_model.specs.declared.input.Input.TheVariants as input
use Rattle.iss_model.specs.declared.setting.Card.{Card}
use Rattle.iss_model.specs.declared.setting.Product.{Product}
use Rattle.iss_model.specs.declared.txn.Txn.{Txn}
use Rattle.iss_model.specs.Inputs.{event_token}
use Rattle.iss_model.specs.rules.Activity.{TxnNow, txn_named}
use Rattle.iss_model.specs.rules.Asks.{Ask, txn_begun}
use Rattle.iss_model.specs.rules.CardReasons.{first_ask}
use Rattle.iss_model.specs.rules.Facts.{Facts}
use Rattle.iss_model.specs.rules.Reasons.{is_some_with}
use Rattle.iss_model.specs.rules.Settings.{card_named, product_named}
use Rattle.iss_model.specs.rules.Stepping.{authorization_ask}
use Rattle.iss_model.specs.state.Cores.{CoreState, core_facts, is_live}
use Rattle.iss_model.proofs.Names.{its_name}
use Rattle.iss_acts.specs.Causes.{Cause, ComesOf}
use Rattle.iss_acts.specs.Sources.{IsFirstAsk}
use Rattle.iss_state.specs.Well.{has_live}
use Rattle.iss_state.proofs.docket.Entering.{txn_more}
use Rattle.iss_state.proofs.docket.Lists.{inside, not_both, not_some}
use Rattle.iss_state.specs.Pending.{HasTakenUp}

-- an authorisation ----

none_ended : (k : List ℕ) (txns : List TxnNow) → txn_named k txns ≡ None → list_any (λ t. bytes_eq t.txn.token k && not t.live) txns ≡ false
none_ended k [] e = refl
none_ended k (t ∷ ts) e = by (bytes_eq t.txn.token k) (none_ended k ts) e
  where
    by : (b : Bool) → (txn_named k ts ≡ None → list_any (λ t. bytes_eq t.txn.token k && not t.live) ts ≡ false) → cond b (Some t) (txn_named k ts) ≡ None
        → ((b && not t.live) || list_any (λ t. bytes_eq t.txn.token k && not t.live) ts) ≡ false
    by true rest e = cc
    by false rest e = rest e

-- a transaction of a new token stands
pub begun_stands : (txns : List TxnNow) (t : Txn) → txn_named t.token txns ≡ None
    → txn_named t.token (txns ++ record { txn = t; live = is_live txns t.token } ∷ []) ≡ Some (record { txn = t; live = is_live txns t.token })
begun_stands txns t none =
    let x : TxnNow = record { txn = t; live = is_live txns t.token } in
    txn_more t.token txns x
    ∙ ap (λ (o : Option TxnNow). option_or o (cond (bytes_eq t.token t.token) (Some x) None)) none
    ∙ ap (λ (b : Bool). option_or None (cond b (Some x) None)) (its_name t.token)

-- a transaction of a new token begins live
pub begun_live : (txns : List TxnNow) (t : Txn) → txn_named t.token txns ≡ None → has_live (txns ++ record { txn = t; live = is_live txns t.token } ∷ []) t.token ≡ true
begun_live txns t none =
    let x : TxnNow = record { txn = t; live = is_live txns t.token } in
    let live_of : Option TxnNow → Bool = is_some_with (λ t. t.live) in
    ap live_of (txn_more t.token txns x)
    ∙ ap (λ (o : Option TxnNow). live_of (option_or o (cond (bytes_eq t.token t.token) (Some x) None))) none
    ∙ ap (λ (b : Bool). live_of (option_or None (cond b (Some x) None))) (its_name t.token)
    ∙ ap not (none_ended t.token txns none)

pub not_live : (o : Option TxnNow) → o ≡ None → is_some_with (λ t. t.live) o ≡ false
not_live None e = refl
not_live (Some t) e = cc

-- an ask of an authorisation is for a transaction of its own token and stamp
token_of_begun : (f : Facts) (token : List ℕ) (currency : Currency) (amount mcc : ℕ) (mid : List ℕ) (partial : Bool) (at : ℕ) (c : Card) (product : Option Product) (x : Ask)
    → option_map (first_ask token amount partial at) (option_map (λ product. txn_begun f c product token currency mcc mid at) product) ≡ Some x → (x.txn.token ≡ token) × (x.txn.at ≡ at)
token_of_begun f token currency amount mcc mid partial at c None x e = cc
token_of_begun f token currency amount mcc mid partial at c (Some product) x e = (ap (λ (x : Ask). x.txn.token) (sym (inside e)), ap (λ (x : Ask). x.txn.at) (sym (inside e)))

token_of_ask : (f : Facts) (token : List ℕ) (currency : Currency) (amount mcc : ℕ) (mid : List ℕ) (partial : Bool) (at : ℕ) (card : Option Card) (x : Ask)
    → option_map (first_ask token amount partial at) (option_and_then (λ c. option_map (λ product. txn_begun f c product token currency mcc mid at) (product_named c.product f.products)) card) ≡ Some x
    → (x.txn.token ≡ token) × (x.txn.at ≡ at)
token_of_ask f token currency amount mcc mid partial at None x e = cc
token_of_ask f token currency amount mcc mid partial at (Some c) x e = token_of_begun f token currency amount mcc mid partial at c (product_named c.product f.products) x e

pub authorization_token : (f : Facts) (token card : List ℕ) (currency : Currency) (amount mcc : ℕ) (mid : List ℕ) (partial : Bool) (at : ℕ) (x : Ask)
    → authorization_ask f token card currency amount mcc mid partial at ≡ Some x → x.txn.token ≡ token
authorization_token f token card currency amount mcc mid partial at x e = (token_of_ask f token currency amount mcc mid partial at (card_named card f.cards) x e).0

pub authorization_stamp : (f : Facts) (token card : List ℕ) (currency : Currency) (amount mcc : ℕ) (mid : List ℕ) (partial : Bool) (at : ℕ) (x : Ask)
    → authorization_ask f token card currency amount mcc mid partial at ≡ Some x → x.txn.at ≡ at
authorization_stamp f token card currency amount mcc mid partial at x e = (token_of_ask f token currency amount mcc mid partial at (card_named card f.cards) x e).1

-- the event of a record that was taken up names no transaction
pub unnamed : (s : CoreState) (i : Input) (event : List ℕ) → HasTakenUp s i → event_token i ≡ Some event → txn_named event s.holdings.txns ≡ None
unnamed s i event ready e = not_some (txn_named event s.holdings.txns) (λ h. not_both (ready.before.events event) (ready.well.txns.events event h) (ready.unknown event e))

-- the transaction of an authorisation's ask doesn't stand yet
pub first_unnamed : {by : Cause} {at : ℕ} (s : CoreState) (ask : Ask) → ((i : Input) → by ≡ ComesOf i → HasTakenUp s i) → IsFirstAsk (core_facts s) by at ask → txn_named ask.txn.token s.holdings.txns ≡ None
first_unnamed {at = at} s ask taken first =
    let i : Input = input.Authorization first.token first.card first.currency first.amount first.mcc first.mid first.partial in
    ap (λ (k : List ℕ). txn_named k s.holdings.txns) (authorization_token (core_facts s) first.token first.card first.currency first.amount first.mcc first.mid first.partial at ask first.made)
    ∙ unnamed s i first.token (taken i first.its_input) refl
