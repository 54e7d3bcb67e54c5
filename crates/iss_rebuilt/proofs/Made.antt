-- What is made of events: transactions and calls as they began, by the words that stand of them.
use Rattle.std.proofs.Common.{◌≡◌, ◌∙◌, ◌+◌, ◌++◌, ◌∷◌, ◌&&◌, ℕ, ap, Bool, cond, find, fold, length, List, [], map, refl, suc, sym, true}
use Rattle.std.specs.Prelude.{Option, Some, None, is_some, option_map, unwrap_or, if◌then◌else◌}
use Rattle.std.specs.Str.{bytes_eq}
use Rattle.iss_model.specs.declared.call.Opened.{Opened}
use Rattle.iss_model.specs.declared.input.Input.{Input}
use Rattle.iss_model.specs.declared.input.Input.TheVariants as input
use Rattle.iss_model.specs.declared.setting.Product.{Product}
use Rattle.iss_model.specs.declared.txn.Txn.{Txn}
use Rattle.iss_model.specs.Inputs.{event_token}
use Rattle.iss_model.specs.rules.Activity.{CallNow, TxnNow, txn_named}
use Rattle.iss_model.specs.rules.Asks.{Ask}
use Rattle.iss_model.specs.rules.CardReasons.{first_ask, further_ask, txn_asked}
use Rattle.iss_model.specs.rules.Facts.{Accepted, Decision, Facts}
use Rattle.iss_model.specs.rules.Pieces.{call_for}
use Rattle.iss_model.specs.rules.Settings.{product_named}
use Rattle.iss_model.specs.rules.Stepping.{authorization_ask}
use Rattle.iss_model.specs.state.Cores.{CoreState, core_facts, no_core}
use Rattle.iss_state.proofs.effects.Finds.{find-map}
use Rattle.iss_states.specs.Rebuilding.{ask_of_event}
use Rattle.iss_states.specs.Settled.{with_done}
use Rattle.iss_states.specs.Showing.{token_of_event}

-- what is made ----

-- the words that stand of events: how they were decided, and the transactions and the calls as they began
pub record Words : Type 0 where
  pub decisions : List Decision
  pub txns : List Txn
  pub calls : List Opened

-- the words of a core
abbrev pub words_of : CoreState → Words
words_of c = record { decisions = c.decisions; txns = map (λ t. t.txn) c.holdings.txns; calls = map (λ x. x.opened) c.calls }

-- a transaction of this token began
abbrev pub has_txn : List Txn → List ℕ → Bool
has_txn ts token = is_some (find (λ t. bytes_eq t.token token) ts)

-- a call of this event was opened
abbrev pub has_call : List Opened → List ℕ → Bool
has_call os event = is_some (find (λ o. bytes_eq o.event event) os)

-- what was set, and the transactions and the calls as they began
pub record Made : Type 0 where
  pub set : CoreState
  pub txns : List Txn
  pub calls : List Opened

abbrev pub nothing_made : Made
nothing_made = record { set = no_core; txns = []; calls = [] }

abbrev pub as_live : Txn → TxnNow
as_live t = record { txn = t; live = true }

abbrev pub as_asked : Opened → CallNow
as_asked o = record { opened = o; how = None }

-- the facts of what is made, with the number of a record
abbrev pub made_facts : CoreState → List Txn → List Opened → ℕ → Facts
made_facts set txns calls n = record (core_facts set) { count = n; txns = map as_live txns; calls = map as_asked calls }

-- the transaction that an ask begins
abbrev pub first_txns : Bool → Option Ask → List Txn
first_txns b None = []
first_txns b (Some ask) = if ask.is_first && b then ask.txn ∷ [] else []

-- the call of an ask
abbrev pub call_of_product : Facts → Ask → Option Product → List Opened
call_of_product f ask None = []
call_of_product f ask (Some product) = call_for f product ask ∷ []

abbrev pub first_calls : Facts → Bool → Option Ask → List Opened
first_calls f b None = []
first_calls f b (Some ask) = if b then call_of_product f ask (product_named ask.txn.product f.products) else []

-- what one more event makes, if it set something, began a transaction and opened a call
abbrev pub made_on : CoreState → Bool → Bool → Made → Accepted → Made
made_on set begun opened m a =
    let f = made_facts set m.txns m.calls a.number in
    let ask = ask_of_event f a.at a.input in
    record { set = set; txns = m.txns ++ first_txns begun ask; calls = m.calls ++ first_calls f opened ask }

abbrev pub with_made_of : Words → Made → Accepted → Made
with_made_of w m a = made_on (with_done w.decisions m.set a) (has_txn w.txns (token_of_event a)) (has_call w.calls (token_of_event a)) m a

-- what is made of these events
abbrev pub made_again : Words → List Accepted → Made
made_again w xs = fold (with_made_of w) nothing_made xs

pub made_set : (w : Words) (m : Made) (xs : List Accepted) → (fold (with_made_of w) m xs).set ≡ fold (with_done w.decisions) m.set xs
made_set w m [] = refl
made_set w m (a ∷ xs) = made_set w (with_made_of w m a) xs

-- facts on which events ask alike ----

pub record AskAlike (f g : Facts) : Type 0 where
  pub cards : f.cards ≡ g.cards
  pub products : f.products ≡ g.products
  pub count : f.count ≡ g.count
  pub txns : map (λ t. t.txn) f.txns ≡ map (λ t. t.txn) g.txns
  pub calls : length f.calls ≡ length g.calls

-- an increment rests on its transaction as it began
raised_of : (token txn : List ℕ) (amount at : ℕ) (ts : List TxnNow)
    → option_map (further_ask token amount at) (find (λ t. bytes_eq t.token txn) (map (λ t. t.txn) ts)) ≡ option_map (λ now. further_ask token amount at now.txn) (txn_named txn ts)
raised_of token txn amount at ts =
    ap (option_map (further_ask token amount at)) (find-map (λ (t : Txn). bytes_eq t.token txn) (λ (t : TxnNow). bytes_eq t.txn.token txn) (λ (t : TxnNow). t.txn) (λ t. refl) ts)
    ∙ by (txn_named txn ts)
  where
    by : (o : Option TxnNow) → option_map (further_ask token amount at) (option_map (λ (t : TxnNow). t.txn) o) ≡ option_map (λ now. further_ask token amount at now.txn) o
    by None = refl
    by (Some now) = refl

pub same_ask : (f g : Facts) (at : ℕ) (i : Input) → AskAlike f g → ask_of_event f at i ≡ ask_of_event g at i
same_ask f g at (input.Authorization token card currency amount mcc mid partial) h =
    λ j. authorization_ask (record f { cards = h.cards j; products = h.products j; count = h.count j }) token card currency amount mcc mid partial at
same_ask f g at (input.Increment token txn currency amount) h =
    sym (raised_of token txn amount at f.txns)
    ∙ ap (λ (ts : List Txn). option_map (further_ask token amount at) (find (λ t. bytes_eq t.token txn) ts)) h.txns
    ∙ raised_of token txn amount at g.txns
same_ask f g at _ h = refl

pub same_calls : (f g : Facts) (b : Bool) (ask : Option Ask) → AskAlike f g → first_calls f b ask ≡ first_calls g b ask
same_calls f g b None h = refl
same_calls f g b (Some ask) h =
    ap (λ (ps : List Product). cond b (call_of_product f ask (product_named ask.txn.product ps)) []) h.products ∙ ap (λ (os : List Opened). cond b os []) (by (product_named ask.txn.product g.products))
  where
    by : (o : Option Product) → call_of_product f ask o ≡ call_of_product g ask o
    by None = refl
    by (Some product) = ap (λ (n : ℕ). record (call_for f product ask) { call = record { 0 = n + 1 } } ∷ []) h.calls

-- a list is as long as what a map makes of it
pub length_map : {A B : Type 0} (f : A → B) (xs : List A) → length (map f xs) ≡ length xs
length_map f [] = refl
length_map f (x ∷ xs) = ap suc (length_map f xs)

-- the event of an ask
pub ask_event : (f : Facts) (at : ℕ) (i : Input) (x : Ask) → ask_of_event f at i ≡ Some x → x.event ≡ unwrap_or (event_token i) []
ask_event f at (input.Authorization token card currency amount mcc mid partial) x e = by (txn_asked f token card currency mcc mid at) e
  where
    by : (o : Option Txn) → option_map (first_ask token amount partial at) o ≡ Some x → x.event ≡ token
    by None e = cc
    by (Some t) e = cc
ask_event f at (input.Increment token txn currency amount) x e = by (txn_named txn f.txns) e
  where
    by : (o : Option TxnNow) → option_map (λ now. further_ask token amount at now.txn) o ≡ Some x → x.event ≡ token
    by None e = cc
    by (Some now) e = cc
ask_event f at _ x e = cc
