-- What the calls of a core that is made again ask is at most what its events ask.
use Rattle.std.proofs.Common.{◌≡◌, ◌∙◌, ◌++◌, ◌∷◌, ◌+◌, ◌≤◌, ℕ, ap, arith, Bool, cond, fold, List, [], refl, sym, true, false}
use Rattle.std.specs.Prelude.{Option, Some, None, is_none, option_and_then, option_map, unwrap_or}
use Rattle.iss_model.specs.declared.call.CallState.{CallState}
use Rattle.iss_model.specs.declared.input.Input.{Input}
use Rattle.iss_model.specs.declared.input.Input.TheVariants as input
use Rattle.iss_model.specs.declared.setting.Card.{Card}
use Rattle.iss_model.specs.declared.setting.Product.{Product}
use Rattle.iss_model.specs.declared.state.Carried.{Carried}
use Rattle.iss_model.specs.declared.state.Seen.{Seen}
use Rattle.iss_model.specs.declared.txn.Txn.{Txn}
use Rattle.iss_model.specs.rules.Activity.{CallNow, TxnNow, txn_named}
use Rattle.iss_model.specs.rules.Asks.{Ask, txn_begun}
use Rattle.iss_model.specs.rules.CardReasons.{first_ask, further_ask}
use Rattle.iss_model.specs.rules.Facts.{Facts}
use Rattle.iss_model.specs.rules.Pieces.{call_for}
use Rattle.iss_model.specs.rules.Settings.{card_named, product_named}
use Rattle.iss_model.specs.state.Cores.{CoreState, after_setting, core_facts, no_core}
use Rattle.iss_state.specs.Stakes.{at_least_one, total_asked}
use Rattle.iss_state.proofs.docket.Lists.{inside}
use Rattle.iss_states.specs.Again.{amount_of_event}
use Rattle.iss_states.specs.Rebuilding.{ask_of_event, calls_marked, how_of_mark, is_done, with_event, with_seen}
use Rattle.iss_well_formed.proofs.GrownAgain.{settled_calls}
use Rattle.iss_least.proofs.EventWeights.{asked_by, marked_ask, total_by}

-- An ask is of its event's amount and moment, and a transaction that it begins is of this moment and of the record at hand.
pub record IsAskOf (f : Facts) (at : ℕ) (i : Input) (x : Ask) : Type 0 where
  pub amount : x.amount ≡ amount_of_event i
  pub moment : x.at ≡ at
  pub begun : x.is_first ≡ true → x.txn.at ≡ at
  pub origin : x.is_first ≡ true → x.txn.origin ≡ f.count

pub ask_is : (f : Facts) (at : ℕ) (i : Input) (x : Ask) → ask_of_event f at i ≡ Some x → IsAskOf f at i x
ask_is f at (input.Authorization token card currency amount mcc mid partial) x e = by (card_named card f.cards) e
  where
    first : (t : Txn) → t.at ≡ at → t.origin ≡ f.count → first_ask token amount partial at t ≡ x → IsAskOf f at (input.Authorization token card currency amount mcc mid partial) x
    first t begun origin e =
        record {
          amount = ap (λ (y : Ask). y.amount) (sym e);
          moment = ap (λ (y : Ask). y.at) (sym e);
          begun = λ k. ap (λ (y : Ask). y.txn.at) (sym e) ∙ begun;
          origin = λ k. ap (λ (y : Ask). y.txn.origin) (sym e) ∙ origin;
        }

    by : (o : Option Card)
        → option_map (first_ask token amount partial at) (option_and_then (λ c. option_map (λ product. txn_begun f c product token currency mcc mid at) (product_named c.product f.products)) o) ≡ Some x
        → IsAskOf f at (input.Authorization token card currency amount mcc mid partial) x
    by None e = cc
    by (Some c) e = sold (product_named c.product f.products) e
      where
        sold : (o : Option Product) → option_map (first_ask token amount partial at) (option_map (λ product. txn_begun f c product token currency mcc mid at) o) ≡ Some x
            → IsAskOf f at (input.Authorization token card currency amount mcc mid partial) x
        sold None e = cc
        sold (Some product) e = first (txn_begun f c product token currency mcc mid at) refl refl (inside e)
ask_is f at (input.Increment token txn currency amount) x e = by (txn_named txn f.txns) e
  where
    further : (t : Txn) → further_ask token amount at t ≡ x → IsAskOf f at (input.Increment token txn currency amount) x
    further t e =
        record {
          amount = ap (λ (y : Ask). y.amount) (sym e);
          moment = ap (λ (y : Ask). y.at) (sym e);
          begun = λ k. never (ap (λ (y : Ask). y.is_first) e ∙ k);
          origin = λ k. never (ap (λ (y : Ask). y.is_first) e ∙ k);
        }
      where
        never : {P : Type 0} → false ≡ true → P
        never h = cc

    by : (o : Option TxnNow) → option_map (λ now. further_ask token amount at now.txn) o ≡ Some x → IsAskOf f at (input.Increment token txn currency amount) x
    by None e = cc
    by (Some now) e = further now.txn (inside e)
ask_is f at _ x e = cc

-- one event ----

asked_more : (xs ys : List CallNow) → total_asked (xs ++ ys) ≡ total_asked xs + total_asked ys
asked_more [] ys = omega arith
asked_more (x ∷ xs) ys = omega (arith, asked_more xs ys)

marked_asks : (f : Facts) (mark : Option CallState) (at : ℕ) (i : Input) → total_asked (calls_marked f mark (ask_of_event f at i)) ≤ marked_ask mark i
marked_asks f None at i = omega arith
marked_asks f (Some mark) at i = by (ask_of_event f at i) refl
  where
    least : (n : ℕ) → 0 ≤ n
    least n = omega arith

    sold : (x : Ask) → x.amount ≡ amount_of_event i → (o : Option Product)
        → total_asked (unwrap_or (option_map (λ product. record { opened = call_for f product x; how = how_of_mark mark } ∷ []) o) []) ≤ marked_ask (Some mark) i
    sold x e None = least (marked_ask (Some mark) i)
    sold x e (Some product) = so (is_none (how_of_mark mark)) (at_least_one x.amount) (at_least_one (amount_of_event i)) (ap at_least_one e)
      where
        so : (b : Bool) (m n : ℕ) → m ≡ n → cond b m 0 + 0 ≤ cond b n 0
        so true m n e = omega (arith, e)
        so false m n e = omega arith

    by : (o : Option Ask) → ask_of_event f at i ≡ o → total_asked (calls_marked f (Some mark) o) ≤ marked_ask (Some mark) i
    by None e = least (marked_ask (Some mark) i)
    by (Some x) e = sold x (ask_is f at i x e).amount (product_named x.txn.product f.products)

seen_asks : (ts : List Carried) (c : CoreState) (e : Seen) → total_asked (with_seen ts c e).calls ≤ total_asked c.calls + asked_by e
seen_asks ts c e =
    let settled : CoreState = cond (is_done e.verdict) (after_setting (with_event c e) e.body.input) (with_event c e) in
    let more : List CallNow = calls_marked (core_facts settled) e.mark (ask_of_event (core_facts settled) e.body.at e.body.input) in
    let same : settled.calls ≡ c.calls = settled_calls (is_done e.verdict) (with_event c e) e.body.input in
    so (total_asked (settled.calls ++ more)) (total_asked settled.calls) (total_asked more) (total_asked c.calls) (asked_by e)
    (asked_more settled.calls more) (ap total_asked same) (marked_asks (core_facts settled) e.mark e.body.at e.body.input)
  where
    so : (n a b d m : ℕ) → n ≡ a + b → a ≡ d → b ≤ m → n ≤ d + m
    so n a b d m e f h = omega (arith, e, f, h)

all_asks : (ts : List Carried) (c : CoreState) (es : List Seen) → total_asked (fold (with_seen ts) c es).calls ≤ total_asked c.calls + total_by asked_by es
all_asks ts c [] = omega arith
all_asks ts c (e ∷ es) =
    so (total_asked (fold (with_seen ts) (with_seen ts c e) es).calls) (total_asked (with_seen ts c e).calls) (total_by asked_by es) (total_asked c.calls) (asked_by e)
    (all_asks ts (with_seen ts c e) es) (seen_asks ts c e)
  where
    so : (n a m d k : ℕ) → n ≤ a + m → a ≤ d + k → n ≤ d + (k + m)
    so n a m d k h g = omega (arith, h, g)

-- what calls ask that are made again of events
pub asked_again : (ts : List Carried) (es : List Seen) → total_asked (fold (with_seen ts) no_core es).calls ≤ total_by asked_by es
asked_again ts es = omega (arith, all_asks ts no_core es)
