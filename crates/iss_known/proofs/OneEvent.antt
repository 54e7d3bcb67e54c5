-- One event adds to what is known what it adds to a core.
use Rattle.std.proofs.Common.{◌≡◌, ◌∙◌, ◌++◌, ◌∷◌, ◌+◌, ℕ, ap, ap₂, append-nil, Bool, cond, false, length, List, [], refl, subst, sym, true}
use Rattle.std.specs.Prelude.{Option, Some, None, option_and_then, option_map, unwrap_or}
use Rattle.std.specs.Str.{bytes_eq}
use Rattle.iss_model.specs.declared.call.CallState.{CallState}
use Rattle.iss_model.specs.declared.currency.Currency.{Currency}
use Rattle.iss_model.specs.declared.entry.Entry.TheVariants as entry
use Rattle.iss_model.specs.declared.input.Input.{Input}
use Rattle.iss_model.specs.declared.input.Input.TheVariants as input
use Rattle.iss_model.specs.declared.setting.Card.{Card}
use Rattle.iss_model.specs.declared.setting.Product.{Product}
use Rattle.iss_model.specs.declared.setting.Set.{Set}
use Rattle.iss_model.specs.declared.setting.User.{User}
use Rattle.iss_model.specs.declared.state.Carried.{Carried}
use Rattle.iss_model.specs.declared.state.Seen.{Seen}
use Rattle.iss_model.specs.rules.Activity.{CallNow, TxnNow, txn_named}
use Rattle.iss_model.specs.rules.Asks.{Ask, txn_begun}
use Rattle.iss_model.specs.rules.CardReasons.{first_ask, further_ask}
use Rattle.iss_model.specs.rules.Facts.{Facts}
use Rattle.iss_model.specs.rules.Pieces.{call_for}
use Rattle.iss_model.specs.rules.Settings.{card_named, product_named}
use Rattle.iss_model.specs.state.Cores.{CoreState, after_setting, core_facts}
use Rattle.iss_model.proofs.Names.{one_name}
use Rattle.iss_state.proofs.effects.Finds.{found_passes}
use Rattle.iss_state.proofs.invariants.Kept.{entries_count}
use Rattle.iss_states.specs.Rebuilding.{ask_of_event, calls_marked, carried_named, decisions_of_event, how_of_mark, is_done, txns_begun, with_event, with_seen}
use Rattle.iss_known.specs.Known.{IsKnownOf, KnownNow, card_leads_to}
use Rattle.iss_known.specs.Reading.{ask_known, begun_by, called_by, facts_known, known_after, live_among, settled_known, with_ask}
use Rattle.iss_known.proofs.OneSetting.{settled_core, settled_too}

-- asks ----

-- two cards of one name that lead to the same begin the same transaction
same_first : (f g : Facts) (o : Option Product) (token card : List ℕ) (currency : Currency) (amount mcc : ℕ) (mid : List ℕ) (partial : Bool) (at : ℕ) (x y : Card) → f.count ≡ g.count → x.name ≡ card → y.name ≡ card
    → card_leads_to x ≡ card_leads_to y
    → option_map (first_ask token amount partial at) (option_map (λ product. txn_begun f x product token currency mcc mid at) o)
    ≡ option_map (first_ask token amount partial at) (option_map (λ product. txn_begun g y product token currency mcc mid at) o)
same_first f g None token card currency amount mcc mid partial at x y count one two leads = refl
same_first f g (Some product) token card currency amount mcc mid partial at x y count one two leads = λ i. Some (record {
  event = token;
  txn = record {
    token = token;
    card = (one ∙ sym two) i;
    user = (leads i).0;
    product = (leads i).1;
    currency = currency;
    funding = product.funding;
    mcc = mcc;
    mid = mid;
    origin = count i;
    at = at;
    expires = at + product.hold_ms;
  };
  amount = amount;
  is_first = true;
  partial = partial;
  at = at;
})

module _ (k : KnownNow) (c : CoreState) (n : ℕ) (count : n ≡ c.count) (h : IsKnownOf k c) where
  abbrev f : Facts
  f = facts_known k n

  abbrev g : Facts
  g = core_facts c

  asks_first : (token card : List ℕ) (currency : Currency) (amount mcc : ℕ) (mid : List ℕ) (partial : Bool) (at : ℕ) (o p : Option Card) → card_named card f.cards ≡ o → card_named card g.cards ≡ p
      → option_map card_leads_to o ≡ option_map card_leads_to p
      → option_map (first_ask token amount partial at) (option_and_then (λ x. option_map (λ product. txn_begun f x product token currency mcc mid at) (product_named x.product f.products)) o)
      ≡ option_map (first_ask token amount partial at) (option_and_then (λ x. option_map (λ product. txn_begun g x product token currency mcc mid at) (product_named x.product g.products)) p)
  asks_first token card currency amount mcc mid partial at None None d e leads = refl
  asks_first token card currency amount mcc mid partial at None (Some y) d e leads = cc
  asks_first token card currency amount mcc mid partial at (Some x) None d e leads = cc
  asks_first token card currency amount mcc mid partial at (Some x) (Some y) d e leads =
      let same : card_leads_to x ≡ card_leads_to y = inside leads in
      same_first f g (product_named x.product f.products) token card currency amount mcc mid partial at x y count
      (one_name x.name card (found_passes (λ (z : Card). bytes_eq z.name card) f.cards x d)) (one_name y.name card (found_passes (λ (z : Card). bytes_eq z.name card) g.cards y e)) same
      ∙ ap (λ (o : Option Product). option_map (first_ask token amount partial at) (option_map (λ product. txn_begun g y product token currency mcc mid at) o))
      (h.products x.product ∙ ap (λ (p : List ℕ × List ℕ). product_named p.1 g.products) same)
    where
      inside : {A : Type 0} {a b : A} → Some a ≡ Some b → a ≡ b
      inside {A} {a} e = ap (λ (o : Option A). unwrap_or o a) e

  pub asks_same : (at : ℕ) (i : Input) → ask_of_event f at i ≡ ask_of_event g at i
  asks_same at (input.Authorization token card currency amount mcc mid partial) =
      asks_first token card currency amount mcc mid partial at (card_named card f.cards) (card_named card g.cards) refl refl (h.cards card)
  asks_same at (input.Increment token txn currency amount) =
      ap (λ (ts : List TxnNow). option_map (λ (now : TxnNow). further_ask token amount at now.txn) (txn_named txn ts)) h.txns
  asks_same at (input.User token user) = refl
  asks_same at (input.Card token card user product active) = refl
  asks_same at (input.Move token who) = refl
  asks_same at (input.Product token product currency funding timeout_ms hold_ms) = refl
  asks_same at (input.Group token group mccs) = refl
  asks_same at (input.Control token control currency window amount_limit usage_limit association scope offset active) = refl
  asks_same at (input.Set token set product currency connection timeout application max day_limit active) = refl
  asks_same at (input.Switch token product on) = refl
  asks_same at (input.Load token user currency amount) = refl
  asks_same at (input.Reversal token txn currency amount) = refl
  asks_same at (input.Clearing token txn currency amount last) = refl
  asks_same at (input.Refund token txn currency amount) = refl
  asks_same at (input.Answer call what) = refl
  asks_same at (input.Ack notice) = refl
  asks_same at input.Time = refl

abbrev call_as : Facts → CallState → Ask → Product → CallNow
call_as f mark ask product = record { opened = call_for f product ask; how = how_of_mark mark }

abbrev call_numbered_as : Facts → CallState → Ask → Product → List CallNow → CallNow
call_numbered_as f mark ask product xs = record { opened = record (call_for f product ask) { call = record { 0 = length xs + 1 } }; how = how_of_mark mark }

-- the call of an ask is the same
pub calls_same : (k : KnownNow) (c : CoreState) → IsKnownOf k c → (mark : Option CallState) (ask : Ask) → called_by k mark ask ≡ calls_marked (core_facts c) mark (Some ask)
calls_same k c h None ask = refl
calls_same k c h (Some mark) ask =
    ap (λ (o : Option Product). unwrap_or {T = List CallNow} (option_map (λ (product : Product). call_as (facts_known k 0) mark ask product ∷ []) o) []) (h.products ask.txn.product)
    ∙ by (product_named ask.txn.product (core_facts c).products)
  where
    by : (o : Option Product)
        → unwrap_or {T = List CallNow} (option_map (λ (product : Product). call_as (facts_known k 0) mark ask product ∷ []) o) []
        ≡ unwrap_or {T = List CallNow} (option_map (λ (product : Product). call_as (core_facts c) mark ask product ∷ []) o) []
    by None = refl
    by (Some product) = ap (λ (xs : List CallNow). call_numbered_as (core_facts c) mark ask product xs ∷ []) h.calls

abbrev begun_as : Ask → Bool → TxnNow
begun_as ask l = record { txn = ask.txn; live = l }

-- the transaction that an ask begins is the same
begun_same : (ts : List Carried) (ask : Ask) → begun_by (live_among ts) ask ≡ txns_begun ts (Some ask)
begun_same ts ask = ap (λ (xs : List TxnNow). cond ask.is_first xs []) (by (carried_named ask.txn.token ts))
  where
    by : (o : Option Carried)
        → unwrap_or {T = List TxnNow} (option_map (λ (l : Bool). begun_as ask l ∷ []) (option_map (λ (t : Carried). t.sums.live) o)) []
        ≡ unwrap_or {T = List TxnNow} (option_map (λ (t : Carried). begun_as ask t.sums.live ∷ []) o) []
    by None = refl
    by (Some t) = refl

-- one event ----

-- an event's number is counted, whatever its setting
pub counted : (c : CoreState) (e : Seen) → e.number ≡ (settled_core c e).count
counted c e = by (is_done e.verdict)
  where
    by : (b : Bool) → e.number ≡ (cond b (after_setting (with_event c e) e.body.input) (with_event c e)).count
    by true = sym (entries_count (with_event c e) (entry.Conf e.body.input ∷ []))
    by false = refl

pub event_known : (ts : List Carried) (k : KnownNow) (c : CoreState) (e : Seen) → IsKnownOf k c → IsKnownOf (known_after (live_among ts) k e) (with_seen ts c e)
event_known ts k c e h =
    let settled : KnownNow = settled_known k e.verdict e.body.input in
    let core : CoreState = settled_core c e in
    let known : IsKnownOf settled core = settled_too k c e h in
    by settled core known (ask_known settled e) (ask_of_event (core_facts core) e.body.at e.body.input)
    (asks_same settled core e.number (counted c e) known e.body.at e.body.input)
  where
    -- with what an ask adds
    grown : (settled : KnownNow) (core : CoreState) → IsKnownOf settled core → (o : Option Ask)
        → IsKnownOf (with_ask (live_among ts) settled e.mark o) (record core {
          decisions = core.decisions ++ decisions_of_event e;
          holdings = record (core.holdings) { txns = core.holdings.txns ++ txns_begun ts o };
          calls = core.calls ++ calls_marked (core_facts core) e.mark o;
        })
    grown settled core known None =
        record {
          users = known.users;
          cards = known.cards;
          products = known.products;
          controls = known.controls;
          sets = known.sets;
          txns = known.txns ∙ sym (append-nil core.holdings.txns);
          calls = known.calls ∙ sym (append-nil core.calls) ∙ ap (λ (xs : List CallNow). core.calls ++ xs) (none e.mark);
        }
      where
        none : (mark : Option CallState) → [] ≡ calls_marked (core_facts core) mark None
        none None = refl
        none (Some mark) = refl
    grown settled core known (Some ask) =
        record {
          users = known.users;
          cards = known.cards;
          products = known.products;
          controls = known.controls;
          sets = known.sets;
          txns = ap₂ (λ (xs ys : List TxnNow). xs ++ ys) known.txns (begun_same ts ask);
          calls = ap₂ (λ (xs ys : List CallNow). xs ++ ys) known.calls (calls_same settled core known e.mark ask);
        }

    by : (settled : KnownNow) (core : CoreState) → IsKnownOf settled core → (a b : Option Ask) → a ≡ b
        → IsKnownOf (with_ask (live_among ts) settled e.mark a) (record core {
          decisions = core.decisions ++ decisions_of_event e;
          holdings = record (core.holdings) { txns = core.holdings.txns ++ txns_begun ts b };
          calls = core.calls ++ calls_marked (core_facts core) e.mark b;
        })
    by settled core known a b same = subst (λ (o : Option Ask). IsKnownOf (with_ask (live_among ts) settled e.mark o) (record core {
      decisions = core.decisions ++ decisions_of_event e;
      holdings = record (core.holdings) { txns = core.holdings.txns ++ txns_begun ts b };
      calls = core.calls ++ calls_marked (core_facts core) e.mark b;
    })) (sym same) (grown settled core known b)
