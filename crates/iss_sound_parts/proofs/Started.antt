-- Each transaction that is made again of a state's events began with an authorisation among them, by a card that is known.
use Rattle.std.proofs.Common.{◌≡◌, ◌∙◌, ◌++◌, ◌∷◌, ◌⊎◌, ℕ, ap, Bool, cond, false, find, fold, inl, inr, List, [], refl, subst, sym, true}
use Rattle.std.specs.Prelude.{Option, Some, None, option_and_then, option_map, unwrap_or}
use Rattle.std.specs.Str.{bytes_eq}
use Rattle.iss_model.specs.declared.entry.Entry.TheVariants as entry
use Rattle.iss_model.specs.declared.input.Input.{Input}
use Rattle.iss_model.specs.declared.input.Input.TheVariants as input
use Rattle.iss_model.specs.declared.setting.Card.{Card}
use Rattle.iss_model.specs.declared.setting.Moved.TheVariants as moved
use Rattle.iss_model.specs.declared.setting.Product.{Product}
use Rattle.iss_model.specs.declared.state.Carried.{Carried}
use Rattle.iss_model.specs.declared.state.Seen.{Seen}
use Rattle.iss_model.specs.declared.state.State.{State}
use Rattle.iss_model.specs.declared.txn.Txn.{Txn}
use Rattle.iss_model.specs.Inputs.{event_token, is_event}
use Rattle.iss_model.specs.rules.Activity.{TxnNow, txn_named}
use Rattle.iss_model.specs.rules.Asks.{Ask, txn_begun}
use Rattle.iss_model.specs.rules.CardReasons.{first_ask, further_ask}
use Rattle.iss_model.specs.rules.Facts.{Accepted, Facts}
use Rattle.iss_model.specs.rules.Settings.{card_named, product_named}
use Rattle.iss_model.specs.state.Cores.{CoreState, after_setting, core_facts, no_core}
use Rattle.iss_model.proofs.Names.{one_name}
use Rattle.iss_state.proofs.effects.Finds.{found_passes}
use Rattle.iss_state.proofs.docket.Lists.{Each, each_weaker, inside}
use Rattle.iss_state.proofs.invariants.Kept.{entries_accepted}
use Rattle.iss_states.specs.Order.{AreInOrder}
use Rattle.iss_states.specs.Rebuilding.{ask_of_event, carried_named, events_again, is_done, rebuilt, txns_begun, with_event, with_seen}
use Rattle.iss_states.specs.Showing.{accepted_of_seen}
use Rattle.iss_states.proofs.Found.{entry_keeps}
use Rattle.iss_well_formed.proofs.GrownAgain.{own_again, settled_txns}
use Rattle.iss_well_formed.proofs.OwnEvents.{IsOwn, each_append}

-- an event is among these
abbrev IsAmong : Accepted → List Accepted → Type 0
IsAmong a [] = ⊥
IsAmong a (x ∷ xs) = (x ≡ a) ⊎ IsAmong a xs

among_more : (a : Accepted) (xs ys : List Accepted) → IsAmong a xs → IsAmong a (xs ++ ys)
among_more a [] ys h = absurd h
among_more a (x ∷ xs) ys (inl e) = inl e
among_more a (x ∷ xs) ys (inr h) = inr (among_more a xs ys h)

last_among : (a : Accepted) (xs : List Accepted) → IsAmong a (xs ++ a ∷ [])
last_among a [] = inl refl
last_among a (x ∷ xs) = inr (last_among a xs)

each_among : (P : Accepted → Type 0) (a : Accepted) (xs : List Accepted) → IsAmong a xs → Each P xs → P a
each_among P a [] k h = absurd k
each_among P a (x ∷ xs) (inl e) h = subst P e h.0
each_among P a (x ∷ xs) (inr k) h = each_among P a xs k h.1

-- A transaction began with an authorisation among a core's events, by a card that the core knows.
pub record IsStarted (c : CoreState) (t : Txn) : Type 0 where
  pub event : Accepted
  pub among : IsAmong event c.accepted
  pub amount : ℕ
  pub partial : Bool
  pub says : event.input ≡ input.Authorization t.token t.card t.currency amount t.mcc t.mid partial
  pub number : t.origin ≡ event.number
  pub card : Card
  pub of_card : card_named t.card c.cardholders.cards ≡ Some card
  pub same : t.product ≡ card.product

-- a setting leaves events ----

settled_accepted : (b : Bool) (c : CoreState) (i : Input) → (cond b (after_setting c i) c).accepted ≡ c.accepted
settled_accepted true c i = entries_accepted c (entry.Conf i ∷ [])
settled_accepted false c i = refl

settled_card : (b : Bool) (c : CoreState) (i : Input) (name : List ℕ) (x : Card) → card_named name c.cardholders.cards ≡ Some x
    → (y : Card) × (card_named name (cond b (after_setting c i) c).cardholders.cards ≡ Some y) × (y.product ≡ x.product)
settled_card false c i name x e = (x, e, refl)
settled_card true c i name x e = let later = (entry_keeps c (entry.Conf i)).cards name x e in (later.0, later.1, later.2.product)

settled_count : (b : Bool) (c : CoreState) (i : Input) → (cond b (after_setting c i) c).count ≡ c.count
settled_count false c i = refl
settled_count true c (input.Move event (moved.Card card to)) = refl
settled_count true c (input.Move event (moved.User user to)) = refl
settled_count true c _ = refl

-- one event ----

-- A transaction is begun by an authorisation, by a card that is known.
record IsFrom (f : Facts) (i : Input) (t : Txn) : Type 0 where
  amount : ℕ
  partial : Bool
  says : i ≡ input.Authorization t.token t.card t.currency amount t.mcc t.mid partial
  number : t.origin ≡ f.count
  card : Card
  of_card : card_named t.card f.cards ≡ Some card
  same : t.product ≡ card.product

from_ask : (f : Facts) (at : ℕ) (i : Input) (x : Ask) → ask_of_event f at i ≡ Some x → x.is_first ≡ true → IsFrom f i x.txn
from_ask f at (input.Authorization token card currency amount mcc mid partial) x e first = by (card_named card f.cards) refl e
  where
    by : (o : Option Card) → card_named card f.cards ≡ o
        → option_map (first_ask token amount partial at) (option_and_then (λ c. option_map (λ product. txn_begun f c product token currency mcc mid at) (product_named c.product f.products)) o) ≡ Some x
        → IsFrom f (input.Authorization token card currency amount mcc mid partial) x.txn
    by None k e = cc
    by (Some c) k e = sold (product_named c.product f.products) e
      where
        its_name : c.name ≡ card
        its_name = one_name c.name card (found_passes (λ (y : Card). bytes_eq y.name card) f.cards c k)

        sold : (o : Option Product) → option_map (first_ask token amount partial at) (option_map (λ product. txn_begun f c product token currency mcc mid at) o) ≡ Some x
            → IsFrom f (input.Authorization token card currency amount mcc mid partial) x.txn
        sold None e = cc
        sold (Some product) e =
            subst (λ (y : Ask). IsFrom f (input.Authorization token card currency amount mcc mid partial) y.txn) (inside e)
            (record {
              amount = amount;
              partial = partial;
              says = ap (λ (name : List ℕ). input.Authorization token name currency amount mcc mid partial) (sym its_name);
              number = refl;
              card = c;
              of_card = ap (λ (name : List ℕ). card_named name f.cards) its_name ∙ k;
              same = refl;
            })
from_ask f at (input.Increment token txn currency amount) x e first = by (txn_named txn f.txns) e
  where
    by : (o : Option TxnNow) → option_map (λ now. further_ask token amount at now.txn) o ≡ Some x → IsFrom f (input.Increment token txn currency amount) x.txn
    by None e = cc
    by (Some now) e = let other : x.is_first ≡ false = cc in cc
from_ask f at _ x e first = cc

begun_from : (ts : List Carried) (f : Facts) (at : ℕ) (i : Input) → Each (λ (t : TxnNow). IsFrom f i t.txn) (txns_begun ts (ask_of_event f at i))
begun_from ts f at i = by (ask_of_event f at i) refl
  where
    carried : (x : Ask) → IsFrom f i x.txn → (o : Option Carried) → Each (λ (t : TxnNow). IsFrom f i t.txn) (unwrap_or (option_map (λ t. record { txn = x.txn; live = t.sums.live } ∷ []) o) [])
    carried x h None = tt
    carried x h (Some t) = (h, tt)

    begins : (x : Ask) → ask_of_event f at i ≡ Some x → (b : Bool) → x.is_first ≡ b
        → Each (λ (t : TxnNow). IsFrom f i t.txn) (cond b (unwrap_or (option_map (λ t. record { txn = x.txn; live = t.sums.live } ∷ []) (carried_named x.txn.token ts)) []) [])
    begins x e false first = tt
    begins x e true first = carried x (from_ask f at i x e first) (carried_named x.txn.token ts)

    by : (o : Option Ask) → ask_of_event f at i ≡ o → Each (λ (t : TxnNow). IsFrom f i t.txn) (txns_begun ts o)
    by None e = tt
    by (Some x) e = begins x e x.is_first refl

module _ (ts : List Carried) (c : CoreState) (e : Seen) where
  abbrev settled : CoreState
  settled = cond (is_done e.verdict) (after_setting (with_event c e) e.body.input) (with_event c e)

  accepted_now : settled.accepted ≡ c.accepted ++ accepted_of_seen e ∷ []
  accepted_now = settled_accepted (is_done e.verdict) (with_event c e) e.body.input

  still : (t : Txn) → IsStarted c t → IsStarted (with_seen ts c e) t
  still t h =
      let later = settled_card (is_done e.verdict) (with_event c e) e.body.input t.card h.card h.of_card in
      record {
        event = h.event;
        among = subst (IsAmong h.event) (sym accepted_now) (among_more h.event c.accepted (accepted_of_seen e ∷ []) h.among);
        amount = h.amount;
        partial = h.partial;
        says = h.says;
        number = h.number;
        card = later.0;
        of_card = later.1;
        same = h.same ∙ sym later.2;
      }

  now : (t : Txn) → IsFrom (core_facts settled) e.body.input t → IsStarted (with_seen ts c e) t
  now t h =
      record {
        event = accepted_of_seen e;
        among = subst (IsAmong (accepted_of_seen e)) (sym accepted_now) (last_among (accepted_of_seen e) c.accepted);
        amount = h.amount;
        partial = h.partial;
        says = h.says;
        number = h.number ∙ settled_count (is_done e.verdict) (with_event c e) e.body.input;
        card = h.card;
        of_card = h.of_card;
        same = h.same;
      }

  seen_started : Each (λ (t : TxnNow). IsStarted c t.txn) c.holdings.txns → Each (λ (t : TxnNow). IsStarted (with_seen ts c e) t.txn) (with_seen ts c e).holdings.txns
  seen_started h =
      each_append (λ (t : TxnNow). IsStarted (with_seen ts c e) t.txn) settled.holdings.txns (txns_begun ts (ask_of_event (core_facts settled) e.body.at e.body.input))
      (subst (Each (λ (t : TxnNow). IsStarted (with_seen ts c e) t.txn)) (sym (settled_txns (is_done e.verdict) (with_event c e) e.body.input))
      (each_weaker (λ (t : TxnNow). IsStarted c t.txn) (λ (t : TxnNow). IsStarted (with_seen ts c e) t.txn) (λ t k. still t.txn k) c.holdings.txns h))
      (each_weaker (λ (t : TxnNow). IsFrom (core_facts settled) e.body.input t.txn) (λ (t : TxnNow). IsStarted (with_seen ts c e) t.txn) (λ t k. now t.txn k)
      (txns_begun ts (ask_of_event (core_facts settled) e.body.at e.body.input))
      (begun_from ts (core_facts settled) e.body.at e.body.input))

-- all events ----

all_started : (ts : List Carried) (c : CoreState) (es : List Seen) → Each (λ (t : TxnNow). IsStarted c t.txn) c.holdings.txns
    → Each (λ (t : TxnNow). IsStarted (fold (with_seen ts) c es) t.txn) (fold (with_seen ts) c es).holdings.txns
all_started ts c [] h = h
all_started ts c (e ∷ es) h = all_started ts (with_seen ts c e) es (seen_started ts c e h)

again : (s : State) (t : Txn) → IsStarted (events_again s) t → IsStarted (rebuilt s) t
again s t h =
    record {
      event = h.event;
      among = h.among;
      amount = h.amount;
      partial = h.partial;
      says = h.says;
      number = h.number;
      card = h.card;
      of_card = h.of_card;
      same = h.same;
    }

pub started_again : (s : State) → Each (λ (t : TxnNow). IsStarted (rebuilt s) t.txn) (rebuilt s).holdings.txns
started_again s =
    each_weaker (λ (t : TxnNow). IsStarted (events_again s) t.txn) (λ (t : TxnNow). IsStarted (rebuilt s) t.txn) (λ t h. again s t.txn h) (events_again s).holdings.txns
    (all_started s.txns no_core s.events tt)

-- the event of a transaction is the one that is found by its token
pub event_found : (s : State) → AreInOrder s → (t : Txn) (h : IsStarted (rebuilt s) t) → find (λ a. is_event t.token a.input) (rebuilt s).accepted ≡ Some h.event
event_found s order t h =
    let own = each_among (IsOwn (rebuilt s).accepted) h.event (rebuilt s).accepted h.among (own_again s order) in
    ap (λ (token : List ℕ). find (λ a. is_event token a.input) (rebuilt s).accepted) (its own) ∙ own.found
  where
    its : (own : IsOwn (rebuilt s).accepted h.event) → t.token ≡ own.token
    its own = inside (sym (ap event_token h.says) ∙ own.its)
