-- The holder that events tell of a transaction is the transaction's own: the user of its card, and its currency.
use Rattle.std.proofs.Common.{◌≡◌, ◌∙◌, ◌++◌, ◌∷◌, ℕ, ap, append-nil, append_assoc, Bool, cond, false, fold, List, [], map, not, refl, subst, sym, true}
use Rattle.std.specs.Prelude.{Option, Some, None, option_and_then, option_map, unwrap_or}
use Rattle.std.specs.List.{cons_option, list_any}
use Rattle.std.specs.Str.{bytes_eq}
use Rattle.std.proofs.lemmas.Bool.{and_parts}
use Rattle.std.proofs.lemmas.List.{map-append}
use Rattle.iss_model.specs.declared.decision.Verdict.{Verdict}
use Rattle.iss_model.specs.declared.decision.Verdict.TheVariants as verdict
use Rattle.iss_model.specs.declared.input.Input.{Input}
use Rattle.iss_model.specs.declared.input.Input.TheVariants as input
use Rattle.iss_model.specs.declared.setting.Card.{Card}
use Rattle.iss_model.specs.declared.setting.CardState.{CardState}
use Rattle.iss_model.specs.declared.setting.Moved.TheVariants as moved
use Rattle.iss_model.specs.declared.setting.Product.{Product}
use Rattle.iss_model.specs.declared.state.Carried.{Carried}
use Rattle.iss_model.specs.declared.state.Seen.{Seen}
use Rattle.iss_model.specs.declared.state.State.{State}
use Rattle.iss_model.specs.declared.txn.Txn.{Txn}
use Rattle.iss_model.specs.Inputs.{event_token, is_text}
use Rattle.iss_model.specs.rules.Activity.{TxnNow, txn_named}
use Rattle.iss_model.specs.rules.Asks.{txn_begun}
use Rattle.iss_model.specs.rules.CardReasons.{first_ask, further_ask}
use Rattle.iss_model.specs.rules.Facts.{Facts}
use Rattle.iss_model.specs.rules.Settings.{card_named, first_card_state, product_named}
use Rattle.iss_model.specs.state.Cores.{CoreState, after_setting, card_after_move, core_facts, no_core}
use Rattle.iss_model.proofs.Lists.{map-alike, map-map, neither}
use Rattle.iss_model.proofs.Names.{its_name, name-sym}
use Rattle.iss_state.proofs.docket.Lists.{Each, inside}
use Rattle.iss_state.proofs.effects.Finds.{find-map}
use Rattle.iss_states.specs.Order.{AreInOrder, has_event_token, have_tokens_of_their_own}
use Rattle.iss_states.specs.Rebuilding.{ask_of_event, carried_named, is_done, rebuilt, txns_begun, with_event, with_seen}
use Rattle.iss_states.proofs.Found.{find_stays}
use Rattle.iss_well_formed.proofs.GrownAgain.{settled_txns}
use Rattle.iss_well_formed.proofs.OwnEvents.{each_append}
use Rattle.iss_codec.specs.Taking.{◌>>=◌}
use Rattle.iss_image.specs.declared.lookups.CardMade.{CardMade}
use Rattle.iss_image.specs.declared.lookups.Purchase.{Purchase}
use Rattle.iss_image.specs.Lookups.{card_made, card_told, cards_made, holder_among, named, purchase_asked, purchase_told, purchases}

-- a card, as the event that makes it tells of it
abbrev pub told_of_card : Card → CardMade
told_of_card card = record { card = card.name; user = card.user }

-- cards ----

-- a card that is moved to another state is told of alike
told_moved : (name : List ℕ) (to : CardState) (card : Card) → told_of_card (card_after_move name to card) ≡ told_of_card card
told_moved name to card = by (bytes_eq name card.name)
  where
    by : (b : Bool) → told_of_card (cond b (record card { state = to }) card) ≡ told_of_card card
    by true = refl
    by false = refl

-- what a setting makes of cards
setting_cards : (c : CoreState) (i : Input)
    → map told_of_card (after_setting c i).cardholders.cards ≡ map told_of_card c.cardholders.cards ++ cons_option (card_made (Some verdict.Done) i) []
setting_cards c (input.Card token card user product active) =
    map-append told_of_card c.cardholders.cards (record { name = card; user = user; product = product; state = first_card_state active } ∷ [])
setting_cards c (input.Move token (moved.Card card to)) =
    map-map (card_after_move card to) told_of_card c.cardholders.cards
    ∙ map-alike (λ (x : Card). told_of_card (card_after_move card to x)) told_of_card (told_moved card to) c.cardholders.cards
    ∙ sym (append-nil (map told_of_card c.cardholders.cards))
setting_cards c (input.Move token (moved.User user to)) = sym (append-nil (map told_of_card c.cardholders.cards))
setting_cards c _ = sym (append-nil (map told_of_card c.cardholders.cards))

settled_cards : (v : Option Verdict) (c : CoreState) (i : Input)
    → map told_of_card (cond (is_done v) (after_setting c i) c).cardholders.cards ≡ map told_of_card c.cardholders.cards ++ cons_option (card_made v i) []
settled_cards None c i = sym (append-nil (map told_of_card c.cardholders.cards))
settled_cards (Some verdict.Done) c i = setting_cards c i
settled_cards (Some verdict.Approved) c i = sym (append-nil (map told_of_card c.cardholders.cards))
settled_cards (Some (verdict.Declined why)) c i = sym (append-nil (map told_of_card c.cardholders.cards))
settled_cards (Some (verdict.Partial currency amount)) c i = sym (append-nil (map told_of_card c.cardholders.cards))

told_first : (o : Option CardMade) (rest : List CardMade) → cons_option o rest ≡ cons_option o [] ++ rest
told_first None rest = refl
told_first (Some x) rest = refl

-- the first card of a name is told of first
told_named : (cards : List Card) (rest : List CardMade) (name : List ℕ) (card : Card) → card_named name cards ≡ Some card
    → named (λ (c : CardMade). c.card) name (map told_of_card cards ++ rest) ≡ Some (told_of_card card)
told_named cards rest name card e =
    find_stays (λ (c : CardMade). bytes_eq c.card name) (map told_of_card cards) rest (told_of_card card)
    (find-map (λ (c : CardMade). bytes_eq c.card name) (λ (c : Card). bytes_eq c.name name) told_of_card (λ c. refl) cards ∙ ap (option_map told_of_card) e)

-- purchases ----

-- a purchase has the token of its event
purchase_token : (i : Input) (p : Purchase) → purchase_asked i ≡ Some p → event_token i ≡ Some p.txn
purchase_token (input.Authorization token card currency amount mcc mid partial) p e = ap (λ (x : Purchase). Some x.txn) (inside e)
purchase_token _ p e = cc

-- the purchase of an event is the first of its token among these
abbrev IsFirst : List Purchase → Seen → Type 0
IsFirst all e = (p : Purchase) → purchase_told e ≡ Some p → named (λ (x : Purchase). x.txn) p.txn all ≡ Some p

turned : (b : Bool) → not b ≡ true → b ≡ false
turned true h = cc
turned false h = refl

-- an event before that has another token changes nothing
still_first : (x : Seen) (all : List Purchase) (es : List Seen) → list_any (has_event_token (unwrap_or (event_token x.body.input) [])) es ≡ false
    → Each (IsFirst all) es → Each (IsFirst (cons_option (purchase_told x) all)) es
still_first x all [] none h = tt
still_first x all (e ∷ es) none h =
    let apart = neither (has_event_token (unwrap_or (event_token x.body.input) []) e) (list_any (has_event_token (unwrap_or (event_token x.body.input) [])) es) none in
    ((λ p f. by p f (purchase_told x) refl), still_first x all es apart.1 h.1)
  where
    apart_here : has_event_token (unwrap_or (event_token x.body.input) []) e ≡ false
    apart_here = (neither (has_event_token (unwrap_or (event_token x.body.input) []) e) (list_any (has_event_token (unwrap_or (event_token x.body.input) [])) es) none).0

    other : (p q : Purchase) → purchase_told e ≡ Some p → purchase_told x ≡ Some q → bytes_eq q.txn p.txn ≡ false
    other p q f g =
        let mine : event_token e.body.input ≡ Some p.txn = purchase_token e.body.input p f in
        let its : event_token x.body.input ≡ Some q.txn = purchase_token x.body.input q g in
        name-sym q.txn p.txn ∙ sym (ap (is_text q.txn) mine) ∙ sym (ap (λ (o : Option (List ℕ)). is_text (unwrap_or o []) (event_token e.body.input)) its) ∙ apart_here

    by : (p : Purchase) → purchase_told e ≡ Some p → (o : Option Purchase) → purchase_told x ≡ o
        → named (λ (y : Purchase). y.txn) p.txn (cons_option o all) ≡ Some p
    by p f None g = h.0 p f
    by p f (Some q) g = ap (λ (b : Bool). cond b (Some q) (named (λ (y : Purchase). y.txn) p.txn all)) (other p q f g) ∙ h.0 p f

first_itself : (x : Seen) (rest : List Purchase) → IsFirst (cons_option (purchase_told x) rest) x
first_itself x rest p e =
    ap (λ (o : Option Purchase). named (λ (y : Purchase). y.txn) p.txn (cons_option o rest)) e
    ∙ ap (λ (b : Bool). cond b (Some p) (named (λ (y : Purchase). y.txn) p.txn rest)) (its_name p.txn)

-- events with tokens of their own ask for each purchase first
pub all_first : (es : List Seen) → have_tokens_of_their_own es ≡ true → Each (IsFirst (purchases es)) es
all_first [] own = tt
all_first (e ∷ es) own =
    let apart = and_parts (not (list_any (has_event_token (unwrap_or (event_token e.body.input) [])) es)) (have_tokens_of_their_own es) own in (
      first_itself e (purchases es),
      still_first e (purchases es) es (turned (list_any (has_event_token (unwrap_or (event_token e.body.input) [])) es) apart.0) (all_first es apart.1),
    )

-- transactions ----

found_then : {A B : Type 0} (o : Option A) (x : A) (f : A → Option B) (y : Option B) → o ≡ Some x → f x ≡ y → (o >>= f) ≡ y
found_then {A} o x f y e k = ap (λ (p : Option A). p >>= f) e ∙ k

-- by all purchases and cards that are told of
module _ (all : List Purchase) (made : List CardMade) where
  -- a transaction has the holder that is told of
  abbrev pub IsHeldSo : TxnNow → Type 0
  IsHeldSo t = holder_among all made t.txn.token ≡ Some (t.txn.user, t.txn.currency)

  -- a card that is found is told of
  abbrev AreTold : List Card → Type 0
  AreTold cards = (name : List ℕ) (card : Card) → card_named name cards ≡ Some card → named (λ (c : CardMade). c.card) name made ≡ Some (told_of_card card)

  new_held : (ts : List Carried) (f : Facts) (at : ℕ) (i : Input) → AreTold f.cards
      → ((p : Purchase) → purchase_asked i ≡ Some p → named (λ (x : Purchase). x.txn) p.txn all ≡ Some p)
      → Each IsHeldSo (txns_begun ts (ask_of_event f at i))
  new_held ts f at (input.Authorization token card currency amount mcc mid partial) told first = with_card (card_named card f.cards) refl
    where
      its : Purchase
      its = record { txn = token; card = card; currency = currency }

      with_product : (k : Card) → card_named card f.cards ≡ Some k → (o : Option Product)
          → Each IsHeldSo (txns_begun ts (option_map (first_ask token amount partial at) (option_map (λ product. txn_begun f k product token currency mcc mid at) o)))
      with_product k e None = tt
      with_product k e (Some product) = carried (carried_named token ts)
        where
          t : Txn
          t = txn_begun f k product token currency mcc mid at

          held : holder_among all made token ≡ Some (k.user, currency)
          held =
              found_then (named (λ (x : Purchase). x.txn) token all) its (λ p. option_map (λ c. (c.user, p.currency)) (named (λ (c : CardMade). c.card) p.card made))
              (Some (k.user, currency)) (first its refl) (ap (option_map (λ (c : CardMade). (c.user, currency))) (told card k e))

          carried : (o : Option Carried) → Each IsHeldSo (unwrap_or (option_map (λ x. record { txn = t; live = x.sums.live } ∷ []) o) [])
          carried None = tt
          carried (Some x) = (held, tt)

      with_card : (o : Option Card) → card_named card f.cards ≡ o
          → Each IsHeldSo
          (txns_begun ts (option_map (first_ask token amount partial at) (option_and_then (λ k. option_map (λ product. txn_begun f k product token currency mcc mid at) (product_named k.product f.products)) o)))
      with_card None e = tt
      with_card (Some k) e = with_product k e (product_named k.product f.products)
  new_held ts f at (input.Increment token txn currency amount) told first = by (txn_named txn f.txns)
    where
      by : (o : Option TxnNow) → Each IsHeldSo (txns_begun ts (option_map (λ t. further_ask token amount at t.txn) o))
      by None = tt
      by (Some t) = tt
  new_held ts f at _ told first = tt

  abbrev settled_by : CoreState → Seen → CoreState
  settled_by c e = cond (is_done e.verdict) (after_setting (with_event c e) e.body.input) (with_event c e)

  all_held : (ts : List Carried) (c : CoreState) (es : List Seen) → Each (IsFirst all) es → made ≡ map told_of_card c.cardholders.cards ++ cards_made es
      → Each IsHeldSo c.holdings.txns → Each IsHeldSo (fold (with_seen ts) c es).holdings.txns
  all_held ts c [] first whole h = h
  all_held ts c (e ∷ es) first whole h =
      let now : CoreState = settled_by c e in
      let later : made ≡ map told_of_card now.cardholders.cards ++ cards_made es =
      whole ∙ ap (λ (xs : List CardMade). map told_of_card c.cardholders.cards ++ xs) (told_first (card_told e) (cards_made es))
      ∙ sym (append_assoc (map told_of_card c.cardholders.cards) (cons_option (card_told e) []) (cards_made es))
      ∙ ap (λ (xs : List CardMade). xs ++ cards_made es) (sym (settled_cards e.verdict (with_event c e) e.body.input))
      in
      let told : AreTold now.cardholders.cards =
      λ name card f. ap (named (λ (x : CardMade). x.card) name) later ∙ told_named now.cardholders.cards (cards_made es) name card f
      in
      all_held ts (with_seen ts c e) es first.1 later
      (each_append IsHeldSo now.holdings.txns (txns_begun ts (ask_of_event (core_facts now) e.body.at e.body.input))
      (subst (Each IsHeldSo) (sym (settled_txns (is_done e.verdict) (with_event c e) e.body.input)) h)
      (new_held ts (core_facts now) e.body.at e.body.input told first.0))

-- each transaction of a core that is made again has the holder that the state's events tell of
pub holders_again : (s : State) → AreInOrder s → Each (IsHeldSo (purchases s.events) (cards_made s.events)) (rebuilt s).holdings.txns
holders_again s order = all_held (purchases s.events) (cards_made s.events) s.txns no_core s.events (all_first s.events order.tokens) refl tt
