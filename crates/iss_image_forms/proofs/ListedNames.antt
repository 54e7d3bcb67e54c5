-- Each name that a core has is one of its events' tokens: what is made again of events passes each test that their tokens pass.
use Rattle.std.proofs.Common.{◌≡◌, ◌∙◌, ◌++◌, ◌∷◌, ◌&&◌, ◌||◌, ℕ, ap, ap₂, Bool, cond, false, fold, List, [], map, refl, sym, true}
use Rattle.std.specs.Prelude.{Option, Some, None, option_and_then, option_map, unwrap_or}
use Rattle.std.specs.List.{list_all, list_any}
use Rattle.std.specs.Str.{bytes_eq}
use Rattle.std.proofs.lemmas.Bool.{and_parts}
use Rattle.std.proofs.lemmas.List.Folds.{list_all-append}
use Rattle.iss_model.specs.declared.input.Input.{Input}
use Rattle.iss_model.specs.declared.input.Input.TheVariants as input
use Rattle.iss_model.specs.declared.setting.Card.{Card}
use Rattle.iss_model.specs.declared.setting.CardState.{CardState}
use Rattle.iss_model.specs.declared.setting.Moved.TheVariants as moved
use Rattle.iss_model.specs.declared.setting.Product.{Product}
use Rattle.iss_model.specs.declared.setting.Set.{Set}
use Rattle.iss_model.specs.declared.setting.User.{User}
use Rattle.iss_model.specs.declared.setting.UserState.{UserState}
use Rattle.iss_model.specs.declared.setting.UserState.TheVariants as user_state
use Rattle.iss_model.specs.declared.state.Carried.{Carried}
use Rattle.iss_model.specs.declared.state.Seen.{Seen}
use Rattle.iss_model.specs.declared.state.State.{State}
use Rattle.iss_model.specs.declared.txn.Txn.{Txn}
use Rattle.iss_model.specs.rules.Activity.{TxnNow, txn_named}
use Rattle.iss_model.specs.rules.Asks.{Ask, txn_begun}
use Rattle.iss_model.specs.rules.CardReasons.{first_ask, further_ask, is_account_funded}
use Rattle.iss_model.specs.rules.Controls.{ControlPut, control_replaced, set_replaced}
use Rattle.iss_model.specs.rules.Facts.{Facts}
use Rattle.iss_model.specs.rules.Settings.{card_named, default_product, first_card_state, product_named}
use Rattle.iss_model.specs.state.Cores.{ControlKept, CoreState, ProductNow, after_setting, card_after_move, control_after_put, core_facts, no_core, product_after_switch, set_after_put, user_after_move, with_control, with_set}
use Rattle.iss_model.specs.state.Kept.{nothing_kept}
use Rattle.iss_model.specs.texts.Spelling.{association_tokens, scope_tokens, tokens_of}
use Rattle.iss_model.proofs.Lists.{find_passes}
use Rattle.iss_state.proofs.docket.Lists.{inside, never}
use Rattle.iss_states.specs.Rebuilding.{ask_of_event, carried_named, events_again, is_done, rebuilt, txns_begun, with_counters, with_event, with_seen}
use Rattle.iss_codec.specs.Places.{is_listed}
use Rattle.iss_image.specs.Images.{tokens_first}
use Rattle.iss_image.proofs.TokensFirst.{all_among, have_all}

-- lists ----

all_with : {A : Type 0} (p : A → Bool) (xs : List A) (x : A) → list_all p xs ≡ true → p x ≡ true → list_all p (xs ++ x ∷ []) ≡ true
all_with p xs x h k = list_all-append p xs (x ∷ []) ∙ ap₂ (λ (a b : Bool). a && (b && true)) h k

all_changed : {A : Type 0} (p : A → Bool) (f : A → A) → ((x : A) → p (f x) ≡ p x) → (xs : List A) → list_all p xs ≡ true → list_all p (map f xs) ≡ true
all_changed p f same [] h = refl
all_changed p f same (x ∷ xs) h =
    let both = and_parts (p x) (list_all p xs) h in
    ap₂ (λ (a b : Bool). a && b) (same x ∙ both.0) (all_changed p f same xs both.1)

-- What each thing of a core names passes a test.
module _ (form : List ℕ → Bool) where
  abbrev pub is_user : User → Bool
  is_user u = form u.name

  abbrev pub is_card : Card → Bool
  is_card c = form c.user

  -- a product has such a name, or it is the built-in one
  abbrev pub is_product : ProductNow → Bool
  is_product p = form p.product.name || (bytes_eq p.product.name default_product.name && is_account_funded p.product.funding)

  abbrev pub is_control : ControlKept → Bool
  is_control k = form k.control.name

  abbrev pub is_set : Set → Bool
  is_set x = form x.name

  abbrev pub is_txn : TxnNow → Bool
  is_txn t = form t.txn.token && form t.txn.user

-- Users, controls and sets of a core, its transactions with their users, and its products but the built-in one have names that pass a test.
pub record AreNamed (form : List ℕ → Bool) (c : CoreState) : Type 0 where
  pub users : list_all (is_user form) c.cardholders.users ≡ true
  pub cards : list_all (is_card form) c.cardholders.cards ≡ true
  pub products : list_all (is_product form) c.products ≡ true
  pub controls : list_all (is_control form) c.controls ≡ true
  pub sets : list_all (is_set form) c.stand_ins.sets ≡ true
  pub txns : list_all (is_txn form) c.holdings.txns ≡ true

module _ (form : List ℕ → Bool) where
  -- one setting ----

  same_user : (who : List ℕ) (to : UserState) (u : User) → is_user form (user_after_move who to u) ≡ is_user form u
  same_user who to u = by (bytes_eq who u.name)
    where
      by : (b : Bool) → is_user form (cond b (record u { state = to }) u) ≡ is_user form u
      by true = refl
      by false = refl

  same_card : (who : List ℕ) (to : CardState) (c : Card) → is_card form (card_after_move who to c) ≡ is_card form c
  same_card who to c = by (bytes_eq who c.name)
    where
      by : (b : Bool) → is_card form (cond b (record c { state = to }) c) ≡ is_card form c
      by true = refl
      by false = refl

  same_product : (who : List ℕ) (on : Bool) (p : ProductNow) → is_product form (product_after_switch who on p) ≡ is_product form p
  same_product who on p = by (bytes_eq who p.product.name)
    where
      by : (b : Bool) → is_product form (cond b (record p { on = on }) p) ≡ is_product form p
      by true = refl
      by false = refl

  same_control : (put : ControlPut) (k : ControlKept) → is_control form (control_after_put put k) ≡ is_control form k
  same_control put k = by (bytes_eq put.control.name k.control.name)
    where
      by : (b : Bool) → is_control form (cond b (record k { control = control_replaced k.control put.control }) k) ≡ is_control form k
      by true = refl
      by false = refl

  same_set : (put x : Set) → is_set form (set_after_put put x) ≡ is_set form x
  same_set put x = by (bytes_eq put.name x.name)
    where
      by : (b : Bool) → is_set form (cond b (set_replaced x put) x) ≡ is_set form x
      by true = refl
      by false = refl

  product_more : (ps : List ProductNow) (x : Product) → list_all (is_product form) ps ≡ true → form x.name ≡ true
      → list_all (is_product form) (ps ++ record { product = x; on = false } ∷ []) ≡ true
  product_more ps x h k =
      all_with (is_product form) ps (record { product = x; on = false }) h
      (ap (λ (b : Bool). b || (bytes_eq x.name default_product.name && is_account_funded x.funding)) k)

  controls_put : (ks : List ControlKept) (put : ControlPut) → list_all (is_control form) ks ≡ true → form put.control.name ≡ true
      → list_all (is_control form) (with_control ks put) ≡ true
  controls_put ks put h k = by (list_any (λ c. bytes_eq c.control.name put.control.name) ks)
    where
      by : (b : Bool)
          → list_all (is_control form) (cond b (map (control_after_put put) ks) (ks ++ record { first = put.number; control = put.control; amounts = nothing_kept; times = nothing_kept } ∷ []))
          ≡ true
      by true = all_changed (is_control form) (control_after_put put) (same_control put) ks h
      by false = all_with (is_control form) ks (record { first = put.number; control = put.control; amounts = nothing_kept; times = nothing_kept }) h k

  sets_put : (xs : List Set) (put : Set) → list_all (is_set form) xs ≡ true → form put.name ≡ true → list_all (is_set form) (with_set xs put) ≡ true
  sets_put xs put h k = by (list_any (λ s. bytes_eq s.name put.name) xs)
    where
      by : (b : Bool) → list_all (is_set form) (cond b (map (set_after_put put) xs) (xs ++ put ∷ [])) ≡ true
      by true = all_changed (is_set form) (set_after_put put) (same_set put) xs h
      by false = all_with (is_set form) xs put h k

  setting_named : (c : CoreState) (i : Input) → list_all form (tokens_of i) ≡ true → AreNamed form c → AreNamed form (after_setting c i)
  setting_named c (input.User token user) its h =
      let a = and_parts (form token) (form user && true) its in
      let b = and_parts (form user) true a.1 in
      record {
        users = all_with (is_user form) c.cardholders.users (record { name = user; state = user_state.Active }) h.users b.0;
        cards = h.cards;
        products = h.products;
        controls = h.controls;
        sets = h.sets;
        txns = h.txns;
      }
  setting_named c (input.Card token card user product active) its h =
      let x = and_parts (form token) (form card && (form user && (form product && true))) its in
      let y = and_parts (form card) (form user && (form product && true)) x.1 in
      let z = and_parts (form user) (form product && true) y.1 in
      record {
        users = h.users;
        cards = all_with (is_card form) c.cardholders.cards (record { name = card; user = user; product = product; state = first_card_state active }) h.cards z.0;
        products = h.products;
        controls = h.controls;
        sets = h.sets;
        txns = h.txns;
      }
  setting_named c (input.Move token (moved.Card card to)) its h =
      record {
        users = h.users;
        cards = all_changed (is_card form) (card_after_move card to) (same_card card to) c.cardholders.cards h.cards;
        products = h.products;
        controls = h.controls;
        sets = h.sets;
        txns = h.txns;
      }
  setting_named c (input.Move token (moved.User user to)) its h =
      record {
        users = all_changed (is_user form) (user_after_move user to) (same_user user to) c.cardholders.users h.users;
        cards = h.cards;
        products = h.products;
        controls = h.controls;
        sets = h.sets;
        txns = h.txns;
      }
  setting_named c (input.Product token product currency funding timeout_ms hold_ms) its h =
      let a = and_parts (form token) (form product && true) its in
      let b = and_parts (form product) true a.1 in
      record {
        users = h.users;
        cards = h.cards;
        products = product_more c.products (record { name = product; currency = currency; funding = funding; timeout_ms = timeout_ms; hold_ms = hold_ms }) h.products b.0;
        controls = h.controls;
        sets = h.sets;
        txns = h.txns;
      }
  setting_named c (input.Control token control currency window amount_limit usage_limit association scope offset active) its h =
      let rest : Bool = list_all form (association_tokens association ++ scope_tokens scope) in
      let a = and_parts (form token) (form control && rest) its in
      let b = and_parts (form control) rest a.1 in
      let put : ControlPut = record {
        number = c.count;
        control = record {
          name = control;
          currency = currency;
          window = window;
          amount_limit = amount_limit;
          usage_limit = usage_limit;
          association = association;
          scope = scope;
          offset = offset;
          active = active;
        };
      } in
      record {
        users = h.users;
        cards = h.cards;
        products = h.products;
        controls = controls_put c.controls put h.controls b.0;
        sets = h.sets;
        txns = h.txns;
      }
  setting_named c (input.Set token set product currency connection timeout application max day_limit active) its h =
      let a = and_parts (form token) (form set && (form product && true)) its in
      let b = and_parts (form set) (form product && true) a.1 in
      let put : Set = record {
        name = set;
        product = product;
        currency = currency;
        connection = connection;
        timeout = timeout;
        application = application;
        max = max;
        day_limit = day_limit;
        active = active;
      } in
      record {
        users = h.users;
        cards = h.cards;
        products = h.products;
        controls = h.controls;
        sets = sets_put c.stand_ins.sets put h.sets b.0;
        txns = h.txns;
      }
  setting_named c (input.Switch token product on) its h =
      record {
        users = h.users;
        cards = h.cards;
        products = all_changed (is_product form) (product_after_switch product on) (same_product product on) c.products h.products;
        controls = h.controls;
        sets = h.sets;
        txns = h.txns;
      }
  setting_named c (input.Group token group mccs) its h =
      record { users = h.users; cards = h.cards; products = h.products; controls = h.controls; sets = h.sets; txns = h.txns }
  setting_named c _ its h = h

  -- one ask ----

  -- what an ask begins is of the event's token, and of its card's user
  begun_named : (f : Facts) (at : ℕ) (i : Input) (x : Ask) → list_all form (tokens_of i) ≡ true → list_all (is_card form) f.cards ≡ true → ask_of_event f at i ≡ Some x → x.is_first ≡ true
      → (form x.txn.token && form x.txn.user) ≡ true
  begun_named f at (input.Authorization token card currency amount mcc mid partial) x its cards e first = by (card_named card f.cards) refl e
    where
      own : form token ≡ true
      own = (and_parts (form token) (form card && (form mid && true)) its).0

      so : (t : Txn) → (form t.token && form t.user) ≡ true → first_ask token amount partial at t ≡ x → (form x.txn.token && form x.txn.user) ≡ true
      so t h e = ap (λ (y : Ask). form y.txn.token && form y.txn.user) (sym e) ∙ h

      by : (o : Option Card) → card_named card f.cards ≡ o
          → option_map (first_ask token amount partial at) (option_and_then (λ c. option_map (λ product. txn_begun f c product token currency mcc mid at) (product_named c.product f.products)) o) ≡ Some x
          → (form x.txn.token && form x.txn.user) ≡ true
      by None is e = cc
      by (Some c) is e = sold (product_named c.product f.products) e
        where
          sold : (o : Option Product) → option_map (first_ask token amount partial at) (option_map (λ product. txn_begun f c product token currency mcc mid at) o) ≡ Some x
              → (form x.txn.token && form x.txn.user) ≡ true
          sold None e = cc
          sold (Some product) e =
              so (txn_begun f c product token currency mcc mid at)
              (ap₂ (λ (a b : Bool). a && b) own (find_passes (λ (y : Card). bytes_eq y.name card) (is_card form) f.cards c cards is)) (inside e)
  begun_named f at (input.Increment token txn currency amount) x its cards e first = by (txn_named txn f.txns) e
    where
      by : (o : Option TxnNow) → option_map (λ now. further_ask token amount at now.txn) o ≡ Some x → (form x.txn.token && form x.txn.user) ≡ true
      by None e = cc
      by (Some now) e = never (ap (λ (y : Ask). y.is_first) (inside e) ∙ first)
  begun_named f at _ x its cards e first = cc

  all_begun : (ts : List Carried) (f : Facts) (at : ℕ) (i : Input) → list_all form (tokens_of i) ≡ true → list_all (is_card form) f.cards ≡ true
      → list_all (is_txn form) (txns_begun ts (ask_of_event f at i)) ≡ true
  all_begun ts f at i its cards = by (ask_of_event f at i) refl
    where
      carried : (x : Ask) → (form x.txn.token && form x.txn.user) ≡ true → (o : Option Carried)
          → list_all (is_txn form) (unwrap_or {T = List TxnNow} (option_map (λ (t : Carried). record { txn = x.txn; live = t.sums.live } ∷ []) o) []) ≡ true
      carried x h None = refl
      carried x h (Some t) = ap (λ (b : Bool). b && true) h

      first : (x : Ask) (b : Bool) → x.is_first ≡ b → ask_of_event f at i ≡ Some x
          → list_all (is_txn form) (cond b (unwrap_or {T = List TxnNow} (option_map (λ (t : Carried). record { txn = x.txn; live = t.sums.live } ∷ []) (carried_named x.txn.token ts)) []) []) ≡ true
      first x false is e = refl
      first x true is e = carried x (begun_named f at i x its cards e is) (carried_named x.txn.token ts)

      by : (o : Option Ask) → ask_of_event f at i ≡ o → list_all (is_txn form) (txns_begun ts o) ≡ true
      by None e = refl
      by (Some x) e = first x x.is_first refl e

  -- events ----

  event_named : (c : CoreState) (e : Seen) → AreNamed form c → AreNamed form (with_event c e)
  event_named c e h = record { users = h.users; cards = h.cards; products = h.products; controls = h.controls; sets = h.sets; txns = h.txns }

  settled_named : (b : Bool) (c : CoreState) (i : Input) → list_all form (tokens_of i) ≡ true → AreNamed form c → AreNamed form (cond b (after_setting c i) c)
  settled_named true c i its h = setting_named c i its h
  settled_named false c i its h = h

  seen_named : (ts : List Carried) (c : CoreState) (e : Seen) → list_all form (tokens_of e.body.input) ≡ true → AreNamed form c → AreNamed form (with_seen ts c e)
  seen_named ts c e its h =
      let settled : CoreState = cond (is_done e.verdict) (after_setting (with_event c e) e.body.input) (with_event c e) in
      let s : AreNamed form settled = settled_named (is_done e.verdict) (with_event c e) e.body.input its (event_named c e h) in
      record {
        users = s.users;
        cards = s.cards;
        products = s.products;
        controls = s.controls;
        sets = s.sets;
        txns =
            list_all-append (is_txn form) settled.holdings.txns (txns_begun ts (ask_of_event (core_facts settled) e.body.at e.body.input))
            ∙ ap₂ (λ (a b : Bool). a && b) s.txns (all_begun ts (core_facts settled) e.body.at e.body.input its s.cards);
      }

  all_named : (ts : List Carried) (c : CoreState) (es : List Seen) → list_all (have_all form) es ≡ true → AreNamed form c → AreNamed form (fold (with_seen ts) c es)
  all_named ts c [] its h = h
  all_named ts c (e ∷ es) its h =
      let both = and_parts (have_all form e) (list_all (have_all form) es) its in
      all_named ts (with_seen ts c e) es both.1 (seen_named ts c e both.0 h)

  nothing_named : AreNamed form no_core
  nothing_named = record { users = refl; cards = refl; products = built_in (form default_product.name); controls = refl; sets = refl; txns = refl }
    where
      built_in : (b : Bool) → ((b || (bytes_eq default_product.name default_product.name && is_account_funded default_product.funding)) && true) ≡ true
      built_in true = refl
      built_in false = refl

  -- what a core has that is made again of events whose tokens pass a test
  pub named_again : (s : State) → list_all (have_all form) s.events ≡ true → AreNamed form (rebuilt s)
  named_again s its =
      let c : CoreState = events_again s in
      let h : AreNamed form c = all_named s.txns no_core s.events its nothing_named in
      record {
        users = h.users;
        cards = h.cards;
        products = h.products;
        controls = all_changed (is_control form) (with_counters c.holdings.txns s.counters) (λ k. refl) c.controls h.controls;
        sets = h.sets;
        txns = h.txns;
      }

-- What a core has that is made again of a state is named by tokens of the state's events.
pub listed_again : (s : State) → AreNamed (is_listed (tokens_first s.events)) (rebuilt s)
listed_again s = named_again (is_listed (tokens_first s.events)) s (all_among s.events)
