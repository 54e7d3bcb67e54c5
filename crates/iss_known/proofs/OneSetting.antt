-- What is known of a core, after the setting of one event.
use Rattle.std.proofs.Common.{◌≡◌, ◌∙◌, ◌++◌, ◌∷◌, ◌+◌, ◌||◌, ℕ, ap, ap₂, Bool, cond, false, find, List, [], map, refl, sym, true}
use Rattle.std.specs.Prelude.{Option, Some, None, is_some, option_map}
use Rattle.std.specs.List.{list_any}
use Rattle.std.specs.Option.{option_or}
use Rattle.std.specs.Str.{bytes_eq}
use Rattle.std.proofs.lemmas.List.{map-append}
use Rattle.iss_model.specs.declared.input.Input.{Input}
use Rattle.iss_model.specs.declared.input.Input.TheVariants as input
use Rattle.iss_model.specs.declared.setting.Card.{Card}
use Rattle.iss_model.specs.declared.setting.Moved.TheVariants as moved
use Rattle.iss_model.specs.declared.setting.Product.{Product}
use Rattle.iss_model.specs.declared.setting.Set.{Set}
use Rattle.iss_model.specs.declared.setting.User.{User}
use Rattle.iss_model.specs.declared.setting.CardState.{CardState}
use Rattle.iss_model.specs.declared.setting.UserState.{UserState}
use Rattle.iss_model.specs.declared.state.Seen.{Seen}
use Rattle.iss_model.specs.rules.Controls.{ControlPut}
use Rattle.iss_model.specs.rules.Settings.{card_named, product_named, user_named}
use Rattle.iss_model.specs.state.Cores.{ControlKept, CoreState, ProductNow, after_setting, card_after_move, control_after_put, product_after_switch, set_after_put, user_after_move}
use Rattle.iss_model.proofs.Lists.{map-alike, map-map}
use Rattle.iss_index.specs.Places.{place_of}
use Rattle.iss_state.proofs.docket.Lists.{any_mapped, some_mapped}
use Rattle.iss_state.proofs.effects.Finds.{find-map}
use Rattle.iss_states.specs.Rebuilding.{is_done, with_event}
use Rattle.iss_known.specs.declared.controls.ControlKnown.{ControlKnown}
use Rattle.iss_known.specs.Known.{IsKnownOf, KnownNow, card_leads_to, control_known}
use Rattle.iss_known.specs.Reading.{settled_known, with_first, with_name, with_setting_known}
use Rattle.iss_known.proofs.Firsts.{either_is, found_first, found_if_any, found_more, has_by_place, has_name, if_named, mapped_or}

-- settings ----

-- what is known of a core is known of one with the same settings, transactions and calls
still_known : (k : KnownNow) (c : CoreState) (e : Seen) → IsKnownOf k c → IsKnownOf k (with_event c e)
still_known k c e h = record { users = h.users; cards = h.cards; products = h.products; controls = h.controls; sets = h.sets; txns = h.txns; calls = h.calls }

module _ (k : KnownNow) (c : CoreState) (h : IsKnownOf k c) where
  -- users ----

  users_more : (x : User) (name : List ℕ) → is_some (place_of name (with_name k.users x.name)) ≡ is_some (user_named name (c.cardholders.users ++ x ∷ []))
  users_more x name =
      has_name name x.name k.users
      ∙ ap (λ (b : Bool). b || bytes_eq x.name name) (h.users name)
      ∙ ap (λ (b : Bool). is_some (user_named name c.cardholders.users) || b) (sym (one (bytes_eq x.name name)))
      ∙ sym (either_is (user_named name c.cardholders.users) (if_named (λ (u : User). u.name) name x))
      ∙ sym (ap is_some (found_more (λ (u : User). u.name) name c.cardholders.users x))
    where
      one : (b : Bool) → is_some (cond b (Some x) None) ≡ b
      one true = refl
      one false = refl

  users_moved : (who : List ℕ) (to : UserState) (name : List ℕ) → is_some (place_of name k.users) ≡ is_some (user_named name (map (user_after_move who to) c.cardholders.users))
  users_moved who to name =
      h.users name
      ∙ sym (some_mapped (user_after_move who to) (user_named name c.cardholders.users))
      ∙ sym (ap is_some (find-map (λ (u : User). bytes_eq u.name name) (λ (u : User). bytes_eq u.name name) (user_after_move who to) keeps c.cardholders.users))
    where
      keeps : (u : User) → bytes_eq (user_after_move who to u).name name ≡ bytes_eq u.name name
      keeps u = by (bytes_eq who u.name)
        where
          by : (b : Bool) → bytes_eq (cond b (record u { state = to }) u).name name ≡ bytes_eq u.name name
          by true = refl
          by false = refl

  -- cards ----

  cards_more : (x : Card) (name : List ℕ) → option_map card_leads_to (card_named name (with_first (λ (y : Card). y.name) k.cards x)) ≡ option_map card_leads_to (card_named name (c.cardholders.cards ++ x ∷ []))
  cards_more x name =
      let last : Option Card = if_named (λ (y : Card). y.name) name x in
      ap (option_map card_leads_to) (found_first (λ (y : Card). y.name) name k.cards x)
      ∙ mapped_or card_leads_to (card_named name k.cards) last
      ∙ ap (λ (o : Option (List ℕ × List ℕ)). option_or o (option_map card_leads_to last)) (h.cards name)
      ∙ sym (mapped_or card_leads_to (card_named name c.cardholders.cards) last)
      ∙ ap (option_map card_leads_to) (sym (found_more (λ (y : Card). y.name) name c.cardholders.cards x))

  cards_moved : (who : List ℕ) (to : CardState) (name : List ℕ) → option_map card_leads_to (card_named name k.cards) ≡ option_map card_leads_to (card_named name (map (card_after_move who to) c.cardholders.cards))
  cards_moved who to name =
      h.cards name
      ∙ by (card_named name c.cardholders.cards)
      ∙ ap (option_map card_leads_to) (sym (find-map (λ (x : Card). bytes_eq x.name name) (λ (x : Card). bytes_eq x.name name) (card_after_move who to) keeps c.cardholders.cards))
    where
      keeps : (x : Card) → bytes_eq (card_after_move who to x).name name ≡ bytes_eq x.name name
      keeps x = one (bytes_eq who x.name)
        where
          one : (b : Bool) → bytes_eq (cond b (record x { state = to }) x).name name ≡ bytes_eq x.name name
          one true = refl
          one false = refl

      leads : (x : Card) → card_leads_to x ≡ card_leads_to (card_after_move who to x)
      leads x = one (bytes_eq who x.name)
        where
          one : (b : Bool) → card_leads_to x ≡ card_leads_to (cond b (record x { state = to }) x)
          one true = refl
          one false = refl

      by : (o : Option Card) → option_map card_leads_to o ≡ option_map card_leads_to (option_map (card_after_move who to) o)
      by None = refl
      by (Some x) = ap (λ (p : List ℕ × List ℕ). Some p) (leads x)

  -- products ----

  products_more : (x : Product) (name : List ℕ)
      → product_named name (with_first (λ (y : Product). y.name) k.products x) ≡ product_named name (map (λ (p : ProductNow). p.product) (c.products ++ record { product = x; on = false } ∷ []))
  products_more x name =
      let products : List Product = map (λ (p : ProductNow). p.product) c.products in
      found_first (λ (y : Product). y.name) name k.products x
      ∙ ap (λ (o : Option Product). option_or o (if_named (λ (y : Product). y.name) name x)) (h.products name)
      ∙ sym (found_more (λ (y : Product). y.name) name products x)
      ∙ ap (λ (ps : List Product). product_named name ps) (sym (map-append (λ (p : ProductNow). p.product) c.products (record { product = x; on = false } ∷ [])))

  products_switched : (who : List ℕ) (on : Bool) (name : List ℕ) → product_named name k.products ≡ product_named name (map (λ (p : ProductNow). p.product) (map (product_after_switch who on) c.products))
  products_switched who on name =
      h.products name
      ∙ ap (λ (ps : List Product). product_named name ps)
      (map-alike (λ (p : ProductNow). p.product) (λ (p : ProductNow). (product_after_switch who on p).product) same c.products
      ∙ sym (map-map (product_after_switch who on) (λ (p : ProductNow). p.product) c.products))
    where
      same : (p : ProductNow) → p.product ≡ (product_after_switch who on p).product
      same p = one (bytes_eq who p.product.name)
        where
          one : (b : Bool) → p.product ≡ (cond b (record p { on = on }) p).product
          one true = refl
          one false = refl

  -- controls ----

  controls_put : (put : ControlPut) (new : ControlKept) → new.control ≡ put.control
      → cond (is_some (find (λ (x : ControlKnown). bytes_eq x.name put.control.name) k.controls)) k.controls (k.controls ++ control_known new ∷ [])
      ≡ map control_known
      (cond (list_any (λ (x : ControlKept). bytes_eq x.control.name put.control.name) c.controls) (map (control_after_put put) c.controls) (c.controls ++ new ∷ []))
  controls_put put new is =
      ap₂ (λ (b : Bool) (xs : List ControlKnown). cond b xs (xs ++ control_known new ∷ []))
      (ap (λ (xs : List ControlKnown). is_some (find (λ (x : ControlKnown). bytes_eq x.name put.control.name) xs)) h.controls
      ∙ found_if_any (λ (x : ControlKnown). bytes_eq x.name put.control.name) (map control_known c.controls)
      ∙ any_mapped (λ (x : ControlKnown). bytes_eq x.name put.control.name) control_known c.controls)
      h.controls
      ∙ by (list_any (λ (x : ControlKept). bytes_eq x.control.name put.control.name) c.controls)
    where
      same : (x : ControlKept) → control_known x ≡ control_known (control_after_put put x)
      same x = one (bytes_eq put.control.name x.control.name)
        where
          one : (b : Bool) → control_known x ≡ control_known (cond b (record x { control = record (x.control) { amount_limit = put.control.amount_limit; usage_limit = put.control.usage_limit; active = put.control.active } }) x)
          one true = refl
          one false = refl

      by : (b : Bool) → cond b (map control_known c.controls) (map control_known c.controls ++ control_known new ∷ [])
          ≡ map control_known (cond b (map (control_after_put put) c.controls) (c.controls ++ new ∷ []))
      by true = map-alike control_known (λ (x : ControlKept). control_known (control_after_put put x)) same c.controls ∙ sym (map-map (control_after_put put) control_known c.controls)
      by false = sym (map-append control_known c.controls (new ∷ []))

  -- sets ----

  sets_put : (put : Set) → with_name k.sets put.name
      ≡ map (λ (s : Set). s.name) (cond (list_any (λ (s : Set). bytes_eq s.name put.name) c.stand_ins.sets) (map (set_after_put put) c.stand_ins.sets) (c.stand_ins.sets ++ put ∷ []))
  sets_put put =
      ap (λ (ns : List (List ℕ)). with_name ns put.name) h.sets
      ∙ ap (λ (b : Bool). cond b (map (λ (s : Set). s.name) c.stand_ins.sets) (map (λ (s : Set). s.name) c.stand_ins.sets ++ put.name ∷ []))
      (has_by_place (λ (s : Set). s.name) put.name c.stand_ins.sets)
      ∙ by (list_any (λ (s : Set). bytes_eq s.name put.name) c.stand_ins.sets)
    where
      same : (s : Set) → s.name ≡ (set_after_put put s).name
      same s = one (bytes_eq put.name s.name)
        where
          one : (b : Bool) → s.name ≡ (cond b (record s { connection = put.connection; timeout = put.timeout; application = put.application; max = put.max; day_limit = put.day_limit; active = put.active }) s).name
          one true = refl
          one false = refl

      by : (b : Bool) → cond b (map (λ (s : Set). s.name) c.stand_ins.sets) (map (λ (s : Set). s.name) c.stand_ins.sets ++ put.name ∷ [])
          ≡ map (λ (s : Set). s.name) (cond b (map (set_after_put put) c.stand_ins.sets) (c.stand_ins.sets ++ put ∷ []))
      by true =
          map-alike (λ (s : Set). s.name) (λ (s : Set). (set_after_put put s).name) same c.stand_ins.sets
          ∙ sym (map-map (set_after_put put) (λ (s : Set). s.name) c.stand_ins.sets)
      by false = sym (map-append (λ (s : Set). s.name) c.stand_ins.sets (put ∷ []))

setting_known : (k : KnownNow) (c : CoreState) (i : Input) → IsKnownOf k c → IsKnownOf (with_setting_known k i) (after_setting c i)
setting_known k c (input.User token user) h =
    record {
      users = users_more k c h (record { name = user; state = _ });
      cards = h.cards;
      products = h.products;
      controls = h.controls;
      sets = h.sets;
      txns = h.txns;
      calls = h.calls;
    }
setting_known k c (input.Card token card user product active) h =
    record {
      users = h.users;
      cards = cards_more k c h (record { name = card; user = user; product = product; state = _ });
      products = h.products;
      controls = h.controls;
      sets = h.sets;
      txns = h.txns;
      calls = h.calls;
    }
setting_known k c (input.Move token (moved.Card card to)) h =
    record {
      users = h.users;
      cards = cards_moved k c h card to;
      products = h.products;
      controls = h.controls;
      sets = h.sets;
      txns = h.txns;
      calls = h.calls;
    }
setting_known k c (input.Move token (moved.User user to)) h =
    record {
      users = users_moved k c h user to;
      cards = h.cards;
      products = h.products;
      controls = h.controls;
      sets = h.sets;
      txns = h.txns;
      calls = h.calls;
    }
setting_known k c (input.Product token product currency funding timeout_ms hold_ms) h =
    record {
      users = h.users;
      cards = h.cards;
      products = products_more k c h (record { name = product; currency = currency; funding = funding; timeout_ms = timeout_ms; hold_ms = hold_ms });
      controls = h.controls;
      sets = h.sets;
      txns = h.txns;
      calls = h.calls;
    }
setting_known k c (input.Group token group mccs) h =
    record { users = h.users; cards = h.cards; products = h.products; controls = h.controls; sets = h.sets; txns = h.txns; calls = h.calls }
setting_known k c (input.Control token control currency window amount_limit usage_limit association scope offset active) h =
    record {
      users = h.users;
      cards = h.cards;
      products = h.products;
      controls = controls_put k c h (record { number = c.count; control = _ }) (record { first = c.count; control = _; amounts = _; times = _ }) refl;
      sets = h.sets;
      txns = h.txns;
      calls = h.calls;
    }
setting_known k c (input.Set token set product currency connection timeout application max day_limit active) h =
    record {
      users = h.users;
      cards = h.cards;
      products = h.products;
      controls = h.controls;
      sets = sets_put k c h (record {
        name = set;
        product = product;
        currency = currency;
        connection = connection;
        timeout = timeout;
        application = application;
        max = max;
        day_limit = day_limit;
        active = active;
      });
      txns = h.txns;
      calls = h.calls;
    }
setting_known k c (input.Switch token product on) h =
    record {
      users = h.users;
      cards = h.cards;
      products = products_switched k c h product on;
      controls = h.controls;
      sets = h.sets;
      txns = h.txns;
      calls = h.calls;
    }
setting_known k c (input.Load token user currency amount) h = h
setting_known k c (input.Authorization token card currency amount mcc mid partial) h = h
setting_known k c (input.Increment token txn currency amount) h = h
setting_known k c (input.Reversal token txn currency amount) h = h
setting_known k c (input.Clearing token txn currency amount last) h = h
setting_known k c (input.Refund token txn currency amount) h = h
setting_known k c (input.Answer call what) h = h
setting_known k c (input.Ack notice) h = h
setting_known k c input.Time h = h

-- a core after an event's setting, if it is done
abbrev pub settled_core : CoreState → Seen → CoreState
settled_core c e = cond (is_done e.verdict) (after_setting (with_event c e) e.body.input) (with_event c e)

pub settled_too : (k : KnownNow) (c : CoreState) (e : Seen) → IsKnownOf k c → IsKnownOf (settled_known k e.verdict e.body.input) (settled_core c e)
settled_too k c e h = by (is_done e.verdict)
  where
    by : (b : Bool) → IsKnownOf (cond b (with_setting_known k e.body.input) k) (cond b (after_setting (with_event c e) e.body.input) (with_event c e))
    by true = setting_known k (with_event c e) e.body.input (still_known k c e h)
    by false = still_known k c e h
