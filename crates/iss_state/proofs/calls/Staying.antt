-- What entries do to a core's docket, that products stay, and which events are accepted once a record is taken up.
use Rattle.std.proofs.Common.{◌≡◌, ℕ, ◌+◌, Bool, true, false, cond, List, [], ◌∷◌, ◌++◌, map, filter, fold, refl, sym, ap, subst, ◌∙◌, ◌⊎◌, inl, inr}
use Rattle.std.specs.Prelude.{Option, Some, None, is_some, find}
use Rattle.std.specs.Option.{option_or}
use Rattle.std.specs.Str.{bytes_eq}
use Rattle.std.proofs.lemmas.List.{append-nil}
use Rattle.std.proofs.lemmas.List.Folds.{find-append}
use Rattle.iss_model.specs.declared.entry.Entry.{Entry}
use Rattle.iss_model.specs.declared.entry.Entry.TheVariants as entry
use Rattle.iss_model.specs.declared.input.Input.{Input}
use Rattle.iss_model.specs.declared.input.Input.TheVariants as input
use Rattle.iss_model.specs.declared.input.Record.{Record}
use Rattle.iss_model.specs.declared.setting.Moved.TheVariants as who
use Rattle.iss_model.specs.declared.setting.Product.{Product}
use Rattle.iss_model.specs.Inputs.{event_token, is_event, is_text}
use Rattle.iss_model.specs.rules.Facts.{Accepted}
use Rattle.iss_model.specs.rules.Settings.{product_named}
use Rattle.iss_model.specs.state.Cores.{CoreState, ProductNow, with_record, product_after_switch, after_setting, after_entry}
use Rattle.iss_model.proofs.Lists.{map-alike, map-map}
use Rattle.iss_model.proofs.Names.{one_name}
use Rattle.iss_state.specs.Sound.{is_accepted}
use Rattle.iss_state.specs.Dockets.{Docket, docket_after, docket_of, is_docketed}
use Rattle.iss_state.proofs.docket.Enters.{AreAllowedOn, docketed_moves}
use Rattle.iss_state.proofs.docket.Lists.{by_either}
use Rattle.iss_state.specs.Pending.{AreAllowed, is_product}

-- the docket ----

setting_docket : (s : CoreState) (i : Input) → docket_of (after_setting s i) ≡ docket_of s
setting_docket s (input.Move token (who.Card card to)) = refl
setting_docket s (input.Move token (who.User user to)) = refl
setting_docket s _ = refl

entry_docket : (s : CoreState) (e : Entry) → docket_of (after_entry s e) ≡ docket_after (docket_of s) e
entry_docket s (entry.Conf i) = setting_docket s i
entry_docket s (entry.Began t) = refl
entry_docket s _ = refl

pub entries_docket : (s : CoreState) (es : List Entry) → docket_of (fold after_entry s es) ≡ fold docket_after (docket_of s) es
entries_docket s [] = refl
entries_docket s (e ∷ es) = entries_docket (after_entry s e) es ∙ ap (λ (d : Docket). fold docket_after d es) (entry_docket s e)

-- the docket that a core comes to, if this much is docketed
pub comes_to : (s : CoreState) (es more : List Entry) → filter is_docketed es ≡ more → docket_of (fold after_entry s es) ≡ fold docket_after (docket_of s) more
comes_to s es more e = entries_docket s es ∙ docketed_moves (docket_of s) es ∙ ap (fold docket_after (docket_of s)) e

-- what is allowed on the docket is allowed
pub are_allowed : (s : CoreState) (es : List Entry) → AreAllowedOn (docket_of s) es → AreAllowed s es
are_allowed s [] h = tt
are_allowed s (e ∷ es) h = (h.0, are_allowed (after_entry s e) es (subst (λ (d : Docket). AreAllowedOn d es) (sym (entry_docket s e)) h.1))

-- a record is taken up ----

one_some : {A : Type 0} (o more : Option A) → is_some (option_or o more) ≡ true → (is_some o ≡ true) ⊎ (is_some more ≡ true)
one_some None more h = inr h
one_some (Some x) more h = inl refl

-- whether an event is among those accepted and some more
accepted_more : (accepted more : List Accepted) (event : List ℕ)
    → is_accepted (accepted ++ more) event ≡ is_some (option_or (find (λ (a : Accepted). is_event event a.input) accepted) (find (λ (a : Accepted). is_event event a.input) more))
accepted_more accepted more event = ap (λ (o : Option Accepted). is_some o) (find-append (λ (a : Accepted). is_event event a.input) accepted more)

-- a record as it is accepted
abbrev accepted_as : CoreState → Record → Accepted
accepted_as s r = record { number = s.count + 1; at = r.at; input = r.input }

pub accepted_before_or_now : (s : CoreState) (r : Record) (event : List ℕ) → is_accepted (with_record s r).accepted event ≡ true
    → (is_accepted s.accepted event ≡ true) ⊎ (event_token r.input ≡ Some event)
accepted_before_or_now s r event h = by (event_token r.input) refl
  where
    a : Accepted
    a = accepted_as s r

    where_some : (b : Bool) (a : Accepted) → is_some (cond b (Some a) None) ≡ true → b ≡ true
    where_some true a h = refl
    where_some false a h = cc

    by : (o : Option (List ℕ)) → event_token r.input ≡ o → (is_accepted s.accepted event ≡ true) ⊎ (event_token r.input ≡ Some event)
    by None e =
        inl (sym (ap (λ (xs : List Accepted). is_accepted xs event) (append-nil s.accepted))
        ∙ ap (λ (o : Option (List ℕ)). is_accepted (s.accepted ++ cond (is_some o) (accepted_as s r ∷ []) []) event) (sym e) ∙ h)
    by (Some token) e =
        by_either (λ old. inl old)
        (λ new. inr (e ∙ ap (λ (x : List ℕ). Some x) (one_name token event (sym (ap (is_text event) e) ∙ where_some (is_event event r.input) (accepted_as s r) new))))
        (one_some (find (λ (a : Accepted). is_event event a.input) s.accepted) (cond (is_event event r.input) (Some (accepted_as s r)) None)
        (sym (accepted_more s.accepted (accepted_as s r ∷ []) event)
        ∙ ap (λ (o : Option (List ℕ)). is_accepted (s.accepted ++ cond (is_some o) (accepted_as s r ∷ []) []) event) (sym e) ∙ h))

-- products that stand ----

product_more : (ps : List ProductNow) (x : ProductNow) (name : List ℕ) → is_product ps name ≡ true → is_product (ps ++ x ∷ []) name ≡ true
product_more [] x name h = cc
product_more (p ∷ ps) x name h = by (bytes_eq p.product.name name) (product_more ps x name) h
  where
    by : (b : Bool) → (is_product ps name ≡ true → is_product (ps ++ x ∷ []) name ≡ true)
        → is_some (cond b (Some p.product) (product_named name (map (λ p. p.product) ps))) ≡ true
        → is_some (cond b (Some p.product) (product_named name (map (λ p. p.product) (ps ++ x ∷ [])))) ≡ true
    by true rest h = refl
    by false rest h = rest h

switched_same : (name : List ℕ) (on : Bool) (p : ProductNow) → (product_after_switch name on p).product ≡ p.product
switched_same name on p = by (bytes_eq name p.product.name)
  where
    by : (b : Bool) → (cond b (record p { on = on }) p).product ≡ p.product
    by true = refl
    by false = refl

setting_products : (s : CoreState) (i : Input) (name : List ℕ) → is_product s.products name ≡ true → is_product (after_setting s i).products name ≡ true
setting_products s (input.Move token (who.Card card to)) name h = h
setting_products s (input.Move token (who.User user to)) name h = h
setting_products s (input.Product token product currency funding timeout_ms hold_ms) name h = product_more s.products _ name h
setting_products s (input.Switch token product on) name h =
    ap (λ (ps : List Product). is_some (product_named name ps)) (map-map (product_after_switch product on) (λ (p : ProductNow). p.product) s.products
    ∙ map-alike (λ (p : ProductNow). (product_after_switch product on p).product) (λ (p : ProductNow). p.product) (switched_same product on) s.products) ∙ h
setting_products s _ name h = h

entry_products : (s : CoreState) (e : Entry) (name : List ℕ) → is_product s.products name ≡ true → is_product (after_entry s e).products name ≡ true
entry_products s (entry.Conf i) name h = setting_products s i name h
entry_products s (entry.Began t) name h = h
entry_products s _ name h = h

pub products_stay : (s : CoreState) (es : List Entry) (name : List ℕ) → is_product s.products name ≡ true → is_product (fold after_entry s es).products name ≡ true
products_stay s [] name h = h
products_stay s (e ∷ es) name h = products_stay (after_entry s e) es name (entry_products s e name h)
