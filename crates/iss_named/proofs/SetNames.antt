-- What is set names users and products by tokens, and cards are of known users.
use Rattle.std.proofs.Common.{◌≡◌, ◌∙◌, ◌++◌, ◌∷◌, ◌&&◌, ◌||◌, ℕ, ap, ap₂, Bool, cond, false, List, [], map, not, refl, sym, true}
use Rattle.std.specs.Prelude.{Option, Some, None, is_none, is_some}
use Rattle.std.specs.List.{list_all, list_any}
use Rattle.std.specs.Str.{bytes_eq}
use Rattle.std.proofs.lemmas.Bool.{and_parts}
use Rattle.std.proofs.lemmas.List.Folds.{list_all-append, list_any-append}
use Rattle.iss_model.specs.declared.decision.Reason.TheVariants as reason
use Rattle.iss_model.specs.declared.entry.Entry.TheVariants as entry
use Rattle.iss_model.specs.declared.input.Input.{Input}
use Rattle.iss_model.specs.declared.input.Input.TheVariants as input
use Rattle.iss_model.specs.declared.setting.Card.{Card}
use Rattle.iss_model.specs.declared.setting.Moved.TheVariants as moved
use Rattle.iss_model.specs.declared.setting.Product.{Product}
use Rattle.iss_model.specs.declared.setting.User.{User}
use Rattle.iss_model.specs.declared.setting.UserState.{UserState}
use Rattle.iss_model.specs.declared.setting.UserState.TheVariants as user_state
use Rattle.iss_model.specs.rules.Controls.{ControlPut, control_replaced}
use Rattle.iss_model.specs.rules.Reasons.{card_reason, first_reason, is_some_with}
use Rattle.iss_model.specs.rules.CardReasons.{is_account_funded}
use Rattle.iss_model.specs.rules.Settings.{card_named, product_named, user_named}
use Rattle.iss_model.specs.state.Cores.{ControlKept, CoreState, ProductNow, after_setting, card_after_move, control_after_put, core_facts, no_core, product_after_switch, user_after_move, with_control}
use Rattle.iss_model.specs.state.Kept.{nothing_kept}
use Rattle.iss_model.proofs.Lists.{all_weaker, find_passes, neither}
use Rattle.iss_model.proofs.Names.{name-sym, one_name}
use Rattle.iss_acts.specs.Sources.{setting_reason}
use Rattle.iss_state.proofs.docket.Lists.{any_mapped, some_mapped}
use Rattle.iss_state.proofs.effects.Finds.{find-map, found_grows, found_passes}
use Rattle.iss_states.specs.Keys.{has_no_zero}
use Rattle.iss_states.specs.Settled.{set_part, uncounted}
use Rattle.iss_states.proofs.Found.{Keeps, entry_keeps}
use Rattle.iss_rebuilt.proofs.ControlsAgain.{HaveOwnNames}
use Rattle.iss_rebuilt.proofs.Tokens.{is_named_input}
use Rattle.iss_well_formed.proofs.WellAgain.{all_mapped}
use Rattle.iss_named.specs.Known.{is_known_user}
use Rattle.iss_named.specs.Stood.{is_gateway_product}

-- tests ----

-- a user's name is a token
abbrev pub is_token_user : User → Bool
is_token_user u = has_no_zero u.name

-- a product's name is a token
abbrev pub is_token_product : ProductNow → Bool
is_token_product p = has_no_zero p.product.name

-- a card is of a known user
abbrev pub is_of_known_user : List User → Card → Bool
is_of_known_user users card = is_known_user users card.user

-- Users and products are named by tokens, cards are of known users, and controls have names of their own.
pub record AreSetWell (c : CoreState) : Type 0 where
  pub users : list_all is_token_user c.cardholders.users ≡ true
  pub products : list_all is_token_product c.products ≡ true
  pub cards : list_all (is_of_known_user c.cardholders.users) c.cardholders.cards ≡ true
  pub controls : HaveOwnNames c.controls

-- Users and products that are known in one core are known in another one.
pub record KnowMore (c d : CoreState) : Type 0 where
  pub users : (name : List ℕ) → is_known_user c.cardholders.users name ≡ true → is_known_user d.cardholders.users name ≡ true
  pub products : (name : List ℕ) → is_gateway_product c.products name ≡ true → is_gateway_product d.products name ≡ true

-- lists ----

pub all_more : {A : Type 0} (p : A → Bool) (xs : List A) (x : A) → list_all p xs ≡ true → p x ≡ true → list_all p (xs ++ x ∷ []) ≡ true
all_more p xs x h k = list_all-append p xs (x ∷ []) ∙ ap₂ (λ (a b : Bool). a && (b && true)) h k

all_kept : {A : Type 0} (p : A → Bool) (f : A → A) → ((x : A) → p (f x) ≡ p x) → (xs : List A) → list_all p xs ≡ true → list_all p (map f xs) ≡ true
all_kept p f same xs h = all_mapped p f xs ∙ all_weaker p (λ x. p (f x)) (λ x k. same x ∙ k) xs h

-- users ----

moved_name : (name : List ℕ) (to : UserState) (u : User) → (user_after_move name to u).name ≡ u.name
moved_name name to u = by (bytes_eq name u.name)
  where
    by : (b : Bool) → (cond b (record u { state = to }) u).name ≡ u.name
    by true = refl
    by false = refl

known_moved : (name : List ℕ) (to : UserState) (users : List User) (user : List ℕ) → is_known_user (map (user_after_move name to) users) user ≡ is_known_user users user
known_moved name to users user =
    ap is_some
    (find-map (λ (u : User). bytes_eq u.name user) (λ (u : User). bytes_eq u.name user) (user_after_move name to) (λ u. ap (λ (n : List ℕ). bytes_eq n user) (moved_name name to u)) users)
    ∙ some_mapped (user_after_move name to) (user_named user users)

moved_user : (name : List ℕ) (card : Card) (b : Bool) (other : Card) → other.user ≡ card.user → (cond b other card).user ≡ card.user
moved_user name card true other e = e
moved_user name card false other e = refl

-- products ----

switched_name : (name : List ℕ) (on : Bool) (p : ProductNow) → (product_after_switch name on p).product ≡ p.product
switched_name name on p = by (bytes_eq name p.product.name)
  where
    by : (b : Bool) → (cond b (record p { on = on }) p).product ≡ p.product
    by true = refl
    by false = refl

-- a product that stays found stays one of the gateway
pub gateway_stays : {c d : CoreState} → Keeps c d → (name : List ℕ) → is_gateway_product c.products name ≡ true → is_gateway_product d.products name ≡ true
gateway_stays {c} {d} keeps name h = by (product_named name (map (λ p. p.product) c.products)) refl h
  where
    test : Option Product → Bool
    test o = is_some_with (λ (p : Product). not (is_account_funded p.funding)) o

    by : (o : Option Product) → product_named name (map (λ p. p.product) c.products) ≡ o → is_some_with (λ (p : Product). not (is_account_funded p.funding)) o ≡ true → is_gateway_product d.products name ≡ true
    by None e k = cc
    by (Some p) e k = ap (is_some_with (λ (p : Product). not (is_account_funded p.funding))) (keeps.products name p e) ∙ k

-- controls ----

put_name : (put : ControlPut) (k : ControlKept) → (control_after_put put k).control.name ≡ k.control.name
put_name put k = by (bytes_eq put.control.name k.control.name)
  where
    by : (b : Bool) → (cond b (record k { control = control_replaced k.control put.control }) k).control.name ≡ k.control.name
    by true = refl
    by false = refl

-- names stay one's own if they stay
own_mapped : (f : ControlKept → ControlKept) → ((k : ControlKept) → (f k).control.name ≡ k.control.name) → (xs : List ControlKept) → HaveOwnNames xs → HaveOwnNames (map f xs)
own_mapped f same [] own = tt
own_mapped f same (x ∷ xs) own = (
  any_mapped (λ (y : ControlKept). bytes_eq y.control.name (f x).control.name) f xs ∙ any_same xs ∙ own.0,
  own_mapped f same xs own.1,
)
  where
    any_same : (ys : List ControlKept) → list_any (λ y. bytes_eq (f y).control.name (f x).control.name) ys ≡ list_any (λ y. bytes_eq y.control.name x.control.name) ys
    any_same [] = refl
    any_same (y ∷ ys) = ap₂ (λ (a b : Bool). a || b) (ap₂ (λ (m n : List ℕ). bytes_eq m n) (same y) (same x)) (any_same ys)

own_last : (xs : List ControlKept) (x : ControlKept) → list_any (λ y. bytes_eq y.control.name x.control.name) xs ≡ false → HaveOwnNames xs → HaveOwnNames (xs ++ x ∷ [])
own_last [] x none own = (refl, tt)
own_last (y ∷ ys) x none own =
    let both = neither (bytes_eq y.control.name x.control.name) (list_any (λ (z : ControlKept). bytes_eq z.control.name x.control.name) ys) none in (
      list_any-append (λ (z : ControlKept). bytes_eq z.control.name y.control.name) ys (x ∷ [])
          ∙ ap₂ (λ (a b : Bool). a || (b || false)) own.0 (name-sym x.control.name y.control.name ∙ both.0),
      own_last ys x both.1 own.1,
    )

own_put : (ks : List ControlKept) (put : ControlPut) → HaveOwnNames ks → HaveOwnNames (with_control ks put)
own_put ks put own = by (list_any (λ k. bytes_eq k.control.name put.control.name) ks) refl
  where
    fresh : ControlKept
    fresh = record { first = put.number; control = put.control; amounts = nothing_kept; times = nothing_kept }

    by : (b : Bool) → list_any (λ k. bytes_eq k.control.name put.control.name) ks ≡ b → HaveOwnNames (cond b (map (control_after_put put) ks) (ks ++ fresh ∷ []))
    by true e = own_mapped (control_after_put put) (put_name put) ks own
    by false e = own_last ks fresh e own

-- settings ----

-- a card that isn't declined is of a known user
user_known : (c : CoreState) (card user product : List ℕ) → card_reason (core_facts c) card user product ≡ None → is_known_user c.cardholders.users user ≡ true
user_known c card user product h = by (user_named user c.cardholders.users) h
  where
    by : (o : Option User)
        → first_reason ((is_none o, reason.UserUnknown) ∷ (is_none (product_named product (core_facts c).products), reason.ProductUnknown) ∷ (is_some (card_named card c.cardholders.cards), reason.Exists) ∷ []) ≡ None
        → is_some o ≡ true
    by None h = cc
    by (Some u) h = refl

pub set_well : (c : CoreState) (n : ℕ) (i : Input) → is_named_input i ≡ true → setting_reason (core_facts c) i ≡ None → AreSetWell c → AreSetWell (after_setting (record c { count = n }) i)
set_well c n (input.User token user) named none h =
    let all = and_parts (has_no_zero token) (has_no_zero user && true) named in
    record {
      users = all_more is_token_user c.cardholders.users (record { name = user; state = user_state.Active }) h.users (and_parts (has_no_zero user) true all.1).0;
      products = h.products;
      cards =
          all_weaker (is_of_known_user c.cardholders.users) (is_of_known_user (c.cardholders.users ++ record { name = user; state = user_state.Active } ∷ []))
          (λ card k. found_grows (λ (u : User). bytes_eq u.name card.user) c.cardholders.users (record { name = user; state = user_state.Active } ∷ []) k) c.cardholders.cards h.cards;
      controls = h.controls;
    }
set_well c n (input.Card token card user product active) named none h =
    record {
      users = h.users;
      products = h.products;
      cards = all_more (is_of_known_user c.cardholders.users) c.cardholders.cards _ h.cards (user_known c card user product none);
      controls = h.controls;
    }
set_well c n (input.Move token (moved.Card card to)) named none h =
    record {
      users = h.users;
      products = h.products;
      cards =
          all_kept (is_of_known_user c.cardholders.users) (card_after_move card to)
          (λ x. ap (λ (user : List ℕ). is_known_user c.cardholders.users user) (moved_user card x (bytes_eq card x.name) (record x { state = to }) refl)) c.cardholders.cards h.cards;
      controls = h.controls;
    }
set_well c n (input.Move token (moved.User user to)) named none h =
    record {
      users = all_kept is_token_user (user_after_move user to) (λ u. ap has_no_zero (moved_name user to u)) c.cardholders.users h.users;
      products = h.products;
      cards =
          all_weaker (is_of_known_user c.cardholders.users) (is_of_known_user (map (user_after_move user to) c.cardholders.users))
          (λ card k. known_moved user to c.cardholders.users card.user ∙ k) c.cardholders.cards h.cards;
      controls = h.controls;
    }
set_well c n (input.Product token product currency funding timeout_ms hold_ms) named none h =
    let all = and_parts (has_no_zero token) (has_no_zero product && true) named in
    record {
      users = h.users;
      products = all_more is_token_product c.products _ h.products (and_parts (has_no_zero product) true all.1).0;
      cards = h.cards;
      controls = h.controls;
    }
set_well c n (input.Switch token product on) named none h =
    record {
      users = h.users;
      products = all_kept is_token_product (product_after_switch product on) (λ p. ap (λ (x : Product). has_no_zero x.name) (switched_name product on p)) c.products h.products;
      cards = h.cards;
      controls = h.controls;
    }
set_well c n (input.Control token control currency window amount_limit usage_limit association scope offset active) named none h =
    record { users = h.users; products = h.products; cards = h.cards; controls = own_put c.controls _ h.controls }
set_well c n _ named none h = record { users = h.users; products = h.products; cards = h.cards; controls = h.controls }

-- what is set is as well without what happened
pub part_well : (c : CoreState) → AreSetWell c → AreSetWell (set_part c)
part_well c h = record { users = h.users; products = h.products; cards = h.cards; controls = own_mapped uncounted (λ k. refl) c.controls h.controls }

-- a setting takes no user away
users_stay : (c : CoreState) (i : Input) (name : List ℕ) → is_known_user c.cardholders.users name ≡ true → is_known_user (after_setting c i).cardholders.users name ≡ true
users_stay c (input.User token user) name h = found_grows (λ (u : User). bytes_eq u.name name) c.cardholders.users (record { name = user; state = user_state.Active } ∷ []) h
users_stay c (input.Move token (moved.Card card to)) name h = h
users_stay c (input.Move token (moved.User user to)) name h = known_moved user to c.cardholders.users name ∙ h
users_stay c _ name h = h

pub setting_knows : (c : CoreState) (i : Input) → KnowMore c (after_setting c i)
setting_knows c i = record { users = users_stay c i; products = gateway_stays (entry_keeps c (entry.Conf i)) }

-- a core without a record
pub nothing_set : AreSetWell no_core
nothing_set = record { users = refl; products = refl; cards = refl; controls = tt }

-- names that are known are tokens ----

pub user_token : (c : CoreState) → AreSetWell c → (name : List ℕ) → is_known_user c.cardholders.users name ≡ true → has_no_zero name ≡ true
user_token c h name known = by (user_named name c.cardholders.users) refl known
  where
    by : (o : Option User) → user_named name c.cardholders.users ≡ o → is_some o ≡ true → has_no_zero name ≡ true
    by None e k = cc
    by (Some u) e k =
        ap has_no_zero (sym (one_name u.name name (found_passes (λ (u : User). bytes_eq u.name name) c.cardholders.users u e)))
        ∙ find_passes (λ (u : User). bytes_eq u.name name) is_token_user c.cardholders.users u h.users e

pub product_token : (c : CoreState) → AreSetWell c → (name : List ℕ) → is_gateway_product c.products name ≡ true → has_no_zero name ≡ true
product_token c h name known = by (product_named name (map (λ p. p.product) c.products)) refl known
  where
    by : (o : Option Product) → product_named name (map (λ p. p.product) c.products) ≡ o → is_some_with (λ (p : Product). not (is_account_funded p.funding)) o ≡ true → has_no_zero name ≡ true
    by None e k = cc
    by (Some p) e k =
        ap has_no_zero (sym (one_name p.name name (found_passes (λ (p : Product). bytes_eq p.name name) (map (λ p. p.product) c.products) p e)))
        ∙ find_passes (λ (p : Product). bytes_eq p.name name) (λ (p : Product). has_no_zero p.name) (map (λ p. p.product) c.products) p
        (all_mapped (λ (p : Product). has_no_zero p.name) (λ (p : ProductNow). p.product) c.products ∙ h.products) e
