-- Users, products, controls, sets and transactions that are known of a state are named by tokens of its events.
use Rattle.std.proofs.Common.{◌≡◌, ◌∙◌, ◌∷◌, ◌&&◌, ◌||◌, ℕ, ap, Bool, cond, false, find, List, [], map, not, refl, sym, true}
use Rattle.std.specs.Prelude.{Option, Some, None, is_some}
use Rattle.std.specs.List.{list_all}
use Rattle.std.specs.Str.{bytes_eq}
use Rattle.std.proofs.lemmas.Bool.{and_parts}
use Rattle.iss_model.specs.declared.setting.Product.{Product}
use Rattle.iss_model.specs.declared.setting.Set.{Set}
use Rattle.iss_model.specs.declared.setting.User.{User}
use Rattle.iss_model.specs.declared.state.State.{State}
use Rattle.iss_model.specs.rules.Activity.{TxnNow, txn_named}
use Rattle.iss_model.specs.rules.CardReasons.{is_account_funded}
use Rattle.iss_model.specs.rules.Controls.{ControlNow, control_named, set_named}
use Rattle.iss_model.specs.rules.Reasons.{is_some_with}
use Rattle.iss_model.specs.rules.Settings.{default_product, product_named, user_named}
use Rattle.iss_model.specs.state.Cores.{ProductNow, control_facts, core_facts}
use Rattle.iss_model.proofs.Lists.{all_weaker, find_passes}
use Rattle.iss_model.proofs.Names.{one_name}
use Rattle.iss_state.proofs.docket.Lists.{never}
use Rattle.iss_state.proofs.effects.Finds.{found_passes}
use Rattle.iss_states.specs.Rebuilding.{rebuilt}
use Rattle.iss_well_formed.specs.Again.{AreOfTheirEvents, listed, standing}
use Rattle.iss_named.specs.Stood.{is_gateway_product}
use Rattle.iss_codec.specs.Places.{is_listed}
use Rattle.iss_image.specs.Images.{tokens_first}
use Rattle.iss_image_forms.proofs.ListedNames.{is_product, is_txn, listed_again}

-- lists ----

-- what passes for each thing's name passes for a name by which a thing is found
name_found : {A : Type 0} (name_of : A → List ℕ) (form : List ℕ → Bool) (name : List ℕ) (xs : List A)
    → list_all (λ x. form (name_of x)) xs ≡ true → is_some (find (λ x. bytes_eq (name_of x) name) xs) ≡ true → form name ≡ true
name_found name_of form name [] all h = never h
name_found {A} name_of form name (x ∷ xs) all h =
    let both = and_parts (form (name_of x)) (list_all (λ y. form (name_of y)) xs) all in
    by (bytes_eq (name_of x) name) refl both.0 (name_found name_of form name xs both.1) h
  where
    by : (b : Bool) → bytes_eq (name_of x) name ≡ b → form (name_of x) ≡ true → (is_some (find (λ y. bytes_eq (name_of y) name) xs) ≡ true → form name ≡ true)
        → is_some (cond b (Some x) (find (λ y. bytes_eq (name_of y) name) xs)) ≡ true → form name ≡ true
    by true is its rest h = ap form (sym (one_name (name_of x) name is)) ∙ its
    by false is its rest h = rest h

all_of_map : {A B : Type 0} (p : B → Bool) (f : A → B) (xs : List A) → list_all p (map f xs) ≡ list_all (λ x. p (f x)) xs
all_of_map p f [] = refl
all_of_map p f (x ∷ xs) = ap (λ (b : Bool). p (f x) && b) (all_of_map p f xs)

-- users ----

-- each user of a core that is made again is listed
pub users_listed : (s : State) → list_all (λ u. is_listed (tokens_first s.events) u.name) (rebuilt s).cardholders.users ≡ true
users_listed s = (listed_again s).users

pub known_user_listed : (s : State) (name : List ℕ) → is_some (user_named name (rebuilt s).cardholders.users) ≡ true → is_listed (tokens_first s.events) name ≡ true
known_user_listed s name h = name_found (λ (u : User). u.name) (is_listed (tokens_first s.events)) name (rebuilt s).cardholders.users (listed_again s).users h

-- products ----

-- a product that isn't named so is the built-in one
product_found : (form : List ℕ → Bool) (name : List ℕ) (ps : List ProductNow) (x : Product) → list_all (is_product form) ps ≡ true → product_named name (map (λ p. p.product) ps) ≡ Some x
    → (form name || (bytes_eq name default_product.name && is_account_funded x.funding)) ≡ true
product_found form name ps x all e =
    let test : Product → Bool = λ (p : Product). form p.name || (bytes_eq p.name default_product.name && is_account_funded p.funding) in
    let its : bytes_eq x.name name ≡ true = found_passes (λ (p : Product). bytes_eq p.name name) (map (λ (p : ProductNow). p.product) ps) x e in
    let so : test x ≡ true = find_passes (λ (p : Product). bytes_eq p.name name) test (map (λ (p : ProductNow). p.product) ps) x (all_of_map test (λ (p : ProductNow). p.product) ps ∙ all) e in
    ap (λ (n : List ℕ). form n || (bytes_eq n default_product.name && is_account_funded x.funding)) (sym (one_name x.name name its)) ∙ so

-- a known product is listed unless it is the built-in one
pub known_product_listed : (s : State) (name : List ℕ) → is_some (product_named name (map (λ p. p.product) (rebuilt s).products)) ≡ true → bytes_eq name default_product.name ≡ false
    → is_listed (tokens_first s.events) name ≡ true
known_product_listed s name h other = by (product_named name (map (λ (p : ProductNow). p.product) (rebuilt s).products)) refl h
  where
    form : List ℕ → Bool
    form n = is_listed (tokens_first s.events) n

    left : (a b c : Bool) → b ≡ false → (a || (b && c)) ≡ true → a ≡ true
    left true b c e h = refl
    left false true c e h = never (sym e)
    left false false c e h = h

    by : (o : Option Product) → product_named name (map (λ p. p.product) (rebuilt s).products) ≡ o → is_some o ≡ true → form name ≡ true
    by None e h = never h
    by (Some x) e h = left (form name) (bytes_eq name default_product.name) (is_account_funded x.funding) other (product_found form name (rebuilt s).products x (listed_again s).products e)

-- a known product with gateway funding is listed: the built-in one has another
pub gateway_product_listed : (s : State) (name : List ℕ) → is_gateway_product (rebuilt s).products name ≡ true → is_listed (tokens_first s.events) name ≡ true
gateway_product_listed s name h = by (product_named name (map (λ (p : ProductNow). p.product) (rebuilt s).products)) refl h
  where
    form : List ℕ → Bool
    form n = is_listed (tokens_first s.events) n

    left : (a b c : Bool) → not c ≡ true → (a || (b && c)) ≡ true → a ≡ true
    left true b c e h = refl
    left false true true e h = never e
    left false true false e h = h
    left false false c e h = h

    by : (o : Option Product) → product_named name (map (λ p. p.product) (rebuilt s).products) ≡ o → is_some_with (λ p. not (is_account_funded p.funding)) o ≡ true → form name ≡ true
    by None e h = never h
    by (Some x) e h = left (form name) (bytes_eq name default_product.name) (is_account_funded x.funding) h (product_found form name (rebuilt s).products x (listed_again s).products e)

-- controls and sets ----

-- each control of a core that is made again is listed
pub controls_listed : (s : State) → list_all (λ k. is_listed (tokens_first s.events) k.control.name) (rebuilt s).controls ≡ true
controls_listed s = (listed_again s).controls

pub known_control_listed : (s : State) (name : List ℕ) → is_some (control_named name (core_facts (rebuilt s)).controls) ≡ true → is_listed (tokens_first s.events) name ≡ true
known_control_listed s name h =
    name_found (λ (k : ControlNow). k.control.name) (is_listed (tokens_first s.events)) name (map control_facts (rebuilt s).controls)
    (all_of_map (λ (k : ControlNow). is_listed (tokens_first s.events) k.control.name) control_facts (rebuilt s).controls ∙ (listed_again s).controls) h

pub known_set_listed : (s : State) (name : List ℕ) → is_some (set_named name (rebuilt s).stand_ins.sets) ≡ true → is_listed (tokens_first s.events) name ≡ true
known_set_listed s name h = name_found (λ (x : Set). x.name) (is_listed (tokens_first s.events)) name (rebuilt s).stand_ins.sets (listed_again s).sets h

-- transactions ----

-- each transaction of a core that is made again is listed, and so is its user
pub txns_listed : (s : State) → list_all (λ t. is_listed (tokens_first s.events) t.txn.token && is_listed (tokens_first s.events) t.txn.user) (rebuilt s).holdings.txns ≡ true
txns_listed s = (listed_again s).txns

both_listed : (s : State) (token : List ℕ) (t : TxnNow) → txn_named token (rebuilt s).holdings.txns ≡ Some t → is_txn (is_listed (tokens_first s.events)) t ≡ true
both_listed s token t e = find_passes (λ (x : TxnNow). bytes_eq x.txn.token token) (is_txn (is_listed (tokens_first s.events))) (rebuilt s).holdings.txns t (listed_again s).txns e

pub txn_listed : (s : State) (token : List ℕ) → is_some (txn_named token (rebuilt s).holdings.txns) ≡ true → is_listed (tokens_first s.events) token ≡ true
txn_listed s token h =
    name_found (λ (t : TxnNow). t.txn.token) (is_listed (tokens_first s.events)) token (rebuilt s).holdings.txns
    (all_weaker (is_txn (is_listed (tokens_first s.events))) (λ (t : TxnNow). is_listed (tokens_first s.events) t.txn.token) (λ t k. (and_parts (is_listed (tokens_first s.events) t.txn.token) (is_listed (tokens_first s.events) t.txn.user) k).0)
    (rebuilt s).holdings.txns (listed_again s).txns) h

pub txn_user_listed : (s : State) (token : List ℕ) (t : TxnNow) → txn_named token (rebuilt s).holdings.txns ≡ Some t → is_listed (tokens_first s.events) t.txn.user ≡ true
txn_user_listed s token t e = (and_parts (is_listed (tokens_first s.events) t.txn.token) (is_listed (tokens_first s.events) t.txn.user) (both_listed s token t e)).1

-- each transaction that a state carries is listed
pub carried_listed : (s : State) → AreOfTheirEvents s → list_all (λ t. is_listed (tokens_first s.events) t.txn) s.txns ≡ true
carried_listed s own =
    let form : List ℕ → Bool = is_listed (tokens_first s.events) in
    let pairs : List ℕ × Bool → Bool = λ (p : List ℕ × Bool). form p.0 in
    sym (all_of_map pairs listed s.txns)
    ∙ sym (ap (λ (ps : List (List ℕ × Bool)). list_all pairs ps) own.begun)
    ∙ all_of_map pairs standing (rebuilt s).holdings.txns
    ∙ all_weaker (is_txn form) (λ (t : TxnNow). form t.txn.token) (λ t k. (and_parts (form t.txn.token) (form t.txn.user) k).0) (rebuilt s).holdings.txns (listed_again s).txns
