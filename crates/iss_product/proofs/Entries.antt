-- What the entries of a map by name tell of the products that they list.
use Rattle.std.proofs.Common.{◌≡◌, ℕ, Bool, true, false, List, [], ◌∷◌, ◌++◌, Option, Some, None, refl, sym, ap, ap₂, subst, ◌∙◌}
use Rattle.std.specs.List.{AllByRecursion, IsDistinct}
use Rattle.std.specs.Option.{option_map, option_map_or}
use Rattle.std.specs.Map.{lookup, keys_of, set_value}
use Rattle.std.specs.Str.{bytes_eq}
use Rattle.iss_model.specs.declared.setting.Product.{Product}
use Rattle.iss_model.specs.rules.Settings.{product_named, is_named_in}
use Rattle.iss_model.specs.state.Cores.{ProductNow, with_product, with_switch}
use Rattle.indexmap.specs.IndexMap.{insert_entry}
use Rattle.iss_model.proofs.Names.{one_name, name-sym}
use Rattle.iss_product.specs.declared.products.Listed.{Listed}
use Rattle.iss_product.specs.Listed.{products_in, switched_in, product_now, listed_in, IsByName, IsListed}

-- the map's test of a key and the model's test of a name agree
same_test : (name key own : List ℕ) → key ≡ own → bytes_eq own name ≡ bytes_eq name key
same_test name key own is = name-sym own name ∙ ap (bytes_eq name) (sym is)

-- the product of what a look-up found
abbrev pub product_of : Option Listed → Option Product
product_of found = option_map (λ listed. listed.product) found

-- the switch of what a look-up found
abbrev pub is_on : Option Listed → Bool
is_on found = option_map_or (λ listed. listed.on) found false

-- the map finds the product of a name
found : (name : List ℕ) (es : List (List ℕ × Listed)) → IsByName es
    → product_of (lookup (bytes_eq name) es) ≡ product_named name (products_in (listed_in es))
found name [] by = refl
found name (e ∷ es) by = at (bytes_eq name e.0) refl (found name es by.1)
  where
    at : (b : Bool) → bytes_eq name e.0 ≡ b → product_of (lookup (bytes_eq name) es) ≡ product_named name (products_in (listed_in es))
        → product_of (lookup (bytes_eq name) (e ∷ es)) ≡ product_named name (products_in (listed_in (e ∷ es)))
    at true is rest =
        let here : bytes_eq e.1.product.name name ≡ true = same_test name e.0 e.1.product.name by.0 ∙ is in
        rw (is, here)
    at false is rest =
        let here : bytes_eq e.1.product.name name ≡ false = same_test name e.0 e.1.product.name by.0 ∙ is in
        rw (is, here) rest

-- no entry has that key
abbrev pub LacksKey : List ℕ → List (List ℕ × Listed) → Type 0
LacksKey name es = AllByRecursion (λ y. bytes_eq name y ≡ false) (keys_of es)

-- a name that no entry has isn't among those whose switch is on
off_where_lacking : (name : List ℕ) (es : List (List ℕ × Listed)) → IsByName es → LacksKey name es
    → is_named_in (switched_in (listed_in es)) name ≡ false
off_where_lacking name [] by lacks = refl
off_where_lacking name (e ∷ es) by lacks = at e.1.on refl (off_where_lacking name es by.1 lacks.1)
  where
    at : (b : Bool) → e.1.on ≡ b → is_named_in (switched_in (listed_in es)) name ≡ false
        → is_named_in (switched_in (listed_in (e ∷ es))) name ≡ false
    at true is rest =
        let here : bytes_eq e.1.product.name name ≡ false = same_test name e.0 e.1.product.name by.0 ∙ lacks.0 in
        rw (is, here) rest
    at false is rest = rw is rest

lacking : (name : List ℕ) (e : List ℕ × Listed) (es : List (List ℕ × Listed)) → bytes_eq name e.0 ≡ true
    → IsDistinct bytes_eq (keys_of (e ∷ es)) → LacksKey name es
unfolding IsDistinct
lacking name e es is apart = subst (λ (n : List ℕ). LacksKey n es) (sym (one_name name e.0 is)) apart.0

rest_apart : (e : List ℕ × Listed) (es : List (List ℕ × Listed)) → IsDistinct bytes_eq (keys_of (e ∷ es)) → IsDistinct bytes_eq (keys_of es)
unfolding IsDistinct
rest_apart e es apart = apart.1

-- the map finds whether the switch of a name is on
switch_found : (name : List ℕ) (es : List (List ℕ × Listed)) → IsByName es → IsDistinct bytes_eq (keys_of es)
    → is_on (lookup (bytes_eq name) es) ≡ is_named_in (switched_in (listed_in es)) name
switch_found name [] by apart = refl
switch_found name (e ∷ es) by apart = at (bytes_eq name e.0) e.1.on refl refl (switch_found name es by.1 (rest_apart e es apart))
  where
    at : (b on : Bool) → bytes_eq name e.0 ≡ b → e.1.on ≡ on
        → is_on (lookup (bytes_eq name) es) ≡ is_named_in (switched_in (listed_in es)) name
        → is_on (lookup (bytes_eq name) (e ∷ es)) ≡ is_named_in (switched_in (listed_in (e ∷ es))) name
    at true true is on rest =
        let here : bytes_eq e.1.product.name name ≡ true = same_test name e.0 e.1.product.name by.0 ∙ is in
        rw (is, on, here)
    at true false is on rest = rw (is, on) (sym (off_where_lacking name es by.1 (lacking name e es is apart)))
    at false true is on rest =
        let here : bytes_eq e.1.product.name name ≡ false = same_test name e.0 e.1.product.name by.0 ∙ is in
        rw (is, on, here) rest
    at false false is on rest = rw (is, on) rest

-- a switch that no entry has turns nothing
untouched : (name : List ℕ) (on : Bool) (es : List (List ℕ × Listed)) → IsByName es → LacksKey name es
    → with_switch (listed_in es) name on ≡ listed_in es
untouched name on [] by lacks = refl
untouched name on (e ∷ es) by lacks =
    let here : bytes_eq name e.1.product.name ≡ false = ap (bytes_eq name) (sym by.0) ∙ lacks.0 in
    rw here (ap (λ (ps : List ProductNow). product_now e.1 ∷ ps) (untouched name on es by.1 lacks.1))

-- a value written at a name turns the switch of that product alone
turned : (name : List ℕ) (es : List (List ℕ × Listed)) (w : Listed) → IsByName es → IsDistinct bytes_eq (keys_of es)
    → product_of (lookup (bytes_eq name) es) ≡ Some w.product
    → listed_in (set_value (bytes_eq name) es w) ≡ with_switch (listed_in es) name w.on
turned name [] w by apart held = refl
turned name (e ∷ es) w by apart held = at (bytes_eq name e.0) refl (turned name es w by.1 (rest_apart e es apart))
  where
    at : (b : Bool) → bytes_eq name e.0 ≡ b
        → (product_of (lookup (bytes_eq name) es) ≡ Some w.product → listed_in (set_value (bytes_eq name) es w) ≡ with_switch (listed_in es) name w.on)
        → listed_in (set_value (bytes_eq name) (e ∷ es) w) ≡ with_switch (listed_in (e ∷ es)) name w.on
    at true is rest =
        let here : bytes_eq name e.1.product.name ≡ true = ap (bytes_eq name) (sym by.0) ∙ is in
        let own : Some e.1.product ≡ Some w.product = rw is at held in
        let one : w.product ≡ e.1.product = cc in
        let after : with_switch (listed_in es) name w.on ≡ listed_in es = untouched name w.on es by.1 (lacking name e es is apart) in
        rw (is, here)
        (ap₂ (λ (p : Product) (ps : List ProductNow). record { product = p; on = w.on } ∷ ps) one (sym after))
    at false is rest =
        let here : bytes_eq name e.1.product.name ≡ false = ap (bytes_eq name) (sym by.0) ∙ is in
        let later : product_of (lookup (bytes_eq name) es) ≡ Some w.product = rw is at held in
        rw (is, here) (ap (λ (ps : List ProductNow). product_now e.1 ∷ ps) (rest later))

-- a value of the same product, written at a name, leaves each product under its own name
turned_by_name : (test : List ℕ → Bool) (es : List (List ℕ × Listed)) (w : Listed) → IsByName es
    → product_of (lookup test es) ≡ Some w.product → IsByName (set_value test es w)
turned_by_name test [] w by held = tt
turned_by_name test (e ∷ es) w by held = at (test e.0) refl (turned_by_name test es w by.1)
  where
    at : (b : Bool) → test e.0 ≡ b → (product_of (lookup test es) ≡ Some w.product → IsByName (set_value test es w))
        → IsByName (set_value test (e ∷ es) w)
    at true is rest =
        let own : Some e.1.product ≡ Some w.product = rw is at held in
        let one : e.1.product ≡ w.product = cc in
        rw is (by.0 ∙ ap (λ (p : Product). p.name) one, by.1)
    at false is rest =
        let later : product_of (lookup test es) ≡ Some w.product = rw is at held in
        rw is (by.0, rest later)

-- what goes last in the map is listed last
listed_last : (es : List (List ℕ × Listed)) (e : List ℕ × Listed) → listed_in (es ++ e ∷ []) ≡ listed_in es ++ product_now e.1 ∷ []
listed_last [] e = refl
listed_last (x ∷ xs) e = ap (λ (ps : List ProductNow). product_now x.1 ∷ ps) (listed_last xs e)

-- a product put last stands under its own name
last_by_name : (es : List (List ℕ × Listed)) (e : List ℕ × Listed) → IsByName es → e.0 ≡ e.1.product.name → IsByName (es ++ e ∷ [])
last_by_name [] e by own = (own, tt)
last_by_name (x ∷ xs) e by own = (by.0, last_by_name xs e by.1 own)

-- a look-up that finds no product finds nothing
none_found : (got : Option Listed) → product_of got ≡ None → got ≡ None
none_found None is = refl
none_found (Some listed) is = cc

-- a key that the map doesn't find is none of its keys
lacks_key : (name : List ℕ) (es : List (List ℕ × Listed)) → lookup (bytes_eq name) es ≡ None → LacksKey name es
lacks_key name [] none = tt
lacks_key name (e ∷ es) none = at (bytes_eq name e.0) refl (lacks_key name es)
  where
    at : (b : Bool) → bytes_eq name e.0 ≡ b → (lookup (bytes_eq name) es ≡ None → LacksKey name es) → LacksKey name (e ∷ es)
    at true is rest =
        let some : Some e.1 ≡ None = rw is at none in
        absurd (cc)
    at false is rest = (is, rest (rw is at none))

-- a new key goes last
goes_last : (es : List (List ℕ × Listed)) (key : List ℕ) (w : Listed) → lookup (bytes_eq key) es ≡ None
    → insert_entry bytes_eq es key w ≡ es ++ (key, w) ∷ []
goes_last [] key w none = refl
goes_last (e ∷ es) key w none = at (bytes_eq key e.0) refl (goes_last es key w)
  where
    at : (b : Bool) → bytes_eq key e.0 ≡ b → (lookup (bytes_eq key) es ≡ None → insert_entry bytes_eq es key w ≡ es ++ (key, w) ∷ [])
        → insert_entry bytes_eq (e ∷ es) key w ≡ (e ∷ es) ++ (key, w) ∷ []
    at true is rest =
        let some : Some e.1 ≡ None = rw is at none in
        absurd (cc)
    at false is rest =
        let later : lookup (bytes_eq key) es ≡ None = rw is at none in
        rw is (ap (λ (xs : List (List ℕ × Listed)). e ∷ xs) (rest later))

-- What is listed, as contracts see it, by the name that a call was given.
module _ (es : List (List ℕ × Listed)) (ps : List ProductNow) (name key : List ℕ) (listed : IsListed es) (shown : listed_in es ≡ ps) (same : key ≡ name) where
  pub product_is : (got : Option Listed) → got ≡ lookup (bytes_eq key) es → product_of got ≡ product_named name (products_in ps)
  product_is got is =
      ap product_of is ∙ ap (λ (k : List ℕ). product_of (lookup (bytes_eq k) es)) same ∙ found name es listed.by_name
      ∙ ap (λ (xs : List ProductNow). product_named name (products_in xs)) shown

  pub switch_is : (got : Option Listed) → got ≡ lookup (bytes_eq key) es → is_on got ≡ is_named_in (switched_in ps) name
  switch_is got is =
      ap is_on is ∙ ap (λ (k : List ℕ). is_on (lookup (bytes_eq k) es)) same ∙ switch_found name es listed.by_name listed.apart
      ∙ ap (λ (xs : List ProductNow). is_named_in (switched_in xs) name) shown

-- A write at a name that the map has, or no write at a name that it lacks, turns only the switch of that name.
module _ (es : List (List ℕ × Listed)) (ps : List ProductNow) (name key : List ℕ) (listed : IsListed es) (shown : listed_in es ≡ ps) (same : key ≡ name) where
  pub switch_turned : (v w : Listed) (after : List (List ℕ × Listed)) → Some v ≡ lookup (bytes_eq key) es → w.product ≡ v.product
      → after ≡ set_value (bytes_eq key) es w → listed_in after ≡ with_switch ps name w.on
  switch_turned v w after held own is =
      ap listed_in is ∙ turned key es w listed.by_name listed.apart (ap product_of (sym held) ∙ ap (λ (p : Product). Some p) (sym own))
      ∙ ap₂ (λ (xs : List ProductNow) (k : List ℕ). with_switch xs k w.on) shown same

  pub switch_lacking : (on : Bool) (after : List (List ℕ × Listed)) → None ≡ lookup (bytes_eq key) es → after ≡ es
      → listed_in after ≡ with_switch ps name on
  switch_lacking on after none is =
      ap listed_in is ∙ sym (untouched key on es listed.by_name (lacks_key key es (sym none)))
      ∙ ap₂ (λ (xs : List ProductNow) (k : List ℕ). with_switch xs k on) shown same

  pub still_listed : (v w : Listed) (after : List (List ℕ × Listed)) → Some v ≡ lookup (bytes_eq key) es → w.product ≡ v.product
      → after ≡ set_value (bytes_eq key) es w → IsDistinct bytes_eq (keys_of after) → IsListed after
  still_listed v w after held own is apart =
      record {
        by_name =
            subst IsByName (sym is)
            (turned_by_name (bytes_eq key) es w listed.by_name (ap product_of (sym held) ∙ ap (λ (p : Product). Some p) (sym own)));
        apart = apart;
      }

-- A new product goes last.
module _ (es : List (List ℕ × Listed)) (ps : List ProductNow) (product : Product) (key : List ℕ) (listed : IsListed es) (shown : listed_in es ≡ ps) (same : key ≡ product.name)
    (new : product_named product.name (products_in ps) ≡ None) where
  missing : lookup (bytes_eq key) es ≡ None
  missing =
      none_found (lookup (bytes_eq key) es)
      (product_is es ps product.name key listed shown same (lookup (bytes_eq key) es) refl ∙ new)

  pub pushed_last : (after : List (List ℕ × Listed)) → after ≡ insert_entry bytes_eq es key (record { product = product; on = false })
      → listed_in after ≡ with_product ps product
  pushed_last after is =
      ap listed_in (is ∙ goes_last es key (record { product = product; on = false }) missing)
      ∙ listed_last es (key, record { product = product; on = false })
      ∙ ap (λ (xs : List ProductNow). with_product xs product) shown

  pub pushed_listed : (after : List (List ℕ × Listed)) → after ≡ insert_entry bytes_eq es key (record { product = product; on = false })
      → IsDistinct bytes_eq (keys_of after) → IsListed after
  pushed_listed after is apart =
      record {
        by_name =
            subst IsByName (sym (is ∙ goes_last es key (record { product = product; on = false }) missing))
            (last_by_name es (key, record { product = product; on = false }) listed.by_name same);
        apart = apart;
      }
