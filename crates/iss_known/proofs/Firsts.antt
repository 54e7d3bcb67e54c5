-- Lists that keep the first of each name: what is found in them is what is found in all.
use Rattle.std.proofs.Common.{◌≡◌, ◌∙◌, ◌++◌, ◌∷◌, ◌||◌, ℕ, ap, Bool, cond, false, find, List, [], map, refl, suc, sym, true}
use Rattle.std.specs.Prelude.{Option, Some, None, is_some, option_map}
use Rattle.std.specs.List.{list_any}
use Rattle.std.specs.Option.{option_or}
use Rattle.std.specs.Str.{bytes_eq}
use Rattle.std.proofs.lemmas.List.Folds.{find-append}
use Rattle.iss_model.proofs.Names.{name-sym, one_name}
use Rattle.iss_index.specs.Places.{place_of}
use Rattle.iss_known.specs.Reading.{with_first, with_name}

-- the thing itself, if it has the name
abbrev pub if_named : {A : Type 0} → (A → List ℕ) → List ℕ → A → Option A
if_named name_of name x = cond (bytes_eq (name_of x) name) (Some x) None

-- what is found among things with one more at the end
pub found_more : {A : Type 0} (name_of : A → List ℕ) (name : List ℕ) (xs : List A) (x : A)
    → find (λ y. bytes_eq (name_of y) name) (xs ++ x ∷ []) ≡ option_or (find (λ y. bytes_eq (name_of y) name) xs) (if_named name_of name x)
found_more name_of name xs x = find-append (λ y. bytes_eq (name_of y) name) xs (x ∷ [])

-- the same, if the thing only went in if none of its name was there
pub found_first : {A : Type 0} (name_of : A → List ℕ) (name : List ℕ) (xs : List A) (x : A)
    → find (λ y. bytes_eq (name_of y) name) (with_first name_of xs x) ≡ option_or (find (λ y. bytes_eq (name_of y) name) xs) (if_named name_of name x)
found_first {A} name_of name xs x = by (is_some (find (λ y. bytes_eq (name_of y) (name_of x)) xs)) refl
  where
    there : (b : Bool) → bytes_eq (name_of x) name ≡ b → is_some (find (λ y. bytes_eq (name_of y) (name_of x)) xs) ≡ true
        → (o : Option A) → find (λ y. bytes_eq (name_of y) name) xs ≡ o → o ≡ option_or o (cond b (Some x) None)
    there b e has (Some y) f = refl
    there false e has None f = refl
    there true e has None f =
        let none : is_some (find (λ y. bytes_eq (name_of y) (name_of x)) xs) ≡ false =
        ap (λ (n : List ℕ). is_some (find (λ y. bytes_eq (name_of y) n) xs)) (one_name (name_of x) name e) ∙ ap is_some f in
        let bad : false ≡ true = sym none ∙ has in cc

    by : (b : Bool) → is_some (find (λ y. bytes_eq (name_of y) (name_of x)) xs) ≡ b
        → find (λ y. bytes_eq (name_of y) name) (cond b xs (xs ++ x ∷ [])) ≡ option_or (find (λ y. bytes_eq (name_of y) name) xs) (if_named name_of name x)
    by false e = found_more name_of name xs x
    by true e = there (bytes_eq (name_of x) name) refl e (find (λ y. bytes_eq (name_of y) name) xs) refl

-- a map goes through both
pub mapped_or : {A B : Type 0} (f : A → B) (a b : Option A) → option_map f (option_or a b) ≡ option_or (option_map f a) (option_map f b)
mapped_or f None b = refl
mapped_or f (Some x) b = refl

pub either_is : {A : Type 0} (a b : Option A) → is_some (option_or a b) ≡ (is_some a || is_some b)
either_is None b = refl
either_is (Some x) b = refl

-- names ----

has_more : (name n : List ℕ) (ns : List (List ℕ)) → is_some (place_of name (ns ++ n ∷ [])) ≡ (is_some (place_of name ns) || bytes_eq n name)
has_more name n [] = ap (λ (b : Bool). is_some {T = ℕ} (cond b (Some 0) None)) (name-sym name n) ∙ by (bytes_eq n name)
  where
    by : (b : Bool) → is_some {T = ℕ} (cond b (Some 0) None) ≡ b
    by true = refl
    by false = refl
has_more name n (m ∷ ns) = by (bytes_eq name m) (place_of name (ns ++ n ∷ [])) (place_of name ns) (has_more name n ns)
  where
    by : (b : Bool) (o p : Option ℕ) → is_some o ≡ (is_some p || bytes_eq n name)
        → is_some (cond b (Some 0) (option_map (λ i. suc i) o)) ≡ (is_some (cond b (Some 0) (option_map (λ i. suc i) p)) || bytes_eq n name)
    by true o p e = refl
    by false None None e = e
    by false None (Some j) e = e
    by false (Some i) None e = e
    by false (Some i) (Some j) e = e

-- whether a name is there once another went in
pub has_name : (name n : List ℕ) (ns : List (List ℕ)) → is_some (place_of name (with_name ns n)) ≡ (is_some (place_of name ns) || bytes_eq n name)
has_name name n ns = by (is_some (place_of n ns)) refl
  where
    there : (b c : Bool) → bytes_eq n name ≡ b → is_some (place_of name ns) ≡ c → is_some (place_of n ns) ≡ true → c ≡ (c || b)
    there b true e f has = refl
    there false false e f has = refl
    there true false e f has =
        let bad : false ≡ true = sym f ∙ ap (λ (k : List ℕ). is_some (place_of k ns)) (sym (one_name n name e)) ∙ has in cc

    by : (b : Bool) → is_some (place_of n ns) ≡ b → is_some (place_of name (cond b ns (ns ++ n ∷ []))) ≡ (is_some (place_of name ns) || bytes_eq n name)
    by false e = has_more name n ns
    by true e = there (bytes_eq n name) (is_some (place_of name ns)) refl refl e

-- a name is among the names of things exactly if a thing has it
pub has_by_place : {A : Type 0} (name_of : A → List ℕ) (name : List ℕ) (xs : List A) → is_some (place_of name (map name_of xs)) ≡ list_any (λ x. bytes_eq (name_of x) name) xs
has_by_place name_of name [] = refl
has_by_place {A} name_of name (x ∷ xs) =
    ap (λ (b : Bool). is_some (cond b (Some 0) (option_map (λ i. suc i) (place_of name (map name_of xs))))) (name-sym name (name_of x))
    ∙ by (bytes_eq (name_of x) name) (place_of name (map name_of xs)) (has_by_place name_of name xs)
  where
    by : (b : Bool) (o : Option ℕ) → is_some o ≡ list_any (λ x. bytes_eq (name_of x) name) xs
        → is_some (cond b (Some 0) (option_map (λ i. suc i) o)) ≡ (b || list_any (λ x. bytes_eq (name_of x) name) xs)
    by true o e = refl
    by false None e = e
    by false (Some i) e = e

-- something is found exactly if something passes
pub found_if_any : {A : Type 0} (p : A → Bool) (xs : List A) → is_some (find p xs) ≡ list_any p xs
found_if_any p [] = refl
found_if_any {A} p (x ∷ xs) = by (p x) (found_if_any p xs)
  where
    by : (b : Bool) → is_some (find p xs) ≡ list_any p xs → is_some (cond b (Some x) (find p xs)) ≡ (b || list_any p xs)
    by true e = refl
    by false e = e

pub none_if : {A : Type 0} (o : Option A) → is_some o ≡ false → o ≡ None
none_if None h = refl
none_if (Some x) h = cc
