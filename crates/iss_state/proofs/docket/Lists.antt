-- What is found in a list, what its filters and maps hold, and a test that passes at one element alone.
use Rattle.std.proofs.Common.{◌≡◌, ℕ, suc, Bool, true, false, cond, ◌&&◌, ◌||◌, nat_eq, List, [], ◌∷◌, length, map, filter, refl, ap, ◌∙◌, arith, ◌⊎◌, inl, inr}
use Rattle.std.specs.Prelude.{Option, Some, None, is_some, option_map, find}
use Rattle.std.specs.List.{list_any}
use Rattle.std.specs.Option.{option_or}
use Rattle.std.proofs.lemmas.Bool.Decides.{nat_tests}

-- alternatives ----

pub by_either : {A B C : Type 0} → (A → C) → (B → C) → A ⊎ B → C
by_either f g (inl x) = f x
by_either f g (inr y) = g y

pub not_both : {P : Type 0} (b : Bool) → b ≡ true → b ≡ false → P
not_both true h k = cc
not_both false h k = cc

pub never : {P : Type 0} → false ≡ true → P
never h = cc

pub both_so : (a b : Bool) → a ≡ true → b ≡ true → (a && b) ≡ true
both_so true b h k = k
both_so false b h k = cc

pub or_true : (a b : Bool) → b ≡ true → (a || b) ≡ true
or_true true b h = refl
or_true false b h = h

pub inside : {A : Type 0} {x y : A} → Some x ≡ Some y → x ≡ y
inside e = cc

pub not_some : {A : Type 0} (o : Option A) → (is_some o ≡ true → ⊥) → o ≡ None
not_some (Some x) h = absurd (h refl)
not_some None h = refl

-- numbers ----

pub other_number : (n m : ℕ) → nat_eq n m ≡ false → n ≡ m → ⊥
other_number n m h e = grind (arith, nat_tests)

-- what is found ----

-- what is found stands in the list
pub found_any : {A : Type 0} (p q : A → Bool) (xs : List A) (x : A) → find p xs ≡ Some x → q x ≡ true → list_any q xs ≡ true
found_any p q [] x e h = cc
found_any {A} p q (y ∷ ys) x e h = by (p y) (λ e. found_any p q ys x e h) e
  where
    by : (b : Bool) → (find p ys ≡ Some x → list_any q ys ≡ true) → cond b (Some y) (find p ys) ≡ Some x → (q y || list_any q ys) ≡ true
    by true rest e = let one : y ≡ x = cc in ap (λ (b : Bool). b || list_any q ys) (ap q one ∙ h)
    by false rest e = or_true (q y) (list_any q ys) (rest e)

-- what isn't found doesn't stand in the list
pub none_found : {A : Type 0} (p : A → Bool) (xs : List A) → find p xs ≡ None → list_any p xs ≡ false
none_found p [] e = refl
none_found {A} p (x ∷ xs) e = by (p x) (none_found p xs) e
  where
    by : (b : Bool) → (find p xs ≡ None → list_any p xs ≡ false) → cond b (Some x) (find p xs) ≡ None → (b || list_any p xs) ≡ false
    by true rest e = cc
    by false rest e = rest e

-- what the map of an option gives is made of what the option holds
pub mapped_is : {A B : Type 0} (f : A → B) (o : Option A) (y : B) → option_map f o ≡ Some y → (x : A) × (o ≡ Some x) × (f x ≡ y)
mapped_is f None y e = cc
mapped_is f (Some x) y e = (x, refl, cc)

pub none_mapped : {A B : Type 0} (f : A → B) (o : Option A) → option_map f o ≡ None → o ≡ None
none_mapped f None e = refl
none_mapped f (Some x) e = cc

pub some_mapped : {A B : Type 0} (f : A → B) (o : Option A) → is_some (option_map f o) ≡ is_some o
some_mapped f None = refl
some_mapped f (Some x) = refl

-- what two options give comes from the first, or from the second if its test passes
pub either_found : {A : Type 0} (o : Option A) (x y : A) (b : Bool) → option_or o (cond b (Some x) None) ≡ Some y → (o ≡ Some y) ⊎ ((b ≡ true) × (x ≡ y))
either_found (Some z) x y b e = inl e
either_found None x y true e = inr (refl, cc)
either_found None x y false e = cc

-- filters and maps as one test ----

pub any_filtered : {A : Type 0} (p q : A → Bool) (xs : List A) → list_any p (filter q xs) ≡ list_any (λ x. q x && p x) xs
any_filtered p q [] = refl
any_filtered {A} p q (x ∷ xs) = by (q x) ∙ ap (λ (b : Bool). (q x && p x) || b) (any_filtered p q xs)
  where
    by : (b : Bool) → list_any p (cond b (x ∷ filter q xs) (filter q xs)) ≡ ((b && p x) || list_any p (filter q xs))
    by true = refl
    by false = refl

pub any_mapped : {A B : Type 0} (p : B → Bool) (f : A → B) (xs : List A) → list_any p (map f xs) ≡ list_any (λ x. p (f x)) xs
any_mapped p f [] = refl
any_mapped p f (x ∷ xs) = ap (λ (b : Bool). p (f x) || b) (any_mapped p f xs)

-- if what is found passes a filter and a test, the test passes in what the filter leaves
pub found_filtered : {A : Type 0} (p q r : A → Bool) (xs : List A) (x : A) → find p xs ≡ Some x → q x ≡ true → r x ≡ true → list_any r (filter q xs) ≡ true
found_filtered {A} p q r xs x e h k = any_filtered r q xs ∙ found_any p (λ (x : A). q x && r x) xs x e (both_so (q x) (r x) h k)

-- all elements ----

abbrev pub Each : {A : Type 0} → (A → Type 0) → List A → Type 0
Each P [] = Unit {0}
Each P (x ∷ xs) = P x × Each P xs

pub each_weaker : {A : Type 0} (P Q : A → Type 0) → ((x : A) → P x → Q x) → (xs : List A) → Each P xs → Each Q xs
each_weaker P Q weaker [] h = tt
each_weaker P Q weaker (x ∷ xs) h = (weaker x h.0, each_weaker P Q weaker xs h.1)

pub all_fail : {A : Type 0} (p : A → Bool) (xs : List A) → Each (λ x. p x ≡ false) xs → list_any p xs ≡ false
all_fail p [] h = refl
all_fail p (x ∷ xs) h = ap (λ (b : Bool). b || list_any p xs) h.0 ∙ all_fail p xs h.1

-- one element alone ----

-- if an element passes, none after it does
abbrev pub Lone : {A : Type 0} → (A → Bool) → List A → Type 0
Lone p [] = Unit {0}
Lone p (x ∷ xs) = (p x ≡ true → list_any p xs ≡ false) × Lone p xs

none_passes : {A : Type 0} (p q : A → Bool) → ((x : A) → p x ≡ false → q x ≡ false) → (xs : List A) → list_any p xs ≡ false → list_any q xs ≡ false
none_passes p q weaker [] h = refl
none_passes {A} p q weaker (x ∷ xs) h = by (p x) (q x) (weaker x) (none_passes p q weaker xs) h
  where
    by : (a b : Bool) → (a ≡ false → b ≡ false) → (list_any p xs ≡ false → list_any q xs ≡ false) → (a || list_any p xs) ≡ false → (b || list_any q xs) ≡ false
    by true b here rest h = cc
    by false b here rest h = ap (λ (x : Bool). x || list_any q xs) (here refl) ∙ rest h

-- a test that is narrower than a lone one passes in a list exactly if it passes at what is found
pub lone_any : {A : Type 0} (p q : A → Bool) → ((x : A) → p x ≡ false → q x ≡ false) → (xs : List A) (c : A) → Lone p xs → find p xs ≡ Some c → list_any q xs ≡ q c
lone_any p q weaker [] c lone e = cc
lone_any {A} p q weaker (x ∷ xs) c lone e = by (p x) refl (λ e. lone_any p q weaker xs c lone.1 e) e
  where
    or_none : (a b : Bool) → b ≡ false → (a || b) ≡ a
    or_none true b h = refl
    or_none false b h = h

    by : (b : Bool) → p x ≡ b → (find p xs ≡ Some c → list_any q xs ≡ q c) → cond b (Some x) (find p xs) ≡ Some c → (q x || list_any q xs) ≡ q c
    by true h rest e =
        let one : x ≡ c = cc in
        or_none (q x) (list_any q xs) (none_passes p q weaker xs (lone.0 h)) ∙ ap q one
    by false h rest e = ap (λ (b : Bool). b || list_any q xs) (weaker x h) ∙ rest e

-- a lone test passes once or not at all
pub lone_times : {A : Type 0} (p : A → Bool) (xs : List A) → Lone p xs → length (filter p xs) ≡ cond (list_any p xs) 1 0
lone_times p [] lone = refl
lone_times {A} p (x ∷ xs) lone = by (p x) lone.0 (lone_times p xs lone.1)
  where
    by : (b : Bool) → (b ≡ true → list_any p xs ≡ false) → length (filter p xs) ≡ cond (list_any p xs) 1 0
        → length (cond b (x ∷ filter p xs) (filter p xs)) ≡ cond (b || list_any p xs) 1 0
    by true none rest = ap suc (rest ∙ ap (λ (b : Bool). cond b 1 0) (none refl))
    by false none rest = rest
