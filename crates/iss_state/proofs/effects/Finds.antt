-- Laws of lists that are searched, and of numbers that are compared.
use Rattle.std.specs.Prelude.{None, Option, Some, is_some, option_map}
use Rattle.std.proofs.Common.{Bool, List, [], ap, arith, cond, false, find, map, nat_eq, refl, sym, true, ℕ, ◌++◌, ◌∙◌, ◌∷◌, ◌≡◌}
use Rattle.std.proofs.lemmas.Bool.Decides.{nat_tests}

-- ---- what is found

-- what is found in a list that was mapped is what was found before, mapped
pub find-map : {A B : Type 0} (p : B → Bool) (q : A → Bool) (f : A → B) → ((x : A) → p (f x) ≡ q x) → (xs : List A) → find p (map f xs) ≡ option_map f (find q xs)
find-map p q f same [] = refl
find-map {A} {B} p q f same (x ∷ xs) =
    ap (λ (b : Bool). cond b (Some (f x)) (find p (map f xs))) (same x) ∙ by (q x) (find-map p q f same xs)
  where
    by : (b : Bool) → find p (map f xs) ≡ option_map f (find q xs) → cond b (Some (f x)) (find p (map f xs)) ≡ option_map f (cond b (Some x) (find q xs))
    by true e = refl
    by false e = e

found_by : {A : Type 0} (p : A → Bool) (y x : A) (rest : Option A) (b : Bool) → p y ≡ b → (rest ≡ Some x → p x ≡ true) → cond b (Some y) rest ≡ Some x → p x ≡ true
found_by p y x rest true h later e = let one : y ≡ x = cc in ap p (sym one) ∙ h
found_by p y x rest false h later e = later e

-- what is found passes the test
pub found_passes : {A : Type 0} (p : A → Bool) (xs : List A) (x : A) → find p xs ≡ Some x → p x ≡ true
found_passes p [] x e = cc
found_passes p (y ∷ ys) x e = found_by p y x (find p ys) (p y) refl (λ later. found_passes p ys x later) e

-- what is found in a list is found in a longer one
pub found_grows : {A : Type 0} (p : A → Bool) (xs ys : List A) → is_some (find p xs) ≡ true → is_some (find p (xs ++ ys)) ≡ true
found_grows p [] ys h = cc
found_grows {A} p (x ∷ xs) ys h = by (p x) (found_grows p xs ys) h
  where
    by : (b : Bool) → (is_some (find p xs) ≡ true → is_some (find p (xs ++ ys)) ≡ true) → is_some (cond b (Some x) (find p xs)) ≡ true → is_some (cond b (Some x) (find p (xs ++ ys))) ≡ true
    by true later h = refl
    by false later h = later h

-- if the last element passes, something is found
pub found_last : {A : Type 0} (p : A → Bool) (xs : List A) (x : A) → p x ≡ true → is_some (find p (xs ++ x ∷ [])) ≡ true
found_last p [] x h = ap (λ (b : Bool). is_some (cond b (Some x) None)) h
found_last {A} p (y ∷ ys) x h = by (p y) (found_last p ys x h)
  where
    by : (b : Bool) → is_some (find p (ys ++ x ∷ [])) ≡ true → is_some (cond b (Some y) (find p (ys ++ x ∷ []))) ≡ true
    by true later = refl
    by false later = later

-- ---- numbers

pub same_number : (n : ℕ) → nat_eq n n ≡ true
same_number n = grind (arith, nat_tests)

pub number_is : (n m : ℕ) → nat_eq n m ≡ true → n ≡ m
number_is n m h = grind (arith, nat_tests)

pub number-sym : (n m : ℕ) → nat_eq n m ≡ nat_eq m n
number-sym n m = grind (arith, nat_tests)
