-- What stands in a list.
use Rattle.std.proofs.Common.{◌≡◌, Bool, true, false, cond, ◌||◌, List, [], ◌∷◌, ◌++◌, map, refl, sym, ap, subst, ◌∙◌, ◌⊎◌, inl, inr}
use Rattle.std.specs.Prelude.{Some, find}
use Rattle.std.specs.List.{list_any}
use Rattle.iss_state.proofs.docket.Lists.{Each, Lone, each_weaker, or_true}

-- an element stands in a list
abbrev pub Among : {A : Type 0} → A → List A → Type 0
Among x [] = ⊥
Among x (y ∷ ys) = (y ≡ x) ⊎ Among x ys

pub among_left : {A : Type 0} (x : A) (xs ys : List A) → Among x xs → Among x (xs ++ ys)
among_left x [] ys h = absurd h
among_left x (z ∷ zs) ys (inl e) = inl e
among_left x (z ∷ zs) ys (inr h) = inr (among_left x zs ys h)

pub among_right : {A : Type 0} (x : A) (xs ys : List A) → Among x ys → Among x (xs ++ ys)
among_right x [] ys h = h
among_right x (z ∷ zs) ys h = inr (among_right x zs ys h)

pub among_mapped : {A B : Type 0} (f : A → B) (x : A) (xs : List A) → Among x xs → Among (f x) (map f xs)
among_mapped f x [] h = absurd h
among_mapped f x (y ∷ ys) (inl e) = inl (ap f e)
among_mapped f x (y ∷ ys) (inr h) = inr (among_mapped f x ys h)

pub each_among : {A : Type 0} (P : A → Type 0) (x : A) (xs : List A) → Each P xs → Among x xs → P x
each_among P x [] each h = absurd h
each_among P x (y ∷ ys) each (inl e) = subst P e each.0
each_among P x (y ∷ ys) each (inr h) = each_among P x ys each.1 h

pub all_among : {A : Type 0} (xs : List A) → Each (λ x. Among x xs) xs
all_among [] = tt
all_among (x ∷ xs) = (inl refl, each_weaker (λ y. Among y xs) (λ y. Among y (x ∷ xs)) (λ y h. inr h) xs (all_among xs))

pub each_append : {A : Type 0} (P : A → Type 0) (xs ys : List A) → Each P xs → Each P ys → Each P (xs ++ ys)
each_append P [] ys h k = k
each_append P (x ∷ xs) ys h k = (h.0, each_append P xs ys h.1 k)

-- what passes a test if an element does
pub among_any : {A : Type 0} (p : A → Bool) (x : A) (xs : List A) → Among x xs → p x ≡ true → list_any p xs ≡ true
among_any p x [] h e = absurd h
among_any p x (y ∷ ys) (inl same) e = ap (λ (b : Bool). b || list_any p ys) (ap p same ∙ e)
among_any p x (y ∷ ys) (inr h) e = or_true (p y) (list_any p ys) (among_any p x ys h e)

-- what passes a test among others
pub any_among : {A : Type 0} (p : A → Bool) (xs : List A) → list_any p xs ≡ true → (x : A) × (Among x xs) × (p x ≡ true)
any_among p [] h = cc
any_among {A} p (x ∷ xs) h = by (p x) refl (λ k. more (any_among p xs k)) h
  where
    more : (y : A) × (Among y xs) × (p y ≡ true) → (y : A) × (Among y (x ∷ xs)) × (p y ≡ true)
    more found = (found.0, inr found.1, found.2)

    by : (b : Bool) → p x ≡ b → (list_any p xs ≡ true → (y : A) × (Among y (x ∷ xs)) × (p y ≡ true)) → (b || list_any p xs) ≡ true
        → (y : A) × (Among y (x ∷ xs)) × (p y ≡ true)
    by true e rest h = (x, inl refl, e)
    by false e rest h = rest h

-- what is found stands in the list
pub found_among : {A : Type 0} (p : A → Bool) (xs : List A) (x : A) → find p xs ≡ Some x → Among x xs
found_among p [] x e = cc
found_among {A} p (y ∷ ys) x e = by (p y) (λ e. found_among p ys x e) e
  where
    by : (b : Bool) → (find p ys ≡ Some x → Among x ys) → cond b (Some y) (find p ys) ≡ Some x → Among x (y ∷ ys)
    by true rest e = let same : y ≡ x = cc in inl same
    by false rest e = inr (rest e)

-- two elements that pass a test at which one alone does are one
pub lone_same : {A : Type 0} (q : A → Bool) (x y : A) (xs : List A) → Lone q xs → Among x xs → Among y xs → q x ≡ true → q y ≡ true → x ≡ y
lone_same q x y [] lone a b e h = absurd a
lone_same q x y (z ∷ zs) lone (inl a) (inl b) e h = sym a ∙ b
lone_same q x y (z ∷ zs) lone (inl a) (inr b) e h = let never : false ≡ true = sym (lone.0 (ap q a ∙ e)) ∙ among_any q y zs b h in cc
lone_same q x y (z ∷ zs) lone (inr a) (inl b) e h = let never : false ≡ true = sym (lone.0 (ap q b ∙ h)) ∙ among_any q x zs a e in cc
lone_same q x y (z ∷ zs) lone (inr a) (inr b) e h = lone_same q x y zs lone.1 a b e h
