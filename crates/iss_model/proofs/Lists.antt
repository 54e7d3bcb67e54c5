-- Lists that grow at their end, mapped and filtered.
use Rattle.std.proofs.Common.{◌≡◌, Bool, true, false, cond, ◌&&◌, ◌||◌, List, [], ◌∷◌, ◌++◌, map, refl, sym, ap, ◌∙◌}
use Rattle.std.specs.Prelude.{Option, Some, None, find}
use Rattle.std.specs.List.{filter_map, cons_option, list_any, list_all}
use Rattle.std.proofs.lemmas.List.Folds.{list_any-append}
use Rattle.std.proofs.lemmas.Bool.{and_parts}

pub map-alike : {A B : Type 0} (f g : A → B) → ((x : A) → f x ≡ g x) → (xs : List A) → map f xs ≡ map g xs
map-alike f g alike [] = refl
map-alike f g alike (x ∷ xs) = λ i. alike x i ∷ map-alike f g alike xs i

pub map-map : {A B C : Type 0} (f : A → B) (g : B → C) (xs : List A) → map g (map f xs) ≡ map (λ x. g (f x)) xs
map-map f g [] = refl
map-map f g (x ∷ xs) = λ i. g (f x) ∷ map-map f g xs i

pub map-same : {A : Type 0} (f : A → A) → ((x : A) → f x ≡ x) → (xs : List A) → map f xs ≡ xs
map-same f same [] = refl
map-same f same (x ∷ xs) = λ i. same x i ∷ map-same f same xs i

-- if nothing is found in a list, nothing is filtered from it
pub none_found : {A B : Type 0} (p : A → Bool) (f : A → Option B) → ((x : A) → p x ≡ true → f x ≡ None) → (xs : List A) → list_all p xs ≡ true → filter_map f xs ≡ []
none_found p f each [] h = refl
none_found {B = B} p f each (x ∷ xs) h =
    let parts = and_parts (p x) (list_all p xs) h in
    ap (λ (o : Option B). cons_option o (filter_map f xs)) (each x parts.0) ∙ none_found p f each xs parts.1

-- if the test of a thing fails at each element, none is found
pub none_any : {A : Type 0} (p q : A → Bool) → ((x : A) → p x ≡ true → q x ≡ false) → (xs : List A) → list_all p xs ≡ true → list_any q xs ≡ false
none_any p q each [] h = refl
none_any p q each (x ∷ xs) h =
    let parts = and_parts (p x) (list_all p xs) h in
    ap (λ (b : Bool). b || list_any q xs) (each x parts.0) ∙ none_any p q each xs parts.1

-- a test that follows from another
pub all_weaker : {A : Type 0} (p q : A → Bool) → ((x : A) → p x ≡ true → q x ≡ true) → (xs : List A) → list_all p xs ≡ true → list_all q xs ≡ true
all_weaker p q weaker [] h = refl
all_weaker p q weaker (x ∷ xs) h =
    let parts = and_parts (p x) (list_all p xs) h in
    ap (λ (b : Bool). b && list_all q xs) (weaker x parts.0) ∙ all_weaker p q weaker xs parts.1

found_by : {A : Type 0} (q : A → Bool) (y x : A) (rest : Option A) (b : Bool) → q y ≡ true → (rest ≡ Some x → q x ≡ true) → cond b (Some y) rest ≡ Some x → q x ≡ true
found_by q y x rest true h later e = let one : y ≡ x = cc in ap q (sym one) ∙ h
found_by q y x rest false h later e = later e

-- what is found passes each test that all pass
pub find_passes : {A : Type 0} (p q : A → Bool) (xs : List A) (x : A) → list_all q xs ≡ true → find p xs ≡ Some x → q x ≡ true
find_passes p q [] x h e = cc
find_passes p q (y ∷ ys) x h e =
    let parts = and_parts (q y) (list_all q ys) h in
    found_by q y x (find p ys) (p y) parts.0 (λ later. find_passes p q ys x parts.1 later) e

-- a list that grew holds what it held
pub any_grows : {A : Type 0} (p : A → Bool) (xs ys : List A) → list_any p xs ≡ true → list_any p (xs ++ ys) ≡ true
any_grows p xs ys h = list_any-append p xs ys ∙ ap (λ (b : Bool). b || list_any p ys) h

-- if it fails that one of two tests passes, both fail
pub neither : (a b : Bool) → (a || b) ≡ false → (a ≡ false) × (b ≡ false)
neither true b h = cc
neither false b h = (refl, h)

-- two functions that agree if a test fails, on a list of which none passes
pub map-apart : {A B : Type 0} (q : A → Bool) (f g : A → B) → ((x : A) → q x ≡ false → f x ≡ g x) → (xs : List A) → list_any q xs ≡ false → map f xs ≡ map g xs
map-apart q f g alike [] h = refl
map-apart q f g alike (x ∷ xs) h =
    let parts = neither (q x) (list_any q xs) h in
    λ i. alike x parts.0 i ∷ map-apart q f g alike xs parts.1 i

-- two functions that agree if a test passes, on a list of which all pass
pub map-where : {A B : Type 0} (q : A → Bool) (f g : A → B) → ((x : A) → q x ≡ true → f x ≡ g x) → (xs : List A) → list_all q xs ≡ true → map f xs ≡ map g xs
map-where q f g alike [] h = refl
map-where q f g alike (x ∷ xs) h =
    let parts = and_parts (q x) (list_all q xs) h in
    λ i. alike x parts.0 i ∷ map-where q f g alike xs parts.1 i
