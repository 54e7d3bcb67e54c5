-- What a list's elements make, one by one.
use Rattle.std.proofs.Common.{◌≡◌, ℕ, ◌+◌, ◌<◌, List, [], ◌∷◌, ◌++◌, get_or, length, refl, sym, ap, append_assoc, ◌∙◌}
use Rattle.std.specs.Prelude.{Option, Some, None, option_to_list, take}
use Rattle.std.specs.List.{cons_option, filter_map}
use Rattle.std.proofs.lemmas.List.{take_more}
use Rattle.std.proofs.lemmas.List.Elements.{filter_map-append}

pub lone_option : {B : Type 0} (o : Option B) → cons_option o [] ≡ option_to_list o
lone_option None = refl
lone_option (Some x) = refl

-- What one element more makes is put after what those before it make.
pub put_next : {A B : Type 0} (f : A → Option B) (xs : List A) (n : ℕ) (x : A) (o : Option B) (before out later : List B) → n < length xs → x ≡ get_or xs n x → o ≡ f x
    → out ≡ before ++ filter_map f (take n xs) → later ≡ out ++ option_to_list o → later ≡ before ++ filter_map f (take (n + 1) xs)
put_next {A} {B} f xs n x o before out later within here its so put =
    put
    ∙ ap (λ (o : Option B). out ++ option_to_list o) its
    ∙ ap (λ (ys : List B). ys ++ option_to_list (f x)) so
    ∙ append_assoc before (filter_map f (take n xs)) (option_to_list (f x))
    ∙ ap (λ (ys : List B). before ++ ys) (sym made)
  where
    made : filter_map f (take (n + 1) xs) ≡ filter_map f (take n xs) ++ option_to_list (f x)
    made =
        ap (filter_map f) (take_more xs n x within ∙ ap (λ (y : A). take n xs ++ y ∷ []) (sym here))
        ∙ filter_map-append f (take n xs) (x ∷ [])
        ∙ ap (λ (ys : List B). filter_map f (take n xs) ++ ys) (lone_option (f x))
