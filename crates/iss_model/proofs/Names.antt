-- Names are equal as lists if they are equal as texts.
use Rattle.std.proofs.Common.{◌≡◌, ℕ, Bool, true, false, List, refl, sym, ◌⊎◌, inl, inr}
use Rattle.std.specs.Bool.{one_answer}
use Rattle.std.specs.Str.{bytes_eq}
use Rattle.std.proofs.lemmas.Slice.Eq.{bytes_eq-Decides}

pub either : (b : Bool) → (b ≡ true) ⊎ (b ≡ false)
either true = inl refl
either false = inr refl

pub one_name : (a b : List ℕ) → bytes_eq a b ≡ true → a ≡ b
one_name a b = (bytes_eq-Decides a b).0

pub same_name : (a b : List ℕ) → a ≡ b → bytes_eq a b ≡ true
same_name a b = (bytes_eq-Decides a b).1

pub name-sym : (a b : List ℕ) → bytes_eq a b ≡ bytes_eq b a
name-sym a b =
    one_answer (bytes_eq a b) (bytes_eq b a) (bytes_eq-Decides a b)
    (λ h. sym (one_name b a h), λ e. same_name b a (sym e))

pub its_name : (a : List ℕ) → bytes_eq a a ≡ true
its_name a = same_name a a refl
