-- Groups as they are kept are found as the groups of the rules are.
use Rattle.std.proofs.Common.{◌≡◌, ℕ, suc, Bool, true, false, cond, List, [], ◌∷◌, ◌++◌, map, length, find, Option, Some, None, is_some, refl, sym, ap, ◌∙◌}
use Rattle.std.specs.Option.{option_map}
use Rattle.std.specs.Str.{bytes_eq}
use Rattle.iss_model.specs.rules.Controls.{Group, group_named, holds_mcc}
use Rattle.iss_scope.specs.declared.groups.MerchantGroup.{MerchantGroup}
use Rattle.iss_scope.specs.Merchants.{group_of}

-- the kept group of this name
abbrev pub kept_named : List ℕ → List MerchantGroup → Option MerchantGroup
kept_named name groups = find (λ g. bytes_eq g.name name) groups

pub found_so : (name : List ℕ) (gs : List MerchantGroup) → group_named name (map group_of gs) ≡ option_map group_of (kept_named name gs)
found_so name [] = refl
found_so name (g ∷ gs) = at (bytes_eq g.name name) (found_so name gs)
  where
    at : (b : Bool) → group_named name (map group_of gs) ≡ option_map group_of (kept_named name gs)
        → cond b (Some (group_of g)) (group_named name (map group_of gs)) ≡ option_map group_of (cond b (Some g) (kept_named name gs))
    at true rest = refl
    at false rest = rest

pub some_so : {A B : Type 0} (f : A → B) (o : Option A) → is_some (option_map f o) ≡ is_some o
some_so f None = refl
some_so f (Some x) = refl

-- a name is found among kept groups as among those of the rules
pub is_found : (name : List ℕ) (gs : List MerchantGroup) (v : List Group) → map group_of gs ≡ v → is_some (kept_named name gs) ≡ is_some (group_named name v)
is_found name gs v e =
    sym (some_so group_of (kept_named name gs)) ∙ ap is_some (sym (found_so name gs)) ∙ ap (λ (xs : List Group). is_some (group_named name xs)) e

-- what the group that is found holds
pub holds_so : (name : List ℕ) (mcc : ℕ) (gs : List MerchantGroup) (v : List Group) (o : Option MerchantGroup) → map group_of gs ≡ v → o ≡ kept_named name gs
    → holds_mcc mcc (option_map group_of o) ≡ holds_mcc mcc (group_named name v)
holds_so name mcc gs v o e f =
    ap (λ (x : Option MerchantGroup). holds_mcc mcc (option_map group_of x)) f
    ∙ ap (holds_mcc mcc) (sym (found_so name gs))
    ∙ ap (λ (xs : List Group). holds_mcc mcc (group_named name xs)) e

-- one more group
pub added_so : (gs after : List MerchantGroup) (v : List Group) (g : MerchantGroup) → map group_of gs ≡ v → after ≡ gs ++ g ∷ [] → map group_of after ≡ v ++ group_of g ∷ []
added_so gs after v g e f = ap (map group_of) f ∙ mapped gs ∙ ap (λ (xs : List Group). xs ++ group_of g ∷ []) e
  where
    mapped : (xs : List MerchantGroup) → map group_of (xs ++ g ∷ []) ≡ map group_of xs ++ group_of g ∷ []
    mapped [] = refl
    mapped (x ∷ xs) = ap (λ (ys : List Group). group_of x ∷ ys) (mapped xs)

pub as_many : (gs : List MerchantGroup) (v : List Group) → map group_of gs ≡ v → length gs ≡ length v
as_many gs v e = sym (counted gs) ∙ ap length e
  where
    counted : (xs : List MerchantGroup) → length (map group_of xs) ≡ length xs
    counted [] = refl
    counted (x ∷ xs) = ap (λ (n : ℕ). suc n) (counted xs)

lacks : (o : Option MerchantGroup) → is_some o ≡ false → o ≡ None
lacks None e = refl
lacks (Some x) e = cc

-- a new name isn't found
pub not_found : (name : List ℕ) (gs : List MerchantGroup) (v : List Group) → map group_of gs ≡ v → is_some (group_named name v) ≡ false → kept_named name gs ≡ None
not_found name gs v e new = lacks (kept_named name gs) (is_found name gs v e ∙ new)
