-- Associations and scopes are equal as their contents are.
use Rattle.std.proofs.Common.{◌≡◌, ℕ, Bool, true, false, ◌&&◌, nat_eq, List, [], ◌∷◌, drop, refl, ap, sym}
use Rattle.std.specs.Bool.{one_answer}
use Rattle.std.specs.Str.{bytes_eq}
use Rattle.iss_model.specs.declared.setting.Association.{Association}
use Rattle.iss_model.specs.declared.setting.Association.TheVariants as association
use Rattle.iss_model.specs.declared.setting.Scope.{Scope}
use Rattle.iss_model.specs.declared.setting.Scope.TheVariants as scope
use Rattle.iss_model.specs.contracts.setting.AssociationPartialEq.TheImpl as association_eq
use Rattle.iss_model.specs.contracts.setting.ScopePartialEq.TheImpl as scope_eq
use Rattle.std.proofs.lemmas.Slice.Eq.{bytes_eq-Decides}
use Rattle.iss_model.specs.Inputs.{with_length, association_contents, scope_contents}
use Rattle.iss_model.proofs.Names.{one_name, same_name}

same_text : (a b : List ℕ) → bytes_eq (with_length a) (with_length b) ≡ bytes_eq a b
same_text a b =
    one_answer (bytes_eq (with_length a) (with_length b)) (bytes_eq a b) (bytes_eq-Decides (with_length a) (with_length b))
    (λ h. ap with_length (one_name a b h), λ e. same_name a b (ap (drop 1) e))

same_number : (m n : ℕ) → nat_eq m n ≡ bytes_eq (m ∷ []) (n ∷ [])
same_number m n = sym (and_true (nat_eq m n))
  where
    and_true : (b : Bool) → (b && true) ≡ b
    and_true true = refl
    and_true false = refl

pub association_is : (a b : Association) → (association_eq.ghosts).eq a b ≡ bytes_eq (association_contents a) (association_contents b)
association_is association.Anybody association.Anybody = refl
association_is (association.User c) (association.User d) = sym (same_text c d)
association_is (association.Product c) (association.Product d) = sym (same_text c d)
association_is _ _ = refl

pub scope_is : (a b : Scope) → (scope_eq.ghosts).eq a b ≡ bytes_eq (scope_contents a) (scope_contents b)
scope_is scope.All scope.All = refl
scope_is (scope.Mcc c) (scope.Mcc d) = same_number c d
scope_is (scope.Group c) (scope.Group d) = sym (same_text c d)
scope_is (scope.Mid c) (scope.Mid d) = sym (same_text c d)
scope_is _ _ = refl
