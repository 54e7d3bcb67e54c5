-- The fields that begin with a byte that says which they are: what is taken was spelled so, and what is spelled so is taken.
use Rattle.std.proofs.Common.{◌≡◌, ℕ, Bool, true, ◌&&◌, nat_eq, List, [], ◌∷◌, ◌++◌, Option, Some, refl, sym, ap, subst, ◌∙◌, append_assoc}
use Rattle.std.specs.List.{list_all}
use Rattle.std.proofs.lemmas.Bool.{eqb-true, and_parts}
use Rattle.std.proofs.lemmas.Option.{same_Some}
use Rattle.iss_model.specs.declared.setting.Moved.{Moved}
use Rattle.iss_model.specs.declared.setting.Moved.TheVariants as moved
use Rattle.iss_model.specs.declared.setting.Association.{Association}
use Rattle.iss_model.specs.declared.setting.Association.TheVariants as association
use Rattle.iss_model.specs.declared.setting.Scope.{Scope}
use Rattle.iss_model.specs.declared.setting.Scope.TheVariants as scope
use Rattle.iss_model.specs.Forms.{is_scope}
use Rattle.iss_model.specs.Inputs.{spelled_moved, spelled_association, card_state_number, user_state_number}
use Rattle.iss_model.specs.texts.Spelling.{AreBytes, spelled_scope, moved_token, association_tokens, scope_tokens}
use Rattle.iss_model.specs.Numbers.{card_state_numbered, user_state_numbered}
use Rattle.iss_codec.specs.Taking.{take_byte, take_numbered, take_mcc, take_moved_card, take_moved_user, take_moved_by, take_moved, take_named, take_association_by, take_association, take_mcc_scope, take_scope_by, take_scope}
use Rattle.iss_codec.proofs.TakenFields.{by_byte, bind_some, either_way, IsSplit, IsField, split_on}
use Rattle.iss_codec.proofs.TakenParts.{card_state_field, user_state_field, mcc_field}

-- a byte before what is split
pub byte_before : (byte : ℕ) (bytes text rest : List ℕ) → IsSplit bytes text rest → IsSplit (byte ∷ bytes) (byte ∷ text) rest
byte_before byte bytes text rest s = record { parts = ap (λ (t : List ℕ). byte ∷ t) s.parts; fits = s.fits }

-- what is known of a part after its first byte, if that byte is this one
pub at_byte : {A : Type 0} (text : A → List ℕ) (form : A → Bool) (byte wanted : ℕ) (bytes : List ℕ) (x : A × List ℕ) → nat_eq byte wanted ≡ true
    → IsSplit (wanted ∷ bytes) (text x.0) x.1 × (form x.0 ≡ true) → IsSplit (byte ∷ bytes) (text x.0) x.1 × (form x.0 ≡ true)
at_byte text form byte wanted bytes x is h =
    subst (λ (k : ℕ). IsSplit (k ∷ bytes) (text x.0) x.1 × (form x.0 ≡ true)) (sym (eqb-true _ _ is)) h

-- the token that a move names passes this test
abbrev pub moved_form : (List ℕ → Bool) → Moved → Bool
moved_form is_name m = is_name (moved_token m)

-- the token of an association passes this test, if it has one
abbrev pub association_form : (List ℕ → Bool) → Association → Bool
association_form is_name a = list_all is_name (association_tokens a)

-- a scope's code is one, and its token passes this test, if it has one
abbrev pub scope_form : (List ℕ → Bool) → Scope → Bool
scope_form is_name s = is_scope s && list_all is_name (scope_tokens s)

-- `name` is the field of a token, however it is spelled
module _ {take_name : List ℕ → Option (List ℕ × List ℕ)} {name_bytes : List ℕ → List ℕ} {is_name : List ℕ → Bool} (name : IsField take_name name_bytes is_name) where
  moved_card_takes : (bytes : List ℕ) (x : Moved × List ℕ) → AreBytes bytes → take_moved_card take_name bytes ≡ Some x → IsSplit (1 ∷ bytes) (spelled_moved name_bytes x.0) x.1 × (moved_form is_name x.0 ≡ true)
  unfolding take_moved_card
  moved_card_takes bytes x fits e =
      let a = bind_some (take_name bytes) _ x e in
      let b = bind_some (take_numbered card_state_numbered a.0.1) _ x a.2 in
      let ta = name.takes bytes a.0 fits a.1 in
      let tb = card_state_field.takes a.0.1 b.0 ta.0.fits b.1 in
      subst (λ y. IsSplit (1 ∷ bytes) (spelled_moved name_bytes y.0) y.1 × (moved_form is_name y.0 ≡ true)) (same_Some (moved.Card a.0.0 b.0.0, b.0.1) x b.2)
      (byte_before 1 bytes _ b.0.1 (split_on bytes _ a.0.1 _ b.0.1 ta.0 tb.0), ta.1)

  moved_user_takes : (bytes : List ℕ) (x : Moved × List ℕ) → AreBytes bytes → take_moved_user take_name bytes ≡ Some x → IsSplit (2 ∷ bytes) (spelled_moved name_bytes x.0) x.1 × (moved_form is_name x.0 ≡ true)
  unfolding take_moved_user
  moved_user_takes bytes x fits e =
      let a = bind_some (take_name bytes) _ x e in
      let b = bind_some (take_numbered user_state_numbered a.0.1) _ x a.2 in
      let ta = name.takes bytes a.0 fits a.1 in
      let tb = user_state_field.takes a.0.1 b.0 ta.0.fits b.1 in
      subst (λ y. IsSplit (2 ∷ bytes) (spelled_moved name_bytes y.0) y.1 × (moved_form is_name y.0 ≡ true)) (same_Some (moved.User a.0.0 b.0.0, b.0.1) x b.2)
      (byte_before 2 bytes _ b.0.1 (split_on bytes _ a.0.1 _ b.0.1 ta.0 tb.0), ta.1)

  moved_by_takes : (byte : ℕ) (bytes : List ℕ) (x : Moved × List ℕ) → AreBytes bytes → take_moved_by take_name byte bytes ≡ Some x → IsSplit (byte ∷ bytes) (spelled_moved name_bytes x.0) x.1 × (moved_form is_name x.0 ≡ true)
  moved_by_takes byte bytes x fits e =
      either_way _ _ _ (Some x) (λ is e. at_byte (spelled_moved name_bytes) (moved_form is_name) byte 1 bytes x is (moved_card_takes bytes x fits e)) (
      either_way _ _ _ (Some x) (λ is e. at_byte (spelled_moved name_bytes) (moved_form is_name) byte 2 bytes x is (moved_user_takes bytes x fits e)) (
      λ e. absurd cc)) e

  moved_again : (x : Moved) (rest : List ℕ) → moved_form is_name x ≡ true → take_moved take_name (spelled_moved name_bytes x ++ rest) ≡ Some (x, rest)
  unfolding take_moved take_moved_card take_moved_user take_byte
  moved_again (moved.Card card to) rest h =
      ap (λ t. take_moved take_name (1 ∷ t)) (append_assoc (name_bytes card) (card_state_number to ∷ []) rest)
      ∙ rw (name.again card ((card_state_number to ∷ []) ++ rest) h, card_state_field.again to rest refl) refl
  moved_again (moved.User user to) rest h =
      ap (λ t. take_moved take_name (2 ∷ t)) (append_assoc (name_bytes user) (user_state_number to ∷ []) rest)
      ∙ rw (name.again user ((user_state_number to ∷ []) ++ rest) h, user_state_field.again to rest refl) refl

  pub moved_field : IsField (take_moved take_name) (spelled_moved name_bytes) (moved_form is_name)
  unfolding take_moved
  moved_field = record { takes = by_byte (take_moved_by take_name) (spelled_moved name_bytes) (moved_form is_name) moved_by_takes; again = moved_again }

  named_takes : {A : Type 0} (make : List ℕ → A) (text : A → List ℕ) (form : A → Bool) (byte : ℕ)
      → ((token : List ℕ) → text (make token) ≡ byte ∷ name_bytes token) → ((token : List ℕ) → is_name token ≡ true → form (make token) ≡ true)
      → (bytes : List ℕ) (x : A × List ℕ) → AreBytes bytes → take_named take_name make bytes ≡ Some x → IsSplit (byte ∷ bytes) (text x.0) x.1 × (form x.0 ≡ true)
  unfolding take_named
  named_takes make text form byte is_text is_form bytes x fits e =
      let a = bind_some (take_name bytes) _ x e in
      let ta = name.takes bytes a.0 fits a.1 in
      subst (λ y. IsSplit (byte ∷ bytes) (text y.0) y.1 × (form y.0 ≡ true)) (same_Some (make a.0.0, a.0.1) x a.2)
      (rw (is_text a.0.0) (byte_before byte bytes _ a.0.1 ta.0), is_form a.0.0 ta.1)

  one_token : (token : List ℕ) → is_name token ≡ true → list_all is_name (token ∷ []) ≡ true
  one_token token h = rw h refl

  association_by_takes : (byte : ℕ) (bytes : List ℕ) (x : Association × List ℕ) → AreBytes bytes → take_association_by take_name byte bytes ≡ Some x
      → IsSplit (byte ∷ bytes) (spelled_association name_bytes x.0) x.1 × (association_form is_name x.0 ≡ true)
  association_by_takes byte bytes x fits e =
      either_way _ _ _ (Some x) (λ is e. at_byte (spelled_association name_bytes) (association_form is_name) byte 0 bytes x is
      (subst (λ y. IsSplit (0 ∷ bytes) (spelled_association name_bytes y.0) y.1 × (association_form is_name y.0 ≡ true)) (same_Some (association.Anybody, bytes) x e) (record { parts = refl; fits = fits }, refl))) (
      either_way _ _ _ (Some x) (λ is e. at_byte (spelled_association name_bytes) (association_form is_name) byte 1 bytes x is
      (named_takes association.User (spelled_association name_bytes) (association_form is_name) 1 (λ token. refl) one_token bytes x fits e)) (
      either_way _ _ _ (Some x) (λ is e. at_byte (spelled_association name_bytes) (association_form is_name) byte 2 bytes x is
      (named_takes association.Product (spelled_association name_bytes) (association_form is_name) 2 (λ token. refl) one_token bytes x fits e)) (
      λ e. absurd cc))) e

  association_again : (x : Association) (rest : List ℕ) → association_form is_name x ≡ true → take_association take_name (spelled_association name_bytes x ++ rest) ≡ Some (x, rest)
  unfolding take_association take_named take_byte
  association_again association.Anybody rest h = refl
  association_again (association.User user) rest h = rw (name.again user rest (and_parts (is_name user) true h).0) refl
  association_again (association.Product product) rest h = rw (name.again product rest (and_parts (is_name product) true h).0) refl

  pub association_field : IsField (take_association take_name) (spelled_association name_bytes) (association_form is_name)
  unfolding take_association
  association_field = record { takes = by_byte (take_association_by take_name) (spelled_association name_bytes) (association_form is_name) association_by_takes; again = association_again }

  mcc_scope_takes : (bytes : List ℕ) (x : Scope × List ℕ) → AreBytes bytes → take_mcc_scope bytes ≡ Some x → IsSplit (1 ∷ bytes) (spelled_scope name_bytes x.0) x.1 × (scope_form is_name x.0 ≡ true)
  unfolding take_mcc_scope
  mcc_scope_takes bytes x fits e =
      let a = bind_some (take_mcc bytes) _ x e in
      let ta = mcc_field.takes bytes a.0 fits a.1 in
      subst (λ y. IsSplit (1 ∷ bytes) (spelled_scope name_bytes y.0) y.1 × (scope_form is_name y.0 ≡ true)) (same_Some (scope.Mcc a.0.0, a.0.1) x a.2)
      (byte_before 1 bytes _ a.0.1 ta.0, rw ta.1 refl)

  scope_by_takes : (byte : ℕ) (bytes : List ℕ) (x : Scope × List ℕ) → AreBytes bytes → take_scope_by take_name byte bytes ≡ Some x
      → IsSplit (byte ∷ bytes) (spelled_scope name_bytes x.0) x.1 × (scope_form is_name x.0 ≡ true)
  scope_by_takes byte bytes x fits e =
      either_way _ _ _ (Some x) (λ is e. at_byte (spelled_scope name_bytes) (scope_form is_name) byte 0 bytes x is
      (subst (λ y. IsSplit (0 ∷ bytes) (spelled_scope name_bytes y.0) y.1 × (scope_form is_name y.0 ≡ true)) (same_Some (scope.All, bytes) x e) (record { parts = refl; fits = fits }, refl))) (
      either_way _ _ _ (Some x) (λ is e. at_byte (spelled_scope name_bytes) (scope_form is_name) byte 1 bytes x is (mcc_scope_takes bytes x fits e)) (
      either_way _ _ _ (Some x) (λ is e. at_byte (spelled_scope name_bytes) (scope_form is_name) byte 2 bytes x is
      (named_takes scope.Group (spelled_scope name_bytes) (scope_form is_name) 2 (λ token. refl) one_token bytes x fits e)) (
      either_way _ _ _ (Some x) (λ is e. at_byte (spelled_scope name_bytes) (scope_form is_name) byte 3 bytes x is
      (named_takes scope.Mid (spelled_scope name_bytes) (scope_form is_name) 3 (λ token. refl) one_token bytes x fits e)) (
      λ e. absurd cc)))) e

  scope_again : (x : Scope) (rest : List ℕ) → scope_form is_name x ≡ true → take_scope take_name (spelled_scope name_bytes x ++ rest) ≡ Some (x, rest)
  unfolding take_scope take_mcc_scope take_named take_byte
  scope_again scope.All rest h = refl
  scope_again (scope.Mcc m) rest h = rw (mcc_field.again m rest (and_parts (is_scope (scope.Mcc m)) true h).0) refl
  scope_again (scope.Group group) rest h = rw (name.again group rest (and_parts (is_name group) true h).0) refl
  scope_again (scope.Mid mid) rest h = rw (name.again mid rest (and_parts (is_name mid) true h).0) refl

  pub scope_field : IsField (take_scope take_name) (spelled_scope name_bytes) (scope_form is_name)
  unfolding take_scope
  scope_field = record { takes = by_byte (take_scope_by take_name) (spelled_scope name_bytes) (scope_form is_name) scope_by_takes; again = scope_again }
