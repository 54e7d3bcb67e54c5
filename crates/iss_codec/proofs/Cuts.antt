-- Lists that hold one field after the other come apart in one way.
use Rattle.std.proofs.Common.{◌≡◌, ℕ, ℤ, pos, negsuc, true, List, [], ◌∷◌, ◌++◌, length, take, drop, get_or, Option, Some, None, refl, sym, ap, ◌∙◌, append_assoc}
use Rattle.std.proofs.lemmas.List.{take_at, drop_at}
use Rattle.std.proofs.lemmas.Option.{some_pair_parts}
use Rattle.iss_model.specs.declared.currency.Currency.{Currency}
use Rattle.iss_model.specs.declared.setting.CardState.{CardState}
use Rattle.iss_model.specs.declared.setting.UserState.{UserState}
use Rattle.iss_model.specs.declared.setting.Moved.{Moved}
use Rattle.iss_model.specs.declared.setting.Moved.TheVariants as moved
use Rattle.iss_model.specs.declared.setting.Association.{Association}
use Rattle.iss_model.specs.declared.setting.Association.TheVariants as association
use Rattle.iss_model.specs.declared.setting.Scope.{Scope}
use Rattle.iss_model.specs.declared.setting.Scope.TheVariants as scope
use Rattle.iss_model.specs.declared.input.Outcome.{Outcome}
use Rattle.iss_model.specs.declared.input.Outcome.TheVariants as outcome
use Rattle.iss_model.specs.Currencies.{iso_number}
use Rattle.iss_model.specs.Inputs.{with_length, flag_contents, optional_contents, int_contents, funding_number, window_number, card_state_number, user_state_number, outcome_number, part_contents, moved_contents, association_contents, scope_contents}
use Rattle.iss_model.specs.texts.Spelling.{number_bytes}
use Rattle.iss_codec.specs.Taking.{take_currency}
use Rattle.iss_codec.proofs.TakenFields.{IsField}
use Rattle.iss_codec.proofs.TakenParts.{currency_field, flag_field, funding_field, window_field, card_state_field, user_state_field}

-- if two such lists begin equal lists, they are of one value, and what is after them is equal
pub record IsCut {A : Type 0} (text : A → List ℕ) : Type 0 where
  pub cut : (a b : A) (x y : List ℕ) → text a ++ x ≡ text b ++ y → (a ≡ b) × (x ≡ y)

heads : (a b : ℕ) (x y : List ℕ) → a ∷ x ≡ b ∷ y → (a ≡ b) × (x ≡ y)
heads a b x y e = (ap (λ (l : List ℕ). get_or l 0 0) e, ap (λ (l : List ℕ). drop 1 l) e)

-- what is read again comes apart
pub field_cut : {A : Type 0} (taker : List ℕ → Option (A × List ℕ)) (text : A → List ℕ) → IsField taker text (λ x. true) → IsCut text
field_cut taker text field =
    record { cut = λ a b x y e. some_pair_parts a b x y (sym (field.again a x refl) ∙ ap taker e ∙ field.again b y refl) }

-- two of them, one after the other
pub pair_cut : {A B : Type 0} {f : A → List ℕ} {g : B → List ℕ} → IsCut f → IsCut g → IsCut (λ (p : A × B). f p.0 ++ g p.1)
pair_cut {f = f} {g = g} cut_f cut_g =
    record {
      cut = λ p q x y e.
          let first = cut_f.cut p.0 q.0 (g p.1 ++ x) (g q.1 ++ y) (sym (append_assoc (f p.0) (g p.1) x) ∙ e ∙ append_assoc (f q.0) (g q.1) y) in
          let second = cut_g.cut p.1 q.1 x y first.1 in
          (λ i. (first.0 i, second.0 i), second.1);
    }

pub number_cut : IsCut (λ (n : ℕ). n ∷ [])
number_cut = record { cut = heads }

text_parts : (a b x y : List ℕ) → with_length a ++ x ≡ with_length b ++ y → (a ≡ b) × (x ≡ y)
text_parts a b x y e =
    let p = heads (length a) (length b) (a ++ x) (b ++ y) e in (
      sym (take_at a x (length a) refl) ∙ ap (λ (l : List ℕ). take (length a) l) p.1 ∙ take_at b y (length a) (sym p.0),
      sym (drop_at a x (length a) refl) ∙ ap (λ (l : List ℕ). drop (length a) l) p.1 ∙ drop_at b y (length a) (sym p.0),
    )

pub text_cut : IsCut with_length
text_cut = record { cut = text_parts }

pub flag_cut : IsCut flag_contents
flag_cut = field_cut _ flag_contents flag_field

currency_parts : (a b : Currency) (x y : List ℕ) → iso_number a ∷ x ≡ iso_number b ∷ y → (a ≡ b) × (x ≡ y)
currency_parts a b x y e =
    let p = heads (iso_number a) (iso_number b) x y e in (
      (some_pair_parts a b [] [] (sym (currency_field.again a [] refl) ∙ ap (λ n. take_currency (number_bytes 2 n ++ [])) p.0 ∙ currency_field.again b [] refl)).0,
      p.1,
    )

pub currency_cut : IsCut (λ c. iso_number c ∷ [])
currency_cut = record { cut = currency_parts }

pub funding_cut : IsCut (λ f. funding_number f ∷ [])
funding_cut = field_cut _ (λ f. funding_number f ∷ []) funding_field

pub window_cut : IsCut (λ w. window_number w ∷ [])
window_cut = field_cut _ (λ w. window_number w ∷ []) window_field

-- an outcome's number, and a part's currency and amount
abbrev pub outcome_contents : Outcome → List ℕ
outcome_contents o = outcome_number o ∷ part_contents o

part_cut : IsCut (λ (p : Currency × ℕ). (iso_number p.0 ∷ []) ++ p.1 ∷ [])
part_cut = pair_cut currency_cut number_cut

outcome_parts : (a b : Outcome) (x y : List ℕ) → outcome_contents a ++ x ≡ outcome_contents b ++ y → (a ≡ b) × (x ≡ y)
outcome_parts outcome.Funded outcome.Funded x y e = (refl, (heads 1 1 x y e).1)
outcome_parts outcome.Refused outcome.Refused x y e = (refl, (heads 2 2 x y e).1)
outcome_parts outcome.Connection outcome.Connection x y e = (refl, (heads 3 3 x y e).1)
outcome_parts outcome.Application outcome.Application x y e = (refl, (heads 4 4 x y e).1)
outcome_parts (outcome.Partial c n) (outcome.Partial d m) x y e =
    let p = part_cut.cut (c, n) (d, m) x y (heads 5 5 _ _ e).1 in (ap (λ q. outcome.Partial q.0 q.1) p.0, p.1)
outcome_parts _ _ x y e = absurd cc

pub outcome_cut : IsCut outcome_contents
outcome_cut = record { cut = outcome_parts }

card_state_cut : IsCut (λ s. card_state_number s ∷ [])
card_state_cut = field_cut _ (λ s. card_state_number s ∷ []) card_state_field

user_state_cut : IsCut (λ s. user_state_number s ∷ [])
user_state_cut = field_cut _ (λ s. user_state_number s ∷ []) user_state_field

optional_parts : (a b : Option ℕ) (x y : List ℕ) → optional_contents a ++ x ≡ optional_contents b ++ y → (a ≡ b) × (x ≡ y)
optional_parts None None x y e = (refl, (heads 0 0 x y e).1)
optional_parts (Some m) (Some n) x y e =
    let p = number_cut.cut m n x y (heads 1 1 (m ∷ x) (n ∷ y) e).1 in (ap Some p.0, p.1)
optional_parts None (Some n) x y e = absurd cc
optional_parts (Some m) None x y e = absurd cc

pub optional_cut : IsCut optional_contents
optional_cut = record { cut = optional_parts }

card_to_cut : IsCut (λ (p : List ℕ × CardState). with_length p.0 ++ card_state_number p.1 ∷ [])
card_to_cut = pair_cut text_cut card_state_cut

user_to_cut : IsCut (λ (p : List ℕ × UserState). with_length p.0 ++ user_state_number p.1 ∷ [])
user_to_cut = pair_cut text_cut user_state_cut

moved_parts : (a b : Moved) (x y : List ℕ) → moved_contents a ++ x ≡ moved_contents b ++ y → (a ≡ b) × (x ≡ y)
moved_parts (moved.Card c s) (moved.Card d t) x y e =
    let p = card_to_cut.cut (c, s) (d, t) x y (heads 1 1 _ _ e).1 in
    (ap (λ q. moved.Card q.0 q.1) p.0, p.1)
moved_parts (moved.User c s) (moved.User d t) x y e =
    let p = user_to_cut.cut (c, s) (d, t) x y (heads 2 2 _ _ e).1 in
    (ap (λ q. moved.User q.0 q.1) p.0, p.1)
moved_parts (moved.Card c s) (moved.User d t) x y e = absurd cc
moved_parts (moved.User c s) (moved.Card d t) x y e = absurd cc

pub moved_cut : IsCut moved_contents
moved_cut = record { cut = moved_parts }

association_parts : (a b : Association) (x y : List ℕ) → association_contents a ++ x ≡ association_contents b ++ y → (a ≡ b) × (x ≡ y)
association_parts association.Anybody association.Anybody x y e = (refl, (heads 0 0 x y e).1)
association_parts (association.User u) (association.User v) x y e =
    let p = text_cut.cut u v x y (heads 1 1 _ _ e).1 in (ap association.User p.0, p.1)
association_parts (association.Product u) (association.Product v) x y e =
    let p = text_cut.cut u v x y (heads 2 2 _ _ e).1 in (ap association.Product p.0, p.1)
association_parts _ _ x y e = absurd cc

pub association_cut : IsCut association_contents
association_cut = record { cut = association_parts }

scope_parts : (a b : Scope) (x y : List ℕ) → scope_contents a ++ x ≡ scope_contents b ++ y → (a ≡ b) × (x ≡ y)
scope_parts scope.All scope.All x y e = (refl, (heads 0 0 x y e).1)
scope_parts (scope.Mcc m) (scope.Mcc n) x y e =
    let p = number_cut.cut m n x y (heads 1 1 _ _ e).1 in (ap scope.Mcc p.0, p.1)
scope_parts (scope.Group g) (scope.Group h) x y e =
    let p = text_cut.cut g h x y (heads 2 2 _ _ e).1 in (ap scope.Group p.0, p.1)
scope_parts (scope.Mid g) (scope.Mid h) x y e =
    let p = text_cut.cut g h x y (heads 3 3 _ _ e).1 in (ap scope.Mid p.0, p.1)
scope_parts _ _ x y e = absurd cc

pub scope_cut : IsCut scope_contents
scope_cut = record { cut = scope_parts }

int_parts : (a b : ℤ) (x y : List ℕ) → int_contents a ++ x ≡ int_contents b ++ y → (a ≡ b) × (x ≡ y)
int_parts (pos m) (pos n) x y e =
    let p = number_cut.cut m n x y (heads 0 0 _ _ e).1 in (ap pos p.0, p.1)
int_parts (negsuc m) (negsuc n) x y e =
    let p = number_cut.cut m n x y (heads 1 1 _ _ e).1 in (ap negsuc p.0, p.1)
int_parts (pos m) (negsuc n) x y e = absurd cc
int_parts (negsuc m) (pos n) x y e = absurd cc

pub int_cut : IsCut int_contents
int_cut = record { cut = int_parts }
