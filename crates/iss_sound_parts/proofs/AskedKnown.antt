-- What is told of asked calls is what the calls are.
use Rattle.std.proofs.Common.{◌≡◌, ◌∙◌, ◌∷◌, ◌&&◌, ◌||◌, ap, Bool, cond, false, find, List, [], refl, true, ℕ}
use Rattle.std.specs.Prelude.{Some, is_some}
use Rattle.std.specs.List.{list_any}
use Rattle.std.specs.Str.{bytes_eq}
use Rattle.iss_model.specs.rules.Activity.{CallNow, is_asked}
use Rattle.iss_state.proofs.docket.Lists.{some_mapped}
use Rattle.iss_well_formed.specs.Txns.{has_authorization_asked}
use Rattle.iss_sound_parts.specs.declared.asked.Asked.{Asked}
use Rattle.iss_sound_parts.specs.Asking.{IsAskedOf, event_asked, has_event, is_looked_for}

-- something is found exactly if something passes
found_if_any : {A : Type 0} (p q : A → Bool) → ((x : A) → p x ≡ q x) → (xs : List A) → is_some (find p xs) ≡ list_any q xs
found_if_any p q same [] = refl
found_if_any {A} p q same (x ∷ xs) = ap (λ (b : Bool). is_some (cond b (Some x) (find p xs))) (same x) ∙ by (q x) (found_if_any p q same xs)
  where
    by : (b : Bool) → is_some (find p xs) ≡ list_any q xs → is_some (cond b (Some x) (find p xs)) ≡ (b || list_any q xs)
    by true e = refl
    by false e = e

pub and_true : (b : Bool) → (b && true) ≡ b
and_true true = refl
and_true false = refl

has_first : (calls : List CallNow) (token : List ℕ) → is_some (event_asked true calls token) ≡ has_authorization_asked calls token
has_first calls token =
    let has = λ (x : CallNow). is_looked_for true x && bytes_eq x.opened.txn token in
    some_mapped (λ (x : CallNow). x.opened.event) (find has calls) ∙ found_if_any has has (λ x. refl) calls

has_any : (calls : List CallNow) (token : List ℕ) → is_some (event_asked false calls token) ≡ list_any (λ x. is_asked x && bytes_eq x.opened.txn token) calls
has_any calls token =
    let has = λ (x : CallNow). is_looked_for false x && bytes_eq x.opened.txn token in
    some_mapped (λ (x : CallNow). x.opened.event) (find has calls)
    ∙ found_if_any has (λ (x : CallNow). is_asked x && bytes_eq x.opened.txn token) (λ x. ap (λ (b : Bool). b && bytes_eq x.opened.txn token) (and_true (is_asked x))) calls

module _ (calls : List CallNow) (a : Asked) (known : IsAskedOf calls a) (token : List ℕ) where
  -- whether the authorisation of a transaction is asked
  pub authorization_known : has_event a.authorizations token ≡ has_authorization_asked calls token
  authorization_known = ap is_some (known.authorizations token) ∙ has_first calls token

  -- whether any call of it is
  pub call_known : has_event a.calls token ≡ list_any (λ x. is_asked x && bytes_eq x.opened.txn token) calls
  call_known = ap is_some (known.calls token) ∙ has_any calls token
