-- Asked authorisations are alone if each asked call is the first authorisation of its transaction that is asked, where there is one.
use Rattle.std.proofs.Common.{◌≡◌, ◌∙◌, ◌∷◌, ◌&&◌, ◌||◌, ap, Bool, false, find, List, [], not, refl, sym, true, ℕ}
use Rattle.std.specs.Prelude.{Option, Some, None, option_map}
use Rattle.std.specs.Bool.{one_answer}
use Rattle.std.specs.List.{list_all, list_any}
use Rattle.std.specs.Str.{bytes_eq}
use Rattle.std.proofs.lemmas.Bool.{and_parts}
use Rattle.iss_model.specs.rules.Activity.{CallNow, is_asked}
use Rattle.iss_model.specs.rules.Asks.{is_authorization}
use Rattle.iss_model.proofs.Lists.{all_weaker, find_passes, neither}
use Rattle.iss_model.proofs.Names.{name-sym, one_name, same_name}
use Rattle.iss_state.proofs.docket.Lists.{both_so, none_found, not_both, or_true}
use Rattle.iss_state.proofs.effects.Finds.{found_passes}
use Rattle.iss_well_formed.specs.Again.{is_alone}
use Rattle.iss_sound_parts.specs.Asking.{event_asked, is_alone_by, is_looked_for, is_none_or_event}

-- tests ----

if_so : (a b : Bool) → a ≡ true → (not a || b) ≡ true → b ≡ true
if_so true b h k = k
if_so false b h k = cc

turned : (b : Bool) → not b ≡ true → b ≡ false
turned true h = cc
turned false h = refl

none_pass : {A : Type 0} (p : A → Bool) (xs : List A) → list_any p xs ≡ false → list_all (λ x. not (p x)) xs ≡ true
none_pass p [] h = refl
none_pass p (x ∷ xs) h =
    let parts = neither (p x) (list_any p xs) h in
    both_so (not (p x)) (list_all (λ x. not (p x)) xs) (ap not parts.0) (none_pass p xs parts.1)

-- an element passes what all pass
abbrev IsThere : {A : Type 0} → List A → A → Type 0
IsThere {A} all x = (p : A → Bool) → list_all p all ≡ true → p x ≡ true

each_there : {A : Type 0} (all : List A) (p : A → Bool) → ((x : A) → IsThere all x → p x ≡ true) → (xs : List A) → ((q : A → Bool) → list_all q all ≡ true → list_all q xs ≡ true) → list_all p xs ≡ true
each_there all p one [] there = refl
each_there all p one (x ∷ xs) there =
    both_so (p x) (list_all p xs) (one x (λ q h. (and_parts (q x) (list_all q xs) (there q h)).0))
    (each_there all p one xs (λ q h. (and_parts (q x) (list_all q xs) (there q h)).1))

-- calls ----

module _ (calls : List CallNow) where
  abbrev by_first : CallNow → Bool
  by_first x = is_alone_by (event_asked true calls) x

  -- an asked authorisation of this transaction
  abbrev is_first_of : List ℕ → CallNow → Bool
  is_first_of txn x = is_looked_for true x && bytes_eq x.opened.txn txn

  -- of an asked call's transaction
  abbrev is_beside : CallNow → CallNow → Bool
  is_beside x y = is_asked y && bytes_eq y.opened.txn x.opened.txn

  abbrev is_it_if_beside : CallNow → CallNow → Bool
  is_it_if_beside x y = not (is_beside x y) || bytes_eq y.opened.event x.opened.event

  first_one : list_all (is_alone calls) calls ≡ true → (y : CallNow) → IsThere calls y → by_first y ≡ true
  first_one all y there = by (find (is_first_of y.opened.txn) calls) refl
    where
      beside : (x : CallNow) → is_first_of y.opened.txn x ≡ true → is_alone calls x ≡ true → (b : Bool) → is_asked y ≡ b → (not b || bytes_eq y.opened.event x.opened.event) ≡ true
      beside x passes alone false k = refl
      beside x passes alone true k =
          let parts = and_parts (is_looked_for true x) (bytes_eq x.opened.txn y.opened.txn) passes in
          let rest : list_all (is_it_if_beside x) calls ≡ true = if_so (is_looked_for true x) (list_all (is_it_if_beside x) calls) parts.0 alone in
          if_so (is_beside x y) (bytes_eq y.opened.event x.opened.event)
          (both_so (is_asked y) (bytes_eq y.opened.txn x.opened.txn) k (name-sym y.opened.txn x.opened.txn ∙ parts.1)) (there (is_it_if_beside x) rest)

      by : (o : Option CallNow) → find (is_first_of y.opened.txn) calls ≡ o → (not (is_asked y) || is_none_or_event y.opened.event (option_map (λ x. x.opened.event) o)) ≡ true
      by None e = or_true (not (is_asked y)) true refl
      by (Some x) e =
          beside x (found_passes (is_first_of y.opened.txn) calls x e) (find_passes (is_first_of y.opened.txn) (is_alone calls) calls x all e) (is_asked y) refl

  one_alone : list_all by_first calls ≡ true → (x : CallNow) → IsThere calls x → is_alone calls x ≡ true
  one_alone all x there = by (is_looked_for true x) refl
    where
      -- each asked call of the transaction is the first authorisation, and so is this one
      same : (z : CallNow) → find (is_first_of x.opened.txn) calls ≡ Some z → bytes_eq x.opened.event z.opened.event ≡ true → (y : CallNow) → by_first y ≡ true → is_it_if_beside x y ≡ true
      same z e its y first = beside (is_beside x y) refl
        where
          beside : (b : Bool) → is_beside x y ≡ b → (not b || bytes_eq y.opened.event x.opened.event) ≡ true
          beside false k = refl
          beside true k =
              let parts = and_parts (is_asked y) (bytes_eq y.opened.txn x.opened.txn) k in
              let txn : y.opened.txn ≡ x.opened.txn = one_name y.opened.txn x.opened.txn parts.1 in
              let found : event_asked true calls y.opened.txn ≡ Some z.opened.event =
              ap (event_asked true calls) txn ∙ ap (option_map (λ (x : CallNow). x.opened.event)) e
              in
              let own : bytes_eq y.opened.event z.opened.event ≡ true =
              ap (is_none_or_event y.opened.event) (sym found) ∙ if_so (is_asked y) (is_none_or_event y.opened.event (event_asked true calls y.opened.txn)) parts.0 first
              in
              same_name y.opened.event x.opened.event (one_name y.opened.event z.opened.event own ∙ sym (one_name x.opened.event z.opened.event its))

      -- it is itself an authorisation that is asked
      found : is_looked_for true x ≡ true → (o : Option CallNow) → find (is_first_of x.opened.txn) calls ≡ o
          → is_none_or_event x.opened.event (option_map (λ x. x.opened.event) o) ≡ true → list_all (is_it_if_beside x) calls ≡ true
      found k None e h =
          let passes : is_first_of x.opened.txn x ≡ true = both_so (is_looked_for true x) (bytes_eq x.opened.txn x.opened.txn) k (same_name x.opened.txn x.opened.txn refl) in
          let fails = there (λ (y : CallNow). not (is_first_of x.opened.txn y)) (none_pass (is_first_of x.opened.txn) calls (none_found (is_first_of x.opened.txn) calls e)) in
          not_both (is_first_of x.opened.txn x) passes (turned (is_first_of x.opened.txn x) fails)
      found k (Some z) e h = all_weaker by_first (is_it_if_beside x) (same z e h) calls all

      by : (b : Bool) → is_looked_for true x ≡ b → (not b || list_all (is_it_if_beside x) calls) ≡ true
      by false k = refl
      by true k =
          let asked = (and_parts (is_asked x) (is_authorization x.opened.method) k).0 in
          found k (find (is_first_of x.opened.txn) calls) refl
          (if_so (is_asked x) (is_none_or_event x.opened.event (event_asked true calls x.opened.txn)) asked (there by_first all))

  pub alone_is : list_all (is_alone calls) calls ≡ list_all by_first calls
  alone_is =
      one_answer (list_all (is_alone calls) calls) (list_all by_first calls)
      (λ h. each_there calls by_first (first_one h) calls (λ q k. k), λ h. each_there calls (is_alone calls) (one_alone h) calls (λ q k. k))
      (λ h. h, λ h. h)
