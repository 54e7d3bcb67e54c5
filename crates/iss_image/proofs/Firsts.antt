-- Things that keep the first of each name: what is found among them is what is found among all.
use Rattle.std.proofs.Common.{◌≡◌, ◌∙◌, ◌++◌, ◌∷◌, ℕ, ap, Bool, cond, false, List, [], refl, sym, true, append_assoc}
use Rattle.std.specs.Prelude.{Option, Some, None, is_some, option_map}
use Rattle.std.specs.List.{filter_map, cons_option}
use Rattle.std.specs.Option.{option_or}
use Rattle.std.specs.Str.{bytes_eq}
use Rattle.std.proofs.lemmas.List.{append-nil}
use Rattle.std.proofs.lemmas.List.Folds.{find-append}
use Rattle.iss_model.specs.declared.state.Seen.{Seen}
use Rattle.iss_model.proofs.Names.{one_name}
use Rattle.iss_codec.specs.Taking.{◌>>=◌}
use Rattle.iss_image.specs.declared.lookups.WindowSet.{WindowSet}
use Rattle.iss_image.specs.declared.lookups.CardMade.{CardMade}
use Rattle.iss_image.specs.declared.lookups.Purchase.{Purchase}
use Rattle.iss_image.specs.Lookups.{named, with_first, with_told, with_firsts, window_told, card_told, purchase_told, first_windows, first_cards, first_purchases, window_by, window_in, holder_among, holder_in}

module _ {A : Type 0} (name_of : A → List ℕ) where
  -- a thing that has gone in, or one of whose name was there, is found as one that stands at the end
  found_first : (name : List ℕ) (xs : List A) (x : A) → named name_of name (with_first name_of xs x) ≡ named name_of name (xs ++ x ∷ [])
  found_first name xs x = by (is_some (named name_of (name_of x) xs)) refl
    where
      there : (b : Bool) → bytes_eq (name_of x) name ≡ b → is_some (named name_of (name_of x) xs) ≡ true
          → (o : Option A) → named name_of name xs ≡ o → o ≡ option_or o (cond b (Some x) None)
      there b e has (Some y) f = refl
      there false e has None f = refl
      there true e has None f =
          let none : is_some (named name_of (name_of x) xs) ≡ false =
          ap (λ (n : List ℕ). is_some (named name_of n xs)) (one_name (name_of x) name e) ∙ ap is_some f in
          let bad : false ≡ true = sym none ∙ has in cc

      by : (b : Bool) → is_some (named name_of (name_of x) xs) ≡ b → named name_of name (cond b xs (xs ++ x ∷ [])) ≡ named name_of name (xs ++ x ∷ [])
      by false e = refl
      by true e =
          there (bytes_eq (name_of x) name) refl e (named name_of name xs) refl ∙ sym (find-append (λ y. bytes_eq (name_of y) name) xs (x ∷ []))

  -- the same before others
  first_before : (name : List ℕ) (xs : List A) (x : A) (rest : List A) → named name_of name (with_first name_of xs x ++ rest) ≡ named name_of name (xs ++ x ∷ rest)
  first_before name xs x rest =
      find-append (λ y. bytes_eq (name_of y) name) (with_first name_of xs x) rest
      ∙ ap (λ (o : Option A). option_or o (named name_of name rest)) (found_first name xs x)
      ∙ sym (find-append (λ y. bytes_eq (name_of y) name) (xs ++ x ∷ []) rest)
      ∙ ap (named name_of name) (append_assoc xs (x ∷ []) rest)

  -- the same for what an event tells of, if what later ones tell of is found
  told_before : (name : List ℕ) (xs : List A) (o : Option A) (rest : List A) (all : List A → List A)
      → ((ys : List A) → named name_of name (all ys) ≡ named name_of name (ys ++ rest))
      → named name_of name (all (with_told name_of xs o)) ≡ named name_of name (xs ++ cons_option o rest)
  told_before name xs None rest all later = later xs
  told_before name xs (Some x) rest all later = later (with_first name_of xs x) ∙ first_before name xs x rest

  -- What is found among the firsts that events tell of is found first among all that they tell of.
  pub found_told : (told : Seen → Option A) (name : List ℕ) (es : List Seen) (xs : List A)
      → named name_of name (with_firsts name_of told xs es) ≡ named name_of name (xs ++ filter_map told es)
  found_told told name [] xs = ap (named name_of name) (sym (append-nil xs))
  found_told told name (e ∷ es) xs =
      told_before name xs (told e) (filter_map told es) (λ ys. with_firsts name_of told ys es) (λ ys. found_told told name es ys)

-- the windows of controls by the firsts that events set
pub windows_by_firsts : (windows : List WindowSet) (es : List Seen) → windows ≡ first_windows es → window_by windows ≡ window_in es
windows_by_firsts windows es h =
    λ i control. option_map (λ w. w.window) ((ap (named (λ w. w.control) control) h ∙ found_told (λ w. w.control) window_told control es []) i)

-- the holders of transactions by the firsts that events ask for and make
pub holders_by_firsts : (purchases : List Purchase) (cards : List CardMade) (es : List Seen) → purchases ≡ first_purchases es → cards ≡ first_cards es
    → holder_among purchases cards ≡ holder_in es
holders_by_firsts purchases cards es h k =
    λ i txn. (ap (named (λ p. p.txn) txn) h ∙ found_told (λ p. p.txn) purchase_told txn es []) i
    >>= λ p. option_map (λ c. (c.user, p.currency)) ((ap (named (λ c. c.card) p.card) k ∙ found_told (λ c. c.card) card_told p.card es []) i)
