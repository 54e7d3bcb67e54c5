-- A sum whose key comes after the keys before it is kept after them.
use Rattle.std.proofs.Common.{◌≡◌, ◌∙◌, ◌++◌, ◌∷◌, ◌&&◌, ◌+◌, ◌<◌, ◌≤◌, ℕ, zero, suc, ℤ, pos, ap, ap₂, arith, Bool, cond, drop, false, get_or, length, List, [], map, refl, subst, sym, take, true}
use Rattle.std.specs.Prelude.{Option, Some, None, unwrap_or}
use Rattle.std.specs.List.{list_all}
use Rattle.std.specs.declared.cmp.Ordering.{Ordering}
use Rattle.std.specs.declared.cmp.Ordering.TheVariants.{Less, Equal, Greater}
use Rattle.std.specs.Ordering.{eq_by_cmp, is_eq, is_lt, nat_cmp, ordering_reverse}
use Rattle.std.specs.Cmp.Lexicographic.{nat_list_cmp_total, slice_cmp}
use Rattle.std.specs.FinMap as finite
use Rattle.std.proofs.lemmas.Bool.{and_parts}
use Rattle.std.proofs.lemmas.List.{drop_more, map-append, take-append-drop}
use Rattle.std.proofs.lemmas.List.Folds.{list_all-append}
use Rattle.std.proofs.Math.Seq.{take-suc}
use Rattle.iss_model.specs.state.Kept.{Kept, kept_at}
use Rattle.iss_states.specs.Rebuilding.{kept_by}
use Rattle.iss_named.specs.Known.{do_keys_rise, is_key_before}

-- the order of keys
abbrev pub order : List ℕ → List ℕ → Ordering
order = slice_cmp nat_cmp

-- a key that another one comes before isn't that one
pub not_before : (key other : List ℕ) → is_key_before other key ≡ true → eq_by_cmp order key other ≡ false
not_before key other h = ap is_eq (nat_list_cmp_total.antisymm key other) ∙ by (order other key) h
  where
    by : (r : Ordering) → is_lt r ≡ true → is_eq (ordering_reverse r) ≡ false
    by Less e = refl
    by Equal e = cc
    by Greater e = cc

module _ {A : Type 0} (sum : A → List ℕ × ℤ) where
  -- where a sum stands
  abbrev place : A → List ℕ
  place x = (sum x).0

  -- the key of a sum isn't among those before it
  pub new_key : (before : List A) (x : A) (after : List A) → do_keys_rise (map place (before ++ x ∷ after)) ≡ true → finite.find order (place x) (map sum before) ≡ None
  new_key [] x after h = refl
  new_key (y ∷ ys) x after h =
      let both = and_parts (list_all (is_key_before (place y)) (map place (ys ++ x ∷ after))) (do_keys_rise (map place (ys ++ x ∷ after))) h in
      let later : list_all (is_key_before (place y)) (map place ys) && list_all (is_key_before (place y)) (map place (x ∷ after)) ≡ true =
      sym (list_all-append (is_key_before (place y)) (map place ys) (map place (x ∷ after)))
      ∙ ap (list_all (is_key_before (place y))) (sym (map-append place ys (x ∷ after))) ∙ both.0
      in
      let first = and_parts (is_key_before (place y) (place x)) (list_all (is_key_before (place y)) (map place after))
      (and_parts (list_all (is_key_before (place y)) (map place ys)) (list_all (is_key_before (place y)) (map place (x ∷ after))) later).1 in
      ap (λ (b : Bool). cond b (Some ((sum y).1)) (finite.find order (place x) (map sum ys))) (not_before (place x) (place y) first.0)
      ∙ new_key ys x after both.1

  pub none_kept : (before : List A) (x : A) → finite.find order (place x) (map sum before) ≡ None → finite.get (kept_by sum before) (place x) ≡ None
  none_kept before x new = finite.get-from_entries nat_list_cmp_total (map sum before) (place x) ∙ new

  pub kept_more : (before : List A) (x : A) → finite.find order (place x) (map sum before) ≡ None
      → kept_by sum (before ++ x ∷ []) ≡ finite.insert (kept_by sum before) (place x) ((sum x).1)
  kept_more before x new =
      ap (λ (es : List (List ℕ × ℤ)). finite.from_entries {R = order} es) (map-append sum before (x ∷ []))
      ∙ finite.from_entries_push nat_list_cmp_total (finite.slice_cmp-IsAntisymmetric finite.nat_cmp-IsAntisymmetric) (map sum before) (place x) ((sum x).1) new

-- a list cut at a place
module _ {A : Type 0} (all : List A) (i : ℕ) (x : A) (within : i < length all) (is : x ≡ get_or all i x) where
  pub cut_at : take i all ++ x ∷ drop (i + 1) all ≡ all
  cut_at =
      ap (λ (y : A). take i all ++ y ∷ drop (i + 1) all) is
      ∙ ap (λ (ys : List A). take i all ++ ys) (sym (drop_more all i x within))
      ∙ take-append-drop i all

  pub one_more : take (i + 1) all ≡ take i all ++ x ∷ []
  one_more =
      let next : i + 1 ≡ suc i = omega arith in
      ap (λ (n : ℕ). take n all) next ∙ take-suc all i x within ∙ ap (λ (y : A). take i all ++ y ∷ []) (sym is)

-- a list up to a place after its end
pub take_all : {A : Type 0} (xs : List A) (n : ℕ) → length xs ≤ n → take n xs ≡ xs
take_all [] zero le = refl
take_all [] (suc n) le = refl
take_all (x ∷ xs) zero le = absurd (omega (arith, le))
take_all (x ∷ xs) (suc n) le = ap (λ ys. x ∷ ys) (take_all xs n (omega (arith, le)))
