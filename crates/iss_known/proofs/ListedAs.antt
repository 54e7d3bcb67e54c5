-- Two lists of transactions compared place by place.
use Rattle.std.proofs.Common.{◌≡◌, ◌∙◌, ◌∷◌, ◌&&◌, ◌+◌, ◌<◌, ◌≤◌, ℕ, zero, suc, ap, ap₂, arith, Bool, drop, false, get_or, length, List, [], map, nat_eq, refl, sym, true}
use Rattle.std.specs.Prelude.{Some, slice_get}
use Rattle.std.specs.Str.{bytes_eq}
use Rattle.std.proofs.lemmas.Bool.{and_parts}
use Rattle.std.proofs.lemmas.Bool.Decides.{nat_tests}
use Rattle.std.proofs.lemmas.Option.{slice_get_read}
use Rattle.std.proofs.Math.ListN.{drop_of_length-le}
use Rattle.iss_model.specs.declared.state.Carried.{Carried}
use Rattle.iss_model.specs.rules.Activity.{TxnNow}
use Rattle.iss_model.proofs.Names.{its_name, one_name}
use Rattle.iss_well_formed.specs.Again.{listed, standing}
use Rattle.iss_well_formed.specs.Events.{both_or_neither}
use Rattle.iss_known.specs.Reading.{are_listed, is_listed_as}

-- lists of two lengths aren't listed
pub other_length : (ts : List Carried) (xs : List TxnNow) → nat_eq (length ts) (length xs) ≡ false → are_listed ts xs ≡ false
other_length [] [] e = cc
other_length [] (x ∷ xs) e = refl
other_length (t ∷ ts) [] e = refl
other_length (t ∷ ts) (x ∷ xs) e = by (is_listed_as t x) (other_length ts xs (less (length ts) (length xs) e))
  where
    less : (m n : ℕ) → nat_eq (suc m) (suc n) ≡ false → nat_eq m n ≡ false
    less m n e = grind (arith, nat_tests)

    by : (b : Bool) → are_listed ts xs ≡ false → (b && are_listed ts xs) ≡ false
    by true rest = rest
    by false rest = refl

-- what is left from a place on compares as what stands there does, and then the rest
pub from_place : (ts : List Carried) (xs : List TxnNow) (i : ℕ) (t : Carried) (x : TxnNow) → slice_get ts i ≡ Some t → slice_get xs i ≡ Some x
    → are_listed (drop i ts) (drop i xs) ≡ (is_listed_as t x && are_listed (drop (suc i) ts) (drop (suc i) xs))
from_place [] xs i t x d e = cc
from_place (u ∷ ts) [] i t x d e = cc
from_place (u ∷ ts) (y ∷ xs) zero t x d e =
    let one : u ≡ t = cc in
    let two : y ≡ x = cc in
    λ i. is_listed_as (one i) (two i) && are_listed ts xs
from_place (u ∷ ts) (y ∷ xs) (suc i) t x d e = from_place ts xs i t x d e

module _ (ts : List Carried) (xs : List TxnNow) (i : ℕ) (t : Carried) (x : TxnNow) (left : i < length ts) (right : i < length xs) (is : t ≡ get_or ts i t) (own : x ≡ get_or xs i x)
    (same : are_listed (drop i ts) (drop i xs) ≡ are_listed ts xs) where
  compared : are_listed (drop i ts) (drop i xs) ≡ (is_listed_as t x && are_listed (drop (i + 1) ts) (drop (i + 1) xs))
  compared =
      let next : suc i ≡ i + 1 = omega arith in
      from_place ts xs i t x (slice_get_read ts (length ts) i t refl left is) (slice_get_read xs (length xs) i x refl right own)
      ∙ ap (λ (n : ℕ). is_listed_as t x && are_listed (drop n ts) (drop n xs)) next

  pub one_differs : is_listed_as t x ≡ false → false ≡ are_listed ts xs
  one_differs differs = sym (ap (λ (b : Bool). b && are_listed (drop (i + 1) ts) (drop (i + 1) xs)) differs) ∙ sym compared ∙ same

  pub next_compared : is_listed_as t x ≡ true → are_listed (drop (i + 1) ts) (drop (i + 1) xs) ≡ are_listed ts xs
  next_compared agrees = sym (ap (λ (b : Bool). b && are_listed (drop (i + 1) ts) (drop (i + 1) xs)) agrees) ∙ sym compared ∙ same

pub all_compared : (ts : List Carried) (xs : List TxnNow) (i : ℕ) → length ts ≡ length xs → length xs ≤ i → are_listed (drop i ts) (drop i xs) ≡ are_listed ts xs → true ≡ are_listed ts xs
all_compared ts xs i len end same =
    sym (ap₂ are_listed (drop_of_length-le ts (omega (arith, len, end))) (drop_of_length-le xs end)) ∙ same

-- listed transactions are the same pairs of token and word
pub pairs_of : (ts : List Carried) (xs : List TxnNow) → are_listed ts xs ≡ true → map standing xs ≡ map listed ts
pairs_of [] [] h = refl
pairs_of [] (x ∷ xs) h = cc
pairs_of (t ∷ ts) [] h = cc
pairs_of (t ∷ ts) (x ∷ xs) h =
    let both = and_parts (is_listed_as t x) (are_listed ts xs) h in
    let own = and_parts (bytes_eq t.txn x.txn.token) (both_or_neither t.sums.live x.live) both.0 in
    let token : t.txn ≡ x.txn.token = one_name t.txn x.txn.token own.0 in
    let live : t.sums.live ≡ x.live = same_of_both t.sums.live x.live own.1 in
    λ i. (sym token i, sym live i) ∷ pairs_of ts xs both.1 i
  where
    same_of_both : (a b : Bool) → both_or_neither a b ≡ true → a ≡ b
    same_of_both true b h = sym h
    same_of_both false true h = cc
    same_of_both false false h = refl

pub listed_by_pairs : (ts : List Carried) (xs : List TxnNow) → map standing xs ≡ map listed ts → are_listed ts xs ≡ true
listed_by_pairs [] [] h = refl
listed_by_pairs [] (x ∷ xs) h = cc
listed_by_pairs (t ∷ ts) [] h = cc
listed_by_pairs (t ∷ ts) (x ∷ xs) h =
    let first : standing x ≡ listed t = ap (λ (ps : List (List ℕ × Bool)). first_or (standing x) ps) h in
    let rest : map standing xs ≡ map listed ts = ap (λ (ps : List (List ℕ × Bool)). later ps) h in
    (λ i. bytes_eq t.txn ((first i).0) && both_or_neither t.sums.live ((first i).1) && are_listed ts xs)
    ∙ one (bytes_eq t.txn t.txn) t.sums.live (are_listed ts xs) (its_name t.txn) (listed_by_pairs ts xs rest)
  where
    first_or : List ℕ × Bool → List (List ℕ × Bool) → List ℕ × Bool
    first_or p [] = p
    first_or p (q ∷ ps) = q

    later : List (List ℕ × Bool) → List (List ℕ × Bool)
    later [] = []
    later (q ∷ ps) = ps

    one : (a b c : Bool) → a ≡ true → c ≡ true → (a && both_or_neither b b && c) ≡ true
    one true true true e f = refl
    one true false true e f = refl
    one false b c e f = cc
    one true b false e f = cc
