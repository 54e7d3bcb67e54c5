-- Keys compare as their parts do, one after the other.
use Rattle.std.proofs.Common.{◌≡◌, ℕ, pos, Bool, true, ◌&&◌, nat_lt, nat_le, List, [], ◌∷◌, ◌++◌, length, refl, sym, ap, ap₂, ◌∙◌, arith}
use Rattle.std.proofs.lemmas.List.{append_assoc}
use Rattle.std.proofs.lemmas.Bool.{and_parts}
use Rattle.std.proofs.lemmas.Bool.Decides.{nat_tests}
use Rattle.std.specs.Prelude.{IsTrue}
use Rattle.std.specs.List.{list_all}
use Rattle.std.specs.declared.cmp.Ordering.{Ordering}
use Rattle.std.specs.declared.cmp.Ordering.TheVariants.{Less, Equal, Greater}
use Rattle.std.specs.Ordering.{nat_cmp, ordering_then}
use Rattle.std.specs.Cmp.Lexicographic.{slice_cmp}
use Rattle.iss_model.specs.Tokens.{is_token, is_token_byte}
use Rattle.iss_model.specs.Sums.{int_key}
use Rattle.iss_commando.specs.Days.{day_key}
use Rattle.iss_commando.specs.Sums.{has_no_zero}

zero_before : (b : ℕ) → is_token_byte b ≡ true → nat_cmp 0 b ≡ Less
zero_before b h = grind (arith, nat_tests)

zero_after : (b : ℕ) → is_token_byte b ≡ true → nat_cmp b 0 ≡ Greater
zero_after b h = grind (arith, nat_tests)

regrouped : (r s t : Ordering) → ordering_then (ordering_then r s) t ≡ ordering_then r (ordering_then s t)
regrouped Less s t = refl
regrouped Equal s t = refl
regrouped Greater s t = refl

ended : (r : Ordering) → ordering_then r Equal ≡ r
ended Less = refl
ended Equal = refl
ended Greater = refl

all_allowed : (token : List ℕ) → IsTrue (is_token token) → list_all is_token_byte token ≡ true
all_allowed token h = (and_parts (nat_le 1 (length token) && nat_le (length token) 36) (list_all is_token_byte token) h).1

-- tokens that a 0 ends compare before what follows
by_token : (u v r s : List ℕ) → list_all is_token_byte u ≡ true → list_all is_token_byte v ≡ true
    → slice_cmp nat_cmp (u ++ 0 ∷ r) (v ++ 0 ∷ s) ≡ ordering_then (slice_cmp nat_cmp u v) (slice_cmp nat_cmp r s)
by_token [] [] r s p q = refl
by_token [] (y ∷ v) r s p q =
    ap (λ (o : Ordering). ordering_then o (slice_cmp nat_cmp r (v ++ 0 ∷ s))) (zero_before y (and_parts (is_token_byte y) (list_all is_token_byte v) q).0)
by_token (x ∷ u) [] r s p q =
    ap (λ (o : Ordering). ordering_then o (slice_cmp nat_cmp (u ++ 0 ∷ r) s)) (zero_after x (and_parts (is_token_byte x) (list_all is_token_byte u) p).0)
by_token (x ∷ u) (y ∷ v) r s p q =
    ap (ordering_then (nat_cmp x y))
    (by_token u v r s (and_parts (is_token_byte x) (list_all is_token_byte u) p).1 (and_parts (is_token_byte y) (list_all is_token_byte v) q).1)
    ∙ sym (regrouped (nat_cmp x y) (slice_cmp nat_cmp u v) (slice_cmp nat_cmp r s))

by_day : (m n : ℕ) → slice_cmp nat_cmp (int_key (pos m)) (int_key (pos n)) ≡ nat_cmp m n
by_day m n = ended (nat_cmp m n)

-- a product's user on a day is ordered by product, user and day
pub by_parts : (p q u v : List ℕ) (m n : ℕ) → IsTrue (is_token p) → IsTrue (is_token q) → IsTrue (is_token u) → IsTrue (is_token v)
    → slice_cmp nat_cmp (day_key p u (pos m)) (day_key q v (pos n))
    ≡ ordering_then (ordering_then (slice_cmp nat_cmp p q) (slice_cmp nat_cmp u v)) (nat_cmp m n)
by_parts p q u v m n tp tq tu tv =
    ap₂ (slice_cmp nat_cmp) (append_assoc p (0 ∷ u) (0 ∷ int_key (pos m))) (append_assoc q (0 ∷ v) (0 ∷ int_key (pos n)))
    ∙ by_token p q (u ++ 0 ∷ int_key (pos m)) (v ++ 0 ∷ int_key (pos n)) (all_allowed p tp) (all_allowed q tq)
    ∙ ap (ordering_then (slice_cmp nat_cmp p q))
    (by_token u v (int_key (pos m)) (int_key (pos n)) (all_allowed u tu) (all_allowed v tv)
    ∙ ap (ordering_then (slice_cmp nat_cmp u v)) (by_day m n))
    ∙ sym (regrouped (slice_cmp nat_cmp p q) (slice_cmp nat_cmp u v) (nat_cmp m n))

above_zero : (b : ℕ) → is_token_byte b ≡ true → nat_lt 0 b ≡ true
above_zero b h = grind (arith, nat_tests)

all_above : (bs : List ℕ) → list_all is_token_byte bs ≡ true → has_no_zero bs ≡ true
all_above [] h = refl
all_above (b ∷ bs) h =
    let parts = and_parts (is_token_byte b) (list_all is_token_byte bs) h in
    ap (λ (x : Bool). x && has_no_zero bs) (above_zero b parts.0) ∙ all_above bs parts.1

-- neither of two names has a byte 0
pub both_plain : (p u : List ℕ) → IsTrue (is_token p) → IsTrue (is_token u) → (has_no_zero p && has_no_zero u) ≡ true
both_plain p u tp tu =
    ap (λ (b : Bool). b && has_no_zero u) (all_above p (all_allowed p tp)) ∙ all_above u (all_allowed u tu)
