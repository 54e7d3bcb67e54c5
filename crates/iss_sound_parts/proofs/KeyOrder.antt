-- Keys of counters sort by the user's name, then by the number.
use Rattle.std.proofs.Common.{◌≡◌, ℕ, zero, suc, ℤ, pos, negsuc, Bool, true, false, cond, not, ◌&&◌, ◌==◌, nat_lt, nat_le, List, [], ◌∷◌, ◌++◌, length, refl, sym, ap, ap₂, map, ◌∙◌, arith}
use Rattle.std.specs.Prelude.{IsTrue, None, Some, replicate}
use Rattle.std.specs.List.{list_all}
use Rattle.std.specs.declared.cmp.Ordering.{Ordering}
use Rattle.std.specs.declared.cmp.Ordering.TheVariants.{Less, Equal, Greater}
use Rattle.std.specs.Ordering.{nat_cmp, int_cmp, is_lt, ordering_then}
use Rattle.std.specs.Cmp.Lexicographic.{nat_list_cmp_total, slice_cmp}
use Rattle.std.proofs.lemmas.Bool.{and_parts}
use Rattle.std.proofs.lemmas.Bool.Decides.{nat_tests}
use Rattle.iss_model.specs.Tokens.{is_token, is_token_byte}
use Rattle.iss_model.specs.Sums.{int_key}
use Rattle.iss_model.specs.rules.Controls.{counter_key}
use Rattle.iss_state.proofs.docket.Lists.{both_so}
use Rattle.iss_named.specs.Known.{do_keys_rise, is_key_before}
use Rattle.iss_sound_parts.specs.Rising.{do_follow}

-- no byte is 0
abbrev pub has_no_zero : List ℕ → Bool
has_no_zero name = list_all (λ b. nat_lt 0 b) name

above : (b : ℕ) → is_token_byte b ≡ true → nat_lt 0 b ≡ true
above b h = grind (arith, nat_tests)

all_above : (bs : List ℕ) → list_all is_token_byte bs ≡ true → has_no_zero bs ≡ true
all_above [] h = refl
all_above (b ∷ bs) h =
    let parts = and_parts (is_token_byte b) (list_all is_token_byte bs) h in
    ap₂ (λ (x y : Bool). x && y) (above b parts.0) (all_above bs parts.1)

pub token_plain : (bs : List ℕ) → is_token bs ≡ true → has_no_zero bs ≡ true
token_plain bs h = all_above bs (and_parts (nat_le 1 (length bs) && nat_le (length bs) 36) (list_all is_token_byte bs) h).1

zero_below : (b : ℕ) → nat_lt 0 b ≡ true → nat_cmp 0 b ≡ Less
zero_below b h = ap (λ (x : Bool). cond x Less (cond (0 == b) Equal Greater)) h

zero_above : (b : ℕ) → nat_lt 0 b ≡ true → nat_cmp b 0 ≡ Greater
zero_above b h =
    let below : nat_lt b 0 ≡ false = grind (arith, nat_tests) in
    let apart : (b == 0) ≡ false = grind (arith, nat_tests) in
    ap (λ (x : Bool). cond x Less (cond (b == 0) Equal Greater)) below ∙ ap (λ (x : Bool). cond x Equal Greater) apart

pub regrouped : (r s t : Ordering) → ordering_then (ordering_then r s) t ≡ ordering_then r (ordering_then s t)
regrouped Less s t = refl
regrouped Equal s t = refl
regrouped Greater s t = refl

ended : (r : Ordering) → ordering_then r Equal ≡ r
ended Less = refl
ended Equal = refl
ended Greater = refl

-- texts that a 0 ends sort before what follows
pub tails : (u v s t : List ℕ) → has_no_zero u ≡ true → has_no_zero v ≡ true
    → slice_cmp nat_cmp (u ++ 0 ∷ s) (v ++ 0 ∷ t) ≡ ordering_then (slice_cmp nat_cmp u v) (slice_cmp nat_cmp s t)
tails [] [] s t p q = refl
tails [] (y ∷ v) s t p q =
    ap (λ (r : Ordering). ordering_then r (slice_cmp nat_cmp s (v ++ 0 ∷ t))) (zero_below y (and_parts (nat_lt 0 y) (has_no_zero v) q).0)
tails (x ∷ u) [] s t p q =
    ap (λ (r : Ordering). ordering_then r (slice_cmp nat_cmp (u ++ 0 ∷ s) t)) (zero_above x (and_parts (nat_lt 0 x) (has_no_zero u) p).0)
tails (x ∷ u) (y ∷ v) s t p q =
    ap (λ (r : Ordering). ordering_then (nat_cmp x y) r)
    (tails u v s t (and_parts (nat_lt 0 x) (has_no_zero u) p).1 (and_parts (nat_lt 0 y) (has_no_zero v) q).1)
    ∙ sym (regrouped (nat_cmp x y) (slice_cmp nat_cmp u v) (slice_cmp nat_cmp s t))

-- numbers below 0 by how many zeros they begin with, and then by what follows
zeros : (m n : ℕ) (s t : List ℕ) → slice_cmp nat_cmp (replicate m 0 ++ 1 ∷ s) (replicate n 0 ++ 1 ∷ t) ≡ ordering_then (nat_cmp n m) (slice_cmp nat_cmp s t)
zeros zero zero s t = refl
zeros zero (suc n) s t = sym (ap (λ (r : Ordering). ordering_then r (slice_cmp nat_cmp s t)) (zero_above_first n))
  where
    zero_above_first : (n : ℕ) → nat_cmp (suc n) zero ≡ Greater
    zero_above_first n = zero_above (suc n) (grind (arith, nat_tests))
zeros (suc m) zero s t = sym (ap (λ (r : Ordering). ordering_then r (slice_cmp nat_cmp s t)) (zero_below_next m))
  where
    zero_below_next : (m : ℕ) → nat_cmp zero (suc m) ≡ Less
    zero_below_next m = zero_below (suc m) (grind (arith, nat_tests))
zeros (suc m) (suc n) s t = zeros m n s t ∙ ap (λ (r : Ordering). ordering_then r (slice_cmp nat_cmp s t)) (next n m)
  where
    next : (n m : ℕ) → nat_cmp n m ≡ nat_cmp (suc n) (suc m)
    next n m =
        ap₂ (λ (l e : Bool). cond l Less (cond e Equal Greater)) (grind (arith, nat_tests)) (grind (arith, nat_tests))

-- the order of numbers by two tests
two_tests : (l e g : Bool) → (l ≡ false → e ≡ not g) → cond l Less (cond e Equal Greater) ≡ cond l Less (cond g Greater Equal)
two_tests true e g h = refl
two_tests false true true h = (let wrong : true ≡ false = h refl in cc)
two_tests false true false h = refl
two_tests false false true h = refl
two_tests false false false h = (let wrong : false ≡ true = h refl in cc)

by_less : (m n : ℕ) → nat_cmp m n ≡ cond (nat_lt m n) Less (cond (nat_lt n m) Greater Equal)
by_less m n = two_tests (nat_lt m n) (m == n) (nat_lt n m) (λ h. grind (arith, nat_tests))

not_both : (m n : ℕ) → nat_lt m n ≡ true → nat_lt n m ≡ false
not_both m n h = grind (arith, nat_tests)

first_tells : (less more : Bool) → (less ≡ true → more ≡ false)
    → ordering_then (cond more Less (cond less Greater Equal)) (cond less Less (cond more Greater Equal)) ≡ cond more Less (cond less Greater Equal)
first_tells true true h = (let wrong : true ≡ false = h refl in cc)
first_tells true false h = refl
first_tells false true h = refl
first_tells false false h = refl

-- what follows is equal if the numbers of zeros are
settled : (m n : ℕ) → ordering_then (nat_cmp n m) (ordering_then (nat_cmp m n) Equal) ≡ nat_cmp n m
settled m n =
    ap (λ (r : Ordering). ordering_then (nat_cmp n m) r) (ended (nat_cmp m n) ∙ by_less m n)
    ∙ ap (λ (r : Ordering). ordering_then r (cond (nat_lt m n) Less (cond (nat_lt n m) Greater Equal))) (by_less n m)
    ∙ first_tells (nat_lt m n) (nat_lt n m) (not_both m n) ∙ sym (by_less n m)

pub int_keys : (m n : ℤ) → slice_cmp nat_cmp (int_key m) (int_key n) ≡ int_cmp m n
int_keys (pos m) (pos n) = ended (nat_cmp m n) ∙ by_less m n
int_keys (pos m) (negsuc n) = refl
int_keys (negsuc m) (pos n) = refl
int_keys (negsuc m) (negsuc n) =
    zeros (suc m) (suc n) (0 ∷ m ∷ []) (0 ∷ n ∷ []) ∙ ap (λ (r : Ordering). ordering_then r (slice_cmp nat_cmp (0 ∷ m ∷ []) (0 ∷ n ∷ []))) (next_down n m)
    ∙ settled m n ∙ by_less n m
  where
    next_down : (n m : ℕ) → nat_cmp (suc n) (suc m) ≡ nat_cmp n m
    next_down n m =
        ap₂ (λ (l e : Bool). cond l Less (cond e Equal Greater)) (grind (arith, nat_tests)) (grind (arith, nat_tests))

-- keys sort by the user, then by the number
pub key_order : (u v : List ℕ) (m n : ℤ) → has_no_zero u ≡ true → has_no_zero v ≡ true
    → slice_cmp nat_cmp (counter_key u m) (counter_key v n) ≡ ordering_then (slice_cmp nat_cmp u v) (int_cmp m n)
key_order u v m n p q =
    tails u v (int_key m) (int_key n) p q ∙ ap (ordering_then (slice_cmp nat_cmp u v)) (int_keys m n)

-- keys of tokens sort by the user, then by the number
pub keys_by_parts : (u v : List ℕ) (m n : ℤ) → IsTrue (is_token u) → IsTrue (is_token v)
    → is_lt (ordering_then (slice_cmp nat_cmp u v) (int_cmp m n)) ≡ is_key_before (counter_key u m) (counter_key v n)
keys_by_parts u v m n p q = ap is_lt (sym (key_order u v m n (token_plain u p) (token_plain v q)))

-- keys one after the other ----

two_tests_are : (a b c d : Bool) → (a ≡ true → b ≡ true → d ≡ true) → (a && (b && c)) ≡ ((a && d) && (b && c))
two_tests_are false b c d h = refl
two_tests_are true false c true h = refl
two_tests_are true false c false h = refl
two_tests_are true true c true h = refl
two_tests_are true true c false h = let wrong : false ≡ true = h refl refl in cc

earlier : (k x y : List ℕ) → is_key_before k x ≡ true → is_key_before x y ≡ true → is_key_before k y ≡ true
earlier k x y h g = ap is_lt (nat_list_cmp_total.trans k x y (less (slice_cmp nat_cmp k x) h) (less (slice_cmp nat_cmp x y) g))
  where
    less : (r : Ordering) → is_lt r ≡ true → r ≡ Less
    less Less e = refl
    less Equal e = cc
    less Greater e = cc

all_earlier : (k x : List ℕ) (xs : List (List ℕ)) → is_key_before k x ≡ true → list_all (is_key_before x) xs ≡ true → list_all (is_key_before k) xs ≡ true
all_earlier k x [] h all = refl
all_earlier k x (y ∷ ys) h all =
    let both = and_parts (is_key_before x y) (list_all (is_key_before x) ys) all in
    both_so (is_key_before k y) (list_all (is_key_before k) ys) (earlier k x y h both.0) (all_earlier k x ys h both.1)

module _ {A : Type 0} (key : A → List ℕ) where
  follow_all : (first : List ℕ) (xs : List A) → do_follow key (Some first) xs ≡ (list_all (is_key_before first) (map key xs) && do_keys_rise (map key xs))
  follow_all first [] = refl
  follow_all first (x ∷ xs) =
      ap (λ (b : Bool). is_key_before first (key x) && b) (follow_all (key x) xs)
      ∙ two_tests_are (is_key_before first (key x)) (list_all (is_key_before (key x)) (map key xs)) (do_keys_rise (map key xs)) (list_all (is_key_before first) (map key xs))
      (all_earlier first (key x) (map key xs))

  -- keys that follow one after the other rise
  pub follow_is : (xs : List A) → do_follow key None xs ≡ do_keys_rise (map key xs)
  follow_is [] = refl
  follow_is (x ∷ xs) = follow_all (key x) xs
