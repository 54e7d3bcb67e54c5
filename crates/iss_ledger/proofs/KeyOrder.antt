-- Keys compare as their parts do, one after the other.
use Rattle.std.proofs.Common.{◌≡◌, ℕ, Bool, true, false, cond, ◌&&◌, ◌==◌, nat_lt, nat_le, List, [], ◌∷◌, ◌++◌, length, refl, sym, ap, ◌∙◌, arith}
use Rattle.std.specs.List.{list_all}
use Rattle.std.specs.declared.cmp.Ordering.{Ordering}
use Rattle.std.specs.declared.cmp.Ordering.TheVariants.{Less, Equal, Greater}
use Rattle.std.specs.Ordering.{nat_cmp, ordering_then}
use Rattle.std.specs.Cmp.Lexicographic.{slice_cmp}
use Rattle.std.proofs.lemmas.Bool.Decides.{nat_tests}
use Rattle.iss_model.specs.Tokens.{is_token, is_token_byte}
use Rattle.iss_model.specs.declared.account.Account.{Account}
use Rattle.iss_model.specs.declared.account.Account.TheVariants as account
use Rattle.iss_model.specs.Sums.{account_key}
use Rattle.iss_ledger.specs.Keys.{kind_of, user_of, number_of, is_above_zero}

both : (a b : Bool) → (a && b) ≡ true → (a ≡ true) × (b ≡ true)
both true b h = (refl, h)
both false b h = cc

allowed_above : (b : ℕ) → is_token_byte b ≡ true → is_above_zero b ≡ true
allowed_above b h = grind (arith, nat_tests)

all_above : (bs : List ℕ) → list_all is_token_byte bs ≡ true → list_all is_above_zero bs ≡ true
all_above [] h = refl
all_above (b ∷ bs) h =
    let parts = both (is_token_byte b) (list_all is_token_byte bs) h in
    ap (λ (x : Bool). x && list_all is_above_zero bs) (allowed_above b parts.0) ∙ all_above bs parts.1

pub token_above : (bs : List ℕ) → is_token bs ≡ true → list_all is_above_zero bs ≡ true
token_above bs h = all_above bs (both (nat_le 1 (length bs) && nat_le (length bs) 36) (list_all is_token_byte bs) h).1

zero_below : (b : ℕ) → is_above_zero b ≡ true → nat_cmp 0 b ≡ Less
zero_below b h = ap (λ (x : Bool). cond x Less (cond (0 == b) Equal Greater)) h

zero_above : (b : ℕ) → is_above_zero b ≡ true → nat_cmp b 0 ≡ Greater
zero_above b h =
    let below : nat_lt b 0 ≡ false = grind (arith, nat_tests) in
    let apart : (b == 0) ≡ false = grind (arith, nat_tests) in
    ap (λ (x : Bool). cond x Less (cond (b == 0) Equal Greater)) below ∙ ap (λ (x : Bool). cond x Equal Greater) apart

ended : (r : Ordering) → ordering_then r Equal ≡ r
ended Less = refl
ended Equal = refl
ended Greater = refl

regrouped : (r s t : Ordering) → ordering_then (ordering_then r s) t ≡ ordering_then r (ordering_then s t)
regrouped Less s t = refl
regrouped Equal s t = refl
regrouped Greater s t = refl

tails : (u v : List ℕ) (c d : ℕ) → list_all is_above_zero u ≡ true → list_all is_above_zero v ≡ true
    → slice_cmp nat_cmp (u ++ 0 ∷ c ∷ []) (v ++ 0 ∷ d ∷ []) ≡ ordering_then (slice_cmp nat_cmp u v) (nat_cmp c d)
tails [] [] c d p q = ended (nat_cmp c d)
tails [] (y ∷ v) c d p q =
    ap (λ (r : Ordering). ordering_then r (slice_cmp nat_cmp (c ∷ []) (v ++ 0 ∷ d ∷ []))) (zero_below y (both (is_above_zero y) (list_all is_above_zero v) q).0)
tails (x ∷ u) [] c d p q =
    ap (λ (r : Ordering). ordering_then r (slice_cmp nat_cmp (u ++ 0 ∷ c ∷ []) (d ∷ []))) (zero_above x (both (is_above_zero x) (list_all is_above_zero u) p).0)
tails (x ∷ u) (y ∷ v) c d p q =
    ap (λ (r : Ordering). ordering_then (nat_cmp x y) r)
    (tails u v c d (both (is_above_zero x) (list_all is_above_zero u) p).1 (both (is_above_zero y) (list_all is_above_zero v) q).1)
    ∙ sym (regrouped (nat_cmp x y) (slice_cmp nat_cmp u v) (nat_cmp c d))

key_parts : (a : Account) → account_key a ≡ kind_of a ∷ (user_of a ++ 0 ∷ number_of a ∷ [])
key_parts (account.User user c) = refl
key_parts (account.Gateway c) = refl
key_parts (account.Programme c) = refl
key_parts (account.Network c) = refl

pub by_parts : (a b : Account) → list_all is_above_zero (user_of a) ≡ true → list_all is_above_zero (user_of b) ≡ true
    → slice_cmp nat_cmp (account_key a) (account_key b)
    ≡ ordering_then (nat_cmp (kind_of a) (kind_of b)) (ordering_then (slice_cmp nat_cmp (user_of a) (user_of b)) (nat_cmp (number_of a) (number_of b)))
by_parts a b p q =
    ap (λ (k : List ℕ). slice_cmp nat_cmp k (account_key b)) (key_parts a)
    ∙ ap (λ (k : List ℕ). slice_cmp nat_cmp (kind_of a ∷ (user_of a ++ 0 ∷ number_of a ∷ [])) k) (key_parts b)
    ∙ ap (λ (r : Ordering). ordering_then (nat_cmp (kind_of a) (kind_of b)) r) (tails (user_of a) (user_of b) (number_of a) (number_of b) p q)
