-- What calls on the trees beside the books leave.
use Rattle.std.proofs.Common.{◌≡◌, ℕ, ◌==◌, ◌<◌, ◌^◌, ℤ, pos, neg_ℤ, ◌+ℤ◌, ◌-ℤ◌, w64, to_z, of_z, Bool, true, false, cond, ◌&&◌, List, refl, sym, ap, ap₂, ◌∙◌, subst, arith}
use Rattle.std.proofs.lemmas.Bool.Decides.{nat_tests}
use Rattle.std.proofs.lemmas.Int.{ints, to_z-of_z}
use Rattle.std.specs.Prelude.{Option, Some, None, IsSome, is_some, unwrap_or}
use Rattle.std.specs.declared.cmp.Ordering.{Ordering}
use Rattle.std.specs.declared.cmp.Ordering.TheVariants.{Less, Equal, Greater}
use Rattle.std.specs.Ordering.{nat_cmp, ordering_then, is_eq}
use Rattle.std.specs.Cmp.{unsigned_ties}
use Rattle.std.specs.Cmp.Lexicographic.{slice_cmp}
use Rattle.std.specs.Str.{bytes_eq}
use Rattle.std.specs.BTreeMap as tree
use Rattle.std.specs.BTreeMap.{BTreeMap, is_at}
use Rattle.std.proofs.lemmas.Map.Text.{is_eq-slice_cmp}
use Rattle.iss_model.specs.declared.currency.Currency.{Currency}
use Rattle.iss_model.specs.Currencies.{iso_number, same_currency}
use Rattle.iss_model.specs.Forms.{is_limit}
use Rattle.iss_model.proofs.Names.{one_name}
use Rattle.iss_gateway.specs.declared.books.Promise.{Promise}
use Rattle.iss_gateway.specs.declared.tokens.Known.{Known}
use Rattle.iss_gateway.specs.Books.{amount_or_none}
use Rattle.iss_gateway.specs.Tables.{by_token, unknown, known_in, known_placed, known_voided, by_user, sum_in, sum_with, is_low, undone_at}

-- ---- options

none_some : {A : Type 0} (o : Option A) → is_some o ≡ false → o ≡ None
none_some None h = refl
none_some (Some x) h = cc

-- a thing that begins as what stands for none is what it was
begun_by : {A : Type 0} (b : Bool) (none : A) (o : Option A) → (b ≡ true → o ≡ None) → unwrap_or (cond b (Some none) o) none ≡ unwrap_or o none
begun_by true none o h = ap (λ x. unwrap_or x none) (sym (h refl))
begun_by false none o h = refl

stands_by : {A : Type 0} (b : Bool) (x : A) (o : Option A) → IsSome o → IsSome (cond b (Some x) o)
stands_by true x o h = refl
stands_by false x o h = h

-- ---- tokens

pub token_test : (a b : List ℕ) → is_at (by_token a) b ≡ bytes_eq a b
token_test a b = is_eq-slice_cmp a b

pub begun_tokens : (m n : BTreeMap (List ℕ) Known) (token : List ℕ) → is_some (tree.get by_token m token) ≡ false → tree.Updates by_token m n token (Some unknown)
    → (t : List ℕ) → known_in n t ≡ known_in m t
begun_tokens m n token none u t =
    ap (λ (o : Option Known). unwrap_or o unknown) (u.0 t)
    ∙ begun_by (is_at (by_token token) t) unknown (tree.get by_token m t)
    (λ (e : is_at (by_token token) t ≡ true).
    ap (λ (k : List ℕ). tree.get by_token m k) (sym (one_name token t (sym (token_test token t) ∙ e))) ∙ none_some (tree.get by_token m token) none)

-- what is known after one token's has changed
changed_by : (change : Known → Known) (b : Bool) (at : Known) (o : Option Known) → (b ≡ true → at ≡ unwrap_or o unknown)
    → unwrap_or (cond b (Some (change at)) o) unknown ≡ cond b (change (unwrap_or o unknown)) (unwrap_or o unknown)
changed_by change true at o same = ap change (same refl)
changed_by change false at o same = refl

changed_tokens : (change : Known → Known) (m n : BTreeMap (List ℕ) Known) (token : List ℕ) (known : Known) → known ≡ known_in m token → tree.Updates by_token m n token (Some (change known))
    → (t : List ℕ) → known_in n t ≡ cond (bytes_eq token t) (change (known_in m t)) (known_in m t)
changed_tokens change m n token known is u t =
    ap (λ (o : Option Known). unwrap_or o unknown) (u.0 t)
    ∙ ap (λ (b : Bool). unwrap_or (cond b (Some (change known)) (tree.get by_token m t)) unknown) (token_test token t)
    ∙ changed_by change (bytes_eq token t) known (tree.get by_token m t) (λ (e : bytes_eq token t ≡ true). is ∙ ap (known_in m) (one_name token t e))

abbrev at_place : ℕ → Known → Known
at_place place known = record known { promise = Some place }

abbrev as_voided : Known → Known
as_voided known = record known { voided = true }

pub placed_tokens : (m n : BTreeMap (List ℕ) Known) (token : List ℕ) (place : ℕ) (known : Known) → known ≡ known_in m token
    → tree.Updates by_token m n token (Some (at_place place known)) → (t : List ℕ) → known_in n t ≡ known_placed token place t (known_in m t)
placed_tokens m n token place known is u t = changed_tokens (at_place place) m n token known is u t

pub voided_tokens : (m n : BTreeMap (List ℕ) Known) (token : List ℕ) (known : Known) → known ≡ known_in m token
    → tree.Updates by_token m n token (Some (as_voided known)) → (t : List ℕ) → known_in n t ≡ known_voided (Some token) t (known_in m t)
voided_tokens m n token known is u t = changed_tokens as_voided m n token known is u t

-- ---- sums

then_eq : (r s : Ordering) → is_eq (ordering_then r s) ≡ (is_eq r && is_eq s)
then_eq Less s = refl
then_eq Equal s = refl
then_eq Greater s = refl

-- two keys of users are one if both parts are
user_test : (a b : List ℕ × ℕ) → is_at (by_user a) b ≡ (bytes_eq a.0 b.0 && (a.1 == b.1))
user_test a b =
    then_eq (slice_cmp nat_cmp a.0 b.0) (nat_cmp a.1 b.1)
    ∙ ap₂ (λ (x y : Bool). x && y) (is_eq-slice_cmp a.0 b.0) (sym (unsigned_ties a.1 b.1))

both_true : (a b : Bool) → (a && b) ≡ true → (a ≡ true) × (b ≡ true)
both_true true b h = (refl, h)
both_true false b h = cc

one_number : (a b : ℕ) → (a == b) ≡ true → a ≡ b
one_number a b h = grind (arith, nat_tests)

same_user : (a b : List ℕ × ℕ) → (bytes_eq a.0 b.0 && (a.1 == b.1)) ≡ true → a ≡ b
same_user a b h =
    let parts = both_true (bytes_eq a.0 b.0) (a.1 == b.1) h in
    λ i. (one_name a.0 b.0 parts.0 i, one_number a.1 b.1 parts.1 i)

pub begun_sums : (m n : BTreeMap (List ℕ × ℕ) ℤ) (key : List ℕ × ℕ) → is_some (tree.get by_user m key) ≡ false → tree.Updates by_user m n key (Some (pos 0))
    → (k : List ℕ × ℕ) → sum_in n k ≡ sum_in m k
begun_sums m n key none u k =
    ap (λ (o : Option ℤ). unwrap_or o (pos 0)) (u.0 k)
    ∙ begun_by (is_at (by_user key) k) (pos 0) (tree.get by_user m k)
    (λ (e : is_at (by_user key) k ≡ true).
    ap (λ (at : List ℕ × ℕ). tree.get by_user m at) (sym (same_user key k (sym (user_test key k) ∙ e))) ∙ none_some (tree.get by_user m key) none)

pub sums_stay : (m n : BTreeMap (List ℕ × ℕ) ℤ) (key : List ℕ × ℕ) (sum : ℤ) → tree.Updates by_user m n key (Some sum)
    → (k : List ℕ × ℕ) → IsSome (tree.get by_user m k) → IsSome (tree.get by_user n k)
sums_stay m n key sum u k h =
    subst (λ (o : Option ℤ). IsSome o) (sym (u.0 k)) (stands_by (is_at (by_user key) k) sum (tree.get by_user m k) h)

added_by : (b : Bool) (amount at : ℤ) (o : Option ℤ) → (b ≡ true → at ≡ unwrap_or o (pos 0))
    → unwrap_or (cond b (Some (at +ℤ amount)) o) (pos 0) ≡ cond b (unwrap_or o (pos 0) +ℤ amount) (unwrap_or o (pos 0))
added_by true amount at o same = ap (λ (z : ℤ). z +ℤ amount) (same refl)
added_by false amount at o same = refl

pub added_sums : (m n : BTreeMap (List ℕ × ℕ) ℤ) (key : List ℕ × ℕ) (amount sum was : ℤ) → tree.Updates by_user m n key (Some sum) → was ≡ sum_in m key
    → sum ≡ was +ℤ amount → (k : List ℕ × ℕ) → sum_in n k ≡ sum_with key amount k (sum_in m k)
added_sums m n key amount sum was u at is k =
    ap (λ (o : Option ℤ). unwrap_or o (pos 0)) (u.0 k)
    ∙ ap₂ (λ (b : Bool) (z : ℤ). unwrap_or (cond b (Some z) (tree.get by_user m k)) (pos 0)) (user_test key k) (is ∙ ap (λ (z : ℤ). z +ℤ amount) at)
    ∙ added_by (bytes_eq key.0 k.0 && (key.1 == k.1)) amount (sum_in m key) (tree.get by_user m k) (λ (e : _ ≡ true). ap (sum_in m) (same_user key k e))

-- ---- what a promise had is taken off

off : (b : Bool) (old : ℤ) (n : ℕ) → cond b (old +ℤ neg_ℤ (pos n)) old ≡ old -ℤ cond b (pos n) (pos 0)
off true old n = omega (arith, ints)
off false old n = omega (arith, ints)

pub taken_off : (p : Promise) (key : List ℕ × ℕ) (amount : ℤ) (user : List ℕ) (c : Currency) (new old : ℤ) → key ≡ (p.user, iso_number p.currency)
    → amount ≡ neg_ℤ (amount_or_none p.funded) → new ≡ sum_with key amount (user, iso_number c) old → new ≡ old -ℤ undone_at (Some p) user c
taken_off p key amount user c new old k a e =
    e ∙ ap₂ (λ (at : List ℕ × ℕ) (z : ℤ). sum_with at z (user, iso_number c) old) k a
    ∙ off (bytes_eq p.user user && same_currency p.currency c) old (unwrap_or p.funded 0)

-- a low amount and its negative, as numbers of 64 bits
low_is_small : (o : Option ℕ) → is_low o ≡ true → unwrap_or o 0 < 2 ^ 63
low_is_small None h = omega arith
low_is_small (Some n) h = small n h
  where
    small : (n : ℕ) → is_limit n ≡ true → n < 2 ^ 63
    small n h = grind (arith, nat_tests)

as_bits : (amount : ℤ) (n : ℕ) → amount ≡ pos n → n < 2 ^ 63 → to_z w64 (of_z w64 amount) ≡ pos n
as_bits amount n e h = grind (arith, to_z-of_z)

less_as_bits : (amount : ℤ) (n : ℕ) → amount ≡ pos n → n < 2 ^ 63 → to_z w64 (of_z w64 (pos 0 -ℤ to_z w64 (of_z w64 amount))) ≡ neg_ℤ (pos n)
less_as_bits amount n e h =
    ap (λ (z : ℤ). to_z w64 (of_z w64 (pos 0 -ℤ z))) (as_bits amount n e h) ∙ grind (arith, ints, to_z-of_z)

pub less_of_low : (amount : ℤ) (o : Option ℕ) → amount ≡ amount_or_none o → is_low o ≡ true
    → to_z w64 (of_z w64 (pos 0 -ℤ to_z w64 (of_z w64 amount))) ≡ neg_ℤ (amount_or_none o)
less_of_low amount o e h = less_as_bits amount (unwrap_or o 0) e (low_is_small o h)
