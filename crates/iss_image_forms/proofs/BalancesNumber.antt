-- How many balances a state has: those of users, and at most three for each currency beside them.
use Rattle.std.proofs.Common.{◌≡◌, ◌+◌, ◌≤◌, ◌∷◌, ap, arith, Bool, cond, false, length, List, [], map, refl, suc, sym, true, ℕ, ◌∙◌}
use Rattle.std.specs.List.{list_all}
use Rattle.std.specs.Cmp.Lexicographic.{slice_cmp}
use Rattle.std.specs.declared.cmp.Ordering.{Ordering}
use Rattle.std.specs.declared.cmp.Ordering.TheVariants.{Less, Equal, Greater}
use Rattle.std.specs.Ordering.{is_eq, is_lt, nat_cmp}
use Rattle.std.specs.Str.{bytes_eq}
use Rattle.std.proofs.lemmas.Bool.{and_parts}
use Rattle.std.proofs.lemmas.Map.Text.{is_eq-slice_cmp}
use Rattle.iss_model.specs.declared.account.Account.{Account}
use Rattle.iss_model.specs.declared.account.Account.TheVariants as account
use Rattle.iss_model.specs.declared.currency.Currency.{Currency}
use Rattle.iss_model.specs.declared.currency.Currency.TheVariants.{Aud, Cad, Eur, Gbp, Jpy, Kwd, Usd}
use Rattle.iss_model.specs.declared.state.Saldo.{Saldo}
use Rattle.iss_model.specs.Sums.{account_key}
use Rattle.iss_model.proofs.Names.{name-sym, one_name}
use Rattle.iss_named.specs.Balances.{place_of_balance}
use Rattle.iss_named.specs.Known.{do_keys_rise, is_key_before}
use Rattle.iss_bounded.specs.Many.{is_of_user, user_accounts}

-- a key isn't one that it comes before
pub other_key : (key other : List ℕ) → is_key_before key other ≡ true → bytes_eq key other ≡ false
other_key key other h = sym (is_eq-slice_cmp key other) ∙ by (slice_cmp nat_cmp key other) h
  where
    by : (r : Ordering) → is_lt r ≡ true → is_eq r ≡ false
    by Less h = refl
    by Equal h = cc
    by Greater h = cc

-- how many balances stand at a key
abbrev times_at : List ℕ → List Saldo → ℕ
times_at key [] = 0
times_at key (b ∷ bs) = cond (bytes_eq (account_key b.account) key) 1 0 + times_at key bs

none_at : (key : List ℕ) (bs : List Saldo) → list_all (is_key_before key) (map place_of_balance bs) ≡ true → times_at key bs ≡ 0
none_at key [] h = refl
none_at key (b ∷ bs) h =
    let both = and_parts (is_key_before key (account_key b.account)) (list_all (is_key_before key) (map place_of_balance bs)) h in
    one (bytes_eq (account_key b.account) key) (name-sym (account_key b.account) key ∙ other_key key (account_key b.account) both.0) (none_at key bs both.1)
  where
    one : (same : Bool) → same ≡ false → times_at key bs ≡ 0 → cond same 1 0 + times_at key bs ≡ 0
    one true e rest = cc
    one false e rest = omega (arith, rest)

once_at : (key : List ℕ) (bs : List Saldo) → do_keys_rise (map place_of_balance bs) ≡ true → times_at key bs ≤ 1
once_at key [] h = omega arith
once_at key (b ∷ bs) h =
    let both = and_parts (list_all (is_key_before (account_key b.account)) (map place_of_balance bs)) (do_keys_rise (map place_of_balance bs)) h in
    by (bytes_eq (account_key b.account) key) refl both.0 (once_at key bs both.1)
  where
    by : (same : Bool) → bytes_eq (account_key b.account) key ≡ same → list_all (is_key_before (account_key b.account)) (map place_of_balance bs) ≡ true → times_at key bs ≤ 1
        → cond same 1 0 + times_at key bs ≤ 1
    by true e before rest =
        let none : times_at key bs ≡ 0 = ap (λ (k : List ℕ). times_at k bs) (sym (one_name (account_key b.account) key e)) ∙ none_at (account_key b.account) bs before in
        omega (arith, none)
    by false e before rest = omega (arith, rest)

-- how many balances stand at these keys
abbrev times_at_all : List (List ℕ) → List Saldo → ℕ
times_at_all [] bs = 0
times_at_all (key ∷ keys) bs = times_at key bs + times_at_all keys bs

no_more_than_keys : (keys : List (List ℕ)) (bs : List Saldo) → do_keys_rise (map place_of_balance bs) ≡ true → times_at_all keys bs ≤ length keys
no_more_than_keys [] bs h = omega arith
no_more_than_keys (key ∷ keys) bs h = omega (arith, once_at key bs h, no_more_than_keys keys bs h)

-- how often a key stands among keys
abbrev times_among : List ℕ → List (List ℕ) → ℕ
times_among own [] = 0
times_among own (key ∷ keys) = cond (bytes_eq own key) 1 0 + times_among own keys

times_of_first : (keys : List (List ℕ)) (b : Saldo) (bs : List Saldo) → times_at_all keys (b ∷ bs) ≡ times_among (account_key b.account) keys + times_at_all keys bs
times_of_first [] b bs = refl
times_of_first (key ∷ keys) b bs = omega (arith, times_of_first keys b bs)

-- the keys of the accounts of these currencies that aren't users'
abbrev keys_in : List Currency → List (List ℕ)
keys_in [] = []
keys_in (c ∷ cs) = account_key (account.Gateway c) ∷ account_key (account.Network c) ∷ account_key (account.Programme c) ∷ keys_in cs

-- the keys of all accounts that aren't users'
abbrev other_keys : List (List ℕ)
other_keys = keys_in (Usd ∷ Eur ∷ Gbp ∷ Cad ∷ Aud ∷ Jpy ∷ Kwd ∷ [])

gateway_once : (c : Currency) → times_among (account_key (account.Gateway c)) other_keys ≡ 1
gateway_once Usd = refl
gateway_once Eur = refl
gateway_once Gbp = refl
gateway_once Cad = refl
gateway_once Aud = refl
gateway_once Jpy = refl
gateway_once Kwd = refl

network_once : (c : Currency) → times_among (account_key (account.Network c)) other_keys ≡ 1
network_once Usd = refl
network_once Eur = refl
network_once Gbp = refl
network_once Cad = refl
network_once Aud = refl
network_once Jpy = refl
network_once Kwd = refl

programme_once : (c : Currency) → times_among (account_key (account.Programme c)) other_keys ≡ 1
programme_once Usd = refl
programme_once Eur = refl
programme_once Gbp = refl
programme_once Cad = refl
programme_once Aud = refl
programme_once Jpy = refl
programme_once Kwd = refl

-- an account is a user's, or its key is one of those
one_of_both : (a : Account) → 1 ≤ cond (is_of_user a) 1 0 + times_among (account_key a) other_keys
one_of_both (account.Gateway c) = omega (arith, gateway_once c)
one_of_both (account.Network c) = omega (arith, network_once c)
one_of_both (account.Programme c) = omega (arith, programme_once c)
one_of_both (account.User user c) = omega arith

users_and_others : (bs : List Saldo) → length bs ≤ user_accounts bs + times_at_all other_keys bs
users_and_others [] = omega arith
users_and_others (b ∷ bs) =
    sum (length bs) (user_accounts bs) (times_at_all other_keys bs) (cond (is_of_user b.account) 1 0) (times_among (account_key b.account) other_keys) (times_at_all other_keys (b ∷ bs))
    (users_and_others bs) (one_of_both b.account) (times_of_first other_keys b bs)
  where
    sum : (n u t x y z : ℕ) → n ≤ u + t → 1 ≤ x + y → z ≡ y + t → suc n ≤ (x + u) + z
    sum n u t x y z h k e = omega (arith, h, k, e)

-- balances that stand once each are at most those of users and 21 more
pub number_of_balances : (bs : List Saldo) → do_keys_rise (map place_of_balance bs) ≡ true → length bs ≤ user_accounts bs + 21
number_of_balances bs h = sum (length bs) (user_accounts bs) (times_at_all other_keys bs) (users_and_others bs) (no_more_than_keys other_keys bs h)
  where
    sum : (n u t : ℕ) → n ≤ u + t → t ≤ 21 → n ≤ u + 21
    sum n u t h k = omega (arith, h, k)
