-- How the balances of a state are listed.
use Rattle.std.specs.Prelude.{◌≡◌, ℕ, ◌+◌, ◌*◌, ℤ, pos, Bool, true, ◌&&◌, nat_le, List, [], ◌∷◌, find, is_some, option_map, unwrap_or}
use Rattle.std.specs.List.{list_all}
use Rattle.std.specs.Cmp.Lexicographic.{slice_cmp}
use Rattle.std.specs.declared.cmp.Ordering.{Ordering}
use Rattle.std.specs.Ordering.{int_eq, is_lt, nat_cmp, ordering_then}
use Rattle.std.specs.Str.{bytes_eq}
use Rattle.iss_model.specs.declared.account.Account.{Account}
use Rattle.iss_model.specs.declared.account.Account.TheVariants as account
use Rattle.iss_model.specs.declared.state.Saldo.{Saldo}
use Rattle.iss_model.specs.Sums.{account_key}
use Rattle.iss_model.specs.state.Kept.{Kept, kept_at}
use Rattle.iss_ledger.specs.Keys.{number_of, user_of}
use Rattle.iss_index.specs.Places.{place_of}
use Rattle.iss_states.specs.Keys.{is_named_by_token}
use Rattle.iss_balanced.specs.Owed.{are_in_key_order}
use Rattle.iss_bounded.specs.Many.{user_accounts}

-- the order of two accounts of one kind: by the user, then by the number of the currency
abbrev pub owner_order : Account → Account → Ordering
owner_order a b = ordering_then (slice_cmp nat_cmp (user_of a) (user_of b)) (nat_cmp (number_of a) (number_of b))

-- the user of an account has a token for a name and is among these, if the account is one's
abbrev pub is_named_among : List (List ℕ) → Account → Bool
is_named_among users (account.User user currency) = is_named_by_token (account.User user currency) && is_some (place_of user users)
is_named_among users _ = true

-- each account is
abbrev pub are_named_among : List (List ℕ) → List Saldo → Bool
are_named_among users bs = list_all (λ b. is_named_among users b.account) bs

-- users' accounts, with others of a number, are at most three for each record
abbrev pub are_few_accounts : ℕ → ℕ → List Saldo → Bool
are_few_accounts records others bs = nat_le (user_accounts bs + others) (3 * records)

-- Accounts are listed in the order of their keys, each of a user that is among these, and few are of users.
abbrev pub are_listed_well : List (List ℕ) → ℕ → ℕ → List Saldo → Bool
are_listed_well users records others bs = are_in_key_order bs && (are_named_among users bs && are_few_accounts records others bs)

-- accounts from this one on are in the order of their keys
abbrev pub rise_after : Account → List Saldo → Bool
rise_after a [] = true
rise_after a (b ∷ bs) = is_lt (slice_cmp nat_cmp (account_key a) (account_key b.account)) && rise_after b.account bs

-- the balance that is listed at a key, and 0 if none is
abbrev pub listed_at : List Saldo → List ℕ → ℤ
listed_at bs key = unwrap_or (option_map (λ b. b.amount) (find (λ b. bytes_eq (account_key b.account) key) bs)) (pos 0)

-- balances are listed at each key as they are kept
abbrev pub AreListedAs : List Saldo → Kept → Type 0
AreListedAs bs sums = (key : List ℕ) → listed_at bs key ≡ kept_at sums key

-- so they are at the key of each account
abbrev pub AreListedByAccount : List Saldo → Kept → Type 0
AreListedByAccount bs sums = (a : Account) → listed_at bs (account_key a) ≡ kept_at sums (account_key a)

-- An answer whether balances are listed as they are kept. If it is true, they are at each key. It is true if they are for each account.
pub record SaysListed (bs : List Saldo) (sums : Kept) (answer : Bool) : Type 0 where
  pub all : answer ≡ true → AreListedAs bs sums
  pub only : AreListedByAccount bs sums → answer ≡ true

-- What is left of a list and of what is kept agree at a key exactly if all did. What is left of the list is in order.
pub record IsLeft (bs : List Saldo) (sums : Kept) (rest : List Saldo) (left : Kept) : Type 0 where
  pub order : are_in_key_order rest ≡ true
  pub whole : (key : List ℕ) → listed_at rest key ≡ kept_at left key → listed_at bs key ≡ kept_at sums key
  pub part : (key : List ℕ) → listed_at bs key ≡ kept_at sums key → listed_at rest key ≡ kept_at left key

-- a balance is nothing
abbrev pub is_nothing : Saldo → Bool
is_nothing b = int_eq b.amount (pos 0)

-- An answer whether nothing is kept. If it is true, nothing is at any key, and it is true if nothing is at the key of any account.
pub record SaysNothing (sums : Kept) (answer : Bool) : Type 0 where
  pub all : answer ≡ true → (key : List ℕ) → kept_at sums key ≡ pos 0
  pub only : ((a : Account) → kept_at sums (account_key a) ≡ pos 0) → answer ≡ true
