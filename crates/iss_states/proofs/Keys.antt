-- A key is read again: an account, a user with a number, a product's user on a day.
use Rattle.std.proofs.Common.{◌≡◌, ℕ, zero, suc, ℤ, pos, negsuc, true, List, [], ◌∷◌, ◌++◌, replicate, refl, ap, ap₂, ◌∙◌}
use Rattle.std.proofs.lemmas.List.Sums.{fold-append}
use Rattle.iss_model.specs.declared.account.Account.{Account}
use Rattle.iss_model.specs.declared.account.Account.TheVariants as account
use Rattle.iss_model.specs.declared.currency.Currency.{Currency}
use Rattle.iss_model.specs.declared.currency.Currency.TheVariants.{Usd, Eur, Gbp, Cad, Aud, Jpy, Kwd}
use Rattle.iss_model.specs.Currencies.{iso_number}
use Rattle.iss_model.specs.Sums.{account_key, int_key}
use Rattle.iss_model.specs.rules.Controls.{counter_key}
use Rattle.iss_states.specs.Keys.{account_of_key, after_token, currency_numbered, first_token, has_no_zero, int_of_key, is_named_by_token, last_number}

first_again : (text rest : List ℕ) → has_no_zero text ≡ true → first_token (text ++ 0 ∷ rest) ≡ text
first_again [] rest h = refl
first_again (zero ∷ text) rest h = cc
first_again (suc n ∷ text) rest h = ap (λ (t : List ℕ). suc n ∷ t) (first_again text rest h)

after_again : (text rest : List ℕ) → has_no_zero text ≡ true → after_token (text ++ 0 ∷ rest) ≡ rest
after_again [] rest h = refl
after_again (zero ∷ text) rest h = cc
after_again (suc n ∷ text) rest h = after_again text rest h

last_again : (key : List ℕ) (n m : ℕ) → last_number (key ++ n ∷ m ∷ []) ≡ m
last_again key n m = fold-append (λ last n. n) 0 key (n ∷ m ∷ [])

currency_again : (c : Currency) → currency_numbered (iso_number c) ≡ c
currency_again Usd = refl
currency_again Eur = refl
currency_again Gbp = refl
currency_again Cad = refl
currency_again Aud = refl
currency_again Jpy = refl
currency_again Kwd = refl

int_again : (z : ℤ) → int_of_key (int_key z) ≡ z
int_again (pos n) = refl
int_again (negsuc m) = ap negsuc (fold-append (λ last n. n) 0 (replicate m 0) (1 ∷ 0 ∷ m ∷ []))

pub account_again : (a : Account) → is_named_by_token a ≡ true → account_of_key (account_key a) ≡ a
account_again (account.Gateway c) h = ap account.Gateway (currency_again c)
account_again (account.Network c) h = ap account.Network (currency_again c)
account_again (account.Programme c) h = ap account.Programme (currency_again c)
account_again (account.User user c) h =
    ap₂ account.User (first_again user (iso_number c ∷ []) h) (ap currency_numbered (last_again user 0 (iso_number c)) ∙ currency_again c)

pub user_again : (user : List ℕ) (n : ℤ) → has_no_zero user ≡ true → first_token (counter_key user n) ≡ user
user_again user n h = first_again user (int_key n) h

pub number_again : (user : List ℕ) (n : ℤ) → has_no_zero user ≡ true → int_of_key (after_token (counter_key user n)) ≡ n
number_again user n h = ap int_of_key (after_again user (int_key n) h) ∙ int_again n
