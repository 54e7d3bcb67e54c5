-- An account with its balance: what is taken was spelled so, and what is spelled so is taken.
use Rattle.std.proofs.Common.{◌≡◌, ℕ, Bool, true, List, [], ◌∷◌, ◌++◌, Option, Some, refl, sym, ap, subst, ◌∙◌, append_assoc}
use Rattle.std.proofs.lemmas.Bool.{and_parts}
use Rattle.std.proofs.lemmas.Option.{same_Some}
use Rattle.iss_model.specs.declared.account.Account.{Account}
use Rattle.iss_model.specs.declared.account.Account.TheVariants as account
use Rattle.iss_model.specs.declared.currency.Currency.{Currency}
use Rattle.iss_model.specs.declared.state.Saldo.{Saldo}
use Rattle.iss_model.specs.texts.Spelling.{AreBytes, currency_bytes}
use Rattle.iss_codec.specs.Taking.{take_byte, take_currency}
use Rattle.iss_codec.proofs.TakenFields.{by_byte, bind_some, either_way, IsSplit, IsField}
use Rattle.iss_codec.proofs.TakenParts.{currency_field}
use Rattle.iss_codec.proofs.TakenChoices.{byte_before, at_byte}
use Rattle.iss_image_lists.specs.Spelling.{signed_bytes, account_bytes, balance_bytes, balances_bytes}
use Rattle.iss_image_lists.specs.Taking.{take_common_account, take_user_account, take_account_by, take_account, take_balance, take_balances}
use Rattle.iss_image_lists.specs.Forms.{is_signed, is_account, is_balance, are_balances}
use Rattle.iss_image_lists.proofs.Steps.{step, start, again_step}
use Rattle.iss_image_lists.proofs.ListFields.{list_field}
use Rattle.iss_image_lists.proofs.PartFields.{signed_field}

-- `name` is the field of a token, however it is spelled
module _ {take_name : List ℕ → Option (List ℕ × List ℕ)} {name_bytes : List ℕ → List ℕ} {is_name : List ℕ → Bool} (name : IsField take_name name_bytes is_name) where
  -- an account that is made of its currency alone, after its byte
  common_takes : (make : Currency → Account) (byte : ℕ) → ((c : Currency) → account_bytes name_bytes (make c) ≡ byte ∷ currency_bytes c) → ((c : Currency) → is_account is_name (make c) ≡ true)
      → (bytes : List ℕ) (x : Account × List ℕ) → AreBytes bytes → take_common_account make bytes ≡ Some x → IsSplit (byte ∷ bytes) (account_bytes name_bytes x.0) x.1 × (is_account is_name x.0 ≡ true)
  unfolding take_common_account
  common_takes make byte is_text is_form bytes x fits e =
      let a = bind_some (take_currency bytes) _ x e in
      let t = currency_field.takes bytes a.0 fits a.1 in
      subst (λ (y : Account × List ℕ). IsSplit (byte ∷ bytes) (account_bytes name_bytes y.0) y.1 × (is_account is_name y.0 ≡ true)) (same_Some (make a.0.0, a.0.1) x a.2)
      (subst (λ (l : List ℕ). IsSplit (byte ∷ bytes) l a.0.1) (sym (is_text a.0.0)) (byte_before byte bytes _ a.0.1 t.0), is_form a.0.0)

  user_takes : (bytes : List ℕ) (x : Account × List ℕ) → AreBytes bytes → take_user_account take_name bytes ≡ Some x → IsSplit (4 ∷ bytes) (account_bytes name_bytes x.0) x.1 × (is_account is_name x.0 ≡ true)
  unfolding take_user_account
  user_takes bytes x fits e =
      step name bytes [] bytes _ x (start bytes fits) e (λ user r1 s1 h1 e1.
      step currency_field bytes _ r1 _ x s1 e1 (λ currency r2 s2 h2 e2.
      subst (λ (y : Account × List ℕ). IsSplit (4 ∷ bytes) (account_bytes name_bytes y.0) y.1 × (is_account is_name y.0 ≡ true)) (same_Some (account.User user currency, r2) x e2)
      (byte_before 4 bytes _ r2 s2, h1)))

  account_by_takes : (byte : ℕ) (bytes : List ℕ) (x : Account × List ℕ) → AreBytes bytes → take_account_by take_name byte bytes ≡ Some x
      → IsSplit (byte ∷ bytes) (account_bytes name_bytes x.0) x.1 × (is_account is_name x.0 ≡ true)
  account_by_takes byte bytes x fits e =
      either_way _ _ _ (Some x) (λ is e. at_byte (account_bytes name_bytes) (is_account is_name) byte 1 bytes x is (common_takes account.Gateway 1 (λ c. refl) (λ c. refl) bytes x fits e)) (
      either_way _ _ _ (Some x) (λ is e. at_byte (account_bytes name_bytes) (is_account is_name) byte 2 bytes x is (common_takes account.Network 2 (λ c. refl) (λ c. refl) bytes x fits e)) (
      either_way _ _ _ (Some x) (λ is e. at_byte (account_bytes name_bytes) (is_account is_name) byte 3 bytes x is (common_takes account.Programme 3 (λ c. refl) (λ c. refl) bytes x fits e)) (
      either_way _ _ _ (Some x) (λ is e. at_byte (account_bytes name_bytes) (is_account is_name) byte 4 bytes x is (user_takes bytes x fits e)) (
      λ e. absurd cc)))) e

  account_again : (x : Account) (rest : List ℕ) → is_account is_name x ≡ true → take_account take_name (account_bytes name_bytes x ++ rest) ≡ Some (x, rest)
  unfolding take_account take_common_account take_user_account take_byte
  account_again (account.Gateway currency) rest h = rw (currency_field.again currency rest refl) refl
  account_again (account.Network currency) rest h = rw (currency_field.again currency rest refl) refl
  account_again (account.Programme currency) rest h = rw (currency_field.again currency rest refl) refl
  account_again (account.User user currency) rest h =
      ap (λ t. take_account take_name (4 ∷ t)) (append_assoc (name_bytes user) (currency_bytes currency) rest)
      ∙ rw (name.again user (currency_bytes currency ++ rest) h, currency_field.again currency rest refl) refl

  account_field : IsField (take_account take_name) (account_bytes name_bytes) (is_account is_name)
  unfolding take_account
  account_field = record { takes = by_byte (take_account_by take_name) (account_bytes name_bytes) (is_account is_name) account_by_takes; again = account_again }

  balance_field : IsField (take_balance take_name) (balance_bytes name_bytes) (is_balance is_name)
  unfolding take_balance
  balance_field =
      record {
        takes = λ bytes x fits e.
            step account_field bytes [] bytes _ x (start bytes fits) e (λ account r1 s1 h1 e1.
            step signed_field bytes _ r1 _ x s1 e1 (λ amount r2 s2 h2 e2.
            subst (λ (y : Saldo × List ℕ). IsSplit bytes (balance_bytes name_bytes y.0) y.1 × (is_balance is_name y.0 ≡ true)) (same_Some _ x e2) (s2, rw (h1, h2) refl)));
        again = λ b rest h.
            let p = and_parts (is_account is_name b.account) (is_signed b.amount) h in
            ap (take_balance take_name) (append_assoc (account_bytes name_bytes b.account) (signed_bytes b.amount) rest)
            ∙ again_step account_field b.account _ _ _ p.0 (again_step signed_field b.amount _ _ _ p.1 refl);
      }

  pub balances_field : IsField (take_balances take_name) (balances_bytes name_bytes) (are_balances is_name)
  balances_field = list_field balance_field
