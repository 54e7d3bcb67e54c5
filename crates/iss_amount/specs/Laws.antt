-- Amounts and their texts, both ways.
use Rattle.std.specs.Prelude.{◌≡◌, ℕ, ℤ, pos, IsTrue, IfSome, List, Option, Some}
use Rattle.iss_model.specs.declared.currency.Currency.{Currency}
use Rattle.iss_model.specs.Forms.{is_amount, is_limit}
use Rattle.iss_model.specs.Amounts.{amount_read, limit_read, amount_text}

-- the text of an amount is read as that amount, by an event's amount if it may be one, and by a limit likewise
pub record IsReadAgain (amount : ℤ) (c : Currency) : Type 0 where
  pub amount_again : (n : ℕ) → amount ≡ pos n → IsTrue (is_amount n) → amount_read (amount_text amount c) c ≡ Some n
  pub limit_again : (n : ℕ) → amount ≡ pos n → IsTrue (is_limit n) → limit_read (amount_text amount c) c ≡ Some n

-- the number that was read from a text, if any, has this very text
abbrev pub IsWrittenAgain : Option ℕ → List ℕ → Currency → Type 0
IsWrittenAgain number text c = IfSome number (λ n. amount_text (pos n) c ≡ text)
