-- The laws of reading as the contracts have them.
use Rattle.std.proofs.Common.{◌≡◌, ℕ, true, List, [], ◌++◌, Some, None, refl, sym}
use Rattle.std.specs.Prelude.{IsTrue}
use Rattle.iss_model.specs.declared.currency.Currency.{Currency}
use Rattle.iss_model.specs.declared.input.Record.{Record}
use Rattle.iss_model.specs.Tokens.{is_token}
use Rattle.iss_model.specs.Forms.{is_amount}
use Rattle.iss_model.specs.Inputs.{with_length}
use Rattle.iss_model.specs.texts.Spelling.{AreBytes, amount_bytes, currency_bytes, spelling, is_record}
use Rattle.iss_codec.specs.Taking.{take_token, take_amount, take_currency}
use Rattle.iss_codec.specs.TakingRecords.{take_record, record_spelled}
use Rattle.iss_codec.specs.Meanings.{IsSpellingOf, BeginsWith}
use Rattle.iss_codec.proofs.TakenFields.{token_field}
use Rattle.iss_codec.proofs.TakenParts.{amount_field, currency_field}
use Rattle.iss_codec.proofs.TakenRecords.{record_takes, none_spelled, begins_none}

pub token_read : (text rest : List ℕ) → is_token text ≡ true → take_token (with_length text ++ rest) ≡ Some (text, rest)
token_read text rest h = token_field.again text rest h

pub amount_read : (n : ℕ) (rest : List ℕ) → is_amount n ≡ true → take_amount (amount_bytes n ++ rest) ≡ Some (n, rest)
amount_read n rest h = amount_field.again n rest h

pub currency_read : (c : Currency) (rest : List ℕ) → take_currency (currency_bytes c ++ rest) ≡ Some (c, rest)
currency_read c rest = currency_field.again c rest refl

pub record_back : (bytes rest : List ℕ) (r : Record) → AreBytes bytes → take_record bytes ≡ Some (r, rest) → BeginsWith r rest bytes
record_back bytes rest r fits e = let t = record_takes bytes (r, rest) fits e in (t.1, t.0.parts)

pub none_read : (bytes : List ℕ) (r : Record) → record_spelled bytes ≡ None → IsSpellingOf r bytes → ⊥
none_read bytes r none so = none_spelled bytes r none so.0 (sym so.1)

pub no_other : (r s : Record) (rest : List ℕ) → IsTrue (is_record s) → BeginsWith r rest (spelling s) → (s ≡ r) × (rest ≡ [])
no_other r s rest h begins = begins_none r s rest begins.0 h begins.1
