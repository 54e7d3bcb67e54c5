-- What the plain text of a field holds, or the field's name if it is bad.
use Rattle.std.specs.Prelude.{ℕ, List, Result}
use Rattle.std.specs.Option.{ok_or}
use Rattle.serde_json.specs.Data.{string}
use Rattle.iss_model.specs.declared.currency.Currency.{Currency}
use Rattle.iss_field.specs.declared.name.Name.{Name}
use Rattle.iss_field.specs.declared.name.Name.TheVariants as name
use Rattle.iss_field.specs.Values.{token_of, currency_value, amount_of, mcc_of}

-- the token of a field
abbrev pub token_known : Name → List ℕ → Result (List ℕ) Name
token_known name text = ok_or (token_of (string text)) name

-- the currency
abbrev pub currency_known : List ℕ → Result Currency Name
currency_known text = ok_or (currency_value (string text)) name.Currency

-- the amount
abbrev pub amount_known : Currency → List ℕ → Result ℕ Name
amount_known currency text = ok_or (amount_of currency (string text)) name.Amount

-- the merchant category code
abbrev pub mcc_known : List ℕ → Result ℕ Name
mcc_known text = ok_or (mcc_of (string text)) name.Mcc
