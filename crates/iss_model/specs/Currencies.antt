-- Currencies, by ISO 4217.
use Rattle.std.specs.Prelude.{ℕ, ◌^◌, Bool, ◌==◌, List, [], ◌∷◌, codes, find, Option}
use Rattle.std.specs.Str.{bytes_eq}
use Rattle.iss_model.specs.declared.currency.Currency.{Currency}
use Rattle.iss_model.specs.declared.currency.Currency.TheVariants.{Usd, Eur, Gbp, Cad, Aud, Jpy, Kwd}

-- the numeric code of a currency
abbrev pub iso_number : Currency → ℕ
iso_number Usd = 840
iso_number Eur = 978
iso_number Gbp = 826
iso_number Cad = 124
iso_number Aud = 36
iso_number Jpy = 392
iso_number Kwd = 414

-- the alphabetic code of a currency
abbrev pub currency_code : Currency → List ℕ
currency_code Usd = codes "USD"
currency_code Eur = codes "EUR"
currency_code Gbp = codes "GBP"
currency_code Cad = codes "CAD"
currency_code Aud = codes "AUD"
currency_code Jpy = codes "JPY"
currency_code Kwd = codes "KWD"

-- how many decimals a currency has, by its minor unit
abbrev pub decimals_of : Currency → ℕ
decimals_of Usd = 2
decimals_of Eur = 2
decimals_of Gbp = 2
decimals_of Cad = 2
decimals_of Aud = 2
decimals_of Jpy = 0
decimals_of Kwd = 3

-- how many minor units one whole unit has
abbrev pub unit_of : Currency → ℕ
unit_of c = 10 ^ decimals_of c

-- the currencies of the product
abbrev pub currencies : List Currency
currencies = Usd ∷ Eur ∷ Gbp ∷ Cad ∷ Aud ∷ Jpy ∷ Kwd ∷ []

-- the currency of an alphabetic code
abbrev pub currency_of : List ℕ → Option Currency
currency_of text = find (λ c. bytes_eq (currency_code c) text) currencies

-- two currencies are one
abbrev pub same_currency : Currency → Currency → Bool
same_currency a b = iso_number a == iso_number b
