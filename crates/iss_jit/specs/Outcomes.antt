-- What a gateway's answer to a call comes to.
use Rattle.std.specs.Prelude.{ℕ, ◌==◌, ◌&&◌, nat_lt, List, Bool, IsTrue, codes, Option, Some, None, option_and_then, if◌then◌else◌}
use Rattle.std.specs.Str.{bytes_eq, is_utf8}
use Rattle.serde_json.specs.Data.{Data}
use Rattle.serde_json.specs.Read.{read}
use Rattle.serde_json.specs.Find.{get, as_str, as_number, as_u64}
use Rattle.uuid.specs.Text.{parsed}
use Rattle.iss_model.specs.declared.call.Opened.{Opened}
use Rattle.iss_model.specs.declared.currency.Currency.{Currency}
use Rattle.iss_model.specs.declared.input.Outcome.{Outcome}
use Rattle.iss_model.specs.declared.input.Outcome.TheVariants.{Funded, Refused, Connection, Application, Partial}
use Rattle.iss_model.specs.Amounts.{amount_read, whole_amount_read}
use Rattle.iss_model.specs.rules.CardActs.{counts_as_part}
use Rattle.iss_model.specs.rules.Reasons.{is_some_with}
use Rattle.iss_model.specs.texts.CallTokens.{call_uuid}
use Rattle.iss_jit.specs.declared.answers.TheConstants.{FUNDED, REFUSED}

-- the JSON value that a body is: text in UTF-8, the whole of which is one value, as `serde_json` reads it
unfoldable pub json_of : List ℕ → Option Data
json_of body = if is_utf8 body then read body else None

-- a text that is a UUID in one of the four spellings that `uuid` parses
unfoldable pub uuid_of : Data → Option (List ℕ)
uuid_of d = option_and_then parsed (as_str d)

-- a whole number: one that JSON keeps as an unsigned 64-bit number
abbrev pub whole_of : Data → Option ℕ
whole_of d = option_and_then as_u64 (as_number d)

-- the amount that a text spells in a currency, or of this number of whole units of it if there is no text
abbrev pub text_or_units : Currency → Option (List ℕ) → Option ℕ → Option ℕ
text_or_units c (Some text) units = amount_read text c
text_or_units c None units = option_and_then (λ n. whole_amount_read n c) units

-- an amount in a currency: a text such as `10.00`, or a number of whole units
unfoldable pub amount_echoed : Currency → Data → Option ℕ
amount_echoed c d = text_or_units c (as_str d) (whole_of d)

-- the value is an object whose last member `token` is the UUID of this call
unfoldable pub has_token : ℕ → Opened → Data → Bool
has_token instance o d = is_some_with (λ id. bytes_eq id (call_uuid instance o.call.0)) (option_and_then uuid_of (get (codes "token") d))

-- the amount that the value's last member `amount` holds, if it is an object
unfoldable pub amount_said : Currency → Data → Option ℕ
amount_said c d = option_and_then (amount_echoed c) (get (codes "amount") d)

-- what a funded amount comes to: the call's own funds it, and a smaller one a part of it if the call permits that
abbrev pub outcome_of_amount : Opened → Option ℕ → Outcome
outcome_of_amount o None = Application
outcome_of_amount o (Some amount) =
    if amount == o.amount then Funded
    else if o.partial && nat_lt amount o.amount then Partial o.currency amount
    else Application

-- what the value of a gateway that funds comes to: it has the token of this call, and an amount
unfoldable pub outcome_of_value : ℕ → Opened → Data → Outcome
outcome_of_value instance o d = if has_token instance o d then outcome_of_amount o (amount_said o.currency d) else Application

-- what a body of a gateway that funds comes to, if it is JSON
abbrev pub outcome_of_json : ℕ → Opened → Option Data → Outcome
outcome_of_json instance o None = Application
outcome_of_json instance o (Some d) = outcome_of_value instance o d

-- `Funded` or `Partial` if the status is `FUNDED` and the body funds the call or a part of it, `Refused` if the status is `REFUSED`, and else
-- no answer that decides
unfoldable pub outcome_of : ℕ → Opened → ℕ → List ℕ → Outcome
outcome_of instance o status body =
    if status == REFUSED then Refused
    else if status == FUNDED then outcome_of_json instance o (json_of body)
    else Application

-- if the outcome is a part, it is one that counts
abbrev pub CountsIfPart : Opened → Outcome → Type 0
CountsIfPart o Funded = Unit {0}
CountsIfPart o Refused = Unit {0}
CountsIfPart o Connection = Unit {0}
CountsIfPart o Application = Unit {0}
CountsIfPart o (Partial currency amount) = IsTrue (counts_as_part o currency amount)
