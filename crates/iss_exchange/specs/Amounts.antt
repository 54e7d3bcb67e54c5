-- Amounts as the code makes them: each of one call or notice.
use Rattle.std.specs.Prelude.{ℕ, Bool, not, ◌&&◌, List, Option, Some}
use Rattle.std.specs.List.{list_any}
use Rattle.iss_model.specs.declared.call.Notice.{Notice}
use Rattle.iss_model.specs.declared.call.Opened.{Opened}
use Rattle.iss_model.specs.declared.currency.Currency.{Currency}
use Rattle.iss_model.specs.Currencies.{same_currency}
use Rattle.iss_model.specs.texts.CallTokens.{call_uuid}
use Rattle.iss_gateway.specs.Books.{Books, is_noted, is_voided}
use Rattle.iss_laws.specs.CallEntries.{is_call}
use Rattle.iss_exchange_laws.specs.Gaps.{Amount, amount_if, funded_for}
use Rattle.iss_exchange.specs.declared.amounts.Amount.{Amount as Kept}

-- an amount, as definitions have it
abbrev pub shown_amount : Kept → Amount
shown_amount a = record { number = a.number; amount = a.amount }

-- what the gateway has funded for a call, if that is of the currency
abbrev pub amount_asked : ℕ → Books → Currency → Opened → Option Amount
amount_asked instance b c o = amount_if (same_currency o.currency c) o.call.0 (funded_for (call_uuid instance) b o.call.0)

-- one of these notices voids the call of a number
abbrev pub is_void_among : List Notice → ℕ → Bool
is_void_among notices number = list_any (λ n. is_call number n.call) notices

-- what the gateway has funded and not undone for a call, if that is of the currency and one of these notices voids it
abbrev pub amount_voided : ℕ → Books → List Notice → Currency → Opened → Option Amount
amount_voided instance b pending c o =
    amount_if (same_currency o.currency c && is_void_among pending o.call.0 && not (is_voided b (call_uuid instance o.call.0))) o.call.0
    (funded_for (call_uuid instance) b o.call.0)

-- the gateway's part of a notice, if that is of the currency and the gateway hasn't acted on it
abbrev pub amount_noted : Books → Currency → Notice → Option Amount
amount_noted b c n = amount_if (same_currency n.currency c && not (is_noted b n.number)) n.number (Some n.gateway)
