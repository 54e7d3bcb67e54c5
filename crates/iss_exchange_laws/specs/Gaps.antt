-- What the books of the two sides differ by: money that is on its way between them.
use Rattle.std.specs.Prelude.{ℕ, ℤ, pos, ◌+ℤ◌, Bool, not, ◌&&◌, List, Option, Some, None, option_and_then, if◌then◌else◌}
use Rattle.std.specs.List.{filter_map, list_any}
use Rattle.iss_model.specs.declared.currency.Currency.{Currency}
use Rattle.iss_model.specs.Currencies.{same_currency}
use Rattle.iss_model.specs.rules.Activity.{is_asked}
use Rattle.iss_model.specs.rules.Facts.{Facts}
use Rattle.iss_gateway.specs.declared.books.Promise.{Promise}
use Rattle.iss_gateway.specs.Books.{Books, is_noted, is_voided, promise_of}
use Rattle.iss_gateway_laws.specs.Accounts.{sum_over}
use Rattle.iss_laws.specs.CallEntries.{is_call}

-- an amount, by the number of its call or notice
pub record Amount : Type 0 where
  pub number : ℕ
  pub amount : ℕ

-- an amount, if a test holds and there is one
abbrev pub amount_if : Bool → ℕ → Option ℕ → Option Amount
amount_if test number None = None
amount_if test number (Some amount) = if test then Some (record { number = number; amount = amount }) else None

-- what was funded by a promise
abbrev pub funded_by : Option Promise → Option ℕ
funded_by promise = option_and_then (λ p. p.funded) promise

-- what the gateway funded for a call, by the call's token
abbrev pub funded_for : (ℕ → List ℕ) → Books → ℕ → Option ℕ
funded_for token b number = funded_by (promise_of b (token number))

-- a notice that isn't acknowledged voids the call
abbrev pub is_void_pending : Facts → ℕ → Bool
is_void_pending f number = list_any (λ n. is_call number n.call) f.pending

-- The first list, by the number of a call: what the gateway has funded for calls that are asked.
abbrev pub asked_gap : (ℕ → List ℕ) → Facts → Books → Currency → List Amount
asked_gap token f b c =
    filter_map (λ call. amount_if (same_currency call.opened.currency c && is_asked call) call.opened.call.0 (funded_for token b call.opened.call.0)) f.calls

-- The second one, by the number of a call: what it has funded and not undone for calls whose void isn't acknowledged.
abbrev pub voided_gap : (ℕ → List ℕ) → Facts → Books → Currency → List Amount
voided_gap token f b c =
    filter_map (λ call. amount_if (same_currency call.opened.currency c && is_void_pending f call.opened.call.0 && not (is_voided b (token call.opened.call.0)))
    call.opened.call.0 (funded_for token b call.opened.call.0)) f.calls

-- The third one, by the number of a notice: the gateway parts of unacknowledged notices on which it hasn't acted.
abbrev pub noted_gap : Facts → Books → Currency → List Amount
noted_gap f b c = filter_map (λ n. amount_if (same_currency n.currency c && not (is_noted b n.number)) n.number (Some n.gateway)) f.pending

-- the sum of amounts
abbrev pub sum_of : List Amount → ℤ
sum_of amounts = sum_over (λ a. pos a.amount) amounts

-- the three lists together
abbrev pub gap : (ℕ → List ℕ) → Facts → Books → Currency → ℤ
gap token f b c = sum_of (asked_gap token f b c) +ℤ sum_of (voided_gap token f b c) +ℤ sum_of (noted_gap f b c)
