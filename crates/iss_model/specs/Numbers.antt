-- Things of a few by their numbers, as records and keys have them.
use Rattle.std.specs.Prelude.{ℕ, Bool, true, false, ◌==◌, List, [], ◌∷◌, find, Option, Some, None, if◌then◌else◌}
use Rattle.iss_model.specs.declared.currency.Currency.{Currency}
use Rattle.iss_model.specs.declared.setting.Funding.{Funding}
use Rattle.iss_model.specs.declared.setting.Funding.TheVariants as funding
use Rattle.iss_model.specs.declared.setting.Window.{Window}
use Rattle.iss_model.specs.declared.setting.Window.TheVariants as window
use Rattle.iss_model.specs.declared.setting.CardState.{CardState}
use Rattle.iss_model.specs.declared.setting.CardState.TheVariants as card_state
use Rattle.iss_model.specs.declared.setting.UserState.{UserState}
use Rattle.iss_model.specs.declared.setting.UserState.TheVariants as user_state
use Rattle.iss_model.specs.declared.input.Outcome.{Outcome}
use Rattle.iss_model.specs.declared.input.Outcome.TheVariants as outcome
use Rattle.iss_model.specs.declared.account.Part.{Part}
use Rattle.iss_model.specs.declared.account.Part.TheVariants as part
use Rattle.iss_model.specs.Currencies.{iso_number, currencies}
use Rattle.iss_model.specs.Inputs.{funding_number, window_number, card_state_number, user_state_number, outcome_number}
use Rattle.iss_model.specs.Sums.{part_number}

-- the thing of this number among these
abbrev pub of_number : {A : Type 0} → (A → ℕ) → List A → ℕ → Option A
of_number number things n = find (λ thing. number thing == n) things

-- the currency of a numeric code
abbrev pub currency_numbered : ℕ → Option Currency
currency_numbered n = of_number iso_number currencies n

-- who may fund
abbrev pub fundings : List Funding
fundings = funding.Account ∷ funding.Gateway ∷ []

-- all windows
abbrev pub windows : List Window
windows = window.Transaction ∷ window.Day ∷ window.Week ∷ window.Month ∷ window.Lifetime ∷ []

-- all states of a card
abbrev pub card_states : List CardState
card_states = card_state.Unactivated ∷ card_state.Active ∷ card_state.Suspended ∷ card_state.Terminated ∷ []

-- all states of a user
abbrev pub user_states : List UserState
user_states = user_state.Active ∷ user_state.Suspended ∷ user_state.Closed ∷ []

-- the outcomes of a call that a number alone says: all but a part
abbrev pub outcomes : List Outcome
outcomes = outcome.Funded ∷ outcome.Refused ∷ outcome.Connection ∷ outcome.Application ∷ []

-- all parts of a hold
abbrev pub parts : List Part
parts = part.G ∷ part.P ∷ part.S ∷ []

-- who funds, by number
abbrev pub funding_numbered : ℕ → Option Funding
funding_numbered n = of_number funding_number fundings n

-- a window by its number
abbrev pub window_numbered : ℕ → Option Window
window_numbered n = of_number window_number windows n

-- a card's state by its number
abbrev pub card_state_numbered : ℕ → Option CardState
card_state_numbered n = of_number card_state_number card_states n

-- a user's state by its number
abbrev pub user_state_numbered : ℕ → Option UserState
user_state_numbered n = of_number user_state_number user_states n

-- a gateway's outcome by its number, if that says it whole
abbrev pub outcome_numbered : ℕ → Option Outcome
outcome_numbered n = of_number outcome_number outcomes n

-- a part of a hold by its number
abbrev pub part_numbered : ℕ → Option Part
part_numbered n = of_number part_number parts n

-- true or false as a number
abbrev pub flag_number : Bool → ℕ
flag_number b = if b then 1 else 0

-- true or false by its number
abbrev pub flag_numbered : ℕ → Option Bool
flag_numbered n = if n == 0 then Some false else if n == 1 then Some true else None
