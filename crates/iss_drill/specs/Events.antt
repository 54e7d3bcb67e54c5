-- The events of a drill, by their numbers from 1 on and by what is drawn for them.
use Rattle.std.specs.Prelude.{ℕ, zero, suc, ◌+◌, ◌*◌, ◌/◌, ◌%◌, ◌==◌, ◌&&◌, nat_lt, Bool, true, false, List, codes, if◌then◌else◌}
use Rattle.iss_model.specs.declared.currency.Currency.TheVariants.{Usd}
use Rattle.iss_model.specs.declared.input.Outcome.{Outcome}
use Rattle.iss_model.specs.declared.input.Outcome.TheVariants.{Funded, Refused, Connection}
use Rattle.iss_model.specs.declared.input.Input.{Input}
use Rattle.iss_model.specs.declared.input.Input.TheVariants as input
use Rattle.iss_drill.specs.declared.events.TheConstants.{GROCERIES}
use Rattle.iss_drill.specs.declared.run.TheConstants.{MINUTE}
use Rattle.iss_drill.specs.Names.{named}
use Rattle.iss_drill.specs.Generated.{drawn}

-- an event comes each minute
abbrev pub stamp_of : ℕ → ℕ
stamp_of i = MINUTE * i

-- the amount of an event, 0.01 to 50.00
abbrev pub amount_of : ℕ → ℕ
amount_of y = 1 + y % 5000

-- the transaction that a clearing or a reversal names: one of the events so far
abbrev pub past_event : ℕ → ℕ → List ℕ
past_event i y = named (codes "e") (1 + y / 8 % i)

-- a purchase by one of the ten cards at one of seven merchants
abbrev pub purchase : ℕ → ℕ → Input
purchase i y = input.Authorization (named (codes "e") i) (named (codes "k") (y / 8 % 10)) Usd (amount_of y) GROCERIES (named (codes "m") (y % 7)) false

-- a clearing that ends its transaction
abbrev pub clearing : ℕ → ℕ → Input
clearing i y = input.Clearing (named (codes "e") i) (past_event i y) Usd (amount_of y) true

-- a reversal
abbrev pub reversal : ℕ → ℕ → Input
reversal i y = input.Reversal (named (codes "e") i) (past_event i y) Usd (amount_of y)

-- of eight numbers that may be drawn, two make a clearing, one a reversal, and the others a purchase
unfoldable pub own_event : ℕ → ℕ → Input
own_event i y =
    if y % 8 == 4 then clearing i y
    else if y % 8 == 5 then clearing i y
    else if y % 8 == 6 then reversal i y
    else purchase i y

-- of eight numbers that may be drawn, one repeats the event before, if there is one
abbrev pub is_again : ℕ → Bool
is_again i = drawn i % 8 == 7 && nat_lt 1 i

-- the input of an event: its own, or that of the event before it; before the first one it is a time, which isn't taken
unfoldable pub event_input : ℕ → Input
event_input zero = input.Time
event_input (suc i) = if is_again (suc i) then event_input i else own_event (suc i) (drawn (suc i))

-- how the gateway answers the call of an event: of eleven numbers one means that it can't be reached, one refuses, the others fund
unfoldable pub outcome_of : ℕ → Outcome
outcome_of y = if y % 11 == 0 then Connection else if y % 11 == 1 then Refused else Funded
