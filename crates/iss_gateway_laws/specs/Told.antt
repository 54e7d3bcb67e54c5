-- What the gateway alone gives stands in the book by a record that says so: that a call is funded, in part or whole, or refused, and that a
-- notice is acknowledged.
use Rattle.std.specs.Prelude.{◌≡◌, ℕ, ◌-◌, Bool, true, false, ◌&&◌, ◌==◌, List, Option, Some, None, slice_get}
use Rattle.std.specs.List.{list_all}
use Rattle.iss_model.specs.declared.call.How.TheVariants as how
use Rattle.iss_model.specs.declared.entry.Entry.{Entry}
use Rattle.iss_model.specs.declared.entry.Entry.TheVariants as entry
use Rattle.iss_model.specs.declared.entry.Row.{Row}
use Rattle.iss_model.specs.declared.input.Input.{Input}
use Rattle.iss_model.specs.declared.input.Input.TheVariants as input
use Rattle.iss_model.specs.declared.input.Outcome.TheVariants as outcome
use Rattle.iss_model.specs.declared.input.Record.{Record}
use Rattle.iss_model.specs.rules.Histories.{history_of}
use Rattle.iss_laws.specs.Rulings.{is_answer}

-- an input answers the call of this number with a part of this amount
abbrev pub funds_part : ℕ → ℕ → Input → Bool
funds_part number amount (input.Answer call (outcome.Partial currency part)) = call.0 == number && part == amount
funds_part number amount _ = false

-- an input acknowledges the notice of this number
abbrev pub acks : ℕ → Input → Bool
acks number (input.Ack notice) = number == notice
acks number _ = false

-- an input says what an entry holds that the gateway alone gives; other entries need nothing
abbrev pub tells : Input → Entry → Bool
tells i (entry.Closed call how.Funded) = is_answer call.0 outcome.Funded i
tells i (entry.Closed call (how.Partial amount)) = funds_part call.0 amount i
tells i (entry.Closed call how.Refused) = is_answer call.0 outcome.Refused i
tells i (entry.Acked number) = acks number i
tells i _ = true

-- a record is there, and its input says what an entry holds
abbrev pub is_told_by : Option Record → Entry → Bool
is_told_by None e = false
is_told_by (Some r) e = tells r.input e

-- a row is told by its own record
abbrev pub is_told : List Record → Row → Bool
is_told rs row = is_told_by (slice_get rs (row.number - 1)) row.entry

-- each row of the book of these records is
abbrev pub EachIsTold : List Record → Type 0
EachIsTold rs = list_all (is_told rs) (history_of rs).rows ≡ true
