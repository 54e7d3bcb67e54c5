-- What the sets decide of an amount that the gateway didn't decide.
use Rattle.std.specs.Prelude.{◌≡◌, ℕ, ℤ, pos, ◌+ℤ◌, int_le, Bool, ◌&&◌, nat_le, List, find, Option, Some, None, if◌then◌else◌}
use Rattle.std.specs.Str.{bytes_eq}
use Rattle.iss_model.specs.declared.call.Failure.{Failure}
use Rattle.iss_model.specs.declared.setting.Set.{Set}
use Rattle.iss_model.specs.Sums.{stood_key}
use Rattle.iss_model.specs.rules.Asks.{Ask}
use Rattle.iss_model.specs.rules.StandIns as rule
use Rattle.iss_model.specs.rules.StandIns.{covers_failure}
use Rattle.iss_commando.specs.declared.stand.SetStand.{SetStand}
use Rattle.iss_commando.specs.declared.stand.SetStand.TheVariants.{Yes, Limit, No}

-- what holds if an ask is of this product and user, and for this amount
abbrev pub IfAsks : Ask → List ℕ → List ℕ → ℕ → Type 0 → Type 0
IfAsks ask product user amount Holds = ask.txn.product ≡ product → ask.txn.user ≡ user → ask.amount ≡ amount → Holds

-- an active set of the product that covers the failure
abbrev pub is_for : List ℕ → Failure → Set → Bool
is_for product why s = s.active && bytes_eq s.product product && covers_failure s why

-- an amount is at most a set's most for one purchase, and with what stood in that day at most its most for a day
abbrev pub is_allowed : Set → ℤ → ℕ → Bool
is_allowed s stood amount = nat_le amount s.max && int_le (stood +ℤ pos amount) (pos s.day_limit)

-- what a set that was found decides, if one was found
abbrev pub stand_by : ℤ → ℕ → Option Set → rule.Stand
stand_by stood amount None = rule.uncovered
stand_by stood amount (Some s) = if is_allowed s stood amount then rule.allowed s else rule.over_limit s

-- the first active set of the product that covers the failure decides, by what stood in for the user on the day of the stamp
abbrev pub stand_on : List Set → (List ℕ → ℤ) → List ℕ → List ℕ → ℕ → Failure → ℕ → rule.Stand
stand_on sets stood product user amount why at =
    stand_by (stood (stood_key product user at)) amount (find (is_for product why) sets)

-- a decision of the sets, with the set's name
abbrev pub stand_named : rule.Stand → SetStand
stand_named (rule.allowed s) = Yes s.name
stand_named (rule.over_limit s) = Limit s.name
stand_named rule.uncovered = No
