-- Commando Mode: whether the programme stands in for a gateway that doesn't decide.
use Rattle.std.specs.Prelude.{ℕ, pos, ◌+ℤ◌, int_le, Bool, true, ◌&&◌, nat_le, find, Option, Some, None, if◌then◌else◌}
use Rattle.std.specs.Str.{bytes_eq}
use Rattle.iss_model.specs.declared.call.Failure.{Failure}
use Rattle.iss_model.specs.declared.call.Failure.TheVariants as failure
use Rattle.iss_model.specs.declared.setting.Set.{Set}
use Rattle.iss_model.specs.rules.Facts.{Facts, stand_in_sum}
use Rattle.iss_model.specs.rules.Asks.{Ask}

-- what a product's sets decide of an ask: one allows it, one covers the failure and doesn't allow the amount, or none covers it
pub data Stand : Type 0 where
  allowed : Set → Stand
  over_limit : Set → Stand
  uncovered : Stand

-- a set covers a failure; each covers a gateway that is switched off
abbrev pub covers_failure : Set → Failure → Bool
covers_failure s failure.Connection = s.connection
covers_failure s failure.Timeout = s.timeout
covers_failure s failure.Application = s.application
covers_failure s failure.Switch = true

-- the set isn't asked for more than its most for a purchase, nor its most for the user, product and day of UTC
abbrev pub allows : Facts → Set → Ask → ℕ → Bool
allows f s ask at =
    nat_le ask.amount s.max
    && int_le (stand_in_sum f ask.txn.product ask.txn.user at +ℤ pos ask.amount) (pos s.day_limit)

-- what the set that was found decides, if one was found
abbrev pub stand_by : Facts → Ask → ℕ → Option Set → Stand
stand_by f ask at None = uncovered
stand_by f ask at (Some s) = if allows f s ask at then allowed s else over_limit s

-- the first active set of the product that covers the failure decides
abbrev pub stand : Facts → Ask → Failure → ℕ → Stand
stand f ask why at =
    stand_by f ask at (find (λ s. s.active && bytes_eq s.product ask.txn.product && covers_failure s why) f.sets)
