-- The forms that the fields of an input meet, whatever the book.
use Rattle.std.specs.Prelude.{ℕ, ◌+◌, ℤ, Bool, true, ◌&&◌, ◌||◌, nat_le, int_le, List, [], ◌∷◌, length, Option, Some, None, is_some, is_none}
use Rattle.iss_model.specs.declared.limits.TheConstants.{LAST_STAMP, LEAST_AMOUNT, GREATEST_AMOUNT, GREATEST_LIMIT, GREATEST_USAGE, GREATEST_MCC, LEAST_OFFSET, GREATEST_OFFSET, MOST_MCCS, SHORTEST_TIMEOUT, LONGEST_TIMEOUT, SHORTEST_HOLD, LONGEST_HOLD, FIRST_NUMBER, GREATEST_NUMBER}
use Rattle.iss_model.specs.declared.setting.Window.{Window}
use Rattle.iss_model.specs.declared.setting.Window.TheVariants as window
use Rattle.iss_model.specs.declared.setting.Scope.{Scope}
use Rattle.iss_model.specs.declared.setting.Scope.TheVariants as scope
use Rattle.iss_model.specs.declared.input.Outcome.{Outcome}
use Rattle.iss_model.specs.declared.input.Outcome.TheVariants as outcome
use Rattle.iss_model.specs.declared.input.Input.{Input}
use Rattle.iss_model.specs.declared.input.Input.TheVariants as input

-- 1 to 1000000000 minor units
abbrev pub is_amount : ℕ → Bool
is_amount n = nat_le LEAST_AMOUNT n && nat_le n GREATEST_AMOUNT

-- a merchant category code of ISO 18245: four decimal digits
abbrev pub is_mcc : ℕ → Bool
is_mcc n = nat_le n GREATEST_MCC

-- a stamp, in milliseconds since 1970: up to the end of the year 9998
abbrev pub is_stamp : ℕ → Bool
is_stamp at = nat_le at LAST_STAMP

-- a stamp that may be left out
abbrev pub is_stamp_or_none : Option ℕ → Bool
is_stamp_or_none None = true
is_stamp_or_none (Some at) = is_stamp at

-- 0 to 1000000000000 minor units
abbrev pub is_limit : ℕ → Bool
is_limit n = nat_le n GREATEST_LIMIT

-- how often a control may let a purchase through
abbrev pub is_usage_limit : ℕ → Bool
is_usage_limit n = nat_le n GREATEST_USAGE

-- a number that is there is of its form
abbrev pub is_none_or : (ℕ → Bool) → Option ℕ → Bool
is_none_or form None = true
is_none_or form (Some n) = form n

-- a product's time for an answer: up to a minute, in milliseconds
abbrev pub is_timeout : ℕ → Bool
is_timeout n = nat_le SHORTEST_TIMEOUT n && nat_le n LONGEST_TIMEOUT

-- how long a product holds: a day to 31 days, in milliseconds
abbrev pub is_hold_time : ℕ → Bool
is_hold_time n = nat_le SHORTEST_HOLD n && nat_le n LONGEST_HOLD

-- the number of a call or notice
abbrev pub is_number : ℕ → Bool
is_number n = nat_le FIRST_NUMBER n && nat_le n GREATEST_NUMBER

-- merchant category codes that rise from this one on, none twice
abbrev pub are_rising : ℕ → List ℕ → Bool
are_rising low [] = true
are_rising low (mcc ∷ mccs) = nat_le low mcc && is_mcc mcc && are_rising (mcc + 1) mccs

-- 1 to 1000 merchant category codes
abbrev pub are_mccs : List ℕ → Bool
are_mccs mccs = nat_le 1 (length mccs) && nat_le (length mccs) MOST_MCCS && are_rising 0 mccs

-- a control of single transactions counts no purchases
abbrev pub may_count : Window → Option ℕ → Bool
may_count window.Transaction usage_limit = is_none usage_limit
may_count window.Day usage_limit = true
may_count window.Week usage_limit = true
may_count window.Month usage_limit = true
may_count window.Lifetime usage_limit = true

-- a control has an amount limit or a usage limit, or both
abbrev pub are_limits : Window → Option ℕ → Option ℕ → Bool
are_limits window amount_limit usage_limit =
    is_none_or is_limit amount_limit
    && is_none_or is_usage_limit usage_limit
    && (is_some amount_limit || is_some usage_limit)
    && may_count window usage_limit

-- a scope names a code of four digits, if it names one
abbrev pub is_scope : Scope → Bool
is_scope scope.All = true
is_scope (scope.Mcc mcc) = is_mcc mcc
is_scope (scope.Group group) = true
is_scope (scope.Mid mid) = true

-- an offset from UTC in minutes: 12 hours behind it to 14 hours ahead
abbrev pub is_offset : ℤ → Bool
is_offset offset = int_le LEAST_OFFSET offset && int_le offset GREATEST_OFFSET

-- what a part of a call's amount comes to is an amount
abbrev pub is_outcome : Outcome → Bool
is_outcome outcome.Funded = true
is_outcome outcome.Refused = true
is_outcome outcome.Connection = true
is_outcome outcome.Application = true
is_outcome (outcome.Partial currency amount) = is_amount amount

-- each field of an input is of its form; a name is a token by its type
abbrev pub is_in_form : Input → Bool
is_in_form (input.User token user) = true
is_in_form (input.Card token card user product active) = true
is_in_form (input.Move token who) = true
is_in_form (input.Product token product currency funding timeout_ms hold_ms) = is_timeout timeout_ms && is_hold_time hold_ms
is_in_form (input.Group token group mccs) = are_mccs mccs
is_in_form (input.Control token control currency window amount_limit usage_limit association scope offset active) =
    are_limits window amount_limit usage_limit && is_scope scope && is_offset offset
is_in_form (input.Set token set product currency connection timeout application max day_limit active) =
    is_limit max && is_limit day_limit
is_in_form (input.Switch token product on) = true
is_in_form (input.Load token user currency amount) = is_amount amount
is_in_form (input.Authorization token card currency amount mcc mid partial) = is_amount amount && is_mcc mcc
is_in_form (input.Increment token txn currency amount) = is_amount amount
is_in_form (input.Reversal token txn currency amount) = is_amount amount
is_in_form (input.Clearing token txn currency amount last) = is_amount amount
is_in_form (input.Refund token txn currency amount) = is_amount amount
is_in_form (input.Answer call outcome) = is_number call.0 && is_outcome outcome
is_in_form (input.Ack notice) = is_number notice
is_in_form input.Time = true
