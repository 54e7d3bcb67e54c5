-- Why something is made, and how each cause may act.
use Rattle.std.specs.Prelude.{ℕ, ◌==◌, Bool, true, false, ◌&&◌, List}
use Rattle.std.specs.Str.{bytes_eq}
use Rattle.iss_model.specs.Inputs.{event_token, is_text}
use Rattle.iss_model.specs.declared.call.Failure.{Failure}
use Rattle.iss_model.specs.declared.call.Failure.TheVariants as failure
use Rattle.iss_model.specs.declared.input.Input.{Input}
use Rattle.iss_model.specs.declared.input.Input.TheVariants as input
use Rattle.iss_model.specs.declared.input.Outcome.TheVariants as outcome
use Rattle.iss_model.specs.rules.Acts.{Abandons, Acknowledges, Act, Asks, Begins, Clears, Declines, Does, Ends, Fails, Funds, FundsPart, GivesBack, HoldsOwn, LetsGo, Loads, Refuses, Sets, StandsIn, Tells, TurnsDown, Uses}

-- it falls due, or an input makes it
pub data Cause : Type 0 where
  FallsDue : Cause
  ComesOf : Input → Cause

-- a cause is an input of this event
abbrev pub is_of_event : Cause → List ℕ → Bool
is_of_event FallsDue event = false
is_of_event (ComesOf i) event = is_text event (event_token i)

-- an authorisation and an increment seek funding
abbrev pub seeks_funding : Cause → Bool
seeks_funding (ComesOf (input.Authorization token card currency amount mcc mid partial)) = true
seeks_funding (ComesOf (input.Increment token txn currency amount)) = true
seeks_funding _ = false

-- the gateway's answer funds a call
abbrev pub funds_call : Cause → Bool
funds_call (ComesOf (input.Answer call outcome.Funded)) = true
funds_call _ = false

-- the gateway's answer funds a part of a call, of this amount
abbrev pub funds_part : Cause → ℕ → Bool
funds_part (ComesOf (input.Answer call (outcome.Partial currency amount))) n = n == amount
funds_part by n = false

-- the gateway's answer refuses a call
abbrev pub refuses_call : Cause → Bool
refuses_call (ComesOf (input.Answer call outcome.Refused)) = true
refuses_call _ = false

-- a call fails at its deadline, or by an answer; a part that doesn't count is no answer
abbrev pub fails_call : Cause → Failure → Bool
fails_call FallsDue failure.Timeout = true
fails_call (ComesOf (input.Answer call outcome.Connection)) failure.Connection = true
fails_call (ComesOf (input.Answer call outcome.Application)) failure.Application = true
fails_call (ComesOf (input.Answer call (outcome.Partial currency amount))) failure.Application = true
fails_call by why = false

-- an ask is settled without the gateway: it isn't put to it, or its call fails
abbrev pub settles_ask : Cause → Bool
settles_ask FallsDue = true
settles_ask (ComesOf (input.Authorization token card currency amount mcc mid partial)) = true
settles_ask (ComesOf (input.Increment token txn currency amount)) = true
settles_ask (ComesOf (input.Answer call what)) = true
settles_ask _ = false

-- what a transaction holds is let go at its expiry, by a reversal, and after a clearing
abbrev pub lets_go : Cause → Bool
lets_go FallsDue = true
lets_go (ComesOf (input.Reversal token txn currency amount)) = true
lets_go (ComesOf (input.Clearing token txn currency amount last)) = true
lets_go _ = false

-- a cause clears this amount of the transaction of a token
abbrev pub clears : Cause → List ℕ → ℕ → Bool
clears (ComesOf (input.Clearing event txn currency amount last)) token n = bytes_eq token txn && n == amount
clears by token n = false

-- a cause refunds this amount of the transaction of a token
abbrev pub refunds : Cause → List ℕ → ℕ → Bool
refunds (ComesOf (input.Refund event txn currency amount)) token n = bytes_eq token txn && n == amount
refunds by token n = false

-- a cause acknowledges the notice of a number
abbrev pub acknowledges : Cause → ℕ → Bool
acknowledges (ComesOf (input.Ack notice)) n = n == notice
acknowledges by n = false

-- A cause may act so.
abbrev pub may_act : Cause → Act → Bool
may_act by (Declines event why) = is_of_event by event
may_act by (Sets i event) = is_of_event by event
may_act by (Loads event user currency amount) = is_of_event by event
may_act by (Begins ask) = seeks_funding by
may_act by (Uses ask) = seeks_funding by
may_act by (HoldsOwn ask) = seeks_funding by
may_act by (Asks f product ask) = seeks_funding by
may_act by (Funds o t) = funds_call by
may_act by (FundsPart o t amount) = funds_part by amount
may_act by (Refuses o t) = refuses_call by
may_act by (Fails number o t why) = fails_call by why
may_act by (StandsIn number ask at set) = settles_ask by
may_act by (TurnsDown ask why) = settles_ask by
may_act by (Abandons number t why calls parts) = lets_go by
may_act by (LetsGo t parts amount) = lets_go by
may_act by (Ends t) = lets_go by
may_act by (Clears t parts amount at) = clears by t.token amount
may_act by (GivesBack t amount programme) = refunds by t.token amount
may_act by (Tells number news t amount gateway) = true
may_act by (Does event) = is_of_event by event
may_act by (Acknowledges notice) = acknowledges by notice
