-- What inputs cost, and the acts that come of them.
use Rattle.std.specs.Prelude.{Bool, false, length, true, ℕ, ◌*◌, ◌+◌, ◌≡◌, ◌≤◌}
use Rattle.iss_model.specs.declared.input.Input.{Input}
use Rattle.iss_model.specs.declared.input.Input.TheVariants as input
use Rattle.iss_model.specs.rules.Acts.{Act, act_entries}
use Rattle.iss_model.specs.state.Cores.{CoreState, core_facts}
use Rattle.iss_acts.specs.Causes.{Cause, ComesOf, FallsDue}
use Rattle.iss_acts.specs.Items.{may_begin}
use Rattle.iss_acts.specs.Sources.{IsMade}
use Rattle.iss_acts.specs.Stages.{Frees, Fresh, Keeps, Leaves, Over, Seeks, Stage, stage_after}
use Rattle.iss_state.specs.After.{input_entries}
use Rattle.iss_state.specs.Effects.{Effect, HoldsParts, Paid}
use Rattle.iss_state.specs.Needs.{Stands}
use Rattle.iss_state.specs.Stakes.{IsOrderlyState, at_least_one}

-- How much money an input costs beyond what was at stake. A load costs its amount, a clearing and a refund twice theirs, and an ask four
-- times its own.
abbrev pub input_money : Input → ℕ
input_money (input.Load token user currency amount) = amount
input_money (input.Authorization token card currency amount mcc mid partial) = 4 * at_least_one amount
input_money (input.Increment token txn currency amount) = 4 * at_least_one amount
input_money (input.Clearing token txn currency amount last) = 2 * amount
input_money (input.Refund token txn currency amount) = 2 * amount
input_money _ = 0

-- how much use it costs: an ask four times its amount, and a clearing its amount once
abbrev pub input_use : Input → ℕ
input_use (input.Authorization token card currency amount mcc mid partial) = 4 * at_least_one amount
input_use (input.Increment token txn currency amount) = 4 * at_least_one amount
input_use (input.Clearing token txn currency amount last) = amount
input_use _ = 0

-- an input's own entries are paid from what was at stake, and by what the input brings
abbrev pub InputIsPaid : CoreState → Input → ℕ → Type 0
InputIsPaid s i at = Paid (input_money i) (input_use i) s (input_entries s i at)

-- an input begins no transaction
abbrev pub begins_none : Input → Bool
begins_none (input.Authorization token card currency amount mcc mid partial) = false
begins_none _ = true

-- What a cause brings, beyond what is at stake: money
abbrev pub cause_money : Cause → ℕ
cause_money FallsDue = 0
cause_money (ComesOf i) = input_money i

-- the use that a cause brings, beyond what is at stake
abbrev pub cause_use : Cause → ℕ
cause_use FallsDue = 0
cause_use (ComesOf i) = input_use i

-- The money that acts may cost from a stage on: at first what the cause brings, and then what an ask was paid with.
abbrev pub money_left : Cause → Stage → ℕ
money_left by Fresh = cause_money by
money_left by (Seeks ask) = 4 * at_least_one ask.amount
money_left by _ = 0

-- the use that acts may cost from a stage on
abbrev pub use_left : Cause → Stage → ℕ
use_left by Fresh = cause_use by
use_left by (Seeks ask) = 2 * at_least_one ask.amount
use_left by _ = 0

-- What is known at each stage, so that acts can be paid: the state is orderly, and which transaction stands and what it holds.
abbrev pub IsPayable : CoreState → Stage → CoreState → Type 0
IsPayable s Fresh q = q ≡ s
IsPayable s (Seeks ask) q = IsOrderlyState q × Stands q ask.txn × (length q.calls ≡ length s.calls)
IsPayable s (Keeps t parts) q = IsOrderlyState q × Stands q t × HoldsParts q t parts × (q.calls ≡ s.calls)
IsPayable s (Frees t parts) q = IsOrderlyState q × Stands q t × HoldsParts q t parts
IsPayable s (Leaves t parts) q = IsOrderlyState q × Stands q t
IsPayable s Over q = IsOrderlyState q

-- An act costs no more than what its stage leaves to the next one.
pub record Spends (by : Cause) (g : Stage) (q : CoreState) (a : Act) : Type 0 where
  pub moved : ℕ
  pub used : ℕ
  pub up : ℕ
  pub down : ℕ
  pub effect : Effect q (act_entries a) moved used up down
  pub money : moved + 2 * up + money_left by (stage_after g a) ≤ 2 * down + money_left by g
  pub usage : used + up + use_left by (stage_after g a) ≤ down + use_left by g

-- Each act that comes of a cause at a moment, and begins no transaction, costs no more than its stage leaves to the next one. That is so
-- at any stage.
abbrev pub ActsArePaid : Cause → ℕ → CoreState → Type 0
ActsArePaid by at s =
    (stage : Stage) → (before : CoreState) → (act : Act) → IsMade (core_facts s) by at stage act → may_begin act ≡ false
    → IsPayable s stage before → Spends by stage before act
