-- Which inputs are settings, and the reasons of what refuses them.
use Rattle.std.specs.Prelude.{ℕ, Bool, true, false, List, [], ◌∷◌, ◌++◌, Option, Some, None}
use Rattle.iss_model.specs.declared.currency.Currency.{Currency}
use Rattle.iss_model.specs.declared.setting.Control.{Control}
use Rattle.iss_model.specs.declared.setting.Set.{Set}
use Rattle.iss_model.specs.declared.input.Input.{Input}
use Rattle.iss_model.specs.declared.input.Input.TheVariants as input
use Rattle.iss_model.specs.declared.decision.Reason.{Reason}
use Rattle.iss_model.specs.declared.decision.Reason.TheVariants as reason
use Rattle.iss_model.specs.rules.Acts.{Act, Loads}
use Rattle.iss_model.specs.rules.Controls.{Group}
use Rattle.iss_model.specs.rules.Facts.{Facts}
use Rattle.iss_model.specs.rules.Reasons.{load_reason}
use Rattle.iss_model.specs.rules.Stepping.{acts_unless}
use Rattle.iss_model.specs.state.Cores.{ControlKept, StandIns, with_control, with_set}
use Rattle.iss_product.specs.declared.products.ProductFault.{ProductFault}
use Rattle.iss_product.specs.declared.products.ProductFault.TheVariants as product
use Rattle.iss_velocity.specs.Puts.{first_put}
use Rattle.iss_commando.specs.declared.sets.SetFault.{SetFault}
use Rattle.iss_commando.specs.declared.sets.SetFault.TheVariants as set

-- users, cards, moves, products, groups, controls, sets and switches
abbrev pub is_setting : Input → Bool
is_setting (input.User token user) = true
is_setting (input.Card token card user product active) = true
is_setting (input.Move token who) = true
is_setting (input.Product token product currency funding timeout_ms hold_ms) = true
is_setting (input.Group token group mccs) = true
is_setting (input.Control token control currency window amount_limit usage_limit association scope offset active) = true
is_setting (input.Set token set product currency connection timeout application max day_limit active) = true
is_setting (input.Switch token product on) = true
is_setting _ = false

-- the reason of a fault of products; a failed allocation has none
abbrev pub product_fault_reason : ProductFault → Option Reason
product_fault_reason product.Exists = Some reason.Exists
product_fault_reason product.Limit = Some reason.Limit
product_fault_reason product.OutOfMemory = None

-- the reason of a fault of sets; a failed allocation has none
abbrev pub set_fault_reason : SetFault → Option Reason
set_fault_reason set.Fixed = Some reason.SetFixed
set_fault_reason set.Limit = Some reason.Limit
set_fault_reason set.OutOfMemory = None

-- the acts of a load, which may be declined
abbrev pub load_acts : Facts → List ℕ → List ℕ → Currency → ℕ → List Act
load_acts f token user currency amount = acts_unless (load_reason f user) token (Loads token user currency amount ∷ [])

-- a new group stands as the last one
abbrev pub with_group : List Group → List ℕ → List ℕ → List Group
with_group groups name mccs = groups ++ record { name = name; mccs = mccs } ∷ []

-- a control is put by the record of this number
abbrev pub with_control_put : List ControlKept → ℕ → Control → List ControlKept
with_control_put controls number control = with_control controls (first_put number control)

-- a set is put among those that stand
abbrev pub with_set_put : StandIns → Set → StandIns
with_set_put s put = record s { sets = with_set s.sets put }
