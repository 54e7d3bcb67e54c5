-- Why a control or a set of a new name is declined.
use Rattle.std.specs.Prelude.{ℕ, pos, List, Option, None}
use Rattle.iss_model.specs.declared.currency.Currency.{Currency}
use Rattle.iss_model.specs.declared.currency.Currency.TheVariants.{Usd}
use Rattle.iss_model.specs.declared.setting.Window.TheVariants.{Day}
use Rattle.iss_model.specs.declared.setting.Association.{Association}
use Rattle.iss_model.specs.declared.setting.Control.{Control}
use Rattle.iss_model.specs.declared.setting.Scope.{Scope}
use Rattle.iss_model.specs.declared.decision.Reason.{Reason}
use Rattle.iss_model.specs.rules.Facts.{Facts}
use Rattle.iss_model.specs.rules.Reasons.{control_reason, put_control_reason, put_set_reason}

-- a new control's currency, window and offset are never a reason
abbrev pub new_control_reason : Facts → Association → Scope → Option Reason
new_control_reason f association scope = put_control_reason None f Usd Day association scope (pos 0)

-- a new set is of a known product, in its currency, and fits in
abbrev pub new_set_reason : Facts → List ℕ → Currency → Option Reason
new_set_reason f product currency = put_set_reason None f product currency

-- why a control is declined
abbrev pub reason_of_control : Facts → Control → Option Reason
reason_of_control f c = control_reason f c.name c.currency c.window c.association c.scope c.offset
