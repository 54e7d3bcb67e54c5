-- The input that sets a control.
use Rattle.std.specs.Prelude.{ℕ, List}
use Rattle.iss_model.specs.declared.setting.Control.{Control}
use Rattle.iss_model.specs.declared.input.Input.{Input}
use Rattle.iss_model.specs.declared.input.Input.TheVariants as input
use Rattle.iss_model.specs.texts.Spelling.{spelled_fields}

-- the event of this token sets the control
abbrev pub control_input : List ℕ → Control → Input
control_input token c =
    input.Control token c.name c.currency c.window c.amount_limit c.usage_limit c.association c.scope c.offset c.active

-- the fields of that input, with each token as `token_bytes` spells it
abbrev pub spelled_control : (List ℕ → List ℕ) → List ℕ → Control → List ℕ
spelled_control token_bytes token c = spelled_fields token_bytes (control_input token c)
