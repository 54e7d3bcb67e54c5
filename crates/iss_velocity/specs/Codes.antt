-- The code of controls with their sums, by which their values are told apart.
use Rattle.std.specs.Prelude.{ℕ, List, refl}
use Rattle.std.specs.Coded.{Coded, code_by, coded×, coded_list, coded_ℕ}
use Rattle.iss_model.specs.contracts.setting.Control as control
use Rattle.iss_model.specs.declared.setting.Control.{Control}
use Rattle.iss_model.specs.state.Kept.{Kept, kept_code}
use Rattle.iss_model.specs.state.Cores.{ControlKept}

-- a control with its sums is stored as its fields
abbrev pub control_code : Coded ControlKept
control_code =
    code_by (ℕ × (Control × (Kept × Kept))) (coded× coded_ℕ (coded× (control.the_row).coded (coded× kept_code kept_code)))
    (λ c. (c.first, (c.control, (c.amounts, c.times)))) (λ p. record { first = p.0; control = p.1.0; amounts = p.1.1.0; times = p.1.1.1 }) (λ _. refl)

abbrev pub controls_code : Coded (List ControlKept)
controls_code = coded_list control_code
