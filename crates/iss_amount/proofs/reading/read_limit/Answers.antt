use Rattle.std.proofs.Common.{◌≡◌, ◌<◌, sym, ◌∙◌, arith}
use Rattle.iss_model.specs.Currencies.{decimals_of}
use Rattle.iss_model.specs.Amounts.{point_place}
use Rattle.iss_amount.proofs.Readings.{units_missing}
use Rattle.iss_amount.proofs.reading.read_limit.Goals as goal

pub returns-in_err-units-clause-number : goal.returns-in_err-units-clause-number
returns-in_err-units-clause-number c =
    let some : 0 < decimals_of c.args.currency = omega arith in
    let at : c.saturating_sub-point.result ≡ point_place c.args.text.now (decimals_of c.args.currency) = omega arith in
    let none = rw at at (sym c.in_err-units.ensures) in
    c.from_residual.ensures ∙ sym (units_missing c.args.text.now (decimals_of c.args.currency) some none)
