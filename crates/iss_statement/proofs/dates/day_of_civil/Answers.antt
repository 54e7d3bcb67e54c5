use Rattle.std.proofs.Common.{rules, ◌≡◌, pos, FitsSigned, w32, w64, to_z, of_z, ap, ◌∙◌, arith}
use Rattle.std.proofs.lemmas.Int.{ints, to_z-of_z}
use Rattle.jiff_core.specs.Date.{epoch_day}
use Rattle.iss_statement.proofs.DateLaws.{made_of}
use Rattle.iss_statement.proofs.dates.day_of_civil.Goals as goal

pub returns-in-Ok : goal.returns-in-Ok
returns-in-Ok c =
    let date = c.in-Ok.date in
    let value = c.in-Ok.ensures.value in
    let year : date.year ≡ pos c.args.year = omega (arith, ints, value.0) in
    let month : date.month ≡ c.args.month = omega (arith, ints, value.1) in
    let day : date.day ≡ c.args.day = omega (arith, ints, value.2) in
    let fits : FitsSigned w32 c.to_unix_epoch_day.result = search rules in
    let wide : FitsSigned w64 c.from.result = search rules in
    let number : to_z w64 (of_z w64 c.from.result) ≡ c.to_unix_epoch_day.result = to_z-of_z w64 c.from.result wide ∙ c.from.ensures ∙ to_z-of_z w32 c.to_unix_epoch_day.result fits in
    made_of c.args.year c.args.month c.args.day date.month date.day date.year (to_z w64 (of_z w64 c.from.result)) c.to_unix_epoch_day.result (omega arith) (omega arith)
    year month day date.month_in date.day_in number
    (c.to_unix_epoch_day.ensures.value ∙ ap (λ d. epoch_day d) c.to_plain.ensures)
