use Rattle.std.proofs.Common.{◌≡◌, FitsSigned, w16, w64, to_z, of_z, ap, ◌∙◌, arith, rules}
use Rattle.std.proofs.lemmas.Int.{ints, to_z-of_z}
use Rattle.iss_model.specs.Calendar.{day_at}
use Rattle.iss_time.proofs.MonthWindows.{month_window}
use Rattle.iss_time.proofs.windows.window.Goals as goal

pub returns-in-Month-clause-number : goal.returns-in-Month-clause-number
returns-in-Month-clause-number c =
    let day_fits : FitsSigned w64 c.day-in-Month.result = omega (arith, ints) in
    let fits : FitsSigned w64 c.month.result = search rules in
    let day : to_z w64 (of_z w64 c.day-in-Month.result) ≡ day_at c.args.at c.args.offset = to_z-of_z w64 c.day-in-Month.result day_fits ∙ c.day-in-Month.ensures.number ∙ ap (day_at c.args.at) (to_z-of_z w16 c.args.offset c.ranges.offset) in
    month_window c.args.kind c.args.at c.args.offset (to_z w64 (of_z w64 c.day-in-Month.result)) c.month.result (to_z w64 (of_z w64 c.month.result)) c.in-Month.is (to_z-of_z w64 c.month.result fits) c.month.ensures day
