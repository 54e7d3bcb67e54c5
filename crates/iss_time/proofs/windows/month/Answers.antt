use Rattle.std.proofs.Common.{◌≡◌, pos, ◌+ℤ◌, ◌*ℤ◌, FitsSigned, w8, w16, w64, to_z, of_z, ap, ◌∙◌, rules}
use Rattle.std.proofs.lemmas.Int.{to_z-of_z}
use Rattle.jiff_core.specs.Date.{epoch_day}
use Rattle.iss_model.specs.Calendar.{month_of}
use Rattle.iss_time.proofs.MonthWindows.{meets}
use Rattle.iss_time.proofs.Months.{month_of_date}
use Rattle.iss_time.proofs.windows.month.Goals as goal

pub returns : goal.returns
returns c =
    let date = c.unwrap.result in
    let fits : FitsSigned w64 c.args.day = c.ranges.day in
    let v : epoch_day date ≡ c.args.day = simp to_z-of_z at (rw c.unwrap.ensures at c.from_unix_epoch_day.ensures.value) in
    let e : month_of c.args.day ≡ pos 12 *ℤ date.year +ℤ pos date.month = month_of_date date.year c.args.day date.month date.day (date.year_in, date.month_in, date.day_in) v c.requires.low in
    let year_fits : FitsSigned w16 c.year.result = search rules in
    let month_fits : FitsSigned w8 c.month.result = search rules in
    let number_fits : FitsSigned w64 c.month_number.result = search rules in
    let year : c.year.result ≡ date.year = c.year.ensures ∙ ap (λ d. d.year) c.from_plain-date.ensures in
    let month : c.month.result ≡ pos date.month = c.month.ensures ∙ ap (λ d. pos d.month) c.from_plain-date.ensures in
    let number : c.month_number.result ≡ pos 12 *ℤ c.year.result +ℤ c.month.result = simp to_z-of_z at c.month_number.ensures in
    meets (to_z w64 (of_z w64 c.month_number.result)) (pos 12 *ℤ date.year +ℤ pos date.month) (month_of c.args.day)
    (to_z-of_z w64 c.month_number.result number_fits ∙ number ∙ ap (λ v. pos 12 *ℤ v +ℤ c.month.result) year ∙ ap (λ v. pos 12 *ℤ date.year +ℤ v) month)
    e
