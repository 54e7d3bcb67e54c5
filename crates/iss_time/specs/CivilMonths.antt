-- The months of the civil calendar, by jiff's definition of a date.
use Rattle.std.specs.Prelude.{◌≡◌, ℕ, ℤ, pos, ◌+ℤ◌, ◌*ℤ◌}
use Rattle.jiff_core.specs.Calendar.{IsCivilDate, days_from_civil}
use Rattle.iss_model.specs.declared.setting.Window.TheVariants.{Month}
use Rattle.iss_model.specs.Calendar.{day_at, window_at}

-- the month that a stamp falls in at an offset is that of its date there, in a row of all months
abbrev pub HasMonthOfDate : ℕ → ℤ → Type 0
HasMonthOfDate at offset = (year : ℤ) (month day : ℕ) → IsCivilDate year month day → days_from_civil year month day ≡ day_at at offset
    → window_at Month at offset ≡ pos 12 *ℤ year +ℤ pos month
