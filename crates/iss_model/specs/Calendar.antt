-- Days, weeks and months of a stamp: milliseconds since 1 January 1970 UTC, seen at a fixed offset from UTC.
use Rattle.std.specs.Prelude.{ℕ, ◌+◌, ◌-◌, ◌*◌, ◌/◌, ◌%◌, Bool, not, ◌&&◌, ◌||◌, ◌==◌, nat_le, nat_lt, ℤ, pos, negsuc, ◌+ℤ◌, ◌*ℤ◌, List, [], ◌∷◌, length, filter, map, if◌then◌else◌}
use Rattle.std.specs.Int.{int_div_euclid}
use Rattle.iss_model.specs.declared.setting.Window.{Window}
use Rattle.iss_model.specs.declared.setting.Window.TheVariants as window

-- the number of the day that a clock shows at this offset in minutes: day 0 is 1 January 1970, a Thursday
abbrev pub day_at : ℕ → ℤ → ℤ
day_at at offset = int_div_euclid (pos at +ℤ pos 60000 *ℤ offset) (pos 86400000)

-- the number of a day's week: weeks begin on Sunday, and day 0 lies in week 0
abbrev pub week_of : ℤ → ℤ
week_of day = int_div_euclid (day +ℤ pos 4) (pos 7)

-- every fourth year is a leap year, but of the centuries only every fourth: the Gregorian calendar, for every year
abbrev pub is_leap_year : ℕ → Bool
is_leap_year year = year % 4 == 0 && (not (year % 100 == 0) || year % 400 == 0)

-- How many days lie before 1 January of a year, counted from 1 January of the year 0. A year has 365 days, and a leap year one more.
abbrev pub days_before_year : ℕ → ℕ
days_before_year year = 365 * year + (year + 3) / 4 - (year + 99) / 100 + (year + 399) / 400

-- The year of the day of this number, counted from 1 January of the year 0. Its first day isn't later, and that of the next year is. 400
-- years have 146097 days, so the quotient is the year, or misses it by one.
abbrev pub year_of_day : ℕ → ℕ
year_of_day day =
    let near = 400 * day / 146097 in
    if nat_lt day (days_before_year near) then near - 1
    else if nat_le (days_before_year (near + 1)) day then near + 1
    else near

-- the places of the first days of the months in a year, from 0, with as many leap days as it has
abbrev pub month_starts : ℕ → List ℕ
month_starts leap =
    0 ∷ 31 ∷ map (λ start. start + leap) (59 ∷ 90 ∷ 120 ∷ 151 ∷ 181 ∷ 212 ∷ 243 ∷ 273 ∷ 304 ∷ 334 ∷ [])

-- the month, 1 to 12, of the day at a place of a year: how many months of the year have begun by then
abbrev pub month_in_year : ℕ → ℕ → ℕ
month_in_year year place =
    length (filter (λ start. nat_le start place) (month_starts (if is_leap_year year then 1 else 0)))

-- the number of a month in a row of all months
abbrev pub month_number : ℕ → ℕ → ℕ
month_number year month = 12 * year + month

-- a number from 0 on, or 0
abbrev pub at_least_0 : ℤ → ℕ
at_least_0 (pos n) = n
at_least_0 (negsuc n) = 0

-- The month of a day, from the year 0 on. 1 January 1970 is 719528 days after 1 January of the year 0, and a day before that one counts as it.
abbrev pub month_of : ℤ → ℤ
month_of day =
    let place = at_least_0 (day +ℤ pos 719528) in
    let year = year_of_day place in
    pos (month_number year (month_in_year year (place - days_before_year year)))

-- The number of the window of a stamp at an offset from UTC in minutes. A control of one transaction has no window in time, and a lifetime is one window.
abbrev pub window_at : Window → ℕ → ℤ → ℤ
window_at window.Transaction at offset = pos 0
window_at window.Day at offset = day_at at offset
window_at window.Week at offset = week_of (day_at at offset)
window_at window.Month at offset = month_of (day_at at offset)
window_at window.Lifetime at offset = pos 0
