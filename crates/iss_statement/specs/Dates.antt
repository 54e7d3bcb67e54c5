-- Dates, as days counted from 1970-01-01, by jiff's calendar.
use Rattle.std.specs.Prelude.{ℕ, ◌+◌, ◌-◌, ◌*◌, Bool, ◌&&◌, ◌==◌, nat_le, ℤ, pos, List, length, slice_index, Option, Some, None, if◌then◌else◌}
use Rattle.jiff_core.specs.Calendar.{days_in_month, days_from_civil}
use Rattle.iss_model.specs.Amounts.{is_digit}

-- the number that two digits spell, if they are digits
abbrev pub two_digits : ℕ → ℕ → Option ℕ
two_digits tens ones = if is_digit tens && is_digit ones then Some (10 * (tens - 48) + (ones - 48)) else None

-- the same for the two digits at this place and the next
abbrev pub digits_at : List ℕ → ℕ → Option ℕ
digits_at text place = two_digits (slice_index text place) (slice_index text (place + 1))

-- ten bytes, with a hyphen after the year and one after the month
abbrev pub is_hyphened : List ℕ → Bool
is_hyphened text = length text == 10 && slice_index text 4 == 45 && slice_index text 7 == 45

-- the year is one that a statement may have, and the calendar has this day
abbrev pub is_statement_date : ℕ → ℕ → ℕ → Bool
is_statement_date year month day =
    nat_le 1970 year && nat_le year 9998
    && nat_le 1 month && nat_le month 12
    && nat_le 1 day && nat_le day (days_in_month (pos year) month)

-- the number of such a day, counted from 1970-01-01
abbrev pub day_of_civil : ℕ → ℕ → ℕ → Option ℤ
day_of_civil year month day = if is_statement_date year month day then Some (days_from_civil (pos year) month day) else None

-- the same, if all parts of the date are there
unfoldable pub day_of_parts : Option ℕ → Option ℕ → Option ℕ → Option ℕ → Option ℤ
day_of_parts (Some century) (Some year) (Some month) (Some day) = day_of_civil (100 * century + year) month day
day_of_parts (Some century) (Some year) (Some month) None = None
day_of_parts (Some century) (Some year) None day = None
day_of_parts (Some century) None month day = None
day_of_parts None year month day = None

-- the day of a text `YYYY-MM-DD`
unfoldable pub day_of_date : List ℕ → Option ℤ
day_of_date text = if is_hyphened text then day_of_parts (digits_at text 0) (digits_at text 2) (digits_at text 5) (digits_at text 8) else None
