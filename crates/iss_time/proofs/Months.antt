-- The month of a civil date.
use Rattle.std.proofs.Common.{◌≡◌, ℕ, zero, suc, ◌+◌, ◌-◌, ◌<◌, ◌≤◌, nat_le, length, filter, refl, ap, ◌∙◌, arith, ℤ, pos, negsuc, ◌+ℤ◌, ◌*ℤ◌, ◌≤ℤ◌, FitsSigned, w16}
use Rattle.std.proofs.lemmas.Bool.Decides.{nat_tests}
use Rattle.jiff_core.specs.Calendar.{days_of_months, days_in_month, days_from_civil, day_count, days_of_years, IsCivilDate}
use Rattle.jiff_core.proofs.CalendarLemmas.{days_of_months_table, days_of_months_more, days_from_civil-day_count, day_count-epoch, day_count-next_year, day_count-lt_year, day_of_year_bound}
use Rattle.jiff_core.proofs.MarchLemmas.{leap_day, days_in_year-leap_day}
use Rattle.jiff_core.proofs.SignedLemmas.{signed_arith}
use Rattle.iss_model.specs.Calendar.{at_least_0, days_before_year, year_of_day, month_starts, month_in_year, month_number, month_of, day_at}
use Rattle.iss_time.specs.declared.windows.TheConstants.{FIRST_DAY}
use Rattle.iss_time.specs.CivilMonths.{HasMonthOfDate}
use Rattle.iss_time.proofs.Years.{next_year, days_before, year_of}

-- how many months have begun, with this number of leap days
abbrev begun : ℕ → ℕ → ℕ
begun p leap = length (filter (λ start. nat_le start p) (month_starts leap))

january : (p leap : ℕ) → leap ≤ 1 → p < 31 → begun p leap ≡ 1
january p leap some high = grind (arith, nat_tests)

february : (p leap : ℕ) → leap ≤ 1 → 31 ≤ p → p < 59 + leap → begun p leap ≡ 2
february p leap some low high = grind (arith, nat_tests)

march : (p leap : ℕ) → leap ≤ 1 → 59 + leap ≤ p → p < 90 + leap → begun p leap ≡ 3
march p leap some low high = grind (arith, nat_tests)

april : (p leap : ℕ) → leap ≤ 1 → 90 + leap ≤ p → p < 120 + leap → begun p leap ≡ 4
april p leap some low high = grind (arith, nat_tests)

may : (p leap : ℕ) → leap ≤ 1 → 120 + leap ≤ p → p < 151 + leap → begun p leap ≡ 5
may p leap some low high = grind (arith, nat_tests)

june : (p leap : ℕ) → leap ≤ 1 → 151 + leap ≤ p → p < 181 + leap → begun p leap ≡ 6
june p leap some low high = grind (arith, nat_tests)

july : (p leap : ℕ) → leap ≤ 1 → 181 + leap ≤ p → p < 212 + leap → begun p leap ≡ 7
july p leap some low high = grind (arith, nat_tests)

august : (p leap : ℕ) → leap ≤ 1 → 212 + leap ≤ p → p < 243 + leap → begun p leap ≡ 8
august p leap some low high = grind (arith, nat_tests)

september : (p leap : ℕ) → leap ≤ 1 → 243 + leap ≤ p → p < 273 + leap → begun p leap ≡ 9
september p leap some low high = grind (arith, nat_tests)

october : (p leap : ℕ) → leap ≤ 1 → 273 + leap ≤ p → p < 304 + leap → begun p leap ≡ 10
october p leap some low high = grind (arith, nat_tests)

november : (p leap : ℕ) → leap ≤ 1 → 304 + leap ≤ p → p < 334 + leap → begun p leap ≡ 11
november p leap some low high = grind (arith, nat_tests)

december : (p leap : ℕ) → leap ≤ 1 → 334 + leap ≤ p → begun p leap ≡ 12
december p leap some low = grind (arith, nat_tests)

one_leap_day : (y : ℕ) → leap_day (pos y) ≤ 1
one_leap_day y = grind arith

-- the days of a month lie between its first day and that of the next month
month_begun : (y m d : ℕ) → 1 ≤ m → m ≤ 12 → 1 ≤ d → d ≤ days_in_month (pos y) m → begun (days_of_months (pos y) (m - 1) + (d - 1)) (leap_day (pos y)) ≡ m
month_begun y zero d low high first last = absurd (omega arith)
month_begun y (suc zero) d low high first last =
    january (days_of_months (pos y) 0 + (d - 1)) (leap_day (pos y)) (one_leap_day y) (omega (arith, days_of_months_table (pos y) 0 (omega arith), days_of_months_table (pos y) 1 (omega arith), days_of_months_more (pos y) 1 (omega arith)))
month_begun y (suc (suc zero)) d low high first last =
    february (days_of_months (pos y) 1 + (d - 1)) (leap_day (pos y)) (one_leap_day y) (omega (arith, days_of_months_table (pos y) 1 (omega arith))) (omega (arith, days_of_months_table (pos y) 1 (omega arith), days_of_months_table (pos y) 2 (omega arith), days_of_months_more (pos y) 2 (omega arith)))
month_begun y (suc (suc (suc zero))) d low high first last =
    march (days_of_months (pos y) 2 + (d - 1)) (leap_day (pos y)) (one_leap_day y) (omega (arith, days_of_months_table (pos y) 2 (omega arith))) (omega (arith, days_of_months_table (pos y) 2 (omega arith), days_of_months_table (pos y) 3 (omega arith), days_of_months_more (pos y) 3 (omega arith)))
month_begun y (suc (suc (suc (suc zero)))) d low high first last =
    april (days_of_months (pos y) 3 + (d - 1)) (leap_day (pos y)) (one_leap_day y) (omega (arith, days_of_months_table (pos y) 3 (omega arith))) (omega (arith, days_of_months_table (pos y) 3 (omega arith), days_of_months_table (pos y) 4 (omega arith), days_of_months_more (pos y) 4 (omega arith)))
month_begun y (suc (suc (suc (suc (suc zero))))) d low high first last =
    may (days_of_months (pos y) 4 + (d - 1)) (leap_day (pos y)) (one_leap_day y) (omega (arith, days_of_months_table (pos y) 4 (omega arith))) (omega (arith, days_of_months_table (pos y) 4 (omega arith), days_of_months_table (pos y) 5 (omega arith), days_of_months_more (pos y) 5 (omega arith)))
month_begun y (suc (suc (suc (suc (suc (suc zero)))))) d low high first last =
    june (days_of_months (pos y) 5 + (d - 1)) (leap_day (pos y)) (one_leap_day y) (omega (arith, days_of_months_table (pos y) 5 (omega arith))) (omega (arith, days_of_months_table (pos y) 5 (omega arith), days_of_months_table (pos y) 6 (omega arith), days_of_months_more (pos y) 6 (omega arith)))
month_begun y (suc (suc (suc (suc (suc (suc (suc zero))))))) d low high first last =
    july (days_of_months (pos y) 6 + (d - 1)) (leap_day (pos y)) (one_leap_day y) (omega (arith, days_of_months_table (pos y) 6 (omega arith))) (omega (arith, days_of_months_table (pos y) 6 (omega arith), days_of_months_table (pos y) 7 (omega arith), days_of_months_more (pos y) 7 (omega arith)))
month_begun y (suc (suc (suc (suc (suc (suc (suc (suc zero)))))))) d low high first last =
    august (days_of_months (pos y) 7 + (d - 1)) (leap_day (pos y)) (one_leap_day y) (omega (arith, days_of_months_table (pos y) 7 (omega arith))) (omega (arith, days_of_months_table (pos y) 7 (omega arith), days_of_months_table (pos y) 8 (omega arith), days_of_months_more (pos y) 8 (omega arith)))
month_begun y (suc (suc (suc (suc (suc (suc (suc (suc (suc zero))))))))) d low high first last =
    september (days_of_months (pos y) 8 + (d - 1)) (leap_day (pos y)) (one_leap_day y) (omega (arith, days_of_months_table (pos y) 8 (omega arith))) (omega (arith, days_of_months_table (pos y) 8 (omega arith), days_of_months_table (pos y) 9 (omega arith), days_of_months_more (pos y) 9 (omega arith)))
month_begun y (suc (suc (suc (suc (suc (suc (suc (suc (suc (suc zero)))))))))) d low high first last =
    october (days_of_months (pos y) 9 + (d - 1)) (leap_day (pos y)) (one_leap_day y) (omega (arith, days_of_months_table (pos y) 9 (omega arith))) (omega (arith, days_of_months_table (pos y) 9 (omega arith), days_of_months_table (pos y) 10 (omega arith), days_of_months_more (pos y) 10 (omega arith)))
month_begun y (suc (suc (suc (suc (suc (suc (suc (suc (suc (suc (suc zero))))))))))) d low high first last =
    november (days_of_months (pos y) 10 + (d - 1)) (leap_day (pos y)) (one_leap_day y) (omega (arith, days_of_months_table (pos y) 10 (omega arith))) (omega (arith, days_of_months_table (pos y) 10 (omega arith), days_of_months_table (pos y) 11 (omega arith), days_of_months_more (pos y) 11 (omega arith)))
month_begun y (suc (suc (suc (suc (suc (suc (suc (suc (suc (suc (suc (suc zero)))))))))))) d low high first last =
    december (days_of_months (pos y) 11 + (d - 1)) (leap_day (pos y)) (one_leap_day y) (omega (arith, days_of_months_table (pos y) 11 (omega arith)))
month_begun y (suc (suc (suc (suc (suc (suc (suc (suc (suc (suc (suc (suc (suc n))))))))))))) d low high first last = absurd (omega arith)

counted : (y m d : ℕ) → day_count (pos y) m d ≡ days_of_years (y + 10000) + (days_of_months (pos y) (m - 1) + d - 1)
unfolding day_count
counted y m d = refl

-- the number of a month, if the year and the place in it are known
number_of : (place y p m : ℕ) → year_of_day place ≡ y → place - days_before_year y ≡ p → month_in_year y p ≡ m
    → month_number (year_of_day place) (month_in_year (year_of_day place) (place - days_before_year (year_of_day place))) ≡ month_number y m
number_of place y p m year inside month =
    ap (λ (v : ℕ). month_number v (month_in_year v (place - days_before_year v))) year
    ∙ ap (λ (q : ℕ). month_number y (month_in_year y q)) inside
    ∙ ap (λ (k : ℕ). month_number y k) month

-- a place in a year from the year 0 on has the number of its month
month_of_place : (place y m d : ℕ) → IsCivilDate (pos y) m d → place ≡ days_before_year y + (days_of_months (pos y) (m - 1) + (d - 1))
    → pos (month_number (year_of_day place) (month_in_year (year_of_day place) (place - days_before_year (year_of_day place)))) ≡ pos 12 *ℤ pos y +ℤ pos m
month_of_place place y m d date at =
    let p = days_of_months (pos y) (m - 1) + (d - 1) in
    let first : 1 ≤ d = date.2.0 in
    let short : p < 365 + leap_day (pos y) = omega (arith, day_of_year_bound (pos y) m d date, days_in_year-leap_day (pos y)) in
    let year : year_of_day place ≡ y = year_of y place (omega arith) (omega (arith, next_year y)) in
    ap pos (number_of place y p m year (omega arith) (month_begun y m d date.1.0 date.1.1 first date.2.1))

-- 1 January 1969 is a year before 1 January 1970
day_count-1969 : day_count (pos 1969) 1 1 ≡ 4371588
day_count-1969 = omega (arith, day_count-epoch, day_count-next_year (pos 1969) (pos 1970) (omega (arith, signed_arith)) refl)

-- the place of a day shortly before 1970, from the year 0 on
place_before : (n : ℕ) → n ≤ 29 → at_least_0 (negsuc n +ℤ pos 719528) ≡ 719527 - n
place_before n le =
    let there : negsuc n +ℤ pos 719528 ≡ pos (719527 - n) = omega (arith, signed_arith) in ap at_least_0 there

-- a date from the end of 1969 on has the number of its month
pub month_of_date : (year day : ℤ) (m d : ℕ) → IsCivilDate year m d → days_from_civil year m d ≡ day → FIRST_DAY ≤ℤ day → month_of day ≡ pos 12 *ℤ year +ℤ pos m
month_of_date (negsuc a) day m d date e low =
    let count = rw e at (days_from_civil-day_count (negsuc a) m d) in
    let earlier = day_count-lt_year (negsuc a) m d (pos 1969) 1 1 date (omega arith) (omega (arith, signed_arith)) in
    absurd (omega (arith, signed_arith, day_count-1969, count))
month_of_date (pos y) (pos n) m d date e low =
    let count : n + 4371953 ≡ day_count (pos y) m d = omega (arith, signed_arith, rw e at (days_from_civil-day_count (pos y) m d)) in
    let first : 1 ≤ d = date.2.0 in
    month_of_place (n + 719528) y m d date (omega (arith, counted y m d, days_before y))
month_of_date (pos y) (negsuc n) m d date e low =
    let few : n ≤ 29 = omega (arith, signed_arith) in
    let count : 4371953 ≡ suc n + day_count (pos y) m d = omega (arith, signed_arith, rw e at (days_from_civil-day_count (pos y) m d)) in
    let first : 1 ≤ d = date.2.0 in
    month_of_place (at_least_0 (negsuc n +ℤ pos 719528)) y m d date (omega (arith, place_before n few, counted y m d, days_before y))

-- the day of a stamp at an offset of two bytes
day_late : (at : ℕ) (offset : ℤ) → FitsSigned w16 offset → FIRST_DAY ≤ℤ day_at at offset
day_late at offset fits = omega (arith, signed_arith)

-- a stamp falls in the month of its date
pub month_of_stamp : (at : ℕ) (offset : ℤ) → FitsSigned w16 offset → HasMonthOfDate at offset
month_of_stamp at offset fits year month day date e = month_of_date year (day_at at offset) month day date e (day_late at offset fits)
