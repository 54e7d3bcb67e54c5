-- The number of each window of a stamp, at each offset of a control in form, has 64 bits.
use Rattle.std.proofs.Common.{◌≡◌, ◌*◌, ◌+◌, ◌-◌, ◌/◌, ◌<◌, ◌≤◌, ◌≤ℤ◌, ◌+ℤ◌, ◌*ℤ◌, ◌∷◌, arith, Bool, cond, false, filter, length, List, [], nat_le, nat_lt, negsuc, pos, suc, true, ℕ, ℤ}
use Rattle.std.specs.Prelude.{int_le}
use Rattle.std.specs.Int.{int_div_euclid}
use Rattle.std.proofs.lemmas.Bool.{and_parts, leb-true}
use Rattle.std.proofs.lemmas.Bool.Decides.{nat_tests}
use Rattle.std.proofs.lemmas.Int.{ints}
use Rattle.iss_model.specs.declared.setting.Window.{Window}
use Rattle.iss_model.specs.declared.setting.Window.TheVariants as window
use Rattle.iss_model.specs.Calendar.{at_least_0, day_at, days_before_year, is_leap_year, month_in_year, month_number, month_of, month_starts, week_of, window_at, year_of_day}
use Rattle.iss_model.specs.Forms.{is_offset, is_stamp}
use Rattle.iss_image_lists.specs.Forms.{is_signed}

-- a number lies between these
record IsFrom (lowest highest : ℤ) (z : ℤ) : Type 0 where
  low : lowest ≤ℤ z
  high : z ≤ℤ highest

signed_pos : (n : ℕ) → n < 9223372036854775808 → is_signed (pos n) ≡ true
signed_pos n h = grind (arith, nat_tests)

signed_negsuc : (n : ℕ) → n < 9223372036854775808 → is_signed (negsuc n) ≡ true
signed_negsuc n h = grind (arith, nat_tests)

small_signed : (z : ℤ) → IsFrom (negsuc 999999999) (pos 999999999) z → is_signed z ≡ true
small_signed (pos n) h = signed_pos n (omega (arith, ints, h.high))
small_signed (negsuc n) h = signed_negsuc n (omega (arith, ints, h.low))

-- days ----

offset_between : (offset : ℤ) → is_offset offset ≡ true → IsFrom (negsuc 719) (pos 840) offset
offset_between (pos n) h =
    let high : n ≤ 840 = omega (arith, leb-true _ _ (and_parts (int_le (negsuc 719) (pos n)) (int_le (pos n) (pos 840)) h).1) in
    record { low = omega (arith, ints); high = omega (arith, ints, high) }
offset_between (negsuc n) h =
    let low : n ≤ 719 = omega (arith, leb-true _ _ (and_parts (int_le (negsuc 719) (negsuc n)) (int_le (negsuc n) (pos 840)) h).0) in
    record { low = omega (arith, ints, low); high = omega (arith, ints) }

-- a stamp on a clock at this offset
clock_between : (at : ℕ) (offset : ℤ) → at ≤ 253370764799999 → IsFrom (negsuc 719) (pos 840) offset → IsFrom (negsuc 86399999) (pos 253370899999999) (pos at +ℤ pos 60000 *ℤ offset)
clock_between at offset last h = record { low = omega (arith, ints, last, h.low, h.high); high = omega (arith, ints, last, h.low, h.high) }

day_between : (z : ℤ) → IsFrom (negsuc 86399999) (pos 253370899999999) z → IsFrom (negsuc 9) (pos 2999999) (int_div_euclid z (pos 86400000))
day_between (pos n) h =
    let last : n ≤ 253370899999999 = omega (arith, ints, h.high) in
    let day : n / 86400000 ≤ 2999999 = omega (arith, last) in
    record { low = omega (arith, ints); high = omega (arith, ints, day) }
day_between (negsuc n) h =
    let first : n ≤ 86399999 = omega (arith, ints, h.low) in
    let day : n / 86400000 ≤ 9 = omega (arith, first) in
    record { low = omega (arith, ints, day); high = omega (arith, ints) }

day_of_stamp : (at : ℕ) (offset : ℤ) → is_stamp at ≡ true → is_offset offset ≡ true → IsFrom (negsuc 9) (pos 2999999) (day_at at offset)
day_of_stamp at offset stamp form =
    let last : at ≤ 253370764799999 = grind (arith, nat_tests) in
    day_between (pos at +ℤ pos 60000 *ℤ offset) (clock_between at offset last (offset_between offset form))

-- weeks ----

sevenths : (z : ℤ) → IsFrom (negsuc 9) (pos 3999999) z → IsFrom (negsuc 9) (pos 3999999) (int_div_euclid z (pos 7))
sevenths (pos n) h =
    let last : n ≤ 3999999 = omega (arith, ints, h.high) in
    let week : n / 7 ≤ 3999999 = omega (arith, last) in
    record { low = omega (arith, ints); high = omega (arith, ints, week) }
sevenths (negsuc n) h =
    let first : n ≤ 9 = omega (arith, ints, h.low) in
    let week : n / 7 ≤ 9 = omega (arith, first) in
    record { low = omega (arith, ints, week); high = omega (arith, ints) }

later_day : (day : ℤ) → IsFrom (negsuc 9) (pos 2999999) day → IsFrom (negsuc 9) (pos 3999999) (day +ℤ pos 4)
later_day day h = record { low = omega (arith, ints, h.low, h.high); high = omega (arith, ints, h.low, h.high) }

week_signed : (day : ℤ) → IsFrom (negsuc 9) (pos 2999999) day → is_signed (week_of day) ≡ true
week_signed day h =
    let week = sevenths (day +ℤ pos 4) (later_day day h) in
    small_signed (week_of day) (record { low = omega (arith, ints, week.low); high = omega (arith, ints, week.high) })

-- months ----

few_kept : {A : Type 0} (p : A → Bool) (xs : List A) → length (filter p xs) ≤ length xs
few_kept p [] = omega arith
few_kept {A} p (x ∷ xs) = by (p x) (few_kept p xs)
  where
    by : (b : Bool) → length (filter p xs) ≤ length xs → length (cond b (x ∷ filter p xs) (filter p xs)) ≤ suc (length xs)
    by true h = omega (arith, h)
    by false h = omega (arith, h)

few_months : (year place : ℕ) → month_in_year year place ≤ 12
few_months year place = few_kept (λ start. nat_le start place) (month_starts (cond (is_leap_year year) 1 0))

mended_near : (a b : Bool) (near : ℕ) → cond a (near - 1) (cond b (near + 1) near) ≤ near + 1
mended_near true b near = omega arith
mended_near false true near = omega arith
mended_near false false near = omega arith

year_near : (day : ℕ) → year_of_day day ≤ 400 * day / 146097 + 1
year_near day = mended_near (nat_lt day (days_before_year (400 * day / 146097))) (nat_le (days_before_year (400 * day / 146097 + 1)) day) (400 * day / 146097)

place_between : (z : ℤ) → z ≤ℤ pos 3999999 → at_least_0 z ≤ 3999999
place_between (pos n) h = omega (arith, ints, h)
place_between (negsuc n) h = omega arith

since_year_0 : (day : ℤ) → IsFrom (negsuc 9) (pos 2999999) day → (day +ℤ pos 719528) ≤ℤ pos 3999999
since_year_0 day h = omega (arith, ints, h.low, h.high)

month_small : (year month : ℕ) → year ≤ 19999 → month ≤ 12 → month_number year month < 9223372036854775808
month_small year month h k = omega (arith, h, k)

early_year : (year place : ℕ) → place ≤ 3999999 → year ≤ 400 * place / 146097 + 1 → year ≤ 19999
early_year year place h near = omega (arith, h, near)

month_signed : (day : ℤ) → IsFrom (negsuc 9) (pos 2999999) day → is_signed (month_of day) ≡ true
month_signed day h =
    let place : ℕ = at_least_0 (day +ℤ pos 719528) in
    let year : ℕ = year_of_day place in
    signed_pos (month_number year (month_in_year year (place - days_before_year year)))
    (month_small year (month_in_year year (place - days_before_year year)) (early_year year place (place_between (day +ℤ pos 719528) (since_year_0 day h)) (year_near place)) (few_months year (place - days_before_year year)))

-- windows ----

-- the number of each window of a stamp has 64 bits, at each offset in form
pub window_signed : (w : Window) (at : ℕ) (offset : ℤ) → is_stamp at ≡ true → is_offset offset ≡ true → is_signed (window_at w at offset) ≡ true
window_signed window.Transaction at offset stamp form = signed_pos 0 (omega arith)
window_signed window.Day at offset stamp form =
    let day = day_of_stamp at offset stamp form in
    small_signed (day_at at offset) (record { low = omega (arith, ints, day.low); high = omega (arith, ints, day.high) })
window_signed window.Week at offset stamp form = week_signed (day_at at offset) (day_of_stamp at offset stamp form)
window_signed window.Month at offset stamp form = month_signed (day_at at offset) (day_of_stamp at offset stamp form)
window_signed window.Lifetime at offset stamp form = signed_pos 0 (omega arith)
