-- The window of a later stamp has no smaller number.
use Rattle.std.proofs.Common.{◌≡◌, ℕ, suc, ℤ, pos, negsuc, ◌+ℤ◌, ◌*ℤ◌, ◌≤ℤ◌, ◌+◌, ◌-◌, ◌*◌, ◌/◌, ◌≤◌, Bool, true, false, cond, nat_le, nat_lt, List, [], ◌∷◌, length, filter, refl, subst, arith, ◌⊎◌, inl, inr}
use Rattle.std.proofs.lemmas.Int.{ints}
use Rattle.std.proofs.lemmas.Bool.Decides.{nat_tests}
use Rattle.std.specs.Int.{int_div_euclid}
use Rattle.iss_model.specs.declared.setting.Window.{Window}
use Rattle.iss_model.specs.declared.setting.Window.TheVariants as window
use Rattle.iss_model.specs.Calendar.{at_least_0, day_at, days_before_year, is_leap_year, month_in_year, month_number, month_of, month_starts, week_of, window_at, year_of_day}

-- days and weeks ----

days_grow : (x y : ℤ) → x ≤ℤ y → int_div_euclid x (pos 86400000) ≤ℤ int_div_euclid y (pos 86400000)
days_grow (pos a) (pos b) h = omega (arith, ints, h)
days_grow (pos a) (negsuc b) h = absurd (omega (arith, ints, h))
days_grow (negsuc a) (pos b) h = omega (arith, ints, h)
days_grow (negsuc a) (negsuc b) h = omega (arith, ints, h)

plus_grows : (x y : ℤ) (a b : ℤ) → a ≤ℤ b → x ≡ y → (a +ℤ x) ≤ℤ (b +ℤ y)
plus_grows x y a b h e = omega (arith, ints, h, e)

pos_grows : (a b : ℕ) → a ≤ b → pos a ≤ℤ pos b
pos_grows a b h = omega (arith, ints, h)

day_grows : (offset : ℤ) (a b : ℕ) → a ≤ b → day_at a offset ≤ℤ day_at b offset
day_grows offset a b h =
    days_grow (pos a +ℤ pos 60000 *ℤ offset) (pos b +ℤ pos 60000 *ℤ offset) (plus_grows (pos 60000 *ℤ offset) (pos 60000 *ℤ offset) (pos a) (pos b) (pos_grows a b h) refl)

weeks_grow : (x y : ℤ) → x ≤ℤ y → int_div_euclid x (pos 7) ≤ℤ int_div_euclid y (pos 7)
weeks_grow (pos a) (pos b) h = omega (arith, ints, h)
weeks_grow (pos a) (negsuc b) h = absurd (omega (arith, ints, h))
weeks_grow (negsuc a) (pos b) h = omega (arith, ints, h)
weeks_grow (negsuc a) (negsuc b) h = omega (arith, ints, h)

week_grows : (x y : ℤ) → x ≤ℤ y → week_of x ≤ℤ week_of y
week_grows x y h = weeks_grow (x +ℤ pos 4) (y +ℤ pos 4) (plus_grows (pos 4) (pos 4) x y h refl)

-- years ----

-- a day lies in its year
record IsInYear (day year : ℕ) : Type 0 where
  from : days_before_year year ≤ day
  until : day + 1 ≤ days_before_year (year + 1)

in_year : (day : ℕ) → IsInYear day (year_of_day day)
in_year day = by (nat_lt day (days_before_year near)) refl (nat_le (days_before_year (near + 1)) day) refl
  where
    near : ℕ
    near = 400 * day / 146097

    by : (b : Bool) → nat_lt day (days_before_year near) ≡ b → (c : Bool) → nat_le (days_before_year (near + 1)) day ≡ c
        → IsInYear day (cond b (near - 1) (cond c (near + 1) near))
    by true e c f =
        let less : day + 1 ≤ days_before_year near = under day (days_before_year near) e in
        record { from = omega (arith, less); until = omega (arith, less) }
      where
        under : (a b : ℕ) → nat_lt a b ≡ true → a + 1 ≤ b
        under a b h = grind (arith, nat_tests)
    by false e true f =
        let more : days_before_year (near + 1) ≤ day = at_most (days_before_year (near + 1)) day f in
        record { from = more; until = omega (arith, more) }
      where
        at_most : (a b : ℕ) → nat_le a b ≡ true → a ≤ b
        at_most a b h = grind (arith, nat_tests)
    by false e false f =
        record { from = not_under day (days_before_year near) e; until = not_over (days_before_year (near + 1)) day f }
      where
        not_under : (a b : ℕ) → nat_lt a b ≡ false → b ≤ a
        not_under a b h = grind (arith, nat_tests)

        not_over : (a b : ℕ) → nat_le a b ≡ false → b + 1 ≤ a
        not_over a b h = grind (arith, nat_tests)

-- months ----

counted_more : (a b : ℕ) → a ≤ b → (starts : List ℕ) → length (filter (λ start. nat_le start a) starts) ≤ length (filter (λ start. nat_le start b) starts)
counted_more a b h [] = omega arith
counted_more a b h (x ∷ xs) = by (nat_le x a) refl (nat_le x b) refl (counted_more a b h xs)
  where
    never : (x a b : ℕ) → a ≤ b → nat_le x a ≡ true → nat_le x b ≡ false → ⊥
    never x a b h e f = grind (arith, nat_tests)

    by : (p : Bool) → nat_le x a ≡ p → (q : Bool) → nat_le x b ≡ q
        → length (filter (λ start. nat_le start a) xs) ≤ length (filter (λ start. nat_le start b) xs)
        → length (cond p (x ∷ filter (λ start. nat_le start a) xs) (filter (λ start. nat_le start a) xs)) ≤ length (cond q (x ∷ filter (λ start. nat_le start b) xs) (filter (λ start. nat_le start b) xs))
    by true e true f rest = omega (arith, rest)
    by true e false f rest = absurd (never x a b h e f)
    by false e true f rest = omega (arith, rest)
    by false e false f rest = rest

all_counted : (p : ℕ → Bool) (xs : List ℕ) → length (filter p xs) ≤ length xs
all_counted p [] = omega arith
all_counted p (x ∷ xs) = by (p x) (all_counted p xs)
  where
    by : (b : Bool) → length (filter p xs) ≤ length xs → length (cond b (x ∷ filter p xs) (filter p xs)) ≤ suc (length xs)
    by true h = omega (arith, h)
    by false h = omega (arith, h)

at_most_twelve : (year place : ℕ) → month_in_year year place ≤ 12
at_most_twelve year place = all_counted (λ start. nat_le start place) (month_starts (cond (is_leap_year year) 1 0))

-- the list after its first element
abbrev drop_first : List ℕ → List ℕ
drop_first [] = []
drop_first (x ∷ xs) = xs

first_month : (year place : ℕ) → 1 ≤ month_in_year year place
first_month year place = by (nat_le 0 place) (low place)
  where
    low : (n : ℕ) → nat_le 0 n ≡ true
    low n = grind (arith, nat_tests)

    by : (b : Bool) → b ≡ true → 1 ≤ length (cond b (0 ∷ filter (λ start. nat_le start place) (drop_first (month_starts (cond (is_leap_year year) 1 0)))) (filter (λ start. nat_le start place) (drop_first (month_starts (cond (is_leap_year year) 1 0)))))
    by true e = omega arith
    by false e = cc

-- the number of the month of a day
abbrev month_nat : ℕ → ℕ
month_nat place = month_number (year_of_day place) (month_in_year (year_of_day place) (place - days_before_year (year_of_day place)))

month_grows : (a b : ℕ) → a ≤ b → month_nat a ≤ month_nat b
month_grows a b h = by (order (year_of_day a) (year_of_day b))
  where
    order : (x y : ℕ) → (x + 1 ≤ y) ⊎ ((x ≡ y) ⊎ (y + 1 ≤ x))
    order x y = tell (nat_lt x y) refl (nat_lt y x) refl
      where
        yes : (a b : ℕ) → nat_lt a b ≡ true → a + 1 ≤ b
        yes a b h = grind (arith, nat_tests)

        neither : (a b : ℕ) → nat_lt a b ≡ false → nat_lt b a ≡ false → a ≡ b
        neither a b h k = grind (arith, nat_tests)

        tell : (p : Bool) → nat_lt x y ≡ p → (q : Bool) → nat_lt y x ≡ q → (x + 1 ≤ y) ⊎ ((x ≡ y) ⊎ (y + 1 ≤ x))
        tell true e q f = inl (yes x y e)
        tell false e true f = inr (inr (yes y x f))
        tell false e false f = inr (inl (neither x y e f))

    by : (year_of_day a + 1 ≤ year_of_day b) ⊎ ((year_of_day a ≡ year_of_day b) ⊎ (year_of_day b + 1 ≤ year_of_day a)) → month_nat a ≤ month_nat b
    by (inl less) = omega (arith, less, at_most_twelve (year_of_day a) (a - days_before_year (year_of_day a)), first_month (year_of_day b) (b - days_before_year (year_of_day b)))
    by (inr (inl same)) =
        subst (λ (y : ℕ). month_nat a ≤ month_number y (month_in_year y (b - days_before_year y))) same
        (omega (arith, counted_more (a - days_before_year (year_of_day a)) (b - days_before_year (year_of_day a)) (omega (arith, h)) (month_starts (cond (is_leap_year (year_of_day a)) 1 0))))
    by (inr (inr more)) =
        let there : days_before_year (year_of_day a) ≤ a = (in_year a).from in
        let past : b + 1 ≤ days_before_year (year_of_day b + 1) = (in_year b).until in
        let far : days_before_year (year_of_day b + 1) ≤ days_before_year (year_of_day a) = omega (arith, more) in
        absurd (omega (arith, h, there, past, far))

-- windows ----

from_0_grows : (x y : ℤ) → x ≤ℤ y → at_least_0 x ≤ at_least_0 y
from_0_grows (pos a) (pos b) h = omega (arith, ints, h)
from_0_grows (pos a) (negsuc b) h = absurd (omega (arith, ints, h))
from_0_grows (negsuc a) (pos b) h = omega arith
from_0_grows (negsuc a) (negsuc b) h = omega arith

month_of_grows : (x y : ℤ) → x ≤ℤ y → month_of x ≤ℤ month_of y
month_of_grows x y h =
    pos_grows (month_nat (at_least_0 (x +ℤ pos 719528))) (month_nat (at_least_0 (y +ℤ pos 719528)))
    (month_grows (at_least_0 (x +ℤ pos 719528)) (at_least_0 (y +ℤ pos 719528)) (from_0_grows (x +ℤ pos 719528) (y +ℤ pos 719528) (plus_grows (pos 719528) (pos 719528) x y h refl)))

-- a later stamp's window has no smaller number, at each offset
pub window_grows : (w : Window) (offset : ℤ) (a b : ℕ) → a ≤ b → window_at w a offset ≤ℤ window_at w b offset
window_grows window.Transaction offset a b h = pos_grows 0 0 (omega arith)
window_grows window.Day offset a b h = day_grows offset a b h
window_grows window.Week offset a b h = week_grows (day_at a offset) (day_at b offset) (day_grows offset a b h)
window_grows window.Month offset a b h = month_of_grows (day_at a offset) (day_at b offset) (day_grows offset a b h)
window_grows window.Lifetime offset a b h = pos_grows 0 0 (omega arith)
