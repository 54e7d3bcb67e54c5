-- The days before a year, and the year of a day.
use Rattle.std.proofs.Common.{◌≡◌, ℕ, ◌+◌, ◌-◌, ◌*◌, ◌/◌, ◌<◌, ◌≤◌, true, false, cond, nat_lt, nat_le, refl, ap, ⊎_elim, arith, pos}
use Rattle.std.proofs.lemmas.Bool.{cases_lt}
use Rattle.std.proofs.lemmas.Bool.Decides.{nat_tests}
use Rattle.jiff_core.specs.Calendar.{days_of_years}
use Rattle.jiff_core.proofs.MarchLemmas.{leap_day, leap_day-shift, days_of_years-march_days}
use Rattle.iss_model.specs.Calendar.{is_leap_year, days_before_year, year_of_day}

-- the next year begins 365 days later, or 366
pub next_year : (y : ℕ) → days_before_year (y + 1) ≡ days_before_year y + 365 + cond (is_leap_year y) 1 0
next_year y = grind (arith, nat_tests)

before_leap_day : (y : ℕ) → days_before_year y + cond (is_leap_year y) 1 0 ≡ 365 * y + y / 4 - y / 100 + y / 400 + 1
before_leap_day y = grind (arith, nat_tests)

-- the years from the year 0 on are those from the year -10000 on, less 3652425 days
pub days_before : (y : ℕ) → days_of_years (y + 10000) ≡ days_before_year y + 3652425
days_before y =
    let shift : leap_day (pos y) ≡ leap_day (pos (y + 10000)) = leap_day-shift (pos y) (y + 10000) refl in
    omega (arith, days_of_years-march_days (y + 10000), before_leap_day y)

chosen : (a b : ℕ) → a < b → nat_lt a b ≡ true
chosen a b h = grind (arith, nat_tests)

chosen_not : (a b : ℕ) → b ≤ a → nat_lt a b ≡ false
chosen_not a b h = grind (arith, nat_tests)

reaches : (a b : ℕ) → a ≤ b → nat_le a b ≡ true
reaches a b h = grind (arith, nat_tests)

misses : (a b : ℕ) → b < a → nat_le a b ≡ false
misses a b h = grind (arith, nat_tests)

one_less : (near y place : ℕ) → near + 1 ≡ y → days_before_year y ≤ place → place < days_before_year (y + 1)
    → cond (nat_lt place (days_before_year near)) (near - 1) (cond (nat_le (days_before_year (near + 1)) place) (near + 1) near) ≡ y
one_less near y place e low high =
    let next = next_year near in
    let start : days_before_year (near + 1) ≡ days_before_year y = ap (λ (n : ℕ). days_before_year n) e in
    let later : nat_lt place (days_before_year near) ≡ false = chosen_not place (days_before_year near) (omega arith) in
    let reached : nat_le (days_before_year (near + 1)) place ≡ true = reaches (days_before_year (near + 1)) place (omega arith) in
    rw (later, reached) e

exact : (near y place : ℕ) → near ≡ y → days_before_year y ≤ place → place < days_before_year (y + 1)
    → cond (nat_lt place (days_before_year near)) (near - 1) (cond (nat_le (days_before_year (near + 1)) place) (near + 1) near) ≡ y
exact near y place e low high =
    let start : days_before_year near ≡ days_before_year y = ap (λ (n : ℕ). days_before_year n) e in
    let end : days_before_year (near + 1) ≡ days_before_year (y + 1) = ap (λ (n : ℕ). days_before_year (n + 1)) e in
    let later : nat_lt place (days_before_year near) ≡ false = chosen_not place (days_before_year near) (omega arith) in
    let unreached : nat_le (days_before_year (near + 1)) place ≡ false = misses (days_before_year (near + 1)) place (omega arith) in
    rw (later, unreached) e

one_more : (near y place : ℕ) → near ≡ y + 1 → days_before_year y ≤ place → place < days_before_year (y + 1)
    → cond (nat_lt place (days_before_year near)) (near - 1) (cond (nat_le (days_before_year (near + 1)) place) (near + 1) near) ≡ y
one_more near y place e low high =
    let start : days_before_year near ≡ days_before_year (y + 1) = ap (λ (n : ℕ). days_before_year n) e in
    let earlier : nat_lt place (days_before_year near) ≡ true = chosen place (days_before_year near) (omega arith) in
    rw earlier (omega arith)

-- a quotient that misses the year by one is mended
mended : (near y place : ℕ) → days_before_year y ≤ place → place < days_before_year (y + 1) → near ≤ y + 1 → y ≤ near + 1
    → cond (nat_lt place (days_before_year near)) (near - 1) (cond (nat_le (days_before_year (near + 1)) place) (near + 1) near) ≡ y
mended near y place low high above below =
    ⊎_elim
    (λ less. one_less near y place (omega arith) low high)
    (λ more. ⊎_elim
    (λ same. exact near y place (omega arith) low high)
    (λ great. one_more near y place (omega arith) low high)
    (cases_lt near (y + 1)))
    (cases_lt near y)

near_is : (y place : ℕ) → days_before_year y ≤ place → place < days_before_year (y + 1) → (400 * place / 146097 ≤ y + 1) × (y ≤ 400 * place / 146097 + 1)
near_is y place low high = (omega arith, omega arith)

-- a day of a year has that year
pub year_of : (y place : ℕ) → days_before_year y ≤ place → place < days_before_year (y + 1) → year_of_day place ≡ y
year_of y place low high = let near = near_is y place low high in mended (400 * place / 146097) y place low high near.0 near.1
