-- The dates of a statement are those of jiff.
use Rattle.std.proofs.Common.{◌≡◌, ℕ, ℤ, pos, ◌≤◌, Bool, true, cond, nat_le, ◌&&◌, Some, None, sym, ap, subst, ◌∙◌, arith}
use Rattle.std.proofs.lemmas.Bool.Decides.{nat_tests}
use Rattle.std.specs.Int.{IsInRange}
use Rattle.jiff_core.specs.Calendar.{days_in_month, days_from_civil}
use Rattle.iss_statement.specs.Dates.{is_statement_date, day_of_civil}
use Rattle.iss_statement.proofs.Rows.{join}

tested : (a b : ℕ) → a ≤ b → nat_le a b ≡ true
tested a b h = grind (arith, nat_tests)

some_date : (y m d : ℕ) → 1970 ≤ y → y ≤ 9998 → IsInRange 1 12 m → IsInRange 1 (days_in_month (pos y) m) d → Some (days_from_civil (pos y) m d) ≡ day_of_civil y m d
some_date y m d low high month day =
    let years = join (nat_le 1970 y) (nat_le y 9998) (tested 1970 y low) (tested y 9998 high) in
    let from_first = join (nat_le 1970 y && nat_le y 9998) (nat_le 1 m) years (tested 1 m month.0) in
    let to_last = join (nat_le 1970 y && nat_le y 9998 && nat_le 1 m) (nat_le m 12) from_first (tested m 12 month.1) in
    let begun = join (nat_le 1970 y && nat_le y 9998 && nat_le 1 m && nat_le m 12) (nat_le 1 d) to_last (tested 1 d day.0) in
    let yes : is_statement_date y m d ≡ true =
    join (nat_le 1970 y && nat_le y 9998 && nat_le 1 m && nat_le m 12 && nat_le 1 d) (nat_le d (days_in_month (pos y) m)) begun (tested d (days_in_month (pos y) m) day.1) in
    sym (ap (λ (b : Bool). cond b (Some (days_from_civil (pos y) m d)) None) yes)

-- a date that jiff made of these parts has the day of the definition
pub made_of : (y m d month day : ℕ) (year stored number : ℤ) → 1970 ≤ y → y ≤ 9998 → year ≡ pos y → month ≡ m → day ≡ d → IsInRange 1 12 month → IsInRange 1 (days_in_month year month) day
    → stored ≡ number → number ≡ days_from_civil year month day → Some stored ≡ day_of_civil y m d
made_of y m d month day year stored number low high years months days in_year in_month kept is =
    ap (λ (n : ℤ). Some n) (kept ∙ is ∙ (λ i. days_from_civil (years i) (months i) (days i)))
    ∙ some_date y m d low high (subst (λ (n : ℕ). IsInRange 1 12 n) months in_year)
    (subst (λ (n : ℕ). IsInRange 1 (days_in_month (pos y) m) n) days
    (subst (λ (n : ℕ). IsInRange 1 (days_in_month (pos y) n) day) months (subst (λ (n : ℤ). IsInRange 1 (days_in_month n month) day) years in_month)))
