-- How far counters reach, as a test.
use Rattle.std.specs.Prelude.{ℕ, ℤ, pos, ◌-ℤ◌, int_le, Bool, ◌&&◌}
use Rattle.iss_model.specs.declared.counted.Counter.{Counter}

-- a sum is at least a load less a bound, and at most the bound
abbrev pub is_between : ℕ → ℕ → ℤ → Bool
is_between load bound sum = int_le (pos load -ℤ pos bound) sum && int_le sum (pos bound)

-- A counter's amount and its count are each between their bounds: the amount by what is open and what records may come to, the
-- count by the number of asked calls and that of records.
abbrev pub is_within : ℕ → ℕ → ℕ → ℕ → Counter → Bool
is_within amount most asked records k = is_between amount most k.used.amount && is_between asked records k.used.count
