-- What the laws ask of rows.
use Rattle.std.specs.Prelude.{ℕ, ℤ, pos, int_le, Bool, List, length, filter}
use Rattle.iss_model.specs.declared.entry.Row.{Row}
use Rattle.iss_model.specs.declared.entry.Entry.{Entry}

-- how many rows have such an entry
abbrev pub times : (Entry → Bool) → List Row → ℕ
times test rows = length (filter (λ row. test row.entry) rows)

-- a number is 0 or more
abbrev pub not_negative : ℤ → Bool
not_negative z = int_le (pos 0) z
