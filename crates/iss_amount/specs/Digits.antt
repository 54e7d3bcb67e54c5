-- A whole number that decimal digits spell, from a least to a greatest.
use Rattle.std.specs.Prelude.{ℕ, ◌&&◌, nat_le, List, Option, Some, None, if◌then◌else◌}
use Rattle.std.specs.List.{list_all}
use Rattle.iss_model.specs.Amounts.{is_digit, digits_value, is_whole_text, value_after}

-- this number, if it is from the least to the most
abbrev pub within : ℕ → ℕ → ℕ → Option ℕ
within least most n = if nat_le least n && nat_le n most then Some n else None

-- the number that digits spell after those of the first one, if it is from the least to the most
abbrev pub number_after : ℕ → ℕ → ℕ → List ℕ → Option ℕ
number_after start least most digits = if list_all is_digit digits then within least most (value_after start digits) else None

-- the number that a text spells, if it is from the least to the most: decimal digits without a leading zero, save a lone zero
abbrev pub number_in : ℕ → ℕ → List ℕ → Option ℕ
number_in least most text = if is_whole_text text then within least most (digits_value text) else None
