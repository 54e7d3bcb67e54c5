-- How the digits of an amount are read, a part at a time.
use Rattle.std.specs.Prelude.{ℕ, List, Option, None, if◌then◌else◌}
use Rattle.std.specs.List.{list_all}
use Rattle.iss_model.specs.Forms.{is_limit}
use Rattle.iss_model.specs.Amounts.{is_digit, digits_value, is_whole_text, value_after, if_form}

-- that number, if these are digits and it is a limit's
abbrev pub limit_after : ℕ → List ℕ → Option ℕ
limit_after start digits = if list_all is_digit digits then if_form is_limit (value_after start digits) else None

-- the number of a text of whole units, if it is a limit's
abbrev pub limit_of_units : List ℕ → Option ℕ
limit_of_units text = if is_whole_text text then if_form is_limit (digits_value text) else None
