-- What stood in, as sums at keys.
use Rattle.std.specs.Prelude.{ℕ, ℤ, pos, nat_lt, Bool, ◌&&◌, List}
use Rattle.std.specs.List.{list_all}
use Rattle.iss_model.specs.declared.counted.Stood.{Stood}
use Rattle.iss_commando.specs.Days.{day_key}

-- a sum at its key
abbrev pub stood_entry : Stood → List ℕ × ℤ
stood_entry s = (day_key s.product s.user s.day, pos s.amount)

-- no byte is 0, as in each token
abbrev pub has_no_zero : List ℕ → Bool
has_no_zero name = list_all (λ b. nat_lt 0 b) name

-- neither name of a sum has a byte 0
abbrev pub is_plain : Stood → Bool
is_plain s = has_no_zero s.product && has_no_zero s.user
