-- What a token is, and how it is kept.
use Rattle.std.specs.Prelude.{ℕ, Bool, List, length, take, IsTrue, ◌==◌, ◌&&◌, ◌||◌, nat_le}
use Rattle.std.specs.List.{list_all}
use Rattle.iss_model.specs.declared.limits.TheConstants.{LONGEST_TOKEN}
use Rattle.iss_model.specs.Padding.{IsPadded}

-- an ASCII letter, a digit, `-` or `_`
abbrev pub is_token_byte : ℕ → Bool
is_token_byte b =
    nat_le 97 b && nat_le b 122
    || nat_le 65 b && nat_le b 90
    || nat_le 48 b && nat_le b 57
    || b == 45
    || b == 95

-- 1 to 36 such bytes
abbrev pub is_token : List ℕ → Bool
is_token text = nat_le 1 (length text) && nat_le (length text) LONGEST_TOKEN && list_all is_token_byte text

-- an array keeps a token of this length
pub record IsKept (bytes : List ℕ) (len : ℕ) : Type 0 where
  pub padded : IsPadded bytes len
  pub spelled : IsTrue (is_token (take len bytes))
