-- Texts of which JSON escapes nothing.
use Rattle.std.specs.Prelude.{ℕ, ◌==◌, ◌&&◌, Bool, not, nat_le, List}
use Rattle.std.specs.List.{list_all}

-- the byte is no control character, quotation mark or backslash
abbrev pub is_plain_byte : ℕ → Bool
is_plain_byte b = nat_le 32 b && not (b == 34) && not (b == 92)

-- JSON escapes nothing in this text
abbrev pub is_plain : List ℕ → Bool
is_plain text = list_all is_plain_byte text
