-- The token of a gateway call: a UUID of RFC 9562.
use Rattle.std.specs.Prelude.{ℕ, ◌+◌, ◌/◌, ◌%◌, ◌^◌, nat_lt, List, [], ◌∷◌, ◌++◌, slice_range, flat_map, if◌then◌else◌}
use Rattle.std.specs.Int.{bytes_high_first}

-- The UUID of a call, of version 8. The instance is in its first 48 bits, the 12 bits after the version are zeros, and the last 62 are
-- the call's number.
abbrev pub call_uuid : ℕ → ℕ → List ℕ
call_uuid instance number = bytes_high_first 6 instance ++ 128 ∷ 0 ∷ bytes_high_first 8 (2 ^ 63 + number)

-- a digit of base 16, in lower case
abbrev pub hex_digit : ℕ → ℕ
hex_digit n = if nat_lt n 10 then 48 + n else 87 + n

-- bytes in base 16, two digits each
abbrev pub hex_text : List ℕ → List ℕ
hex_text bytes = flat_map (λ byte. hex_digit (byte / 16) ∷ hex_digit (byte % 16) ∷ []) bytes

-- the 16 bytes of a UUID as text: groups of 8, 4, 4, 4 and 12 digits
abbrev pub uuid_text : List ℕ → List ℕ
uuid_text bytes =
    hex_text (slice_range bytes 0 4)
    ++ 45 ∷ hex_text (slice_range bytes 4 6)
    ++ 45 ∷ hex_text (slice_range bytes 6 8)
    ++ 45 ∷ hex_text (slice_range bytes 8 10)
    ++ 45 ∷ hex_text (slice_range bytes 10 16)
