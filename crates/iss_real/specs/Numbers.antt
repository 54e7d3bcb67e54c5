use Rattle.std.specs.Prelude.{ℕ, Bool, nat_le, nat_lt}

-- the number is at most that one
abbrev pub is_up_to : ℕ → ℕ → Bool
is_up_to last number = nat_le number last

-- the number is less than that one
abbrev pub is_below : ℕ → ℕ → Bool
is_below bound number = nat_lt number bound
