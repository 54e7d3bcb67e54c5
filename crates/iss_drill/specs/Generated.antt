-- The generator of a drill: a linear congruence modulo 2^31.
use Rattle.std.specs.Prelude.{ℕ, zero, suc, ◌+◌, ◌*◌, ◌/◌, ◌%◌, ◌^◌}

-- the state after this one
abbrev pub next_state : ℕ → ℕ
next_state x = (x * 1103515245 + 12345) % 2 ^ 31

-- the state after this number of steps
unfoldable pub state_at : ℕ → ℕ
state_at zero = 1
state_at (suc i) = next_state (state_at i)

-- what is drawn for the event of this number: the upper half of the state, below 32768
abbrev pub drawn : ℕ → ℕ
drawn i = state_at i / 65536
