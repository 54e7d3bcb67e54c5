use Rattle.std.specs.Prelude.{◌≡◌, ℕ, ◌+◌, ◌-◌, ◌<◌, ◌≤◌, min, max, Option, Some, None}
use Rattle.iss_real.specs.declared.clocks.Clocks.{Clocks}

-- the system's time is at most `slack` further ahead of the monotonic clock than is known
abbrev pub IsSteady : (slack known elapsed time : ℕ) → Type 0
IsSteady slack known elapsed time = time - elapsed - known ≤ slack

-- it is ahead by a jump: further than that
abbrev pub IsAhead : (slack known elapsed time : ℕ) → Type 0
IsAhead slack known elapsed time = slack < time - elapsed - known

-- the jump that is seen at this moment: when it was seen first, and by how much the time was ahead at least since
abbrev pub jump_seen : Option (ℕ × ℕ) → (elapsed time : ℕ) → ℕ × ℕ
jump_seen None elapsed time = (elapsed, min (time - elapsed) (time - elapsed))
jump_seen (Some seen) elapsed time = (seen.0, min seen.1 (time - elapsed))

-- this time was told, and this is then known of how far the system's time is ahead, and of a jump
pub record IsTold (time offset : ℕ) (jump : Option (ℕ × ℕ)) (told : ℕ) (known : Option ℕ) (jumped : Option (ℕ × ℕ)) : Type 0 where
  pub time_is : told ≡ time
  pub offset_is : known ≡ Some offset
  pub jump_is : jumped ≡ jump

-- While the system's time is steady it is told, and what is known of how far it is ahead doesn't fall.
abbrev pub TellsSteady : (slack : ℕ) → Clocks → Clocks → (elapsed time told : ℕ) → Type 0
TellsSteady slack before after elapsed time told =
    (known : ℕ) → before.offset ≡ Some known → IsSteady slack known elapsed time
    → IsTold time (max (time - elapsed) known) None told after.offset after.jumped

-- Until a jump has lasted for this long, the time goes on from what was known, and the jump is kept in mind.
abbrev pub HoldsJump : (slack long : ℕ) → Clocks → Clocks → (elapsed time told : ℕ) → Type 0
HoldsJump slack long before after elapsed time told =
    let jump = jump_seen before.jumped elapsed time in
    (known : ℕ) → before.offset ≡ Some known → IsAhead slack known elapsed time → elapsed - jump.0 < long
    → IsTold (elapsed + known) known (Some jump) told after.offset after.jumped

-- Once a jump has lasted for this long, the least that the time was ahead by since is told and known, and no jump is kept in mind.
abbrev pub BelievesJump : (slack long : ℕ) → Clocks → Clocks → (elapsed time told : ℕ) → Type 0
BelievesJump slack long before after elapsed time told =
    let jump = jump_seen before.jumped elapsed time in
    (known : ℕ) → before.offset ≡ Some known → IsAhead slack known elapsed time → long ≤ elapsed - jump.0
    → IsTold (elapsed + jump.1) jump.1 None told after.offset after.jumped
