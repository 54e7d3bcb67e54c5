-- How far the sums of holdings reach.
use Rattle.std.specs.Prelude.{ℕ, pos, ◌<ℤ◌, ◌^◌, List}
use Rattle.iss_model.specs.state.Kept.{Kept, kept_at}

-- each sum is below 2^62
abbrev pub AreLow : Kept → Type 0
AreLow sums = (key : List ℕ) → kept_at sums key <ℤ pos (2 ^ 62)
