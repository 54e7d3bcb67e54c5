-- What a run on two devices has for its causes, and what is told of both.
use Rattle.std.specs.Prelude.{◌⊎◌, Option, Result, IsErrOf}
use Rattle.iss_edge.specs.World.{World, Told, Faults, Later, Rose}
use Rattle.iss_follow_runs.specs.declared.stop.Stop.{Stop}
use Rattle.iss_follow_runs.specs.declared.stop.Stop.TheVariants.{Disk, Output}

-- No count of either outside has fallen. A fault of the disk has the disk's count of one of them risen, and one of output has the output's count
-- of the first one risen.
pub record IsCaused {A : Type 0} (before now other_before other_now : Faults) (result : Result A Stop) : Type 0 where
  pub later : Later before now
  pub other_later : Later other_before other_now
  pub disk : IsErrOf result Disk → Rose before.disk now.disk ⊎ Rose other_before.disk other_now.disk
  pub output : IsErrOf result Output → Rose before.output now.output

-- what is told of two outsides, each at the start and at the end, if both tell it
abbrev pub BothTold : (World → World → World → World → Type 0) → Option World → Option World → Option World → Option World → Type 0
BothTold R x y z w = Told (λ a b. Told (R a b) z w) x y
