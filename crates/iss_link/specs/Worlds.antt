-- What an edge tells of the world alone, whether or not what was heard is told.
use Rattle.std.specs.Prelude.{Option, IsSome}
use Rattle.iss_edge.specs.World.{World}

-- if the world is told after a call, it was told before it
abbrev pub StillTold : {E : Type 0} → (E → Option World) → E → E → Type 0
StillTold told a b = IsSome (told b) → IsSome (told a)
