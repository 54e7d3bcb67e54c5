-- What is told after a call was told before it.
use Rattle.std.proofs.Common.{Option, Some, None, refl}
use Rattle.std.specs.Prelude.{IsSome}
use Rattle.iss_edge.specs.World.{World, Told}

pub told_some : (R : World → World → Type 0) (x y : Option World) → Told R x y → IsSome y → IsSome x
told_some R (Some a) y told some = refl
told_some R None None told some = some
told_some R None (Some b) told some = absurd told
