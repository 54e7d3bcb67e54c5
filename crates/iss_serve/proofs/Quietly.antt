-- What is told of the world while nothing is heard.
use Rattle.std.proofs.Common.{◌≡◌, List, Option, Some, None}
use Rattle.iss_edge.specs.declared.outside.Answered.{Answered}
use Rattle.iss_edge.specs.World.{World, Told}
use Rattle.iss_edge.specs.Calls.{HearsNothing}
use Rattle.iss_edge.specs.Outer.{Outer, outer_of}

-- this holds of the world, and nothing was heard
pub record Quietly (R : World → World → Type 0) (a b : Outer) : Type 0 where
  pub world : R a.world b.world
  pub heard : b.heard ≡ a.heard

pub told_to_none : {W : Type 0} (R : W → W → Type 0) (x : Option W) → Told R x None
told_to_none R None = tt
told_to_none R (Some a) = tt

pub told_quietly : (R : World → World → Type 0) (x y : Option World) (h k : Option (List Answered)) → Told R x y → Told HearsNothing h k → Told (Quietly R) (outer_of x h) (outer_of y k)
told_quietly R x None h k r q = told_to_none (Quietly R) (outer_of x h)
told_quietly R x (Some b) h None r q = told_to_none (Quietly R) (outer_of x h)
told_quietly R None (Some b) h (Some l) r q = absurd r
told_quietly R (Some a) (Some b) None (Some l) r q = absurd q
told_quietly R (Some a) (Some b) (Some g) (Some l) r q = record { world = r; heard = q }
