-- What is told of the world, whether or not what was heard is told.
use Rattle.std.proofs.Common.{Option, Some, None, refl}
use Rattle.std.proofs.lemmas.Bool.{false≢true}
use Rattle.std.specs.Prelude.{IsSome, Result, Ok, Err, IfOk, OnErr}
use Rattle.iss_edge.specs.declared.outside.Arrival.{Arrival}
use Rattle.iss_edge.specs.World.{World, Told}
use Rattle.iss_edge.specs.Calls.{Same, Waits}
use Rattle.iss_link.proofs.Worlds.{told_some}

-- after a wait
pub told_waited : {F : Type 0} (result : Result Arrival F) (x y : Option World) → IfOk result (λ arrives. Told (Waits arrives) x y) → OnErr result (Told Same x y) → IsSome y → IsSome x
told_waited (Ok arrives) x y came same told = told_some (Waits arrives) x y came told
told_waited (Err failed) x y came same told = told_some Same x y same told

-- what holds of all worlds holds of what is told
pub told_all : (R : World → World → Type 0) → ((a b : World) → R a b) → (x y : Option World) → (IsSome y → IsSome x) → Told R x y
told_all R f None None told = tt
told_all R f (Some a) None told = tt
told_all R f None (Some b) told = absurd (false≢true (told refl))
told_all R f (Some a) (Some b) told = f a b
