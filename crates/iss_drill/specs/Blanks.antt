-- A device of which the first bytes are kept, with zeros after them.
use Rattle.std.specs.Prelude.{◌≡◌, ℕ, ◌^◌, ◌-◌, List, ◌++◌, length, take, replicate, Option, Some, None, IfSome}
use Rattle.std.proofs.Common.{arith, length-append}
use Rattle.std.proofs.lemmas.List.{length-replicate, length-take-le}
use Rattle.iss_edge.specs.World.{World, Faults}

-- the first bytes of a device, and zeros after them up to its size
abbrev pub with_zeros : ℕ → List ℕ → List ℕ
with_zeros size first = take size (first ++ replicate size 0)

pub length_with : (size : ℕ) (first : List ℕ) → length (with_zeros size first) ≡ size
length_with size first =
    length-take-le size (first ++ replicate size 0) (omega (arith, length-append first (replicate size 0), length-replicate {A = ℕ} size 0))

-- what is told of the first bytes, said of the whole device
abbrev pub world_with : ℕ → World → World
world_with size world = record world { device = with_zeros size world.device }

abbrev pub told_with : ℕ → Option World → Option World
told_with size None = None
told_with size (Some world) = Some (world_with size world)

-- the device that is told has its size
pub sized_with : (size : ℕ) (x : Option World) → IfSome (told_with size x) (λ world. length world.device ≡ size)
sized_with size None = tt
sized_with size (Some world) = length_with size world.device

-- all counts of faults stand at their last value
abbrev pub worn_out : Faults
worn_out = record { disk = 2 ^ 64 - 1; input = 2 ^ 64 - 1; output = 2 ^ 64 - 1; peer = 2 ^ 64 - 1; link = 2 ^ 64 - 1 }
