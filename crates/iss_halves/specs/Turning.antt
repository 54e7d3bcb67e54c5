-- What a turn does, and what it leaves at each of its moments.
use Rattle.std.specs.Prelude.{◌≡◌, ◌⊎◌, ℕ, ◌+◌, ◌-◌, Bool, not, List, [], ◌∷◌, ◌++◌, length}
use Rattle.iss_edge.specs.World.{World}
use Rattle.iss_edge.specs.Puts.{Put, one_put, actions_of_puts, Puts, PutsPart}
use Rattle.iss_edge.specs.Stretches.{Step, actions_of, IsGood, GoesOn}
use Rattle.iss_journal.specs.declared.layout.TheConstants.{GATE}
use Rattle.iss_journal.specs.Place.{Place}
use Rattle.iss_halves.specs.declared.layout.TheConstants.{SELECTOR}
use Rattle.iss_halves.specs.Halves.{half_size, half_start, selector_of, image_with_length, HalfRests}

-- what a half with this image and no records begins with: the image after its length, and a closed end gate
abbrev pub half_bytes : List ℕ → List ℕ
half_bytes image = image_with_length image ++ 0 ∷ []

-- first these bytes at the other half's start, and then the selector that names it
unfoldable pub turn_puts : ℕ → Bool → List ℕ → List Put
turn_puts size second half =
    one_put (half_start size (not second)) half ++ one_put SELECTOR (selector_of (not second) ∷ [])

-- the end gate in the other half once these bytes are at its start
abbrev pub turned_place : ℕ → Bool → List ℕ → Place
turned_place size second half =
    record {
      gate = half_start size (not second) + (length half - GATE);
      to = half_start size (not second) + half_size size;
    }

-- the half that was current holds what it held, or the other one is current and holds the new image alone
abbrev pub EitherHalf : ℕ → ℕ → Bool → List ℕ → List (List ℕ) → List ℕ → List ℕ → Type 0
EitherHalf instance size second old bodies new device =
    HalfRests instance size second old bodies device ⊎ HalfRests instance size (not second) new [] device

-- These puts were made, or a prefix of their actions, and each image of each moment holds the old half or the new one.
pub record TurnsGood (size : ℕ) (second : Bool) (half : List ℕ) (a b : World) : Type 0 where
  pub part : PutsPart (turn_puts size second half) a b
  pub good : (instance : ℕ) (old new : List ℕ) (bodies : List (List ℕ)) (j : ℕ) (steps : List Step)
      → half ≡ half_bytes new → actions_of steps ≡ part.actions
      → IsGood (λ bytes i. HalfRests instance size second old bodies bytes)
      (λ bytes i. EitherHalf instance size second old bodies new bytes) j j steps

-- All of these puts were made, and the run may go on after them. The device is then at rest, and its current half is the other one,
-- with the new image alone. So it does as it reads.
pub record TurnsGoing (size : ℕ) (second : Bool) (half : List ℕ) (a b : World) : Type 0 where
  pub made : Puts (turn_puts size second half) a b
  pub goes_on : (instance : ℕ) (old new : List ℕ) (bodies : List (List ℕ)) (j : ℕ) (steps : List Step)
      → half ≡ half_bytes new → actions_of steps ≡ actions_of_puts (turn_puts size second half)
      → GoesOn (λ bytes i. HalfRests instance size second old bodies bytes) (λ bytes i. EitherHalf instance size second old bodies new bytes)
      (λ bytes i. HalfRests instance size (not second) new [] bytes) j j steps
  pub shows : (instance : ℕ) (old new : List ℕ) (bodies : List (List ℕ))
      → half ≡ half_bytes new → HalfRests instance size second old bodies a.device
      → HalfRests instance size (not second) new [] b.device
