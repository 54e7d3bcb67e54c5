-- What an append leaves at each of its moments.
use Rattle.std.specs.Prelude.{◌≡◌, ℕ, ◌+◌, List, [], ◌∷◌, ◌++◌, length, take}
use Rattle.iss_edge.specs.World.{World}
use Rattle.iss_edge.specs.Puts.{Put, one_put, actions_of_puts, Puts, PutsPart}
use Rattle.iss_edge.specs.Stretches.{Step, actions_of, IsGood, GoesOn}
use Rattle.iss_journal.specs.declared.layout.TheConstants.{GATE}
use Rattle.iss_journal.specs.Place.{Place}
use Rattle.iss_journal.specs.Region.{Region, IsBody, bytes_before_gate, append_bytes, RestsFirst, StandsFirst}

-- after the first j of these records, at this gate, this one comes next
pub record ComesNext (region : Region) (bodies : List (List ℕ)) (j : ℕ) (body : List ℕ) (place : Place) : Type 0 where
  pub is_body : IsBody body
  pub next : take (j + 1) bodies ≡ take j bodies ++ body ∷ []
  pub here : length (bytes_before_gate region (take j bodies)) ≡ place.gate
  pub to : region.to ≡ place.to

-- first the frame after the gate, and then the open gate
unfoldable pub append_puts : ℕ → List ℕ → List Put
append_puts gate frame = one_put (gate + GATE) frame ++ one_put gate (1 ∷ [])

-- These puts were made, or a prefix of their actions, and that is good from j records to one more, if the journal holds j and the
-- frame is that of the next one: each image of each moment shows the old records, maybe with the new one left behind, or also the new one.
pub record AppendsGood (place : Place) (frame : List ℕ) (a b : World) : Type 0 where
  pub part : PutsPart (append_puts place.gate frame) a b
  pub good : (region : Region) (bodies : List (List ℕ)) (j : ℕ) (body : List ℕ) (steps : List Step)
      → ComesNext region bodies j body place → frame ≡ append_bytes body → actions_of steps ≡ part.actions
      → IsGood (RestsFirst region bodies) (StandsFirst region bodies) j (j + 1) steps

-- All of these puts were made, and the run may go on after them. The device is then at rest and shows the new record, with an end gate of
-- 0. So it does as it reads.
pub record AppendsGoing (place : Place) (frame : List ℕ) (a b : World) : Type 0 where
  pub made : Puts (append_puts place.gate frame) a b
  pub goes_on : (region : Region) (bodies : List (List ℕ)) (j : ℕ) (body : List ℕ) (steps : List Step)
      → ComesNext region bodies j body place → frame ≡ append_bytes body → actions_of steps ≡ actions_of_puts (append_puts place.gate frame)
      → GoesOn (RestsFirst region bodies) (StandsFirst region bodies) (RestsFirst region bodies) j (j + 1) steps
  pub shows : (region : Region) (bodies : List (List ℕ)) (j : ℕ) (body : List ℕ)
      → ComesNext region bodies j body place → frame ≡ append_bytes body
      → RestsFirst region bodies a.device j → RestsFirst region bodies b.device (j + 1)
