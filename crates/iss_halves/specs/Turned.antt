-- A turn, and then an append after the new image: what is done if a record has no room after the old one.
use Rattle.std.specs.Prelude.{◌≡◌, ℕ, ◌+◌, ◌≤◌, not, List, ◌++◌, length}
use Rattle.iss_edge.specs.World.{World}
use Rattle.iss_edge.specs.Puts.{Put, actions_of_puts, Puts, PutsPart}
use Rattle.iss_edge.specs.Stretches.{Step, actions_of, IsGood, GoesOn}
use Rattle.iss_journal.specs.Place.{Place}
use Rattle.iss_journal.specs.Region.{append_bytes}
use Rattle.iss_journal.specs.Append.{append_puts}
use Rattle.iss_halves.specs.Forms.{Layout, in_halves, seat_at}
use Rattle.iss_halves.specs.Turning.{half_bytes, turn_puts, turned_place}
use Rattle.iss_halves.specs.Standing.{Saved, RestsFrom, StandsFrom, IsNextBody}

-- the end gate in the other half once a record of this frame was added there
abbrev pub appended_place : Layout → List ℕ → List ℕ → Place
appended_place layout half frame =
    record {
      gate = (turned_place layout.size layout.second half).gate + length frame;
      to = (turned_place layout.size layout.second half).to;
    }

-- first a turn with this half, and then an append of this frame after it
abbrev pub turned_puts : Layout → List ℕ → List ℕ → List Put
turned_puts layout half frame = turn_puts layout.size layout.second half ++ append_puts (turned_place layout.size layout.second half).gate frame

-- These puts were made, or a prefix of their actions, and that is good from j records to one more, if the half is that of the image of
-- the first j records, and the frame is that of the next one.
pub record TurnedGood (layout : Layout) (half frame : List ℕ) (a b : World) : Type 0 where
  pub part : PutsPart (turned_puts layout half frame) a b
  pub good : (saved : Saved) (point j : ℕ) (body : List ℕ) (steps : List Step)
      → point ≤ j → half ≡ half_bytes (saved.image j) → IsNextBody saved j body → frame ≡ append_bytes body → actions_of steps ≡ part.actions
      → IsGood (RestsFrom (in_halves layout.instance layout.size) (seat_at layout.second point) saved)
      (StandsFrom (in_halves layout.instance layout.size) saved) j (j + 1) steps

-- All of these puts were made, and the run may go on after them, at the other half and with the point j.
pub record TurnedGoing (layout : Layout) (half frame : List ℕ) (a b : World) : Type 0 where
  pub made : Puts (turned_puts layout half frame) a b
  pub goes_on : (saved : Saved) (point j : ℕ) (body : List ℕ) (steps : List Step)
      → point ≤ j → half ≡ half_bytes (saved.image j) → IsNextBody saved j body → frame ≡ append_bytes body
      → actions_of steps ≡ actions_of_puts (turned_puts layout half frame)
      → GoesOn (RestsFrom (in_halves layout.instance layout.size) (seat_at layout.second point) saved)
      (StandsFrom (in_halves layout.instance layout.size) saved)
      (RestsFrom (in_halves layout.instance layout.size) (seat_at (not layout.second) j) saved) j (j + 1) steps
