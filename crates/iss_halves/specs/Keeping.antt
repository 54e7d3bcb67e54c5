-- What a turn and an append keep, by the records for which a device stands.
use Rattle.std.specs.Prelude.{◌≡◌, ◌↔◌, ℕ, ◌+◌, ◌-◌, ◌≤◌, Bool, not, List, ◌++◌, length, take, drop}
use Rattle.iss_edge.specs.World.{World}
use Rattle.iss_edge.specs.Puts.{actions_of_puts}
use Rattle.iss_edge.specs.Stretches.{Step, actions_of, IsGood, GoesOn}
use Rattle.iss_journal.specs.Place.{Place, free_at}
use Rattle.iss_journal.specs.Region.{append_bytes, frames}
use Rattle.iss_journal.specs.Append.{append_puts, AppendsGood, AppendsGoing}
use Rattle.iss_halves.specs.declared.layout.TheConstants.{BESIDE_IMAGE}
use Rattle.iss_halves.specs.Forms.{Form, Seat, in_halves, seat_at}
use Rattle.iss_halves.specs.Halves.{half_size}
use Rattle.iss_halves.specs.Turning.{half_bytes, turn_puts, turned_place, TurnsGood, TurnsGoing}
use Rattle.iss_halves.specs.Standing.{Saved, RestsFrom, StandsFrom, EndsHere, IsNextBody}

-- a turn that writes the image of the first j records is good from j to j: each image of each moment stands for just these
abbrev pub TurnsKeep : Type 0
TurnsKeep =
    (instance size : ℕ) (second : Bool) (saved : Saved) (point j : ℕ) (half : List ℕ)
    → (a b : World) (did : TurnsGood size second half a b) (steps : List Step)
    → point ≤ j → half ≡ half_bytes (saved.image j) → actions_of steps ≡ did.part.actions
    → IsGood (RestsFrom (in_halves instance size) (seat_at second point) saved) (StandsFrom (in_halves instance size) saved) j j steps

-- and once it was made the run may go on after it, at the other half and with the point j
abbrev pub TurnsGoOn : Type 0
TurnsGoOn =
    (instance size : ℕ) (second : Bool) (saved : Saved) (point j : ℕ) (half : List ℕ) (a b : World) (steps : List Step)
    → point ≤ j → half ≡ half_bytes (saved.image j) → TurnsGoing size second half a b
    → actions_of steps ≡ actions_of_puts (turn_puts size second half)
    → GoesOn (RestsFrom (in_halves instance size) (seat_at second point) saved) (StandsFrom (in_halves instance size) saved)
    (RestsFrom (in_halves instance size) (seat_at (not second) j) saved) j j steps

-- the journal of the new half begins with its end gate
abbrev pub TurnEndsHere : Type 0
TurnEndsHere =
    (instance size : ℕ) (second : Bool) (saved : Saved) (j : ℕ) (half : List ℕ) → half ≡ half_bytes (saved.image j)
    → EndsHere (in_halves instance size) (seat_at (not second) j) saved j
    (turned_place size second half)

-- an append is good from j records to one more, in one journal and in halves
abbrev pub AppendsKeep : Type 0
AppendsKeep =
    (form : Form) (seat : Seat) (saved : Saved) (j : ℕ) (body : List ℕ) (place : Place) (frame : List ℕ)
    → (a b : World) (did : AppendsGood place frame a b) (steps : List Step)
    → seat.point ≤ j → EndsHere form seat saved j place → IsNextBody saved j body → frame ≡ append_bytes body → actions_of steps ≡ did.part.actions
    → IsGood (RestsFrom form seat saved) (StandsFrom form saved) j (j + 1) steps

-- and once it was made the run may go on after it, at the same seat
abbrev pub AppendsGoOn : Type 0
AppendsGoOn =
    (form : Form) (seat : Seat) (saved : Saved) (j : ℕ) (body : List ℕ) (place : Place) (frame : List ℕ) (a b : World) (steps : List Step)
    → seat.point ≤ j → EndsHere form seat saved j place → IsNextBody saved j body → frame ≡ append_bytes body → AppendsGoing place frame a b
    → actions_of steps ≡ actions_of_puts (append_puts place.gate frame)
    → GoesOn (RestsFrom form seat saved) (StandsFrom form saved) (RestsFrom form seat saved) j (j + 1) steps

-- a turn and then an append, or a part of it, are one stretch that is good from j records to one more
abbrev pub TurnedAppendsKeep : Type 0
TurnedAppendsKeep =
    (instance size : ℕ) (second : Bool) (saved : Saved) (point j : ℕ) (half body frame : List ℕ) (place : Place)
    → (a b c : World) (did : AppendsGood place frame b c) (turn append : List Step)
    → point ≤ j → half ≡ half_bytes (saved.image j) → TurnsGoing size second half a b
    → place ≡ turned_place size second half
    → IsNextBody saved j body → frame ≡ append_bytes body
    → actions_of turn ≡ actions_of_puts (turn_puts size second half) → actions_of append ≡ did.part.actions
    → IsGood (RestsFrom (in_halves instance size) (seat_at second point) saved) (StandsFrom (in_halves instance size) saved)
    j (j + 1) (turn ++ append)

-- what is free after the end gate of i records is what their half leaves after its image, a gate, and the records after the point
abbrev pub FreeIsRoom : Type 0
FreeIsRoom =
    (instance size : ℕ) (seat : Seat) (saved : Saved) (i : ℕ) (place : Place) → EndsHere (in_halves instance size) seat saved i place
    → free_at place
    ≡ half_size size - BESIDE_IMAGE - length (saved.image seat.point) - length (frames (take (i - seat.point) (drop seat.point saved.bodies)))

-- a frame of at least a byte fits after a new image exactly if a turn has room for both
abbrev pub TurnHasRoom : Type 0
TurnHasRoom =
    (size : ℕ) (image half frame : List ℕ) → half ≡ half_bytes image → 1 ≤ length frame
    → (length frame ≤ half_size size - BESIDE_IMAGE - length image) ↔ (length half + length frame ≤ half_size size)
