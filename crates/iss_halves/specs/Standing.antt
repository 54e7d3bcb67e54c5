-- What a device stands for, in one journal or in halves: an image of the first records, up to a point, and the others after it.
use Rattle.std.specs.Prelude.{◌≡◌, ℕ, ◌+◌, ◌-◌, ◌≤◌, Bool, true, false, List, [], ◌∷◌, ◌++◌, length, take, drop}
use Rattle.iss_journal.specs.Place.{Place}
use Rattle.iss_journal.specs.Region.{Region, IsBody, frames, RestsFirst, StandsFirst}
use Rattle.iss_journal.specs.Formatting.{whole_device}
use Rattle.iss_journal.specs.declared.layout.TheConstants.{LENGTH, FIRST_GATE}
use Rattle.iss_halves.specs.Forms.{Form, Seat}
use Rattle.iss_halves.specs.Halves.{half_size, half_start, HoldsHalf}

-- Of a device's journal this holds, in halves or not. One journal has no image, and so its point is 0.
abbrev pub HoldsOf : Bool → ℕ → ℕ → Bool → ℕ → List ℕ → (Region → Type 0) → Type 0
HoldsOf true instance size second point image P = HoldsHalf instance size second image P
HoldsOf false instance size second point image P = (point ≡ 0) × P (whole_device instance size)

-- the device has this form and, at this seat, this image of the first records; of the journal after it this holds
abbrev pub JournalHolds : Form → Seat → List ℕ → (Region → Type 0) → Type 0
JournalHolds form seat image P = HoldsOf form.halved form.instance form.size seat.second seat.point image P

-- what the images of the first so many records are, and the bodies of all records
pub record Saved : Type 0 where
  pub image : ℕ → List ℕ
  pub bodies : List (List ℕ)

-- where a stretch of a run starts and ends: at this seat, with the first i of these records and an end gate of 0
pub record RestsFrom (form : Form) (seat : Seat) (saved : Saved) (device : List ℕ) (i : ℕ) : Type 0 where
  pub low : seat.point ≤ i
  pub holds : JournalHolds form seat (saved.image seat.point) (λ region. RestsFirst region (drop seat.point saved.bodies) device (i - seat.point))

-- what a stop may leave within a stretch: at some seat the first i of these records, with nothing or the next of them left behind
pub record StandsFrom (form : Form) (saved : Saved) (device : List ℕ) (i : ℕ) : Type 0 where
  pub seat : Seat
  pub low : seat.point ≤ i
  pub holds : JournalHolds form seat (saved.image seat.point) (λ region. StandsFirst region (drop seat.point saved.bodies) device (i - seat.point))

-- the place of a journal's first gate: in halves after an image of this length
abbrev pub gate_after : Bool → ℕ → Bool → ℕ → ℕ
gate_after true size second image = half_start size second + (LENGTH + image)
gate_after false size second image = FIRST_GATE

-- the place where a journal's region ends
abbrev pub end_of : Bool → ℕ → Bool → ℕ
end_of true size second = half_start size second + half_size size
end_of false size second = size

-- the place of the first gate at this seat, after this image
abbrev pub first_gate : Form → Seat → List ℕ → ℕ
first_gate form seat image = gate_after form.halved form.size seat.second (length image)

-- the place where the journal ends at this seat
abbrev pub journal_end : Form → Seat → ℕ
journal_end form seat = end_of form.halved form.size seat.second

-- the end gate of the first i of these records, at this seat
pub record EndsHere (form : Form) (seat : Seat) (saved : Saved) (i : ℕ) (place : Place) : Type 0 where
  pub gate : place.gate ≡ first_gate form seat (saved.image seat.point) + length (frames (take (i - seat.point) (drop seat.point saved.bodies)))
  pub to : place.to ≡ journal_end form seat

-- after the first j of these records this one comes next
pub record IsNextBody (saved : Saved) (j : ℕ) (body : List ℕ) : Type 0 where
  pub is_body : IsBody body
  pub next : take (j + 1) saved.bodies ≡ take j saved.bodies ++ body ∷ []
