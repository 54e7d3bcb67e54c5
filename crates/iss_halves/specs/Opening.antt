-- What an opening reads of a device, and what it leaves at each of its moments, by the records for which the device stands.
use Rattle.std.specs.Prelude.{◌≡◌, ℕ, ◌-◌, ◌<◌, ◌≤◌, true, false, Bool, List, ◌∷◌, length, take, drop, slice_index}
use Rattle.iss_edge.specs.declared.outside.Action.TheVariants.{Sync}
use Rattle.iss_edge.specs.World.{World}
use Rattle.iss_edge.specs.Stretches.{Step, actions_of, IsGood, GoesOn}
use Rattle.iss_journal.specs.Place.{Place}
use Rattle.iss_journal.specs.Region.{Region, Shows, ShowsFirmly}
use Rattle.iss_journal.specs.Opening.{OpenedOrOneMore, ClosesGood, ClosesGoing}
use Rattle.iss_journal.specs.Reading.{ReadUpTo}
use Rattle.iss_journal.specs.declared.layout.TheConstants.{HEADER_INSTANCES, GREATEST_SIZE}
use Rattle.iss_halves.specs.Forms.{Form, Seat, Layout, form_of, seat_at}
use Rattle.iss_halves.specs.Standing.{Saved, JournalHolds, RestsFrom, gate_after, end_of}
use Rattle.iss_halves.specs.Halves.{IsHalvesSize, HoldsHalf}
use Rattle.iss_halves.specs.Finding.{HasLayout, HasImage, HoldsImage, TooLong, found_region}

-- where an opening starts: this device, which shows the first i of these records firmly
pub record OpensFrom (form : Form) (saved : Saved) (start device : List ℕ) (i : ℕ) : Type 0 where
  pub same : device ≡ start
  pub seat : Seat
  pub low : seat.point ≤ i
  pub holds : JournalHolds form seat (saved.image seat.point)
      (λ region. ShowsFirmly region (take (i - seat.point) (drop seat.point saved.bodies)) device)

-- what a stop may leave within an opening: the same records, with nothing left behind or what was, or also the record that was left behind
pub record OpenedFrom (form : Form) (saved : Saved) (start device : List ℕ) (i : ℕ) : Type 0 where
  pub seat : Seat
  pub low : seat.point ≤ i
  pub holds : JournalHolds form seat (saved.image seat.point)
      (λ region. OpenedOrOneMore region (drop seat.point saved.bodies) start device (i - seat.point))

-- the layout and the image that were found on this device
pub record IsFound (layout : Layout) (image device : List ℕ) : Type 0 where
  pub has : HasLayout layout device
  pub size : layout.size ≡ length device
  pub image_there : HasImage layout image device

-- a scan from the journal's first gate on may begin: the region is within the device, and stands on what was found
pub record MayBegin (layout : Layout) (image device : List ℕ) (region : Region) : Type 0 where
  pub whole : length device ≡ region.size
  pub inside : region.to ≤ region.size
  pub first : length region.below ≡ gate_after layout.halved layout.size layout.second (length image)
  pub last : region.to ≡ end_of layout.halved layout.size layout.second
  pub within : length region.below < region.to
  pub there : take (length region.below) device ≡ region.below

-- on the region that was found a scan may begin
abbrev pub FoundMayBegin : Type 0
FoundMayBegin =
    (layout : Layout) (image device : List ℕ) → IsFound layout image device → MayBegin layout image device (found_region layout image device)

-- a device that shows records at a seat shows them on the region found; in halves its image is the one found
pub record IsSame (layout : Layout) (found image : List ℕ) (bodies : List (List ℕ)) (device : List ℕ) : Type 0 where
  pub image_is : layout.halved ≡ true → image ≡ found
  pub shows : Shows (found_region layout found device) bodies device

-- what a device holds at some seat is the image that was found and what the region found shows
abbrev pub HeldIsFound : Type 0
HeldIsFound =
    (layout : Layout) (found : List ℕ) (seat : Seat) (image : List ℕ) (bodies : List (List ℕ)) (device : List ℕ)
    → IsFound layout found device
    → JournalHolds (form_of layout) seat image (λ region. Shows region bodies device)
    → IsSame layout found image bodies device

-- a device in halves that shows records is laid out so, and its image is found
abbrev pub HeldHasLayout : Type 0
HeldHasLayout =
    (instance size : ℕ) (second : Bool) (image : List ℕ) (bodies : List (List ℕ)) (device : List ℕ)
    → IsHalvesSize size → instance < HEADER_INSTANCES
    → HoldsHalf instance size second image (λ region. Shows region bodies device)
    → IsFound (record { halved = true; instance = instance; size = size; second = second }) image device

-- no length that is too long stands before an image
abbrev pub NotTooLong : Type 0
NotTooLong =
    (size : ℕ) (second : Bool) (image device : List ℕ)
    → size ≤ GREATEST_SIZE → HoldsImage size second image device → TooLong size second device → ⊥

-- So a device in halves holds one image, and shows one list of records after it.
abbrev pub HeldOnce : Type 0
HeldOnce =
    (layout : Layout) (found : List ℕ) (seat other : Seat) (image image' : List ℕ) (bodies bodies' : List (List ℕ))
    → (device : List ℕ)
    → IsFound layout found device → layout.halved ≡ true
    → JournalHolds (form_of layout) seat image (λ region. Shows region bodies device)
    → JournalHolds (form_of layout) other image' (λ region. Shows region bodies' device)
    → (image ≡ image') × (bodies ≡ bodies')

-- all records of the journal were read, up to this gate, which is not open
pub record IsRead (layout : Layout) (image : List ℕ) (bodies : List (List ℕ)) (place : Place) (device : List ℕ) : Type 0 where
  pub found : IsFound layout image device
  pub read : ReadUpTo (found_region layout image device) bodies place device
  pub shut : slice_index device place.gate ≡ 1 → ⊥

-- closing the end gate of a device that was read is good, whichever records it stands for
abbrev pub OpeningsKeep : Type 0
OpeningsKeep =
    (layout : Layout) (image : List ℕ) (bodies : List (List ℕ)) (place : Place)
    → (a b : World) (did : ClosesGood place a b) (saved : Saved) (j : ℕ) (steps : List Step)
    → IsRead layout image bodies place a.device → actions_of steps ≡ did.part.actions
    → IsGood (OpensFrom (form_of layout) saved a.device) (OpenedFrom (form_of layout) saved a.device) j j steps

-- The point that a store takes for a device's. In halves it is the one number of first records, up to j, whose image was found. In one
-- journal it is 0.
pub record IsPoint (layout : Layout) (image : List ℕ) (saved : Saved) (j point : ℕ) : Type 0 where
  pub of_image : layout.halved ≡ true → (m : ℕ) → m ≤ j → saved.image m ≡ image → m ≡ point
  pub none : layout.halved ≡ false → point ≡ 0

-- A sync, and closing the end gate after it, is good. After both the run may go on: the device rests at the seat that was found.
abbrev pub OpeningsGoOn : Type 0
OpeningsGoOn =
    (layout : Layout) (image : List ℕ) (bodies : List (List ℕ)) (place : Place)
    → (a b : World) (did : ClosesGoing place a b) (saved : Saved) (j point : ℕ) (steps : List Step)
    → IsRead layout image bodies place a.device → IsPoint layout image saved j point → actions_of steps ≡ Sync true ∷ did.part.actions
    → GoesOn (OpensFrom (form_of layout) saved a.device) (OpenedFrom (form_of layout) saved a.device)
    (RestsFrom (form_of layout) (seat_at layout.second point) saved) j j steps

-- a device that shows records at a form has that form alone, and in halves that half
abbrev pub OneForm : Type 0
OneForm =
    (form : Form) (seat : Seat) (image : List ℕ) (bodies : List (List ℕ)) (layout : Layout) (device : List ℕ)
    → form.instance < HEADER_INSTANCES → HasLayout layout device → layout.size ≡ length device
    → JournalHolds form seat image (λ region. Shows region bodies device)
    → (form ≡ form_of layout) × (form.halved ≡ true → seat.second ≡ layout.second)
