-- What a scan has read, and what a device shows after it has come to an end.
use Rattle.std.specs.Prelude.{◌≡◌, ℕ, ◌+◌, ◌<◌, ◌≤◌, List, [], ◌∷◌, ◌++◌, length, take, drop, slice_index}
use Rattle.iss_journal.specs.Place.{Place}
use Rattle.iss_journal.specs.Region.{Region, AreBodies, frame_size, bytes_before_gate, Shows}
use Rattle.iss_journal.specs.Opening.{RecordAt, BadAt, IsEndGate}

-- on this device these records stand before this gate, which is within the region
pub record ReadUpTo (region : Region) (bodies : List (List ℕ)) (place : Place) (device : List ℕ) : Type 0 where
  pub whole : length device ≡ region.size
  pub inside : region.to ≤ region.size
  pub sound : AreBodies bodies
  pub end_gate : IsEndGate region bodies place
  pub within : place.gate < place.to
  pub is : device ≡ bytes_before_gate region bodies ++ drop place.gate device

-- nothing is read yet at the region's first gate
abbrev pub BeginsToRead : Type 0
BeginsToRead =
    (region : Region) (device : List ℕ) → length device ≡ region.size → region.to ≤ region.size → length region.below < region.to
    → take (length region.below) device ≡ region.below
    → ReadUpTo region [] (record { gate = length region.below; to = region.to }) device

-- a record at the gate is one more
abbrev pub ReadsOn : Type 0
ReadsOn =
    (region : Region) (bodies : List (List ℕ)) (body : List ℕ) (place : Place) (device : List ℕ)
    → ReadUpTo region bodies place device → RecordAt place body device
    → ReadUpTo region (bodies ++ body ∷ []) (record { gate = place.gate + frame_size body; to = place.to }) device

-- at a gate that is not open the device shows what was read
abbrev pub ReadsToTheEnd : Type 0
ReadsToTheEnd =
    (region : Region) (bodies : List (List ℕ)) (place : Place) (device : List ℕ)
    → ReadUpTo region bodies place device → (slice_index device place.gate ≡ 1 → ⊥) → Shows region bodies device

-- at a bad record the device shows no list of records
abbrev pub BadShowsNothing : Type 0
BadShowsNothing =
    (region : Region) (bodies others : List (List ℕ)) (place : Place) (device : List ℕ)
    → ReadUpTo region bodies place device → BadAt place device → Shows region others device → ⊥
