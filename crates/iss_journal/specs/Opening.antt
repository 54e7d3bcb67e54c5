-- What reading a journal finds, and what closing its end gate leaves.
use Rattle.std.specs.Prelude.{◌≡◌, ◌⊎◌, ℕ, ◌+◌, ◌^◌, ◌<◌, ◌≤◌, List, [], ◌∷◌, ◌++◌, length, take, drop, slice_index, Option, Some, None, Result, Ok, Err}
use Rattle.std.specs.Int.{w32, to_be_bytes}
use Rattle.iss_edge.specs.World.{World}
use Rattle.iss_edge.specs.Calls.{Same}
use Rattle.iss_edge.specs.Disk.{after_actions}
use Rattle.iss_edge.specs.Disk as disks
use Rattle.iss_edge.specs.Puts.{one_put, PutsPart}
use Rattle.iss_edge.specs.Stretches.{Step, actions_of, IsGood, GoesOn}
use Rattle.iss_journal.specs.declared.fault.JournalFault.{JournalFault}
use Rattle.iss_journal.specs.declared.fault.JournalFault.TheVariants.{Disk, NotFormatted, BadRecord, Full, OutOfMemory}
use Rattle.iss_journal.specs.declared.layout.TheConstants.{GATE, LENGTH, HEAD, LONGEST_BODY}
use Rattle.iss_journal.specs.Place.{Place}
use Rattle.iss_journal.specs.Region.{Region, IsBody, body_with_length, frame_size, bytes_before_gate, Shows, ShowsClosed, LeavesBehind, ShowsFirmly, RestsFirst}

-- the gate is open, a body stands after it, and after that there is place for a gate within the region
pub record RecordAt (place : Place) (body device : List ℕ) : Type 0 where
  pub is_body : IsBody body
  pub room : place.gate + frame_size body < place.to
  pub there : drop place.gate device ≡ 1 ∷ (body_with_length body ++ drop (place.gate + frame_size body) device)

-- the four bytes after the gate spell a length that is wrong: it is 0, over 8192, or passes the region's end
pub record WrongLength (place : Place) (device : List ℕ) : Type 0 where
  pub n : ℕ
  pub small : n < 2 ^ 32
  pub there : take LENGTH (drop (place.gate + GATE) device) ≡ to_be_bytes w32 n
  pub wrong : (n ≡ 0) ⊎ (LONGEST_BODY < n) ⊎ (place.to ≤ place.gate + HEAD + n)

-- the gate is open, and the region ends before a record could, or the length there is wrong
pub record BadAt (place : Place) (device : List ℕ) : Type 0 where
  pub open_gate : slice_index device place.gate ≡ 1
  pub why : (place.to ≤ place.gate + HEAD) ⊎ WrongLength place device

-- the next record's body, nothing exactly at a gate that is not open, or a bad record exactly if its length is wrong
abbrev pub Finds : Place → Result (Option (List ℕ)) JournalFault → World → World → Type 0
Finds place (Ok None) a b = slice_index a.device place.gate ≡ 1 → ⊥
Finds place (Ok (Some body)) a b = RecordAt place body a.device
Finds place (Err (BadRecord at)) a b = BadAt place a.device
Finds place (Err Disk) a b = Unit {0}
Finds place (Err OutOfMemory) a b = Unit {0}
Finds place (Err NotFormatted) a b = ⊥
Finds place (Err (Full free need)) a b = ⊥

-- A body moves the place on to the gate after it, which is within the region; nothing else does. A bad record is named by its gate.
abbrev pub MovesOn : Place → Place → Result (Option (List ℕ)) JournalFault → Type 0
MovesOn place now (Ok None) = now ≡ place
MovesOn place now (Ok (Some body)) =
    IsBody body
    × (place.gate + frame_size body < place.to)
    × (now ≡ record { gate = place.gate + frame_size body; to = place.to })
MovesOn place now (Err (BadRecord at)) = (now ≡ place) × (at ≡ place.gate)
MovesOn place now (Err Disk) = now ≡ place
MovesOn place now (Err OutOfMemory) = now ≡ place
MovesOn place now (Err NotFormatted) = ⊥
MovesOn place now (Err (Full free need)) = ⊥

-- where an opening starts: this device, which shows the first i of these records firmly
pub record OpensFirst (region : Region) (bodies : List (List ℕ)) (start image : List ℕ) (i : ℕ) : Type 0 where
  pub same : image ≡ start
  pub firm : ShowsFirmly region (take i bodies) image

-- at the start this record was left behind these, after an end gate other than 0
pub record WasLeft (region : Region) (bodies : List (List ℕ)) (body start : List ℕ) : Type 0 where
  pub left : LeavesBehind region bodies body start
  pub other : slice_index start (length (bytes_before_gate region bodies)) ≡ 0 → ⊥

-- What a stop may leave within an opening: the first i of these records with an end gate of 0, or with a record left behind if it was left
-- there at the start, after an end gate other than 0, or also that one.
abbrev pub OpenedOrOneMore : Region → List (List ℕ) → List ℕ → List ℕ → ℕ → Type 0
OpenedOrOneMore region bodies start image i =
    ShowsClosed region (take i bodies) image
    ⊎ ((body : List ℕ) × WasLeft region (take i bodies) body start
    × (LeavesBehind region (take i bodies) body image ⊎ ShowsClosed region (take i bodies ++ body ∷ []) image))

-- the end gate of these records stands at this place
pub record IsEndGate (region : Region) (bodies : List (List ℕ)) (place : Place) : Type 0 where
  pub here : length (bytes_before_gate region bodies) ≡ place.gate
  pub to : region.to ≡ place.to

-- The end gate was made 0, or a part of that was done, or nothing, and that is good if the end gate of the first j records stands
-- at this place: each image of each moment shows them, with nothing left behind or what was, or also the record that was left behind.
pub record ClosesGood (place : Place) (a b : World) : Type 0 where
  pub part : PutsPart (one_put place.gate (0 ∷ [])) a b
  pub good : (region : Region) (bodies : List (List ℕ)) (j : ℕ) (steps : List Step)
      → IsEndGate region (take j bodies) place → actions_of steps ≡ part.actions
      → IsGood (OpensFirst region bodies a.device) (OpenedOrOneMore region bodies a.device) j j steps

-- And the run may go on after that: the device is then at rest and shows the same records, with an end gate of 0. So it does, as it
-- reads, of each list of records that it showed before, firmly or not. What it reads is what was written.
pub record ClosesGoing (place : Place) (a b : World) : Type 0 where
  pub part : PutsPart (one_put place.gate (0 ∷ [])) a b
  pub goes_on : (region : Region) (bodies : List (List ℕ)) (j : ℕ) (steps : List Step)
      → IsEndGate region (take j bodies) place → actions_of steps ≡ part.actions
      → GoesOn (OpensFirst region bodies a.device) (OpenedOrOneMore region bodies a.device) (RestsFirst region bodies) j j steps
  pub closed : (region : Region) (bodies : List (List ℕ))
      → IsEndGate region bodies place → Shows region bodies a.device → ShowsClosed region bodies b.device
  pub leaves : (d : disks.Disk) → d.bytes ≡ a.device → (after_actions d part.actions).bytes ≡ b.device

-- this byte stands at this place, and nothing of what is told has changed
pub record ReadsGate (at gate : ℕ) (a b : World) : Type 0 where
  pub there : slice_index a.device at ≡ gate
  pub same : Same a b

-- This gate stands at this place, and after it this length in four bytes, or 0 if the region ends before a record could. Nothing
-- of what is told has changed.
pub record ReadsHead (place : Place) (gate n : ℕ) (a b : World) : Type 0 where
  pub there : slice_index a.device place.gate ≡ gate
  pub small : n < 2 ^ 32
  pub length_there : ((place.to ≤ place.gate + HEAD) × (n ≡ 0)) ⊎ (take LENGTH (drop (place.gate + GATE) a.device) ≡ to_be_bytes w32 n)
  pub same : Same a b
