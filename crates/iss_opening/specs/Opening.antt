-- What opening a device finds, and what it leaves at each of its moments.
use Rattle.std.specs.Prelude.{◌≡◌, ◌⊎◌, ℕ, ◌+◌, Bool, true, false, List, [], ◌∷◌, ◌++◌, length, take, drop, Result, Ok, Err, IsErrOf, slice_index}
use Rattle.iss_edge.specs.declared.outside.Action.{Action}
use Rattle.iss_edge.specs.declared.outside.Action.TheVariants.{Write, Sync, Emit, Dial, Close}
use Rattle.iss_edge.specs.World.{World, Faults, Later, Rose}
use Rattle.iss_edge.specs.Disk.{Disk, after_actions}
use Rattle.iss_edge.specs.Puts.{one_put, Ran}
use Rattle.iss_edge.specs.Stretches.{Step, actions_of, IsGood, GoesOn}
use Rattle.iss_journal.specs.Region.{frames}
use Rattle.iss_halves.specs.Forms.{Form, Seat}
use Rattle.iss_halves.specs.Standing.{first_gate}
use Rattle.iss_halves.specs.Making.{HasNoHeader}
use Rattle.iss_model.specs.declared.input.Record.{Record}
use Rattle.iss_core.specs.Values.{CoreNow}
use Rattle.iss_standing.specs.Standing.{bodies_of, image_after, DeviceStandsFor, OpensAt, OpenedAt, RestsAt}
use Rattle.iss_standing.specs.Goings.{AreFirstOf}
use Rattle.iss_opening.specs.declared.fault.OpenFault.{OpenFault}
use Rattle.iss_opening.specs.declared.fault.OpenFault.TheVariants as open_fault
use Rattle.iss_opening.specs.Values.{StoreNow, seat_under}
use Rattle.iss_opening.specs.Standing.{IsOpenedOn}
use Rattle.iss_opening.specs.Reading.{core_after, ReadsOn, BadRecordAt, BadSpellingAt, BadHistoryAt, BadImageIs}

-- A store was opened on a device: its core is made of the image there and of the records after it, up to its gate, which isn't open.
pub record OpensStore (s : StoreNow) (device : List ℕ) : Type 0 where
  pub image : List ℕ
  pub start : CoreNow
  pub rs : List Record
  pub reads : ReadsOn s.layout image start rs s.place device
  pub shut : slice_index device s.place.gate ≡ 1 → ⊥
  pub core : s.core ≡ core_after start rs
  pub point : s.point ≡ start.state.count

-- Whichever records the device stands for, if any, a store that was opened on it stands for them, at the same seat.
abbrev pub OpenedStoresStand : Type 0
OpenedStoresStand =
    (s : StoreNow) (device : List ℕ) (form : Form) (seat : Seat) (rs : List Record)
    → OpensStore s device → DeviceStandsFor form seat rs device → IsOpenedOn form seat rs s

-- What opening comes to on a device. It is a store that was opened on it, or the first fault there, by its place.
abbrev pub Opens : Result StoreNow OpenFault → World → World → Type 0
Opens (Ok s) a b = OpensStore s a.device
Opens (Err open_fault.NotFormatted) a b = HasNoHeader a.device
Opens (Err (open_fault.BadImage place)) a b = BadImageIs place a.device
Opens (Err (open_fault.BadRecord place)) a b = BadRecordAt place a.device
Opens (Err (open_fault.BadSpelling gate)) a b = BadSpellingAt gate a.device
Opens (Err (open_fault.BadHistory gate)) a b = BadHistoryAt gate a.device
Opens (Err open_fault.Disk) a b = Unit {0}
Opens (Err open_fault.OutOfMemory) a b = Unit {0}

-- a fault of the disk, or a failed allocation
abbrev pub IsOfDiskOrMemory : OpenFault → Type 0
IsOfDiskOrMemory open_fault.Disk = Unit {0}
IsOfDiskOrMemory open_fault.OutOfMemory = Unit {0}
IsOfDiskOrMemory open_fault.NotFormatted = ⊥
IsOfDiskOrMemory (open_fault.BadImage place) = ⊥
IsOfDiskOrMemory (open_fault.BadRecord place) = ⊥
IsOfDiskOrMemory (open_fault.BadSpelling gate) = ⊥
IsOfDiskOrMemory (open_fault.BadHistory gate) = ⊥

-- a failure is a fault of the disk
abbrev pub FailsByDisk : {T : Type 0} → Result T OpenFault → Type 0
FailsByDisk (Ok value) = Unit {0}
FailsByDisk (Err open_fault.Disk) = Unit {0}
FailsByDisk (Err open_fault.OutOfMemory) = ⊥
FailsByDisk (Err open_fault.NotFormatted) = ⊥
FailsByDisk (Err (open_fault.BadImage place)) = ⊥
FailsByDisk (Err (open_fault.BadRecord place)) = ⊥
FailsByDisk (Err (open_fault.BadSpelling gate)) = ⊥
FailsByDisk (Err (open_fault.BadHistory gate)) = ⊥

-- if a device stands for records, no other fault is found
abbrev pub GoodDevicesOpen : Type 0
GoodDevicesOpen =
    (form : Form) (seat : Seat) (rs : List Record) (fault : OpenFault) (a b : World)
    → DeviceStandsFor form seat rs a.device → Opens (Err fault) a b → IsOfDiskOrMemory fault

-- a device on which a store was opened has no other fault either, whether or not it stands for records
abbrev pub OpenedDevicesHaveNoFault : Type 0
OpenedDevicesHaveNoFault =
    (s : StoreNow) (fault : OpenFault) (a b : World) → OpensStore s a.device → Opens (Err fault) a b → IsOfDiskOrMemory fault

-- writes to the device, or syncs it
abbrev pub is_on_device : Action → Bool
is_on_device (Write at bytes ok) = true
is_on_device (Sync ok) = true
is_on_device (Emit ch bytes ok) = false
is_on_device (Dial ch) = false
is_on_device (Close ch) = false

-- each of these writes to the device or syncs it
abbrev pub AreOnDevice : List Action → Type 0
AreOnDevice [] = Unit {0}
AreOnDevice (action ∷ actions) = (is_on_device action ≡ true) × AreOnDevice actions

-- nothing was done but maybe a sync, and the device reads as before
pub record ReadsAlone (a b : World) : Type 0 where
  pub device : b.device ≡ a.device
  pub left : b.left ≡ a.left
  pub trace : (b.trace ≡ a.trace) ⊎ (b.trace ≡ a.trace ++ Sync true ∷ [])

-- if a device wasn't opened, and no call on it failed
abbrev pub OnRefused : {T : Type 0} → Result T OpenFault → Type 0 → Type 0
OnRefused (Ok value) P = Unit {0}
OnRefused (Err open_fault.Disk) P = Unit {0}
OnRefused (Err open_fault.OutOfMemory) P = P
OnRefused (Err open_fault.NotFormatted) P = P
OnRefused (Err (open_fault.BadImage place)) P = P
OnRefused (Err (open_fault.BadRecord place)) P = P
OnRefused (Err (open_fault.BadSpelling gate)) P = P
OnRefused (Err (open_fault.BadHistory gate)) P = P

-- An opening is a sync and no more, or then one byte of 0 that is put at a gate, or a part of that. After a sync that failed nothing was done.
abbrev pub SyncsFirst : List Action → Type 0
SyncsFirst [] = Unit {0}
SyncsFirst (Sync true ∷ more) = (gate : ℕ) × Ran (one_put gate (0 ∷ [])) more
SyncsFirst (Sync false ∷ more) = more ≡ []
SyncsFirst (Write at bytes ok ∷ more) = ⊥
SyncsFirst (Emit ch bytes ok ∷ more) = ⊥
SyncsFirst (Dial ch ∷ more) = ⊥
SyncsFirst (Close ch ∷ more) = ⊥

-- if this is a write, it begins at this place
abbrev pub IsWriteAt : ℕ → Action → Type 0
IsWriteAt place (Write at bytes ok) = at ≡ place
IsWriteAt place (Sync ok) = Unit {0}
IsWriteAt place (Emit ch bytes ok) = Unit {0}
IsWriteAt place (Dial ch) = Unit {0}
IsWriteAt place (Close ch) = Unit {0}

-- each write among these begins at this place
abbrev pub AreWritesAt : ℕ → List Action → Type 0
AreWritesAt place [] = Unit {0}
AreWritesAt place (action ∷ actions) = IsWriteAt place action × AreWritesAt place actions

-- the place of the end gate of these records, at this seat
abbrev pub end_gate_at : Form → Seat → List Record → ℕ
end_gate_at form seat rs = first_gate form seat (image_after (take seat.point rs)) + length (frames (bodies_of (drop seat.point rs)))

-- at whichever seat the device stands for these records, each write among these is at their end gate
abbrev pub WritesEndGate : Form → List Record → List ℕ → List Action → Type 0
WritesEndGate form rs device actions = (seat : Seat) → DeviceStandsFor form seat rs device → AreWritesAt (end_gate_at form seat rs) actions

-- What an opening does is good, whichever records the device stands for at its start, and whichever may come after them: each image of each
-- moment stands for them, with nothing left behind or with what was left behind at the start, or for that record too. The opening begins
-- with a sync, and writes nothing but the end gate.
pub record OpensGood (a b : World) : Type 0 where
  pub left : b.left ≡ a.left
  pub added : List Action
  pub grew : b.trace ≡ a.trace ++ added
  pub on_device : AreOnDevice added
  pub syncs : SyncsFirst added
  pub gate : (form : Form) (rs : List Record) → WritesEndGate form rs a.device added
  pub good : (form : Form) (seat : Seat) (rs all : List Record) (steps : List Step)
      → DeviceStandsFor form seat rs a.device → AreFirstOf rs all → actions_of steps ≡ added
      → IsGood (OpensAt form all a.device) (OpenedAt form all a.device) (length rs) (length rs) steps

-- The run may go on after it: the device is then at rest at the store's seat and stands for the same records, with an end gate of 0. It
-- reads as it was left, and the first sync succeeded.
pub record OpensGoing (s : StoreNow) (a b : World) : Type 0 where
  pub left : b.left ≡ a.left
  pub added : List Action
  pub grew : b.trace ≡ a.trace ++ added
  pub goes_on : (form : Form) (seat : Seat) (rs all : List Record) (steps : List Step)
      → DeviceStandsFor form seat rs a.device → AreFirstOf rs all → actions_of steps ≡ added
      → GoesOn (OpensAt form all a.device) (OpenedAt form all a.device) (RestsAt form (seat_under s) all) (length rs) (length rs) steps
  pub rests : (form : Form) (seat : Seat) (rs : List Record) → DeviceStandsFor form seat rs a.device
      → RestsAt form (seat_under s) rs b.device (length rs)
  pub leaves : (d : Disk) → d.bytes ≡ a.device → (after_actions d added).bytes ≡ b.device
  pub behind : List Action
  pub synced : added ≡ Sync true ∷ behind

-- The device was opened: the store has its size and what stands on it, and what was done for it is good.
pub record OpenedAs (s : StoreNow) (a b : World) : Type 0 where
  pub size : s.layout.size ≡ length a.device
  pub opens : OpensStore s a.device
  pub good : OpensGood a b
  pub going : OpensGoing s a b

-- no count of faults has fallen, and a fault of the disk has the disk's count risen
pub record OpenCause {T : Type 0} (before now : Faults) (result : Result T OpenFault) : Type 0 where
  pub later : Later before now
  pub disk : IsErrOf result open_fault.Disk → Rose before.disk now.disk
