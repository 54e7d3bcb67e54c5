-- A device that is being opened: what was read of it so far, and what reading the next record comes to.
use Rattle.std.specs.Prelude.{◌≡◌, ℕ, ◌+◌, ◌<◌, ◌≤◌, true, List, [], ◌∷◌, ◌++◌, Option, Some, None, Result, Ok, Err, IsSome, slice_index}
use Rattle.iss_edge.specs.declared.outside.Action.TheVariants.{Sync}
use Rattle.iss_edge.specs.World.{World}
use Rattle.iss_journal.specs.Region.{frame_size}
use Rattle.iss_journal.specs.Opening.{RecordAt, BadAt}
use Rattle.iss_model.specs.declared.input.Record.{Record}
use Rattle.iss_codec.specs.Meanings.{IsSpellingOf}
use Rattle.iss_core.specs.Values.{CoreNow}
use Rattle.iss_opening.specs.declared.fault.OpenFault.{OpenFault}
use Rattle.iss_opening.specs.declared.fault.OpenFault.TheVariants.{Disk, NotFormatted, BadImage, BadRecord, BadSpelling, BadHistory, OutOfMemory}
use Rattle.iss_opening.specs.declared.taking.Taken.{Taken}
use Rattle.iss_opening.specs.Values.{StoreNow}
use Rattle.iss_opening.specs.Reading.{core_after, ReadsOn}
use Rattle.iss_opening.specs.Taking.{TakesUp, FollowsNot}
use Rattle.iss_opening.specs.Opening.{Opens}

-- only a sync was done, which succeeded
pub record SyncedAlone (a b : World) : Type 0 where
  pub device : b.device ≡ a.device
  pub left : b.left ≡ a.left
  pub trace : b.trace ≡ a.trace ++ Sync true ∷ []

-- From the one world to the other only a sync was done, and the records up to this gate were read and taken up.
pub record HasRead (s : StoreNow) (a b : World) : Type 0 where
  pub synced : SyncedAlone a b
  pub image : List ℕ
  pub start : CoreNow
  pub rs : List Record
  pub reads : ReadsOn s.layout image start rs s.place a.device
  pub core : s.core ≡ core_after start rs
  pub point : s.point ≡ start.state.count

-- the same, and these are the records, on the core that the image makes
pub record HasReadThese (start : CoreNow) (rs : List Record) (s : StoreNow) (a b : World) : Type 0 where
  pub read : HasRead s a b
  pub from : read.start ≡ start
  pub these : read.rs ≡ rs

-- and this gate isn't open: no record is left
pub record HasReadAll (s : StoreNow) (a b : World) : Type 0 where
  pub read : HasRead s a b
  pub shut : slice_index a.device s.place.gate ≡ 1 → ⊥

-- a device begins to be read, or has a fault
abbrev pub Begins : Result StoreNow OpenFault → World → World → Type 0
Begins (Ok s) a b = HasRead s a b
Begins (Err fault) a b = Opens (Err fault) a b

-- all records of a device were read, or it has a fault
abbrev pub ReadsAll : Result StoreNow OpenFault → World → World → Type 0
ReadsAll (Ok s) a b = HasReadAll s a b
ReadsAll (Err fault) a b = Opens (Err fault) a b

-- the record after the gate was read and taken up
pub record ReadsOne (before after : StoreNow) (t : Taken) (device : List ℕ) : Type 0 where
  pub body : List ℕ
  pub there : RecordAt before.place body device
  pub takes : TakesUp before.core after.core body t
  pub place : after.place ≡ record { gate = before.place.gate + frame_size body; to = before.place.to }
  pub layout : after.layout ≡ before.layout
  pub point : after.point ≡ before.point

-- nothing was read, at a gate that isn't open
pub record ReadsNone (before after : StoreNow) (device : List ℕ) : Type 0 where
  pub same : after ≡ before
  pub shut : slice_index device before.place.gate ≡ 1 → ⊥

-- the body after this gate spells no record
pub record ReadsNoRecord (before : StoreNow) (gate : ℕ) (device : List ℕ) : Type 0 where
  pub here : gate ≡ before.place.gate
  pub body : List ℕ
  pub there : RecordAt before.place body device
  pub none : (r : Record) → IsSpellingOf r body → ⊥

-- the body after this gate spells a record that isn't taken up
pub record ReadsNotNext (before : StoreNow) (gate : ℕ) (device : List ℕ) : Type 0 where
  pub here : gate ≡ before.place.gate
  pub body : List ℕ
  pub there : RecordAt before.place body device
  pub fault : FollowsNot before.core body

-- the next record was read and taken up, or there was none
abbrev pub ReadsWhich : StoreNow → StoreNow → Option Taken → List ℕ → Type 0
ReadsWhich before after (Some t) device = ReadsOne before after t device
ReadsWhich before after None device = ReadsNone before after device

-- The next record with what it made, none exactly at a gate that isn't open, or a fault, which is named by the gate.
abbrev pub ReadsNext : StoreNow → Result (StoreNow × Option Taken) OpenFault → World → World → Type 0
ReadsNext before (Ok x) a b = ReadsWhich before x.0 x.1 a.device
ReadsNext before (Err (BadRecord gate)) a b = (gate ≡ before.place.gate) × BadAt before.place a.device
ReadsNext before (Err (BadSpelling gate)) a b = ReadsNoRecord before gate a.device
ReadsNext before (Err (BadHistory gate)) a b = ReadsNotNext before gate a.device
ReadsNext before (Err Disk) a b = Unit {0}
ReadsNext before (Err OutOfMemory) a b = Unit {0}
ReadsNext before (Err NotFormatted) a b = ⊥
ReadsNext before (Err (BadImage place)) a b = ⊥

-- reading a record moves the gate on within the journal, and leaves the layout and the point
pub record MovesFrom (before after : StoreNow) (taken : Option Taken) : Type 0 where
  pub layout : after.layout ≡ before.layout
  pub point : after.point ≡ before.point
  pub to : after.place.to ≡ before.place.to
  pub low : before.place.gate ≤ after.place.gate
  pub further : IsSome taken → before.place.gate < after.place.gate
