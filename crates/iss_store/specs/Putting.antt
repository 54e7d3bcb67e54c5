-- Where a record was put.
use Rattle.std.specs.Prelude.{◌≡◌, ◌+◌, Result, Ok, Err}
use Rattle.iss_model.specs.run.Rooms.{need_of}
use Rattle.iss_core.specs.Values.{CoreNow}
use Rattle.iss_opening.specs.Values.{StoreNow}
use Rattle.iss_store.specs.declared.fault.StoreFault.{StoreFault}
use Rattle.iss_store.specs.declared.fault.StoreFault.TheVariants.{Disk, Output, OutOfMemory}
use Rattle.iss_store.specs.declared.putting.Seat.{Seat}
use Rattle.iss_store.specs.Values.{Plan}
use Rattle.iss_store.specs.Planning.{store_for}

-- the store at this seat, with this core
abbrev pub stood : Seat → CoreNow → StoreNow
stood seat core = record { core = core; place = seat.journal; layout = seat.halves; point = seat.point }

-- The record of a plan was put on a store's device: after the end gate, in the half to which the store turned for it, if it needed a turn.
pub record IsPutAt (s : StoreNow) (p : Plan) (after : Seat) : Type 0 where
  pub journal : after.journal
      ≡ record { gate = (store_for s p.accepted).place.gate + need_of p.accepted; to = (store_for s p.accepted).place.to }
  pub halves : after.halves ≡ (store_for s p.accepted).layout
  pub point : after.point ≡ (store_for s p.accepted).point

-- if it failed, a call on the device did
abbrev pub FailsByDisk : {T : Type 0} → Result T StoreFault → Type 0
FailsByDisk (Ok value) = Unit {0}
FailsByDisk (Err Disk) = Unit {0}
FailsByDisk (Err Output) = ⊥
FailsByDisk (Err OutOfMemory) = ⊥
