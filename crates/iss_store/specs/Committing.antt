-- What a commit does, and what it leaves at each of its moments.
use Rattle.std.specs.Prelude.{◌≡◌, ◌+◌, ◌≤◌, List, [], ◌∷◌, ◌++◌, length, Some, Result, Ok, Err, IsErrOf, if◌then◌else◌}
use Rattle.iss_edge.specs.World.{World, Faults, Later, Rose}
use Rattle.iss_model.specs.declared.input.Record.{Record}
use Rattle.iss_model.specs.declared.limits.TheConstants.{MOST_RECORDS}
use Rattle.iss_model.specs.rules.Stepping.{step}
use Rattle.iss_model.specs.rules.Histories.{history_keeper, history_of}
use Rattle.iss_model.specs.run.Sayings.{Said, said_of_time, reaction_to_record}
use Rattle.iss_model.specs.run.Rooms.{need_of, room_left}
use Rattle.iss_core.specs.Values.{Steps}
use Rattle.iss_standing.specs.Goings.{StepsGo, StepsGoPart}
use Rattle.iss_opening.specs.Values.{StoreNow, form_under, seat_under, room_of}
use Rattle.iss_opening.specs.Standing.{StandsFor}
use Rattle.iss_store.specs.declared.fault.StoreFault.{StoreFault}
use Rattle.iss_store.specs.declared.fault.StoreFault.TheVariants.{Disk, Output, OutOfMemory}
use Rattle.iss_store.specs.Values.{Plan, DurableNow, is_told_time, said_of}
use Rattle.iss_store.specs.Planning.{store_for}

-- A record was committed: the core took it up, and the end gate stands right after it, in the half to which the store turned for it, if it
-- needed a turn. This is what it has to say. At most `MOST_RECORDS` records stand.
pub record Commits (before : StoreNow) (p : Plan) (after : StoreNow) (d : DurableNow) : Type 0 where
  pub stepped : Steps before.core after.core p.accepted d.entries
  pub place : after.place
      ≡ record { gate = (store_for before p.accepted).place.gate + need_of p.accepted; to = (store_for before p.accepted).place.to }
  pub layout : after.layout ≡ (store_for before p.accepted).layout
  pub point : after.point ≡ (store_for before p.accepted).point
  pub number : d.number ≡ after.core.state.count
  pub few : after.core.state.count ≤ MOST_RECORDS
  pub is_time : d.is_time ≡ is_told_time p

-- What a record has to say by the book: what its entries say. It also says that a time was taken, unless it only goes before an answer.
abbrev pub said_on_book : List Record → Plan → List Said
said_on_book rs p =
    (reaction_to_record history_keeper (history_of rs) p.accepted).said
    ++ (if p.is_clock then [] else said_of_time p.accepted.input)

-- A commit on the book: the store stands for one record more, in the room that this leaves. These are the record's entries, and what it has
-- to say.
pub record CommitsOnBook (before after : StoreNow) (rs : List Record) (p : Plan) (d : DurableNow) : Type 0 where
  pub stands : StandsFor after (rs ++ p.accepted ∷ [])
  pub room : room_of after ≡ room_left (room_of before) rs (Some p.accepted)
  pub number : d.number ≡ length rs + 1
  pub entries : d.entries ≡ (step history_keeper (history_of rs) p.accepted).entries
  pub said : said_of d ≡ said_on_book rs p

-- A record was made to last: whatever records the store stood for, the run goes on from those to one more, at the seat to which the store
-- turned for it, if it needed a turn. Nothing was done on channels.
pub record Keeps (s : StoreNow) (r : Record) (a b : World) : Type 0 where
  pub left : b.left ≡ a.left
  pub goes : (rs : List Record) → StandsFor s rs
      → StepsGo (form_under s) (seat_under s) (seat_under (store_for s r)) rs (rs ++ r ∷ []) [] a b

-- a part of that was done: the device stands for the old records, or also for the new one
pub record KeepsPart (s : StoreNow) (r : Record) (a b : World) : Type 0 where
  pub left : b.left ≡ a.left
  pub goes : (rs : List Record) → StandsFor s rs → StepsGoPart (form_under s) (seat_under s) rs (rs ++ r ∷ []) [] a b

-- the gate was opened: after that nothing failed, or only an allocation did
abbrev pub WhereItLasts : {T : Type 0} → Result T StoreFault → Type 0 → Type 0
WhereItLasts (Ok value) P = P
WhereItLasts (Err OutOfMemory) P = P
WhereItLasts (Err Disk) P = Unit {0}
WhereItLasts (Err Output) P = ⊥

-- No count of faults has fallen, a fault of the disk has the disk's count risen, and there is none of output.
pub record CommitCause {T : Type 0} (before now : Faults) (result : Result T StoreFault) : Type 0 where
  pub later : Later before now
  pub disk : IsErrOf result Disk → Rose before.disk now.disk
