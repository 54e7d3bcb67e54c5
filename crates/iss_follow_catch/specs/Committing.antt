-- Committing records to a store, one after the other, whichever records it stands for.
use Rattle.std.specs.Prelude.{◌≡◌, true, false, List, [], ◌++◌, Result, Ok, Err, IsErrOf}
use Rattle.iss_edge.specs.World.{World, Faults, Later, Rose}
use Rattle.iss_halves.specs.Forms.{Seat}
use Rattle.iss_model.specs.declared.decision.Answer.{Answer}
use Rattle.iss_model.specs.declared.decision.Answer.TheVariants as answer
use Rattle.iss_model.specs.declared.input.Record.{Record}
use Rattle.iss_model.specs.rules.Histories.{Follows, history_of}
use Rattle.iss_standing.specs.Standing.{AreHistory}
use Rattle.iss_standing.specs.Goings.{AreFirstOf, StepsGo, StepsGoPart}
use Rattle.iss_opening.specs.Values.{StoreNow, form_under, seat_under}
use Rattle.iss_opening.specs.Standing.{StandsFor}
use Rattle.iss_store.specs.Values.{Plan}
use Rattle.iss_follow_runs.specs.declared.stop.Stop.{Stop}
use Rattle.iss_follow_runs.specs.declared.stop.Stop.TheVariants.{Device, Output, Disk, Memory, NoRoom, NotBehind}
use Rattle.iss_follow_catch.specs.Rooms.{room_on, room_behind, FitsNext, FitsAll, FitsUpTo}

-- the one store became the other by taking up these records: it stands for them too, and each of them fitted
pub record TakesUp (s t : StoreNow) (done : List Record) : Type 0 where
  pub form : form_under t ≡ form_under s
  pub stands : (rs : List Record) → StandsFor s rs → StandsFor t (rs ++ done)
  pub fit : (rs : List Record) → StandsFor s rs → FitsAll (room_on s) rs done
  pub room : (rs : List Record) → StandsFor s rs → room_on t ≡ room_behind (room_on s) rs done

-- and they were made to last on the device
pub record Lasts (s t : StoreNow) (done : List Record) (a b : World) : Type 0 where
  pub goes : (rs : List Record) → StandsFor s rs → StepsGo (form_under s) (seat_under s) (seat_under t) rs (rs ++ done) [] a b

-- some first ones of these records were made to last, or are on their way
pub record LastsPart (s : StoreNow) (records : List Record) (rs : List Record) (a b : World) : Type 0 where
  pub done : List Record
  pub first : AreFirstOf done records
  pub goes : StepsGoPart (form_under s) (seat_under s) rs (rs ++ done) [] a b

-- whichever records the store stands for
abbrev pub LastsInPart : StoreNow → List Record → World → World → Type 0
LastsInPart s records a b = (rs : List Record) → StandsFor s rs → LastsPart s records rs a b

-- why a record isn't committed: it doesn't fit, or it doesn't follow on what the store stands for
abbrev pub StopsAt : StoreNow → Record → Stop → Type 0
StopsAt s r NoRoom = (rs : List Record) → StandsFor s rs → Follows (history_of rs) r → FitsNext (room_on s) rs r → ⊥
StopsAt s r NotBehind = (rs : List Record) → StandsFor s rs → Follows (history_of rs) r → ⊥
StopsAt s r Disk = Unit {0}
StopsAt s r Memory = Unit {0}
StopsAt s r Device = ⊥
StopsAt s r Output = ⊥

-- if a record wasn't planned, this holds
abbrev pub WhereUnplanned : {T : Type 0} → Result T Stop → Type 0 → Type 0
WhereUnplanned (Ok value) P = Unit {0}
WhereUnplanned (Err NoRoom) P = P
WhereUnplanned (Err NotBehind) P = P
WhereUnplanned (Err Disk) P = Unit {0}
WhereUnplanned (Err Memory) P = Unit {0}
WhereUnplanned (Err Device) P = Unit {0}
WhereUnplanned (Err Output) P = Unit {0}

-- all of these records were committed, and the device rests after them
pub record CommitsAll (s : StoreNow) (records rs : List Record) (a b : World) : Type 0 where
  pub fit : FitsAll (room_on s) rs records
  pub to : Seat
  pub goes : StepsGo (form_under s) (seat_under s) to rs (rs ++ records) [] a b

-- the first of these records were committed, and the device rests after them; the next one doesn't fit
pub record CommitsUpTo (s : StoreNow) (records rs : List Record) (a b : World) : Type 0 where
  pub up_to : FitsUpTo (room_on s) rs records
  pub to : Seat
  pub goes : StepsGo (form_under s) (seat_under s) to rs (rs ++ up_to.first) [] a b

-- What committing these records came to, whichever records the store stands for. If they are a history with those, each follows.
abbrev pub CommitRun : {A : Type 0} → StoreNow → List Record → Result A Stop → World → World → Type 0
CommitRun s records (Ok done) a b = (rs : List Record) → StandsFor s rs → CommitsAll s records rs a b
CommitRun s records (Err NoRoom) a b = (rs : List Record) → StandsFor s rs → AreHistory (rs ++ records) → CommitsUpTo s records rs a b
CommitRun s records (Err NotBehind) a b = (rs : List Record) → StandsFor s rs → AreHistory (rs ++ records) → ⊥
CommitRun s records (Err Disk) a b = Unit {0}
CommitRun s records (Err Memory) a b = Unit {0}
CommitRun s records (Err Device) a b = ⊥
CommitRun s records (Err Output) a b = ⊥

-- no count of faults has fallen, and a fault of the disk has the disk's count risen
pub record DiskCaused {T : Type 0} (before now : Faults) (result : Result T Stop) : Type 0 where
  pub later : Later before now
  pub disk : IsErrOf result Disk → Rose before.disk now.disk

-- what it means that an input is told this in place of making a record: it doesn't fit, or it isn't new
abbrev pub stop_told : Answer → Stop
stop_told (answer.Full free need) = NoRoom
stop_told answer.Spent = NoRoom
stop_told (answer.Repeat token reply) = NotBehind
stop_told (answer.Conflict token number) = NotBehind
stop_told (answer.Late call how) = NotBehind
stop_told (answer.UnknownCall call) = NotBehind
stop_told (answer.Already number) = NotBehind
stop_told (answer.UnknownNotice number) = NotBehind
stop_told answer.Idle = NotBehind

-- the plan itself if it isn't one of a clock
abbrev pub IsPlanItself : Plan → Result Plan Stop → Type 0
IsPlanItself p (Ok q) = (q ≡ p) × (p.is_clock ≡ false)
IsPlanItself p (Err NotBehind) = p.is_clock ≡ true
IsPlanItself p (Err NoRoom) = ⊥
IsPlanItself p (Err Disk) = ⊥
IsPlanItself p (Err Memory) = ⊥
IsPlanItself p (Err Device) = ⊥
IsPlanItself p (Err Output) = ⊥

-- committing doesn't end so
abbrev pub EndsAsCommit : {A : Type 0} → Result A Stop → Type 0
EndsAsCommit (Ok done) = Unit {0}
EndsAsCommit (Err NoRoom) = Unit {0}
EndsAsCommit (Err NotBehind) = Unit {0}
EndsAsCommit (Err Disk) = Unit {0}
EndsAsCommit (Err Memory) = Unit {0}
EndsAsCommit (Err Device) = ⊥
EndsAsCommit (Err Output) = ⊥

-- some records were made to last, and the device rests after them
pub record LastsFirst (s : StoreNow) (rs : List Record) (a b : World) : Type 0 where
  pub done : List Record
  pub to : Seat
  pub goes : StepsGo (form_under s) (seat_under s) to rs (rs ++ done) [] a b

-- whichever records the store stands for
abbrev pub LastsSome : StoreNow → World → World → Type 0
LastsSome s a b = (rs : List Record) → StandsFor s rs → LastsFirst s rs a b

-- unless a call on the device failed, this holds
abbrev pub WhereLeft : {T : Type 0} → Result T Stop → Type 0 → Type 0
WhereLeft (Ok value) P = P
WhereLeft (Err NoRoom) P = P
WhereLeft (Err NotBehind) P = P
WhereLeft (Err Memory) P = P
WhereLeft (Err Device) P = P
WhereLeft (Err Output) P = P
WhereLeft (Err Disk) P = Unit {0}
