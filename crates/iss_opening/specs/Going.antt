-- How what was read of a device goes on, whoever reads it: one record more, a fault, or the end.
use Rattle.std.specs.Prelude.{◌≡◌, List, [], ◌∷◌, ◌++◌, Some, None, Ok, Err}
use Rattle.iss_edge.specs.World.{World}
use Rattle.iss_edge.specs.Calls.{Same}
use Rattle.iss_journal.specs.Opening.{ClosesGood, ClosesGoing}
use Rattle.iss_model.specs.declared.input.Record.{Record}
use Rattle.iss_core.specs.Values.{CoreNow}
use Rattle.iss_opening.specs.declared.fault.OpenFault.{OpenFault}
use Rattle.iss_opening.specs.declared.taking.Taken.{Taken}
use Rattle.iss_opening.specs.Values.{StoreNow}
use Rattle.iss_opening.specs.Opening.{Opens, OpensGood, OpenedAs, ReadsAlone}
use Rattle.iss_opening.specs.Progress.{HasRead, HasReadThese, HasReadAll, ReadsNext}

-- a record that is read next is one more of what was read
abbrev pub NextIsRead : Type 0
NextIsRead =
    (before after : StoreNow) (t : Taken) (a b c : World) → HasRead before a b → ReadsNext before (Ok (after, Some t)) b c → Same b c → HasRead after a c

-- before the first record none was read, if what stands has as many records as are in the image
abbrev pub NoneIsRead : Type 0
NoneIsRead = (s : StoreNow) (a b : World) → HasRead s a b → s.point ≡ s.core.state.count → HasReadThese s.core [] s a b

-- a record that is read next comes after those that were read
abbrev pub TheseAreRead : Type 0
TheseAreRead =
    (start : CoreNow) (rs : List Record) (before after : StoreNow) (t : Taken) (a b c : World)
    → HasReadThese start rs before a b → ReadsNext before (Ok (after, Some t)) b c → Same b c → HasReadThese start (rs ++ t.accepted ∷ []) after a c

-- once there is no next one, all are read
abbrev pub AllIsRead : Type 0
AllIsRead =
    (before after : StoreNow) (a b c : World) → HasRead before a b → ReadsNext before (Ok (after, None)) b c → Same b c → HasReadAll after a c

-- a fault of the next record is one of the opening
abbrev pub FaultIsFound : Type 0
FaultIsFound =
    (before : StoreNow) (fault : OpenFault) (a b c : World) → HasRead before a b → ReadsNext before (Err fault) b c → Opens (Err fault) a c

-- what was read so far has changed nothing, and is good
abbrev pub ReadingIsGood : Type 0
ReadingIsGood = (s : StoreNow) (a b : World) → HasRead s a b → OpensGood a b × ReadsAlone a b

-- once all is read, closing the end gate is good, also in part
abbrev pub ClosingIsGood : Type 0
ClosingIsGood = (s : StoreNow) (a b c : World) → HasReadAll s a b → ClosesGood s.place b c → OpensGood a c

-- and once it is closed the device is opened
abbrev pub ClosingOpens : Type 0
ClosingOpens =
    (s : StoreNow) (a b c : World) → HasReadAll s a b → ClosesGood s.place b c → ClosesGoing s.place b c → OpenedAs s a c
