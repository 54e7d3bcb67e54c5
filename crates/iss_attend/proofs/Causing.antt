-- Why a run that attends to clients ends early, over one call after the other.
use Rattle.std.proofs.Common.{arith}
use Rattle.std.specs.Prelude.{Result, Ok, Err, IfErr, OnErr}
use Rattle.iss_edge.specs.World.{Faults, Later, Rose}
use Rattle.iss_edge.proofs.Tolds.{later_then, rose_later}
use Rattle.iss_attend.specs.declared.fault.AttendFault.{AttendFault}
use Rattle.iss_attend.specs.declared.fault.AttendFault.TheVariants.{Wait, OutOfMemory}
use Rattle.iss_attend.specs.Causes.{AttendCause, IsAttendCaused}

cause_then : (f g h : Faults) (why : AttendFault) → Later f g → Later g h → AttendCause g h why → AttendCause f h why
cause_then f g h Wait p q e = rose_later f.input g.input h.input h.input p.input q.input (omega arith) e
cause_then f g h OutOfMemory p q e = tt

causes_then : {A : Type 0} (f g h : Faults) (r : Result A AttendFault) → Later f g → Later g h → IfErr r (AttendCause g h) → IfErr r (AttendCause f h)
causes_then f g h (Ok x) p q e = tt
causes_then f g h (Err why) p q e = cause_then f g h why p q e

-- one call, and then another, which has a cause if it fails
pub caused_then : {A : Type 0} (f g h : Faults) (r : Result A AttendFault) → Later f g → IsAttendCaused g h r → IsAttendCaused f h r
caused_then f g h r p q = record { later = later_then f g h p q.later; cause = causes_then f g h r p q.later q.cause }

-- nothing failed
pub caused_well : {A : Type 0} (f g : Faults) (x : A) → Later f g → IsAttendCaused f g (Ok x)
caused_well f g x p = record { later = p; cause = tt }

-- an allocation failed
pub caused_memory : {A : Type 0} (f g : Faults) → Later f g → IsAttendCaused {A = A} f g (Err OutOfMemory)
caused_memory f g p = record { later = p; cause = tt }

-- a wait failed
pub caused_wait : {A : Type 0} (f g : Faults) → Later f g → Rose f.input g.input → IsAttendCaused {A = A} f g (Err Wait)
caused_wait f g p rose = record { later = p; cause = rose }

-- what a call failed by, in a call that gives something else
pub caused_as : {A B : Type 0} (f g : Faults) (why : AttendFault) → IsAttendCaused {A = A} f g (Err why) → IsAttendCaused {A = B} f g (Err why)
caused_as f g why p = record { later = p.later; cause = p.cause }

-- two calls, of which the second failed
pub caused_later : {A B : Type 0} (f g h : Faults) (why : AttendFault) → Later f g → IsAttendCaused {A = A} g h (Err why) → IsAttendCaused {A = B} f h (Err why)
caused_later f g h why p q = record { later = later_then f g h p q.later; cause = cause_then f g h why p q.later q.cause }

-- what holds anyway, if a call failed
pub anyway : {T E : Type 0} (r : Result T E) (P : Type 0) → P → OnErr r P
anyway (Ok x) P p = tt
anyway (Err e) P p = p
