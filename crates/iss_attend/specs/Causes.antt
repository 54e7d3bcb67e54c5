-- Why a run that attends to clients ends early.
use Rattle.std.specs.Prelude.{Result, IfErr}
use Rattle.iss_edge.specs.World.{Faults, Later, Rose}
use Rattle.iss_attend.specs.declared.fault.AttendFault.{AttendFault}
use Rattle.iss_attend.specs.declared.fault.AttendFault.TheVariants.{Wait, OutOfMemory}

-- clients' channels may fail without that
abbrev pub AttendCause : Faults → Faults → AttendFault → Type 0
AttendCause before now Wait = Rose before.input now.input
AttendCause before now OutOfMemory = Unit {0}

-- no count has fallen, and a run ended early for a cause
pub record IsAttendCaused {A : Type 0} (before now : Faults) (result : Result A AttendFault) : Type 0 where
  pub later : Later before now
  pub cause : IfErr result (AttendCause before now)
