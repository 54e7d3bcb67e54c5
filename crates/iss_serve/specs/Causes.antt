-- Why a run that serves ends early.
use Rattle.std.specs.Prelude.{Result, IfErr}
use Rattle.iss_edge.specs.World.{Faults, Later, Rose}
use Rattle.iss_opening.specs.declared.fault.OpenFault.{OpenFault}
use Rattle.iss_opening.specs.declared.fault.OpenFault.TheVariants as opening
use Rattle.iss_store.specs.declared.fault.StoreFault.{StoreFault}
use Rattle.iss_store.specs.declared.fault.StoreFault.TheVariants as store
use Rattle.iss_serve.specs.declared.fault.ServeFault.{ServeFault}
use Rattle.iss_serve.specs.declared.fault.ServeFault.TheVariants.{Device, Wait, Disk, OutOfMemory}

-- a device that doesn't open
abbrev pub fault_of_opening : OpenFault → ServeFault
fault_of_opening opening.Disk = Disk
fault_of_opening opening.NotFormatted = Device
fault_of_opening (opening.BadImage place) = Device
fault_of_opening (opening.BadRecord gate) = Device
fault_of_opening (opening.BadSpelling gate) = Device
fault_of_opening (opening.BadHistory gate) = Device
fault_of_opening opening.OutOfMemory = OutOfMemory

-- a commit that fails, or what is said after it
abbrev pub fault_of_store : StoreFault → ServeFault
fault_of_store store.Disk = Disk
fault_of_store store.Output = Disk
fault_of_store store.OutOfMemory = OutOfMemory

-- a call on the device ended it
abbrev pub IsOfDisk : ServeFault → Type 0
IsOfDisk Device = ⊥
IsOfDisk Wait = ⊥
IsOfDisk Disk = Unit {0}
IsOfDisk OutOfMemory = ⊥

-- why a run on an opened device may end early: clients' channels and those to the gateway may fail without that
abbrev pub ServeCause : Faults → Faults → ServeFault → Type 0
ServeCause before now Device = ⊥
ServeCause before now Wait = Rose before.input now.input
ServeCause before now Disk = Rose before.disk now.disk
ServeCause before now OutOfMemory = Unit {0}

-- no count has fallen, and a run on an opened device ended early for a cause
pub record IsServeCaused {A : Type 0} (before now : Faults) (result : Result A ServeFault) : Type 0 where
  pub later : Later before now
  pub cause : IfErr result (ServeCause before now)
