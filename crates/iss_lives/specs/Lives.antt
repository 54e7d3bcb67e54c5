-- Any number of runs of the programs on a device, each ended by itself, by a kill or with the machine.
use Rattle.std.specs.Prelude.{◌≡◌, ◌⊎◌, List, [], ◌∷◌, ◌++◌}
use Rattle.iss_edge.specs.World.{World}
use Rattle.iss_edge.specs.Disk.{Disk, after_actions}
use Rattle.iss_edge.specs.Stretches.{Step, actions_of}
use Rattle.iss_halves.specs.Forms.{Form}
use Rattle.iss_model.specs.declared.input.Record.{Record}
use Rattle.iss_device.specs.Lives.{Keeps, AreTold, HasEnded, Age, AllKeep, BeginsOn}
use Rattle.iss_lives.specs.Says.{Says, IsRun, says_of}

-- what a run on a device that begins so says by its clause
abbrev pub says_on : (form : Form) (told rs : List Record) (d : Disk) (a b : World) → IsRun a b → BeginsOn form told rs d a.device → Says form rs a b
says_on form told rs d a b run begins = says_of a b run form begins.firm.0 rs begins.firm.1.stands

-- One run of a program on the device, ended at some moment: what its clause says, what it had done until then, the records that are told of then,
-- and the device that is left.
pub record ProgramRun (form : Form) (age next : Age) : Type 0 where
  pub a : World
  pub b : World
  pub run : IsRun a b
  pub rs : List Record
  pub begins : BeginsOn form age.told rs age.disk a.device
  pub before : List Step
  pub rest : List Step
  pub cut : (says_on form age.told rs age.disk a b run begins).run.opening ++ (says_on form age.told rs age.disk a b run begins).run.later ≡ before ++ rest
  pub now_told : AreTold age.told (says_on form age.told rs age.disk a b run begins).run.made before next.told
  pub ends : HasEnded (after_actions age.disk (actions_of before)) next.disk

-- no run is on, and the machine may stop
pub record NoRun (age next : Age) : Type 0 where
  pub told : next.told ≡ age.told
  pub ends : HasEnded age.disk next.disk

-- each of these ages follows on the one before it by a run of a program, or with none
abbrev pub ProgramLives : Form → Age → List Age → Type 0
ProgramLives form age [] = Unit {0}
ProgramLives form age (next ∷ ages) = (ProgramRun form age next ⊎ NoRun age next) × ProgramLives form next ages

-- If a device keeps what was told of, then so it does at each of these ages.
abbrev pub ProgramsKeepWhatTheyTold : Type 0
ProgramsKeepWhatTheyTold = (form : Form) (age : Age) → Keeps form age.told age.disk → (ages : List Age) → ProgramLives form age ages → AllKeep form ages

-- of a run that was ended once these steps were done, what was told of by then, and that it is one more run of a program, whatever it leaves
pub record MayEnd (form : Form) (age : Age) (before : List Step) : Type 0 where
  pub told : List Record
  pub ends : (d : Disk) → HasEnded (after_actions age.disk (actions_of before)) d → ProgramRun form age (record { told = told; disk = d })

-- Such a run there is for each run of a program on such a device, each moment of it, and each way in which it ends there.
pub record RunsMayEnd (form : Form) (age : Age) (a b : World) (run : IsRun a b) : Type 0 where
  pub rs : List Record
  pub begins : BeginsOn form age.told rs age.disk a.device
  pub each : (before rest : List Step)
      → (says_on form age.told rs age.disk a b run begins).run.opening ++ (says_on form age.told rs age.disk a b run begins).run.later ≡ before ++ rest
      → MayEnd form age before

abbrev pub RunsMayEndAnywhere : Type 0
RunsMayEndAnywhere = (form : Form) (age : Age) (a b : World) → Keeps form age.told age.disk → age.disk.bytes ≡ a.device → (run : IsRun a b) → RunsMayEnd form age a b run
