-- What an edge tells of a run that serves, at each of its ends.
use Rattle.std.proofs.Common.{◌≡◌, ℕ, inl, inr, List, Option, Ok, Err, refl, arith}
use Rattle.std.specs.Prelude.{Result, OnOk, IfErr, IsSome, ◌⊎◌}
use Rattle.iss_edge.specs.declared.outside.Answered.{Answered}
use Rattle.iss_edge.specs.declared.status.TheConstants.{DONE, OUT_OF_MEMORY}
use Rattle.iss_edge.specs.World.{World, Told, Faults, Later}
use Rattle.iss_edge.specs.Calls.{HearsNothing}
use Rattle.iss_edge.specs.Outer.{outer_of}
use Rattle.iss_edge.proofs.Tolds.{told_map, told_then, later_then, rose_later}
use Rattle.iss_link.proofs.Worlds.{told_some}
use Rattle.iss_opening.specs.declared.fault.OpenFault.{OpenFault}
use Rattle.iss_opening.specs.declared.fault.OpenFault.TheVariants as open_fault
use Rattle.iss_opening.specs.Values.{StoreNow}
use Rattle.iss_opening.specs.Opening.{Opens, OpensGood, ReadsAlone, OnRefused, OpenCause, IsOfDiskOrMemory, OpenedAs}
use Rattle.iss_opening.proofs.GoodDevices.{good_device}
use Rattle.iss_opening.proofs.Telling.{told_both}
use Rattle.iss_device.specs.Refusals.{RefusesExactly, opening_status}
use Rattle.iss_device.proofs.Refusals.{told_refuses, opened_refuses}
use Rattle.iss_serve.specs.declared.fault.ServeFault.{ServeFault}
use Rattle.iss_serve.specs.declared.fault.ServeFault.TheVariants.{Device, Wait, Disk, OutOfMemory}
use Rattle.iss_serve.specs.Causes.{fault_of_opening, ServeCause, IsServeCaused, IsOfDisk}
use Rattle.iss_serve.specs.Runs.{ServesToEnd, ServesUpTo}
use Rattle.iss_serve.specs.ServeRuns.{serve_status, ServeRun, EndingCause, EndsCaused, ServeEndsWell}
use Rattle.iss_serve.proofs.Alone.{told_all}
use Rattle.iss_serve.proofs.Quietly.{Quietly, told_quietly}
use Rattle.iss_serve.proofs.ServeWhole.{stands_there, serve_part, serve_whole, not_opened}

-- ---- statuses

abbrev pub ends_with : ServeFault → ℕ
ends_with why = serve_status {A = Unit {0}} (Err why)

not_done : (why : ServeFault) → ends_with why ≡ 0 → ⊥
not_done Device e = cc
not_done Wait e = cc
not_done Disk e = cc
not_done OutOfMemory e = cc

-- after the opening the device isn't at fault
not_device : {A : Type 0} (why : ServeFault) (before now : Faults) → IsServeCaused {A = A} before now (Err why) → ends_with why ≡ 4 → ⊥
not_device Device before now caused e = caused.cause
not_device Wait before now caused e = cc
not_device Disk before now caused e = cc
not_device OutOfMemory before now caused e = cc

-- a fault of the disk has its status
disk_status : (why : ServeFault) → IsOfDisk why → ends_with why ≡ 6
disk_status Device is = absurd is
disk_status Wait is = absurd is
disk_status Disk is = refl
disk_status OutOfMemory is = absurd is

opening_ends : (fault : OpenFault) → IsOfDiskOrMemory fault → ends_with (fault_of_opening fault) ≡ 4 → ⊥
opening_ends open_fault.Disk is e = cc
opening_ends open_fault.OutOfMemory is e = cc
opening_ends open_fault.NotFormatted is e = absurd is
opening_ends (open_fault.BadImage place) is e = absurd is
opening_ends (open_fault.BadRecord gate) is e = absurd is
opening_ends (open_fault.BadSpelling gate) is e = absurd is
opening_ends (open_fault.BadHistory gate) is e = absurd is

-- ---- a device that doesn't open

-- nothing was done but maybe a sync, unless a call on the device failed
abbrev ReadsUnless : OpenFault → World → World → Type 0
ReadsUnless fault a b = (ends_with (fault_of_opening fault) ≡ 6 → ⊥) → ReadsAlone a b

reads_at_all : (fault : OpenFault) (x y : Option World) → Told ReadsAlone x y → Told (ReadsUnless fault) x y
reads_at_all fault x y reads = told_map ReadsAlone (ReadsUnless fault) x y (λ a b r other. r) reads

told_unless : (fault : OpenFault) (x y : Option World) → Told OpensGood x y → OnRefused {T = StoreNow} (Err fault) (Told ReadsAlone x y) → Told (ReadsUnless fault) x y
told_unless open_fault.Disk x y good reads = told_map OpensGood (ReadsUnless open_fault.Disk) x y (λ a b g other. absurd (other refl)) good
told_unless open_fault.OutOfMemory x y good reads = reads_at_all open_fault.OutOfMemory x y reads
told_unless open_fault.NotFormatted x y good reads = reads_at_all open_fault.NotFormatted x y reads
told_unless (open_fault.BadImage place) x y good reads = reads_at_all (open_fault.BadImage place) x y reads
told_unless (open_fault.BadRecord gate) x y good reads = reads_at_all (open_fault.BadRecord gate) x y reads
told_unless (open_fault.BadSpelling gate) x y good reads = reads_at_all (open_fault.BadSpelling gate) x y reads
told_unless (open_fault.BadHistory gate) x y good reads = reads_at_all (open_fault.BadHistory gate) x y reads

module _ (turns : ℕ) (fault : OpenFault) (x y : Option World) (h k : Option (List Answered)) (opens : Told (Opens (Err fault)) x y) (good : Told OpensGood x y) (quiet : Told HearsNothing h k) where
  abbrev Unopened : World → World → Type 0
  Unopened a b = (Opens (Err fault) a b × OpensGood a b) × ReadsUnless fault a b

  pub told_unopened_serve : OnRefused {T = StoreNow} (Err fault) (Told ReadsAlone x y) → Told (ServeRun turns (ends_with (fault_of_opening fault))) (outer_of x h) (outer_of y k)
  told_unopened_serve reads =
      told_map (Quietly Unopened) (ServeRun turns (ends_with (fault_of_opening fault))) (outer_of x h) (outer_of y k)
      (λ a b p form seat rs stands.
      not_opened turns (ends_with (fault_of_opening fault)) form seat rs a b (not_done (fault_of_opening fault))
      (opening_ends fault (good_device form seat rs fault a.world b.world stands p.world.0.0)) p.world.0.1 p.world.1 p.heard stands)
      (told_quietly Unopened x y h k
      (told_both (λ a b. Opens (Err fault) a b × OpensGood a b) (ReadsUnless fault) x y (told_both (Opens (Err fault)) OpensGood x y opens good) (told_unless fault x y good reads)) quiet)

pub told_unopened_refuses : (fault : OpenFault) (x y : Option World) → Told (Opens (Err fault)) x y → Told OpensGood x y → OnRefused {T = StoreNow} (Err fault) (Told ReadsAlone x y)
    → Told (RefusesExactly (ends_with (fault_of_opening fault))) x y
told_unopened_refuses fault x y opens good reads = same_status fault (told_refuses fault x y opens good reads)
  where
    same_status : (fault : OpenFault) → Told (RefusesExactly (opening_status fault)) x y → Told (RefusesExactly (ends_with (fault_of_opening fault))) x y
    same_status open_fault.Disk r = r
    same_status open_fault.OutOfMemory r = r
    same_status open_fault.NotFormatted r = r
    same_status (open_fault.BadImage place) r = r
    same_status (open_fault.BadRecord gate) r = r
    same_status (open_fault.BadSpelling gate) r = r
    same_status (open_fault.BadHistory gate) r = r

-- ---- a device that opens

module _ (turns : ℕ) (s : StoreNow) (x y z : Option World) (h k l : Option (List Answered)) (opened : Told (OpenedAs s) x y) (quiet : Told HearsNothing h k) where
  pub told_served_whole : Told (ServesToEnd s turns) (outer_of y k) (outer_of z l) → Told (ServeRun turns 0) (outer_of x h) (outer_of z l)
  told_served_whole serves =
      told_then (Quietly (OpenedAs s)) (ServesToEnd s turns) (ServeRun turns 0) (outer_of x h) (outer_of y k) (outer_of z l)
      (λ a b d o p form seat rs stands.
      serve_whole turns form seat rs s a b d o.world o.heard stands (p.on_book rs (stands_there turns form seat rs s a b d o.world o.heard stands)))
      (told_quietly (OpenedAs s) x y h k opened quiet) serves

  pub told_served_part : (why : ServeFault) (before now : Faults) → IsServeCaused {A = Unit {0}} before now (Err why) → Told (ServesUpTo (IsOfDisk why) s turns) (outer_of y k) (outer_of z l)
      → Told (ServeRun turns (ends_with why)) (outer_of x h) (outer_of z l)
  told_served_part why before now caused serves =
      told_then (Quietly (OpenedAs s)) (ServesUpTo (IsOfDisk why) s turns) (ServeRun turns (ends_with why)) (outer_of x h) (outer_of y k) (outer_of z l)
      (λ a b d o p form seat rs stands.
      serve_part turns form seat rs s a b d o.world o.heard stands (ends_with why) (not_done why) (not_device {A = Unit {0}} why before now caused) (IsOfDisk why) (disk_status why)
      (p.on_book rs (stands_there turns form seat rs s a b d o.world o.heard stands)))
      (told_quietly (OpenedAs s) x y h k opened quiet) serves

  -- both, by how it ended
  pub told_served : (result : Result (Unit {0}) ServeFault) (before now : Faults) → IsServeCaused before now result → OnOk result (Told (ServesToEnd s turns) (outer_of y k) (outer_of z l))
      → IfErr result (λ why. Told (ServesUpTo (IsOfDisk why) s turns) (outer_of y k) (outer_of z l)) → Told (ServeRun turns (serve_status result)) (outer_of x h) (outer_of z l)
  told_served (Ok done) before now caused whole part = told_served_whole whole
  told_served (Err why) before now caused whole part = told_served_part why before now caused part

-- the same of what is told of the world alone
module _ (s : StoreNow) (x y z : Option World) (opened : Told (OpenedAs s) x y) (alone : IsSome z → IsSome y) where
  abbrev any : World → World → Type 0
  any a b = Unit {0}

  refuses_no_more : (status : ℕ) → (status ≡ 4 → ⊥) → Told (RefusesExactly status) x z
  refuses_no_more status other =
      told_then (OpenedAs s) any (RefusesExactly status) x y z (λ a b d o p. opened_refuses status s a d other o.opens) opened
      (told_all any (λ a b. tt) y z alone)

  pub told_served_refuses : (result : Result (Unit {0}) ServeFault) (before now : Faults) → IsServeCaused before now result → Told (RefusesExactly (serve_status result)) x z
  told_served_refuses (Ok done) before now caused = refuses_no_more 0 (λ e. cc)
  told_served_refuses (Err why) before now caused = refuses_no_more (ends_with why) (not_device {A = Unit {0}} why before now caused)

-- ---- causes

pub caused_by_opening : {T : Type 0} (fault : OpenFault) (before now : Faults) → OpenCause {T = T} before now (Err fault) → EndsCaused {A = Unit {0}} before now (Err (fault_of_opening fault))
caused_by_opening open_fault.Disk before now cause = record { later = cause.later; cause = cause.disk refl }
caused_by_opening open_fault.OutOfMemory before now cause = record { later = cause.later; cause = tt }
caused_by_opening open_fault.NotFormatted before now cause = record { later = cause.later; cause = tt }
caused_by_opening (open_fault.BadImage place) before now cause = record { later = cause.later; cause = tt }
caused_by_opening (open_fault.BadRecord gate) before now cause = record { later = cause.later; cause = tt }
caused_by_opening (open_fault.BadSpelling gate) before now cause = record { later = cause.later; cause = tt }
caused_by_opening (open_fault.BadHistory gate) before now cause = record { later = cause.later; cause = tt }

-- after an opening, which counts no fault down
cause_behind : (before middle now : Faults) (why : ServeFault) → Later before middle → Later middle now → ServeCause middle now why → EndingCause before now why
cause_behind before middle now Device first second cause = absurd cause
cause_behind before middle now Wait first second cause = rose_later before.input middle.input now.input now.input first.input second.input (omega arith) cause
cause_behind before middle now Disk first second cause = rose_later before.disk middle.disk now.disk now.disk first.disk second.disk (omega arith) cause
cause_behind before middle now OutOfMemory first second cause = tt

pub caused_behind : {T : Type 0} (before middle now : Faults) (result : Result T ServeFault) → Later before middle → IsServeCaused middle now result → EndsCaused before now result
caused_behind before middle now (Ok done) first second = record { later = later_then before middle now first second.later; cause = tt }
caused_behind before middle now (Err why) first second =
    record { later = later_then before middle now first second.later; cause = cause_behind before middle now why first second.later second.cause }

-- ---- the end

unopened_well : (fault : OpenFault) (before now : Faults) (a b : World) → OpenCause {T = StoreNow} before now (Err fault) → Opens (Err fault) a b → ServeEndsWell before now (ends_with (fault_of_opening fault)) a b
unopened_well fault before now a b cause opens form seat rs stands disk input = by fault cause (good_device form seat rs fault a b stands opens)
  where
    by : (fault : OpenFault) → OpenCause {T = StoreNow} before now (Err fault) → IsOfDiskOrMemory fault
        → (ends_with (fault_of_opening fault) ≡ DONE) ⊎ (ends_with (fault_of_opening fault) ≡ OUT_OF_MEMORY)
    by open_fault.Disk cause is = absurd (disk (cause.disk refl))
    by open_fault.OutOfMemory cause is = inr refl
    by open_fault.NotFormatted cause is = absurd is
    by (open_fault.BadImage place) cause is = absurd is
    by (open_fault.BadRecord gate) cause is = absurd is
    by (open_fault.BadSpelling gate) cause is = absurd is
    by (open_fault.BadHistory gate) cause is = absurd is

pub told_unopened_ends_well : (fault : OpenFault) (before now : Faults) (x y : Option World) → OpenCause {T = StoreNow} before now (Err fault) → Told (Opens (Err fault)) x y
    → Told (ServeEndsWell before now (ends_with (fault_of_opening fault))) x y
told_unopened_ends_well fault before now x y cause opens =
    told_map (Opens (Err fault)) (ServeEndsWell before now (ends_with (fault_of_opening fault))) x y (λ a b. unopened_well fault before now a b cause) opens

served_well : (result : Result (Unit {0}) ServeFault) (before middle now : Faults) → Later before middle → IsServeCaused middle now result → (a b : World) → ServeEndsWell before now (serve_status result) a b
served_well (Ok done) before middle now later caused a b form seat rs stands disk input = inl refl
served_well (Err Device) before middle now later caused a b form seat rs stands disk input = absurd caused.cause
served_well (Err Wait) before middle now later caused a b form seat rs stands disk input = absurd (input (cause_behind before middle now Wait later caused.later caused.cause))
served_well (Err Disk) before middle now later caused a b form seat rs stands disk input = absurd (disk (cause_behind before middle now Disk later caused.later caused.cause))
served_well (Err OutOfMemory) before middle now later caused a b form seat rs stands disk input = inr refl

pub told_served_ends_well : (s : StoreNow) (x y z : Option World) → Told (OpenedAs s) x y → (IsSome z → IsSome y) → (result : Result (Unit {0}) ServeFault) (before middle now : Faults) → Later before middle
    → IsServeCaused middle now result → Told (ServeEndsWell before now (serve_status result)) x z
told_served_ends_well s x y z opened alone result before middle now later caused =
    told_all (ServeEndsWell before now (serve_status result)) (served_well result before middle now later caused) x z (λ told. told_some (OpenedAs s) x y opened (alone told))
