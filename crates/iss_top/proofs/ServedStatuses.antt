-- Which statuses of a run that serves say that the outside is at fault.
use Rattle.std.proofs.Common.{◌≡◌, ℕ, Ok, Err, ◌∙◌, sym}
use Rattle.std.specs.Prelude.{Result}
use Rattle.iss_edge.specs.World.{Faults, Rose}
use Rattle.iss_serve.specs.declared.fault.ServeFault.{ServeFault}
use Rattle.iss_serve.specs.declared.fault.ServeFault.TheVariants.{Device, Wait, Disk, OutOfMemory}
use Rattle.iss_serve.specs.ServeRuns.{serve_status, EndsCaused}

waited : (served : Result (Unit {0}) ServeFault) (before now : Faults) → EndsCaused before now served → serve_status served ≡ 3 → Rose before.input now.input
waited (Ok done) before now caused e = absurd cc
waited (Err Wait) before now caused e = caused.cause
waited (Err Device) before now caused e = absurd cc
waited (Err Disk) before now caused e = absurd cc
waited (Err OutOfMemory) before now caused e = absurd cc

wrote : (served : Result (Unit {0}) ServeFault) (before now : Faults) → EndsCaused before now served → serve_status served ≡ 6 → Rose before.disk now.disk
wrote (Ok done) before now caused e = absurd cc
wrote (Err Wait) before now caused e = absurd cc
wrote (Err Device) before now caused e = absurd cc
wrote (Err Disk) before now caused e = caused.cause
wrote (Err OutOfMemory) before now caused e = absurd cc

pub input_caused : (served : Result (Unit {0}) ServeFault) (before now : Faults) (status : ℕ) → EndsCaused before now served → status ≡ serve_status served → status ≡ 3 → Rose before.input now.input
input_caused served before now status caused is e = waited served before now caused (sym is ∙ e)

pub disk_caused : (served : Result (Unit {0}) ServeFault) (before now : Faults) (status : ℕ) → EndsCaused before now served → status ≡ serve_status served → status ≡ 6 → Rose before.disk now.disk
disk_caused served before now status caused is e = wrote served before now caused (sym is ∙ e)
