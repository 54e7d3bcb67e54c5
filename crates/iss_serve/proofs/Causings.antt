-- Why a run that serves ends early, over one call after the other.
use Rattle.std.proofs.Common.{◌≡◌, refl, arith}
use Rattle.std.specs.Prelude.{Result, Ok, Err, IfErr, OnErr}
use Rattle.iss_edge.specs.World.{Faults, Later, Rose}
use Rattle.iss_edge.proofs.Tolds.{later_then, rose_later}
use Rattle.iss_store.specs.declared.fault.StoreFault.{StoreFault}
use Rattle.iss_store.specs.declared.fault.StoreFault.TheVariants as store
use Rattle.iss_store.specs.Committing.{CommitCause, WhereItLasts}
use Rattle.iss_serve.specs.declared.fault.ServeFault.{ServeFault}
use Rattle.iss_serve.specs.declared.fault.ServeFault.TheVariants.{Device, Wait, Disk, OutOfMemory}
use Rattle.iss_serve.specs.Causes.{ServeCause, IsServeCaused, fault_of_store}

cause_then : (f g h : Faults) (why : ServeFault) → Later f g → Later g h → ServeCause g h why → ServeCause f h why
cause_then f g h Device p q e = e
cause_then f g h Wait p q e = rose_later f.input g.input h.input h.input p.input q.input (omega arith) e
cause_then f g h Disk p q e = rose_later f.disk g.disk h.disk h.disk p.disk q.disk (omega arith) e
cause_then f g h OutOfMemory p q e = tt

causes_then : {A : Type 0} (f g h : Faults) (r : Result A ServeFault) → Later f g → Later g h → IfErr r (ServeCause g h) → IfErr r (ServeCause f h)
causes_then f g h (Ok x) p q e = tt
causes_then f g h (Err why) p q e = cause_then f g h why p q e

-- one call, and then another, which has a cause if it fails
pub caused_then : {A : Type 0} (f g h : Faults) (r : Result A ServeFault) → Later f g → IsServeCaused g h r → IsServeCaused f h r
caused_then f g h r p q = record { later = later_then f g h p q.later; cause = causes_then f g h r p q.later q.cause }

-- nothing failed
pub caused_well : {A : Type 0} (f g : Faults) (x : A) → Later f g → IsServeCaused f g (Ok x)
caused_well f g x p = record { later = p; cause = tt }

-- an allocation failed
pub caused_memory : {A : Type 0} (f g : Faults) → Later f g → IsServeCaused {A = A} f g (Err OutOfMemory)
caused_memory f g p = record { later = p; cause = tt }

-- a wait failed
pub caused_wait : {A : Type 0} (f g : Faults) → Later f g → Rose f.input g.input → IsServeCaused {A = A} f g (Err Wait)
caused_wait f g p rose = record { later = p; cause = rose }

-- what a call failed by, in a call that gives something else
pub caused_as : {A B : Type 0} (f g : Faults) (why : ServeFault) → IsServeCaused {A = A} f g (Err why) → IsServeCaused {A = B} f g (Err why)
caused_as f g why p = record { later = p.later; cause = p.cause }

-- two calls, of which the second failed
pub caused_later : {A B : Type 0} (f g h : Faults) (why : ServeFault) → Later f g → IsServeCaused {A = A} g h (Err why) → IsServeCaused {A = B} f h (Err why)
caused_later f g h why p q = record { later = later_then f g h p q.later; cause = cause_then f g h why p q.later q.cause }

-- a commit failed
pub caused_commit : {A B : Type 0} (f g : Faults) (why : StoreFault) (P : Type 0) → CommitCause {T = A} f g (Err why) → WhereItLasts {T = A} (Err why) P → IsServeCaused {A = B} f g (Err (fault_of_store why))
caused_commit f g store.Disk P c l = record { later = c.later; cause = c.disk refl }
caused_commit f g store.Output P c l = absurd l
caused_commit f g store.OutOfMemory P c l = record { later = c.later; cause = tt }

-- what was to be said failed for want of memory
pub caused_short : {A : Type 0} (f g : Faults) (why : StoreFault) → Later f g → why ≡ store.OutOfMemory → IsServeCaused {A = A} f g (Err (fault_of_store why))
caused_short f g store.Disk p short = absurd cc
caused_short f g store.Output p short = absurd cc
caused_short f g store.OutOfMemory p short = record { later = p; cause = tt }

-- what holds anyway, if a call failed
pub anyway : {T E : Type 0} (r : Result T E) (P : Type 0) → P → OnErr r P
anyway (Ok x) P p = tt
anyway (Err e) P p = p

-- what holds by the fault
pub anyhow : {T : Type 0} (r : Result T ServeFault) (P : ServeFault → Type 0) → ((why : ServeFault) → P why) → IfErr r P
anyhow (Ok x) P p = tt
anyhow (Err e) P p = p e

pub if_err_weaker : {T : Type 0} (r : Result T ServeFault) (P Q : ServeFault → Type 0) → ((why : ServeFault) → P why → Q why) → IfErr r P → IfErr r Q
if_err_weaker (Ok x) P Q f p = tt
if_err_weaker (Err e) P Q f p = f e p
