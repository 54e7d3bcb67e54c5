-- What a drill does, whatever status it ends with.
use Rattle.std.specs.Prelude.{◌≡◌, ◌⊎◌, ℕ, [], ◌∷◌, Result, Ok, Err}
use Rattle.iss_edge.specs.declared.status.TheConstants.{DONE, OUTPUT_FAULT, OUT_OF_MEMORY}
use Rattle.iss_edge.specs.World.{World, Faults, Rose}
use Rattle.iss_texts.specs.Sending.{Says, SaysSome}
use Rattle.iss_drill.specs.Drills.{drill_text}
use Rattle.iss_drill.specs.declared.fault.DrillFault.{DrillFault}
use Rattle.iss_drill.specs.declared.fault.DrillFault.TheVariants as drill_fault

-- the exit status of a drill that ended so
abbrev pub drill_status : {A : Type 0} → Result A DrillFault → ℕ
drill_status (Ok done) = DONE
drill_status (Err drill_fault.Output) = OUTPUT_FAULT
drill_status (Err drill_fault.OutOfMemory) = OUT_OF_MEMORY

-- A drill of n events with this status did nothing but emit its line, once. At 0 all of it went out; else nothing did, or a prefix of it by an
-- emit that failed.
pub record DrillRun (n status : ℕ) (a b : World) : Type 0 where
  pub part : SaysSome (drill_text n ∷ []) a b
  pub whole : status ≡ DONE → Says (drill_text n ∷ []) a b

-- if the count of output didn't rise, the status is 0 or 7
abbrev pub DrillEndsWell : Faults → Faults → ℕ → Type 0
DrillEndsWell before now status = (Rose before.output now.output → ⊥) → (status ≡ DONE) ⊎ (status ≡ OUT_OF_MEMORY)
