-- How the program ends, and what it did.
use Rattle.std.specs.Prelude.{◌≡◌, ℕ, ◌==◌, ◌↔◌, ◌⊎◌, List, [], ◌∷◌, Option, Some, None, Result, Ok, Err, IsTrue, IsSome}
use Rattle.std.specs.List.{list_any}
use Rattle.iss_edge.specs.declared.status.TheConstants.{DONE, USAGE, INPUT_FAULT, OUT_OF_MEMORY}
use Rattle.iss_edge.specs.declared.outside.Answered.{Answered}
use Rattle.iss_edge.specs.Outer.{ToldBoth}
use Rattle.iss_edge.specs.World.{World, Faults, Rose}
use Rattle.iss_attend.specs.declared.fault.AttendFault.{AttendFault}
use Rattle.iss_attend.specs.declared.fault.AttendFault.TheVariants.{Wait, OutOfMemory}
use Rattle.iss_attend.specs.Runs.{AttendRun}
use Rattle.iss_gateway.specs.Rules.{Reference, new_reference}
use Rattle.iss_gateway_serve.specs.declared.words.Service.{Service}
use Rattle.iss_gateway_serve.specs.Answers.{gateway_manner}

-- the exit status of a run that ended so
abbrev pub exit_status : {A : Type 0} → Result A AttendFault → ℕ
exit_status (Ok done) = DONE
exit_status (Err Wait) = INPUT_FAULT
exit_status (Err OutOfMemory) = OUT_OF_MEMORY

-- the statuses of the program
abbrev pub statuses : List ℕ
statuses = DONE ∷ USAGE ∷ INPUT_FAULT ∷ OUT_OF_MEMORY ∷ []

-- How the program ended, by what its words ask for.
pub record StatusOf {E : Type 0} (asked : Option Service) (a b : E) (before now : Faults) (status : ℕ) : Type 0 where
  pub known : IsTrue (list_any (λ one. status == one) statuses)
  -- it is 2 exactly if the words ask for nothing, and then the outside is as it was
  pub usage : (status ≡ USAGE) ↔ (asked ≡ None)
  pub untouched : status ≡ USAGE → b ≡ a
  -- if it blames the outside, that is at fault
  pub input_fault : status ≡ INPUT_FAULT → Rose before.input now.input
  -- if the words ask for something and no wait failed, it came to its end, or an allocation failed
  pub ends_well : IsSome asked → (Rose before.input now.input → ⊥) → (status ≡ DONE) ⊎ (status ≡ OUT_OF_MEMORY)

-- a gateway of these limits that has heard nothing
abbrev pub unheard : Service → Reference
unheard s = new_reference s.most s.limit

-- What the program did, if its words ask for something: it attended to its clients as the gateway of these limits. At status 0 it came to
-- its end.
abbrev pub ServedOn : {E : Type 0} → (E → Option World) → (E → Option (List Answered)) → E → E → ℕ → Option Service → Type 0
ServedOn told heard a b status None = Unit {0}
ServedOn told heard a b status (Some s) =
    ToldBoth told heard (AttendRun gateway_manner (unheard s) s.turns (status ≡ DONE)) a b

-- how the program ended, by what an edge counts
abbrev pub StatusOn : {E : Type 0} → (E → Faults) → E → E → Option Service → ℕ → Type 0
StatusOn faults a b asked status = StatusOf asked a b (faults a) (faults b) status
