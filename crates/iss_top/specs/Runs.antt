-- What a run does, whatever status it ends with.
use Rattle.std.specs.Prelude.{◌≡◌, ◌+◌, ℕ, ◌≤◌, ◌↔◌, ◌⊎◌, List, [], ◌++◌, length, take, IfErr, Result}
use Rattle.iss_edge.specs.declared.status.TheConstants.{DONE, INPUT_FAULT, OUT_OF_MEMORY, INPUT_TOO_LONG}
use Rattle.iss_edge.specs.declared.outside.Action.{Action}
use Rattle.iss_edge.specs.World.{World, Faults, Later, Rose}
use Rattle.iss_model.specs.declared.limits.TheConstants.{MOST_INPUT}
use Rattle.iss_top.specs.declared.stop.Stop.{Stop}
use Rattle.iss_top.specs.declared.stop.Stop.TheVariants as stop
use Rattle.iss_top.specs.Lines.{ended_lines}
use Rattle.iss_top.specs.Dry.{texts_of_lines, dry_texts, dry_output, each_bytes}
use Rattle.iss_top.specs.Progress.{Sends, Begins}
use Rattle.iss_top.specs.Reader.{TakesIn}
use Rattle.iss_texts.specs.Sending.{emits, GoOut}

-- these bytes were taken from channel 0, this text went out on it, and nothing else was done
pub record Passes (took text : List ℕ) (a b : World) : Type 0 where
  pub bytes : a.left 0 ≡ took ++ b.left 0
  pub others : (c : ℕ) → (c ≡ 0 → ⊥) → b.left c ≡ a.left c
  pub sends : Sends text a b

-- What a dry run with this status did. What went out is a prefix of what its input is to be told. At 0 it is all of it, and the input was read
-- to its end. The status is 8 exactly if 4294967296 bytes were taken and another came.
pub record DryRun (status : ℕ) (a b : World) : Type 0 where
  pub took : List ℕ
  pub text : List ℕ
  pub passes : Passes took text a b
  pub prefix : Begins text (dry_output (a.left 0))
  pub whole : status ≡ DONE → (text ≡ dry_output (a.left 0)) × (b.left 0 ≡ [])
  pub long : (status ≡ INPUT_TOO_LONG) ↔ (length took ≡ MOST_INPUT + 1)
  pub bound : length took ≤ MOST_INPUT + 1

-- What a dry run with this status emitted: the texts that its input is to be told, in order, each by its own emit. At 0 it emitted all of
-- them. If it ended early, the last emit may have failed, and a prefix of its text went out.
pub record EmitsTexts (status : ℕ) (a b : World) : Type 0 where
  pub actions : List Action
  pub grew : b.trace ≡ a.trace ++ actions
  pub out : GoOut (each_bytes (dry_texts (a.left 0))) actions
  pub whole : status ≡ DONE → actions ≡ emits (each_bytes (dry_texts (a.left 0)))

-- the emits for the lines that ended within the first 4294967296 of these bytes
abbrev pub emits_of_ended : List ℕ → List Action
emits_of_ended took = emits (each_bytes (texts_of_lines (ended_lines (take MOST_INPUT took))))

-- At 3 and 8 a dry run emitted exactly the texts of the lines that ended within the bytes that it took, of which a last one beyond
-- 4294967296 doesn't count.
pub record StopsAtLines (status : ℕ) (a b : World) : Type 0 where
  pub took : List ℕ
  pub takes : TakesIn took a b
  pub exactly : (status ≡ INPUT_FAULT) ⊎ (status ≡ INPUT_TOO_LONG) → b.trace ≡ a.trace ++ emits_of_ended took

-- all of what it took and what it emitted, with the device as it was
pub record Ran (status : ℕ) (a b : World) : Type 0 where
  pub took : List ℕ
  pub takes : TakesIn took a b
  pub device : b.device ≡ a.device
  pub emits : EmitsTexts status a b
  pub stopped : (status ≡ INPUT_FAULT) ⊎ (status ≡ INPUT_TOO_LONG) → b.trace ≡ a.trace ++ emits_of_ended took
  pub over : status ≡ DONE → b.left 0 ≡ []
  pub long : (status ≡ INPUT_TOO_LONG) ↔ (length took ≡ MOST_INPUT + 1)
  pub bound : length took ≤ MOST_INPUT + 1

-- why a run may end early
abbrev pub RunCause : Faults → Faults → Stop → Type 0
RunCause before now stop.Input = Rose before.input now.input
RunCause before now stop.Device = ⊥
RunCause before now stop.Disk = ⊥
RunCause before now stop.Output = Rose before.output now.output
RunCause before now stop.Memory = Unit {0}
RunCause before now stop.InputLong = Unit {0}

-- no count has fallen, and the run ended early for a cause
pub record IsCaused {A : Type 0} (before now : Faults) (result : Result A Stop) : Type 0 where
  pub later : Later before now
  pub cause : IfErr result (RunCause before now)

-- if no count on input or output rose, and the input has at most 4294967296 bytes, the status is 0 or 7
abbrev pub EndsWell : Faults → Faults → ℕ → World → World → Type 0
EndsWell before now status a b =
    (Rose before.input now.input → ⊥) → (Rose before.output now.output → ⊥) → length (a.left 0) ≤ MOST_INPUT
    → (status ≡ DONE) ⊎ (status ≡ OUT_OF_MEMORY)
