-- What the program did by its words: a record for each command, whatever status its run ended with, and one for the status itself. They go by
-- the counts of faults and by what is told, before the run and after it.
use Rattle.std.specs.Prelude.{◌≡◌, ◌↔◌, ◌==◌, ℕ, List, Option, None, IsTrue}
use Rattle.std.specs.List.{list_any}
use Rattle.iss_edge.specs.declared.status.TheConstants.{USAGE, INPUT_FAULT, BAD_DEVICE, OUTPUT_FAULT, DISK_FAULT}
use Rattle.iss_edge.specs.declared.outside.Answered.{Answered}
use Rattle.iss_edge.specs.World.{World, Told, Faults, Rose}
use Rattle.iss_edge.specs.Outer.{outer_of}
use Rattle.iss_device.specs.Refusals.{RefusesExactly}
use Rattle.iss_serve.specs.ServeRuns.{ServeRun, ServeEndsWell}
use Rattle.iss_top.specs.declared.words.Command.{Command}
use Rattle.iss_top.specs.Words.{statuses}
use Rattle.iss_top.specs.Runs.{DryRun, EmitsTexts, StopsAtLines, EndsWell}
use Rattle.iss_top.specs.Replays.{ReplayRun, EveryMomentStands, ReplayEndsWell, TranscriptsContinue}
use Rattle.iss_top.specs.Promptness.{HearsPromptly, RepliesPromptly, dry_owed}
use Rattle.iss_top.specs.Reports.{ReportRun, ReportMomentStands, ReportEndsWell}
use Rattle.iss_top.specs.DrillRuns.{DrillRun, DrillEndsWell}
use Rattle.iss_top.specs.FormatRuns.{FormatRun}

-- How a run ended, by what its words ask for.
pub record StatusOf {E : Type 0} (asked : Option Command) (a b : E) (before now : Faults) (status : ℕ) : Type 0 where
  -- the status is one of the command's
  pub known : IsTrue (list_any (λ one. status == one) (statuses asked))
  -- it is 2 exactly if the words are no command, and then the outside is as it was
  pub usage : (status ≡ USAGE) ↔ (asked ≡ None)
  pub untouched : status ≡ USAGE → b ≡ a
  -- if it blames the outside, that is at fault
  pub input_fault : status ≡ INPUT_FAULT → Rose before.input now.input
  pub output_fault : status ≡ OUTPUT_FAULT → Rose before.output now.output
  pub disk_fault : status ≡ DISK_FAULT → Rose before.disk now.disk

-- What a dry run with this status did.
pub record DryDone (before now : Faults) (x y : Option World) (h k : Option (List Answered)) (status : ℕ) : Type 0 where
  -- It wrote the transcript of the input's lines, or a prefix of it. The status is 8 exactly if more than 4294967296 bytes were taken.
  pub output : Told (DryRun status) x y
  -- each text of the transcript went out by an emit of its own, in their order
  pub emits : Told (EmitsTexts status) x y
  -- at 3 and 8 what went out is the transcript of exactly the lines that ended within the bytes that were taken
  pub stopped : Told (StopsAtLines status) x y
  -- if the outside isn't at fault and the input isn't too long, it came to its end, or an allocation failed
  pub complete : Told (EndsWell before now status) x y
  -- Whenever it took more of its input, all that the lines are told that had ended until then had gone out. That is so at every status.
  pub prompt : Told (HearsPromptly dry_owed) (outer_of x h) (outer_of y k)

-- What a run with this status did that took lines on a device.
pub record ReplayDone (before now : Faults) (x y : Option World) (h k : Option (List Answered)) (status : ℕ) : Type 0 where
  -- On a device that stood for records, it wrote the transcript of the lines on them, or a prefix of it. At 0, 3 and 8 the device stands
  -- for those records and the ones that the lines made, at the seat of the room that is left.
  pub output : Told (ReplayRun status) x y
  -- If the device stood firmly, and no write on it was left failed, a stop leaves the old records and a prefix of the accepted inputs. That
  -- prefix holds every input of which a byte went out. Within the opening a record that was left behind may stand too.
  pub moments : Told EveryMomentStands x y
  -- A second run on the device continues the first. Two inputs in a row are told what the first is told, and then what the second is told on
  -- the records and in the room left. The second's is without the texts with which a run begins.
  pub continues : TranscriptsContinue
  -- If no store can be opened on the device, the status is 4, 6 or 7. Else the status isn't 4.
  pub refused : Told (RefusesExactly status) x y
  -- If the outside isn't at fault, the input isn't too long and the device stood for records, it came to its end, or an allocation failed.
  pub complete : Told (ReplayEndsWell before now status) x y
  -- On a device that stood for records: whenever it took more of its input, the texts with which the run begins and all that the lines are told
  -- that had ended until then had gone out. That is so at every status.
  pub prompt : Told RepliesPromptly (outer_of x h) (outer_of y k)

-- What a run with this status did that reports what stands on a device.
pub record ReportDone (before now : Faults) (x y : Option World) (status : ℕ) : Type 0 where
  -- On a device that stood for records, its lines went out, each by an emit of its own, or the first of them. Nothing was taken.
  pub output : Told (ReportRun status) x y
  -- As for lines on a device, a stop leaves the records that stood. Within the opening one that was left behind may stand too.
  pub moments : Told ReportMomentStands x y
  -- If no store can be opened on the device, the status is 4, 6 or 7. Else the status isn't 4.
  pub refused : Told (RefusesExactly status) x y
  -- if the outside isn't at fault and the device stood for records, it came to its end, or an allocation failed
  pub complete : Told (ReportEndsWell before now status) x y

-- What a run with this status did that served, in at most so many waits.
pub record ServeDone (turns : ℕ) (before now : Faults) (x y : Option World) (h k : Option (List Answered)) (status : ℕ) : Type 0 where
  -- What was heard and done is what the session of the device's records says, or a first part of it. What a stop leaves is as for lines on
  -- a device. At 0 no wait failed.
  pub session : Told (ServeRun turns status) (outer_of x h) (outer_of y k)
  -- If no store can be opened on the device, the status is 4, 6 or 7. Else the status isn't 4.
  pub refused : Told (RefusesExactly status) x y
  -- if device and input aren't at fault and the device stood for records, it came to its end, or an allocation failed
  pub complete : Told (ServeEndsWell before now status) x y

-- What a drill of n events with this status did.
pub record DrillDone (n : ℕ) (before now : Faults) (x y : Option World) (status : ℕ) : Type 0 where
  -- it wrote its line by one emit, or a prefix of it, and did nothing else
  pub output : Told (DrillRun n status) x y
  -- if the output isn't at fault, it came to its end, or an allocation failed
  pub complete : DrillEndsWell before now status

-- What formatting with this status did.
pub record FormatDone {E : Type 0} (size instance extent : ℕ) (a b : E) (before now : Faults) (x y : Option World) (status : ℕ) : Type 0 where
  -- the status is 4 exactly if the device has another size, and then the outside is as it was
  pub other_size : (status ≡ BAD_DEVICE) ↔ (extent ≡ size → ⊥)
  pub unwritten : status ≡ BAD_DEVICE → b ≡ a
  -- At 0 the device is in halves, has the instance and stands for no records. At every status it says what a stop leaves. If the size is right and the
  -- disk isn't at fault, the status is 0.
  pub formatting : FormatRun size instance extent status before now x y

-- ---- by what an edge counts and tells

-- how a run ended
abbrev pub StatusOn : {E : Type 0} → (E → Faults) → E → E → Option Command → ℕ → Type 0
StatusOn faults a b asked status = StatusOf asked a b (faults a) (faults b) status

-- what a dry run did
abbrev pub DryDoneOn : {E : Type 0} → (E → Faults) → (E → Option World) → (E → Option (List Answered)) → E → E → ℕ → Type 0
DryDoneOn faults told heard a b status = DryDone (faults a) (faults b) (told a) (told b) (heard a) (heard b) status

-- what a run did that took lines on a device
abbrev pub ReplayDoneOn : {E : Type 0} → (E → Faults) → (E → Option World) → (E → Option (List Answered)) → E → E → ℕ → Type 0
ReplayDoneOn faults told heard a b status = ReplayDone (faults a) (faults b) (told a) (told b) (heard a) (heard b) status

-- what a run did that reports
abbrev pub ReportDoneOn : {E : Type 0} → (E → Faults) → (E → Option World) → E → E → ℕ → Type 0
ReportDoneOn faults told a b status = ReportDone (faults a) (faults b) (told a) (told b) status

-- what a run did that served
abbrev pub ServeDoneOn : {E : Type 0} → (E → Faults) → (E → Option World) → (E → Option (List Answered)) → E → E → ℕ → ℕ → Type 0
ServeDoneOn faults told heard a b turns status = ServeDone turns (faults a) (faults b) (told a) (told b) (heard a) (heard b) status

-- what a drill did
abbrev pub DrillDoneOn : {E : Type 0} → (E → Faults) → (E → Option World) → E → E → ℕ → ℕ → Type 0
DrillDoneOn faults told a b n status = DrillDone n (faults a) (faults b) (told a) (told b) status

-- what formatting did
abbrev pub FormatDoneOn : {E : Type 0} → (E → ℕ) → (E → Faults) → (E → Option World) → E → E → ℕ → ℕ → ℕ → Type 0
FormatDoneOn extent faults told a b size instance status = FormatDone size instance (extent a) a b (faults a) (faults b) (told a) (told b) status
