-- What a run on a device does, whatever status it ends with.
use Rattle.std.specs.Prelude.{◌≡◌, ◌+◌, ℕ, ◌≤◌, ◌↔◌, ◌⊎◌, List, [], ◌++◌, length, map, take, IsTrue}
use Rattle.std.specs.List.{list_all}
use Rattle.iss_edge.specs.declared.status.TheConstants.{DONE, INPUT_FAULT, BAD_DEVICE, DISK_FAULT, OUT_OF_MEMORY, INPUT_TOO_LONG}
use Rattle.iss_edge.specs.declared.outside.Action.{Action}
use Rattle.iss_edge.specs.World.{World, Faults, Rose}
use Rattle.iss_edge.specs.Stretches.{Step, actions_of}
use Rattle.iss_model.specs.declared.input.Record.{Record}
use Rattle.iss_model.specs.declared.limits.TheConstants.{MOST_INPUT}
use Rattle.iss_model.specs.rules.Histories.{IsLegal}
use Rattle.iss_model.specs.run.Runs.{Run, transcript_of, line_texts, run_after, accepted_records}
use Rattle.iss_model.specs.run.Transcripts.{Reading, Text}
use Rattle.iss_halves.specs.Forms.{Form, Seat}
use Rattle.iss_standing.specs.Standing.{AreHistory, DeviceStandsFor}
use Rattle.iss_standing.specs.Rooms.{seat_of}
use Rattle.iss_standing.specs.Writes.{WritesRecords}
use Rattle.iss_standing.specs.Counts.{SyncedTwice}
use Rattle.iss_standing.specs.Goings.{AreFirstOf}
use Rattle.iss_opening.specs.Opening.{AreOnDevice, SyncsFirst, WritesEndGate, ReadsAlone}
use Rattle.iss_texts.specs.Sending.{emits, GoOut}
use Rattle.iss_device.specs.Runs.{run_on}
use Rattle.iss_device.specs.Moments.{EachMoment, EachMomentUnsynced, EachStopStands, EndsAtRest}
use Rattle.iss_device.specs.Writes.{WroteAt}
use Rattle.iss_top.specs.Lines.{lines_of, ended_lines}
use Rattle.iss_top.specs.Dry.{reading_of, each_bytes}
use Rattle.iss_top.specs.Reader.{TakesIn}
use Rattle.iss_top.specs.Replaying.{is_of_run, outputs_of, output_levels, levels_of}

-- all that a run is told to write for these lines
abbrev pub texts_for : Run → List (List ℕ) → List Text
texts_for s lines = transcript_of s (map reading_of lines)

-- the records that stood, and those that these lines make
abbrev pub records_for : Run → List Record → List (List ℕ) → List Record
records_for s rs lines = rs ++ accepted_records s (map reading_of lines)

-- the seat of the room that these readings leave
abbrev pub seat_after : Run → List Reading → Seat
seat_after s readings = seat_of (run_after s readings).room

-- What was done on the device was the opening, and then just the puts of these later records, one record after the other.
pub record Wrote (form : Form) (seat : Seat) (rs later : List Record) (device : List ℕ) (actions : List Action) : Type 0 where
  pub opening : List Action
  pub opening_is : SyncsFirst opening
  pub opening_gate : WritesEndGate form rs device opening
  pub rest : List Action
  pub cut : actions ≡ opening ++ rest
  pub made : WritesRecords form seat rs later rest

-- What was done on the device by a run with this status was the opening, and then just the puts of some first ones of all records that were
-- to come. If a call on the device failed, it was a first part of that.
pub record WrotePart (status : ℕ) (form : Form) (seat : Seat) (rs all : List Record) (device : List ℕ) (actions : List Action) : Type 0 where
  pub opening : List Action
  pub opening_is : SyncsFirst opening
  pub opening_gate : WritesEndGate form rs device opening
  pub rest : List Action
  pub cut : actions ≡ opening ++ rest
  pub later : List Record
  pub first : AreFirstOf (rs ++ later) all
  pub made : WroteAt status form seat rs later rest

-- What was done for exactly these lines. The texts with which the run begins and those of each line went out, each by an emit of its own.
-- The device stands for the records that stood and those that the lines made, at the seat of the room that they leave. If the run began at
-- rest, the next one begins there.
pub record Replayed (form : Form) (seat : Seat) (rs : List Record) (lines : List (List ℕ)) (actions : List Action) (a b : World) : Type 0 where
  pub out : outputs_of actions ≡ emits (each_bytes (texts_for (run_on form seat rs) lines))
  pub stands : DeviceStandsFor form (seat_after (run_on form seat rs) (map reading_of lines)) (records_for (run_on form seat rs) rs lines) b.device
  pub ends : EndsAtRest form rs (records_for (run_on form seat rs) rs lines) actions a b
  pub wrote : Wrote form seat rs (accepted_records (run_on form seat rs) (map reading_of lines)) a.device actions

-- The run ended where the next one begins, with all records that stood and some first ones of those that the input makes. Together they
-- are a history.
pub record EndsAmid (form : Form) (seat : Seat) (rs : List Record) (actions : List Action) (a b : World) : Type 0 where
  pub made : List Record
  pub more : AreFirstOf rs made
  pub history : AreHistory made
  pub first : AreFirstOf made (records_for (run_on form seat rs) rs (lines_of (a.left 0)))
  pub ends : EndsAtRest form rs made actions a b

-- unless a call on the device failed, nothing was done but maybe a sync, or the run ended where the next one begins
abbrev pub EndsSomewhere : Form → Seat → List Record → List Action → World → World → Type 0
EndsSomewhere form seat rs actions a b = ReadsAlone a b ⊎ EndsAmid form seat rs actions a b

-- What a run with this status did on a device that stands for these records. Nothing was done but on the device and on channel 0. What
-- went out is the transcript of the input, text by text, or a prefix of it. At 0 it is all of it, and the input was read to its end. At 3
-- and 8 it is that of exactly the lines that ended within the bytes that were taken. In each of these cases the device stands for the
-- records of the lines. The status is 8 exactly if 4294967296 bytes were taken and another came.
pub record ReplayOn (status : ℕ) (form : Form) (seat : Seat) (rs : List Record) (a b : World) : Type 0 where
  pub took : List ℕ
  pub takes : TakesIn took a b
  pub actions : List Action
  pub grew : b.trace ≡ a.trace ++ actions
  pub kinds : IsTrue (list_all is_of_run actions)
  pub out : GoOut (each_bytes (texts_for (run_on form seat rs) (lines_of (a.left 0)))) (outputs_of actions)
  pub whole : status ≡ DONE → (b.left 0 ≡ []) × Replayed form seat rs (lines_of (a.left 0)) actions a b
  pub stopped : (status ≡ INPUT_FAULT) ⊎ (status ≡ INPUT_TOO_LONG) → Replayed form seat rs (ended_lines (take MOST_INPUT took)) actions a b
  pub long : (status ≡ INPUT_TOO_LONG) ↔ (length took ≡ MOST_INPUT + 1)
  pub bound : length took ≤ MOST_INPUT + 1
  pub ended : (status ≡ DISK_FAULT → ⊥) → EndsSomewhere form seat rs actions a b
  pub wrote : WrotePart status form seat rs (records_for (run_on form seat rs) rs (lines_of (a.left 0))) a.device actions
  pub other_device : status ≡ BAD_DEVICE → ⊥

-- whichever records the device stands for, if any
abbrev pub ReplayRun : ℕ → World → World → Type 0
ReplayRun status a b = (form : Form) (seat : Seat) (rs : List Record) → DeviceStandsFor form seat rs a.device → ReplayOn status form seat rs a b

-- Every moment of a run on a device that stands firmly for these records, if the first of all of those stand in the end, and
-- these texts are to go out. The opening writes to the device and syncs it, and no more. The records that the run made last are a history:
-- they are legal, and each has a spelling.
pub record MomentsOf (form : Form) (rs all : List Record) (texts : List Text) (a b : World) : Type 0 where
  pub opening : List Step
  pub later : List Step
  pub opening_alone : AreOnDevice (actions_of opening)
  pub opening_is : SyncsFirst (actions_of opening)
  pub opening_gate : WritesEndGate form rs a.device (actions_of opening)
  pub grew : b.trace ≡ a.trace ++ actions_of (opening ++ later)
  pub legal : IsLegal all
  pub made : List Record
  pub more : AreFirstOf rs made
  pub first : AreFirstOf made all
  pub history : AreHistory made
  -- each text that was sent has its level, in the order of the texts
  pub levels : (unsent : List ℕ) × (levels_of texts ≡ output_levels (opening ++ later) ++ unsent)
  -- after the opening each record was synced twice before a text told of it
  pub synced : SyncedTwice 0 (length rs) later
  -- the run began on a device at rest, or on one with unsynced writes
  pub each : EachMoment form rs made opening later a.device
  pub unsynced : EachMomentUnsynced form rs made opening later a.device
  -- the next run may begin with what a stop leaves
  pub stops : EachStopStands form rs made opening later a.device

-- every moment of a run that takes lines, on a device that stands firmly for these records
abbrev pub EveryMoment : Form → Seat → List Record → World → World → Type 0
EveryMoment form seat rs a b =
    MomentsOf form rs (records_for (run_on form seat rs) rs (lines_of (a.left 0)))
    (texts_for (run_on form seat rs) (lines_of (a.left 0))) a b

-- whichever records the device stands for at the start
abbrev pub EveryMomentStands : World → World → Type 0
EveryMomentStands a b = (form : Form) (seat : Seat) (rs : List Record) → DeviceStandsFor form seat rs a.device → EveryMoment form seat rs a b

-- The transcript of two inputs in a row is that of the first and then that of the second, on what the first left: its records, and its
-- room. The second's is without the texts with which a run begins.
abbrev pub TranscriptsContinue : Type 0
TranscriptsContinue =
    (form : Form) (seat : Seat) (rs : List Record) (xs ys : List Reading)
    → transcript_of (run_on form seat rs) (xs ++ ys)
    ≡ transcript_of (run_on form seat rs) xs
    ++ line_texts (run_on form (seat_after (run_on form seat rs) xs) (rs ++ accepted_records (run_on form seat rs) xs)) ys

-- Assume that no count on the device, input or output rose, the input has at most 4294967296 bytes, and the device stands for records.
-- Then the status is 0 or 7.
abbrev pub ReplayEndsWell : Faults → Faults → ℕ → World → World → Type 0
ReplayEndsWell before now status a b =
    (form : Form) (seat : Seat) (rs : List Record) → DeviceStandsFor form seat rs a.device
    → (Rose before.disk now.disk → ⊥) → (Rose before.input now.input → ⊥) → (Rose before.output now.output → ⊥) → length (a.left 0) ≤ MOST_INPUT
    → (status ≡ DONE) ⊎ (status ≡ OUT_OF_MEMORY)
