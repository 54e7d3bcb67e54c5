-- What a run that reports what stands on a device does, whatever status it ends with.
use Rattle.std.specs.Prelude.{◌≡◌, ◌⊎◌, ℕ, List, [], ◌++◌, length, IfErr, Result}
use Rattle.iss_edge.specs.declared.status.TheConstants.{DONE, BAD_DEVICE, OUTPUT_FAULT, OUT_OF_MEMORY}
use Rattle.iss_edge.specs.declared.outside.Action.{Action}
use Rattle.iss_edge.specs.World.{World, Faults, Later, Rose}
use Rattle.iss_model.specs.declared.input.Record.{Record}
use Rattle.iss_model.specs.rules.Histories.{history_of}
use Rattle.iss_model.specs.run.Transcripts.{Text, at_level}
use Rattle.iss_model.specs.texts.BalanceLines.{balance_lines}
use Rattle.iss_halves.specs.Forms.{Form, Seat}
use Rattle.iss_standing.specs.Standing.{DeviceStandsFor}
use Rattle.iss_standing.specs.Writes.{device_actions}
use Rattle.iss_opening.specs.Opening.{AreOnDevice, SyncsFirst, WritesEndGate, ReadsAlone}
use Rattle.iss_texts.specs.Sending.{emits, GoOut}
use Rattle.iss_device.specs.Moments.{EndsAtRest}
use Rattle.iss_top.specs.declared.stop.Stop.{Stop}
use Rattle.iss_top.specs.declared.stop.Stop.TheVariants as stop
use Rattle.iss_top.specs.Replays.{MomentsOf}

-- the lines of the report of these records
abbrev pub report_lines : List Record → List (List ℕ)
report_lines rs = balance_lines (history_of rs)

-- as texts that go out when this many records stand
abbrev pub report_texts : List Record → List Text
report_texts rs = at_level (length rs) (report_lines rs)

-- What a run with this status did on a device that stands for these records. Nothing was taken. First there was an opening, which is on
-- the device alone, and after it nothing was done there. Then the lines of the report went out, each by an emit of its own, and at 0 all of
-- them. If the run ended early, the first of them did, and maybe a prefix of the next. At 0, and if the output failed, the device stands for
-- the records. Then, if the run began at rest, the next one begins there. The same holds at 7, unless nothing was done but maybe a sync.
pub record ReportOn (status : ℕ) (form : Form) (seat : Seat) (rs : List Record) (a b : World) : Type 0 where
  pub left : b.left ≡ a.left
  pub opening : List Action
  pub sent : List Action
  pub grew : b.trace ≡ a.trace ++ (opening ++ sent)
  pub on_device : AreOnDevice opening
  pub opening_is : SyncsFirst opening
  pub opening_gate : WritesEndGate form rs a.device opening
  pub wrote : device_actions sent ≡ []
  pub out : GoOut (report_lines rs) sent
  pub whole : status ≡ DONE → sent ≡ emits (report_lines rs)
  pub stands : (status ≡ DONE) ⊎ (status ≡ OUTPUT_FAULT) → DeviceStandsFor form seat rs b.device
  pub ends : (status ≡ DONE) ⊎ (status ≡ OUTPUT_FAULT) → EndsAtRest form rs rs (opening ++ sent) a b
  pub ended : status ≡ OUT_OF_MEMORY → ReadsAlone a b ⊎ EndsAtRest form rs rs (opening ++ sent) a b
  pub other_device : status ≡ BAD_DEVICE → ⊥

-- whichever records the device stands for, if any
abbrev pub ReportRun : ℕ → World → World → Type 0
ReportRun status a b = (form : Form) (seat : Seat) (rs : List Record) → DeviceStandsFor form seat rs a.device → ReportOn status form seat rs a b

-- at every moment the device stands for the records that stood, and for no more but one that was left behind at the start
abbrev pub ReportMomentStands : World → World → Type 0
ReportMomentStands a b =
    (form : Form) (seat : Seat) (rs : List Record) → DeviceStandsFor form seat rs a.device → MomentsOf form rs rs (report_texts rs) a b

-- why a report may end early: the device, an emit or an allocation failed, or the device stands for no records
abbrev pub ReportCause : Faults → Faults → Stop → Type 0
ReportCause before now stop.Input = ⊥
ReportCause before now stop.Device = Unit {0}
ReportCause before now stop.Output = Rose before.output now.output
ReportCause before now stop.Disk = Rose before.disk now.disk
ReportCause before now stop.Memory = Unit {0}
ReportCause before now stop.InputLong = ⊥

-- no count has fallen, and a report ended early for a cause
pub record IsReportCaused {A : Type 0} (before now : Faults) (result : Result A Stop) : Type 0 where
  pub later : Later before now
  pub cause : IfErr result (ReportCause before now)

-- if no count on the device or output rose, and the device stands for records, the status is 0 or 7
abbrev pub ReportEndsWell : Faults → Faults → ℕ → World → World → Type 0
ReportEndsWell before now status a b =
    (form : Form) (seat : Seat) (rs : List Record) → DeviceStandsFor form seat rs a.device
    → (Rose before.disk now.disk → ⊥) → (Rose before.output now.output → ⊥)
    → (status ≡ DONE) ⊎ (status ≡ OUT_OF_MEMORY)
