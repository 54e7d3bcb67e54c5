-- A run on a device on its way: what each line is told on what stands, and what was done for it. Then what the rest of the input will be told.
use Rattle.std.specs.Prelude.{◌≡◌, ℕ, ◌+◌, ◌≤◌, ◌==◌, ◌↔◌, ◌⊎◌, Bool, true, false, List, [], ◌∷◌, ◌++◌, length, map, filter, take, Option, Some, IfOk, IfErr, Result, if◌then◌else◌}
use Rattle.iss_edge.specs.declared.status.TheConstants.{DONE, INPUT_FAULT, DISK_FAULT, INPUT_TOO_LONG}
use Rattle.iss_edge.specs.declared.outside.Action.{Action}
use Rattle.iss_edge.specs.declared.outside.Action.TheVariants.{Write, Sync, Emit, Dial, Close}
use Rattle.iss_edge.specs.World.{World, Told, Faults, Later, Rose}
use Rattle.iss_edge.specs.Stretches.{Step, actions_of}
use Rattle.iss_model.specs.declared.input.Record.{Record}
use Rattle.iss_model.specs.declared.limits.TheConstants.{MOST_INPUT}
use Rattle.iss_model.specs.declared.input.Input.{Input}
use Rattle.iss_model.specs.rules.Histories.{history_keeper}
use Rattle.iss_model.specs.rules.Judging.{judge}
use Rattle.iss_model.specs.state.Cores.{core_keeper}
use Rattle.iss_model.specs.run.Rooms.{room_left}
use Rattle.iss_model.specs.run.Runs.{Run, Response, response}
use Rattle.iss_model.specs.run.Sayings.{reaction_to_record, said_of_time, answer_left}
use Rattle.iss_model.specs.run.Transcripts.{Text, at_level, said_text_at, sound}
use Rattle.iss_halves.specs.Forms.{Form, Seat}
use Rattle.iss_standing.specs.Standing.{AreHistory}
use Rattle.iss_standing.specs.Rooms.{room_in}
use Rattle.iss_standing.specs.Goings.{AreFirstOf, StepsGo, StepsGoPart}
use Rattle.iss_opening.specs.Values.{StoreNow, form_under, seat_under, room_of}
use Rattle.iss_opening.specs.Standing.{StandsFor}
use Rattle.iss_store.specs.Values.{Plan}
use Rattle.iss_texts.specs.Sending.{GoOut}
use Rattle.iss_device.specs.Runs.{run_at}
use Rattle.iss_top.specs.declared.stop.Stop.{Stop}
use Rattle.iss_top.specs.declared.stop.Stop.TheVariants as stop
use Rattle.iss_top.specs.Lines.{is_blank, line_parts, all_but_last}
use Rattle.iss_top.specs.Dry.{reading_of, each_bytes}
use Rattle.iss_top.specs.Progress.{is_output, HasRead}
use Rattle.iss_top.specs.Reader.{ReaderNow, TakesIn}

-- what a line, blank or not, is told, and what then stands
unfoldable pub told_line : Run → List ℕ → Response
told_line s line = if is_blank line then record { run = s; texts = [] } else response s (reading_of line)

-- what is told of what was told first, and then of this
abbrev pub then_told : List Text → Response → Response
then_told texts r = record { run = r.run; texts = texts ++ r.texts }

-- what lines in a row are told, and what then stands
abbrev pub told_lines : Run → List (List ℕ) → Response
told_lines s [] = record { run = s; texts = [] }
told_lines s (line ∷ lines) = then_told (told_line s line).texts (told_lines (told_line s line).run lines)

-- what was sent on channel 0, among what was done
abbrev pub outputs_of : List Action → List Action
outputs_of actions = filter is_output actions

-- writes to the device, syncs it, or emits on channel 0
abbrev pub is_of_run : Action → Bool
is_of_run (Write at bytes ok) = true
is_of_run (Sync ok) = true
is_of_run (Emit ch bytes ok) = ch.0 == 0
is_of_run (Dial ch) = false
is_of_run (Close ch) = false

-- the levels of what was sent on channel 0
abbrev pub output_levels : List Step → List ℕ
output_levels steps = map (λ step. step.level) (filter (λ step. is_output step.action) steps)

-- the levels of texts
abbrev pub levels_of : List Text → List ℕ
levels_of texts = map (λ text. text.level) texts

-- the step by which a text goes out on channel 0
abbrev pub text_step : Text → Step
text_step text = record { action = Emit (record { 0 = 0 }) text.bytes true; level = text.level }

-- the steps by which texts in a row go out on channel 0
abbrev pub text_steps : List Text → List Step
text_steps texts = map text_step texts

-- the levels of steps
abbrev pub step_levels : List Step → List ℕ
step_levels steps = map (λ step. step.level) steps

-- From these records and this seat up to those, each of these texts went out by an emit of its own at its level. Nothing else was done but
-- on the device.
abbrev pub TextsGo : Form → Seat → Seat → List Record → List Record → List Text → World → World → Type 0
TextsGo form from to rs rs' texts a b = StepsGo form from to rs rs' (text_steps texts) a b

-- from this seat to some seat just these steps were done on channels
pub record StepsGoOn (form : Form) (from : Seat) (rs rs' : List Record) (said : List Step) (a b : World) : Type 0 where
  pub to : Seat
  pub goes : StepsGo form from to rs rs' said a b

-- Some of these texts went out, of the last one maybe a prefix, and the run ended. It might have gone on from there,
-- unless this failed.
pub record TextsGoPart (failed : Type 0) (form : Form) (from : Seat) (rs rs' : List Record) (texts : List Text) (a b : World) : Type 0 where
  pub said : List Step
  pub out : GoOut (each_bytes texts) (actions_of said)
  pub levels : (later : List ℕ) × (levels_of texts ≡ step_levels said ++ later)
  pub part : StepsGoPart form from rs rs' said a b
  pub whole : StepsGoOn form from rs rs' said a b ⊎ failed

-- some of what is told was done, up to some first ones of the records that it makes
pub record GoesSome (failed : Type 0) (form : Form) (from : Seat) (rs : List Record) (told : Response) (a b : World) : Type 0 where
  pub rs' : List Record
  pub records : AreFirstOf rs' told.run.history.records
  pub goes : TextsGoPart failed form from rs rs' told.texts a b

-- all of what is told was done, from these records and this seat up to its records and that seat
abbrev pub GoesTo : Form → Seat → Seat → List Record → Response → World → World → Type 0
GoesTo form from to rs told a b = TextsGo form from to rs told.run.history.records told.texts a b

-- the device, its instance and its form are the same
pub record IsSameDevice (s s' : StoreNow) : Type 0 where
  pub instance : s'.core.instance ≡ s.core.instance
  pub form : form_under s' ≡ form_under s

-- The store went on to one that stands for the records which this says, in the room which it says. All that it says was done.
pub record GoesAs (told : Response) (s s' : StoreNow) (rs : List Record) (a b : World) : Type 0 where
  pub stands : StandsFor s' told.run.history.records
  pub room : room_of s' ≡ told.run.room
  pub goes : GoesTo (form_under s) (seat_under s) (seat_under s') rs told a b

-- An input was taken: whatever records the store stood for, what was done for it is what this says of a run that stands at them, and the
-- store stands for what then stands, in the room that is left.
pub record TakesAs (told : Run → Response) (s s' : StoreNow) (a b : World) : Type 0 where
  pub left : b.left ≡ a.left
  pub same : IsSameDevice s s'
  pub on_book : (rs : List Record) → StandsFor s rs → GoesAs (told (run_at s rs)) s s' rs a b

-- a call on the device ended it
abbrev pub IsOfDisk : Stop → Type 0
IsOfDisk stop.Input = ⊥
IsOfDisk stop.Device = ⊥
IsOfDisk stop.Output = ⊥
IsOfDisk stop.Disk = Unit {0}
IsOfDisk stop.Memory = ⊥
IsOfDisk stop.InputLong = ⊥

-- An input was taken in part, and the run might have gone on from there, unless this failed.
pub record TakesPartAs (failed : Type 0) (told : Run → Response) (s : StoreNow) (a b : World) : Type 0 where
  pub left : b.left ≡ a.left
  pub on_book : (rs : List Record) → StandsFor s rs → GoesSome failed (form_under s) (seat_under s) rs (told (run_at s rs)) a b

-- If the call succeeded, an input was taken as this says, and the store went on to the result.
abbrev pub TakesTo : {E F : Type 0} → (E → Option World) → E → E → (Run → Response) → StoreNow → Result StoreNow F → Type 0
TakesTo told a b response store result = IfOk result (λ next. Told (TakesAs response store next) (told a) (told b))

-- If the call failed, an input was taken in part, and the run might have gone on from there, unless a call on the device failed.
abbrev pub TakesInPart : {E T : Type 0} → (E → Option World) → E → E → (Run → Response) → StoreNow → Result T Stop → Type 0
TakesInPart told a b response store result = IfErr result (λ why. Told (TakesPartAs (IsOfDisk why) response store) (told a) (told b))

-- what is told of a line that was read, on a run
abbrev pub response_to_line : Input → Option ℕ → Run → Response
response_to_line input at s = response s (sound input at)

-- what is told of a planned record, and what then stands
abbrev pub response_to_plan : Plan → Run → Response
response_to_plan p s =
    let r = reaction_to_record history_keeper s.history p.accepted in
    record {
      run = record s { room = room_left s.room s.history.records (Some p.accepted); history = r.world };
      texts =
          at_level (length r.world.records)
          (map (said_text_at s.instance) (r.said ++ (if p.is_clock then [] else said_of_time p.accepted.input)));
    }

-- the texts of the answer of an input that isn't new, on a store
abbrev pub texts_left : StoreNow → Input → ℕ → List (List ℕ)
texts_left s i at = map (said_text_at s.core.instance) (answer_left (judge core_keeper s.core.state i at))

-- A run on a device is on its way since its store was opened: whatever records it stood for, what was done, and what the store stands
-- for, is that of the parts of the input that were read.
pub record IsReplaying (opened s : StoreNow) (now : ReaderNow) (a b : World) : Type 0 where
  pub parts : List (List ℕ)
  pub read : HasRead parts now a b
  pub same : IsSameDevice opened s
  pub on_book : (rs : List Record) → StandsFor opened rs → GoesAs (told_lines (run_at opened rs) parts) opened s rs a b

-- All that this says was done, from these records of a store up to the seat of the room that it says. The records that then stand are a
-- history.
pub record GoesWhole (s : StoreNow) (rs : List Record) (told : Response) (a b : World) : Type 0 where
  pub to : Seat
  pub room : Some (room_in (form_under s) to) ≡ told.run.room
  pub goes : GoesTo (form_under s) (seat_under s) to rs told a b
  pub history : AreHistory told.run.history.records

-- What a run with this status did on a store that stood for these records, if this is what the parts of the input are told. What went out is a
-- prefix of what its input is to be told, and the records are the first of those that it makes. At 0 it is all of that. At 3 and 8 it is
-- that of exactly the lines which ended within the bytes that were taken. The run might have gone on from there, unless a call on the device
-- failed.
pub record RunsAs (tell : List (List ℕ) → Response) (status : ℕ) (opened : StoreNow) (rs : List Record) (took : List ℕ) (a b : World) : Type 0 where
  pub rs' : List Record
  pub records : AreFirstOf rs' (tell (line_parts (a.left 0))).run.history.records
  pub goes : TextsGoPart (status ≡ DISK_FAULT) (form_under opened) (seat_under opened) rs rs' (tell (line_parts (a.left 0))).texts a b
  pub whole : status ≡ DONE → (b.left 0 ≡ []) × GoesWhole opened rs (tell (line_parts (a.left 0))) a b
  pub stopped : (status ≡ INPUT_FAULT) ⊎ (status ≡ INPUT_TOO_LONG) → GoesWhole opened rs (tell (all_but_last (line_parts (take MOST_INPUT took)))) a b

-- what a run did since its store was opened on these records
abbrev pub RunsOnBook : ℕ → StoreNow → List Record → List ℕ → World → World → Type 0
RunsOnBook status opened rs took a b = RunsAs (told_lines (run_at opened rs)) status opened rs took a b

-- what a run did, whatever records its store stood for when it was opened
pub record RunsFrom (status : ℕ) (opened : StoreNow) (a b : World) : Type 0 where
  pub took : List ℕ
  pub takes : TakesIn took a b
  pub on_book : (rs : List Record) → StandsFor opened rs → RunsOnBook status opened rs took a b
  pub long : (status ≡ INPUT_TOO_LONG) ↔ (length took ≡ MOST_INPUT + 1)
  pub bound : length took ≤ MOST_INPUT + 1

-- why a line that is taken may end the run: the device, an emit or an allocation failed
abbrev pub TakingCause : Faults → Faults → Stop → Type 0
TakingCause before now stop.Input = ⊥
TakingCause before now stop.Device = ⊥
TakingCause before now stop.Output = Rose before.output now.output
TakingCause before now stop.Disk = Rose before.disk now.disk
TakingCause before now stop.Memory = Unit {0}
TakingCause before now stop.InputLong = ⊥

-- no count has fallen, and a line ended the run for a cause
pub record IsTaking {A : Type 0} (before now : Faults) (result : Result A Stop) : Type 0 where
  pub later : Later before now
  pub cause : IfErr result (TakingCause before now)

-- why a run on a device may end early
abbrev pub ReplayCause : Faults → Faults → Stop → Type 0
ReplayCause before now stop.Input = Rose before.input now.input
ReplayCause before now stop.Device = Unit {0}
ReplayCause before now stop.Output = Rose before.output now.output
ReplayCause before now stop.Disk = Rose before.disk now.disk
ReplayCause before now stop.Memory = Unit {0}
ReplayCause before now stop.InputLong = Unit {0}

-- no count has fallen, and a run on a device ended early for a cause
pub record IsReplayCaused {A : Type 0} (before now : Faults) (result : Result A Stop) : Type 0 where
  pub later : Later before now
  pub cause : IfErr result (ReplayCause before now)
