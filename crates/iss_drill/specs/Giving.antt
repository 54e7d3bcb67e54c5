-- What giving a line to a store comes to, in a run at which the store stands.
use Rattle.std.specs.Prelude.{◌≡◌, ℕ, ◌+◌, Bool, true, List, [], ◌∷◌, ◌++◌, length, Option, Some, None, unwrap_or, Result, IfOk, OnOk, if◌then◌else◌}
use Rattle.iss_model.specs.declared.call.CallId.{CallId}
use Rattle.iss_model.specs.declared.input.Input.{Input}
use Rattle.iss_model.specs.declared.input.Record.{Record}
use Rattle.iss_model.specs.declared.decision.Judged.{Judged}
use Rattle.iss_model.specs.rules.Judging.{judge}
use Rattle.iss_model.specs.rules.Stepping.{step}
use Rattle.iss_model.specs.rules.Histories.{history_keeper, history_of}
use Rattle.iss_model.specs.run.Rooms.{room_left}
use Rattle.iss_model.specs.run.Transcripts.{Reading, sound}
use Rattle.iss_model.specs.run.Runs.{Run, judgement_in, response_as, run_after}
use Rattle.iss_opening.specs.Numbers.{is_from_one}
use Rattle.iss_opening.specs.Values.{StoreNow, room_of}
use Rattle.iss_opening.specs.Standing.{StandsFor}
use Rattle.iss_drill.specs.declared.tally.Tally.{Tally}
use Rattle.iss_drill.specs.Generated.{drawn}
use Rattle.iss_drill.specs.Setup.{setup_input}
use Rattle.iss_drill.specs.Events.{event_input}
use Rattle.iss_drill.specs.Drills.{call_opened, call_opened_in, entries_as, tells_repeat, tells_repeat_as, repeats_among, is_approval, is_decline, is_notice_made, rows_with, event_lines}
use Rattle.iss_drill.specs.Tallies.{Counts}

-- a store stands at a run: for its records, whose history is the run's, on its device
pub record StandsAtRun (s : StoreNow) (run : Run) : Type 0 where
  pub stands : StandsFor s run.history.records
  pub history : history_of run.history.records ≡ run.history
  pub room : room_of s ≡ run.room

-- what stands in a run after a record
abbrev pub run_with : Run → Record → Run
run_with run r = record run { room = room_left run.room run.history.records (Some r); history = (step history_keeper run.history r).world }

-- the call is numbered from 1
abbrev pub IsCallNumbered : CallId → Type 0
IsCallNumbered call = is_from_one call.0 ≡ true

-- a record was kept: its entries were counted, and the store stands after it
pub record Keeps (run : Run) (r : Record) (before after : Tally) (s : StoreNow) (opened : Option CallId) : Type 0 where
  pub counts : Counts (step history_keeper run.history r).entries before after
  pub stands : StandsAtRun s (run_with run r)
  pub call : opened ≡ call_opened (step history_keeper run.history r).entries

-- one more is counted if this holds
abbrev pub one_if : Bool → ℕ
one_if counts = if counts then 1 else 0

-- an answer was told, and counted if it is a repeat
pub record TellsAnswer (is_repeat : Bool) (before after : Tally) : Type 0 where
  pub approved : after.approved ≡ before.approved
  pub declined : after.declined ≡ before.declined
  pub notices : after.notices ≡ before.notices
  pub lines : after.lines ≡ before.lines
  pub repeats : after.repeats ≡ before.repeats + one_if is_repeat

-- an input of this judgement was taken at a stamp: its entries and its repeat were counted, and the store stands at what then stands
pub record Takes (run : Run) (i : Input) (at : ℕ) (j : Judged) (before after : Tally) (s : StoreNow) (opened : Option CallId) : Type 0 where
  pub middle : Tally
  pub counts : Counts (entries_as run.history j) before middle
  pub tells : TellsAnswer (tells_repeat_as run.history i at j) middle after
  pub stands : StandsAtRun s (response_as run i at j).run
  pub call : opened ≡ call_opened (entries_as run.history j)

-- These lines were given since a run began: the store stands at what they leave, and what they come to was counted.
pub record HasGiven (start : Run) (given : List Reading) (t : Tally) (s : StoreNow) : Type 0 where
  pub stands : StandsAtRun s (run_after start given)
  pub approved : t.approved ≡ rows_with is_approval (run_after start given).history.rows
  pub declined : t.declined ≡ rows_with is_decline (run_after start given).history.rows
  pub notices : t.notices ≡ rows_with is_notice_made (run_after start given).history.rows
  pub lines : t.lines ≡ length given
  pub repeats : t.repeats ≡ repeats_among start given

-- If the call succeeded, the input was taken at a stamp, in whichever run the store stood.
abbrev pub TakesInput : {F : Type 0} → Input → ℕ → Tally → Tally → StoreNow → Result (StoreNow × Option CallId) F → Type 0
TakesInput i at before after store result =
    (run : Run) → StandsAtRun store run → IfOk result (λ x. Takes run i at (judgement_in run i at) before after x.0 x.1)

-- If the call succeeded, the input was told the answer that is left for it at a stamp, in whichever run the store stands.
abbrev pub TellsLeft : {T F : Type 0} → Input → ℕ → Tally → Tally → StoreNow → Result T F → Type 0
TellsLeft i at before after store result =
    (run : Run) → StandsAtRun store run → OnOk result (TellsAnswer (tells_repeat (judge history_keeper run.history i at)) before after)

-- If the call succeeded, the store was given the input as a line more, whichever lines came before it and however its stamp is told.
abbrev pub GivesInput : {F : Type 0} → Input → ℕ → Tally → Tally → StoreNow → Result (StoreNow × Option CallId) F → Type 0
GivesInput i at before after store result =
    (start : Run) (lines : List Reading) (o : Option ℕ) → unwrap_or o 0 ≡ at → HasGiven start lines before store
    → IfOk result (λ x. HasGiven start (lines ++ sound i o ∷ []) after x.0)

-- If the call succeeded, it returns the call that the input opens at a stamp, whichever lines came before it.
abbrev pub OpensCall : {F : Type 0} → Input → ℕ → Tally → StoreNow → Result (StoreNow × Option CallId) F → Type 0
OpensCall i at before store result =
    (start : Run) (lines : List Reading) → HasGiven start lines before store
    → IfOk result (λ x. x.1 ≡ call_opened_in (run_after start lines) i at)

-- If the store was given the first of these lines, and the call succeeded, the store was given the others.
abbrev pub Gives : {F : Type 0} → Run → List Reading → List Reading → Tally → Tally → StoreNow → Result StoreNow F → Type 0
Gives start lines more before after store result = HasGiven start lines before store → IfOk result (λ s. HasGiven start more after s)

-- If the call succeeded, the store was given the input of this number of the set-up, whichever lines came before it.
abbrev pub GivesSetup : {F : Type 0} → ℕ → Tally → Tally → StoreNow → Result StoreNow F → Type 0
GivesSetup number before after store result =
    (start : Run) → (lines : List Reading) → Gives start lines (lines ++ sound (setup_input number) None ∷ []) before after store result

-- If the call succeeded, the store was given the event of this number and what it draws. The answer of its call was given too, whichever
-- lines came before.
abbrev pub GivesEvent : {F : Type 0} → ℕ → Input → ℕ → Tally → Tally → StoreNow → Result StoreNow F → Type 0
GivesEvent number event y before after store result =
    (start : Run) → (lines : List Reading) → event ≡ event_input number → y ≡ drawn number
    → Gives start lines (lines ++ event_lines (run_after start lines) number) before after store result
