-- That what lines are told goes out at once: at each call that may bring something, how many texts went out before it.
use Rattle.std.specs.Prelude.{◌≡◌, ℕ, false, List, ◌∷◌, ◌++◌, length, map}
use Rattle.iss_edge.specs.declared.outside.Answered.{Answered}
use Rattle.iss_edge.specs.Outer.{Outer}
use Rattle.iss_model.specs.declared.input.Record.{Record}
use Rattle.iss_model.specs.run.Runs.{Run, line_texts}
use Rattle.iss_halves.specs.Forms.{Form, Seat}
use Rattle.iss_standing.specs.Standing.{DeviceStandsFor}
use Rattle.iss_opening.specs.Values.{StoreNow}
use Rattle.iss_opening.specs.Standing.{StandsFor}
use Rattle.iss_device.specs.Runs.{run_at, run_on}
use Rattle.iss_top.specs.Lines.{ended_lines}
use Rattle.iss_top.specs.Dry.{reading_of, texts_of_lines}
use Rattle.iss_top.specs.Replays.{texts_for}
use Rattle.iss_top.specs.Hearing.{is_emit, sent_count, bytes_heard, AsHeard}

-- At each call that isn't an emit, as many emits on channel 0 had succeeded as are owed for the lines that ended within the bytes taken until
-- then.
pub record IsPrompt (owed : List (List ℕ) → ℕ) (answers : List Answered) : Type 0 where
  pub each : (before after : List Answered) (answer : Answered) → answers ≡ before ++ answer ∷ after → is_emit answer ≡ false
      → sent_count before ≡ owed (ended_lines (bytes_heard before))

-- What was heard of a run is what was done, and it was prompt: whenever it took more of its input, all that it owed for the lines that had
-- ended until then had gone out.
pub record HearsPromptly (owed : List (List ℕ) → ℕ) (a b : Outer) : Type 0 where
  pub answers : List Answered
  pub as_heard : AsHeard answers a b
  pub prompt : IsPrompt owed answers

-- how many texts a dry run owes for these lines
abbrev pub dry_owed : List (List ℕ) → ℕ
dry_owed lines = length (texts_of_lines lines)

-- how many texts these lines are told on a run
abbrev pub lines_owed : Run → List (List ℕ) → ℕ
lines_owed s lines = length (line_texts s (map reading_of lines))

-- how many texts a run on a device that stands for these records owes for these lines, with those with which it begins
abbrev pub replay_owed : Form → Seat → List Record → List (List ℕ) → ℕ
replay_owed form seat rs lines = length (texts_for (run_on form seat rs) lines)

-- whatever records its store stood for when it was opened, a run is prompt
pub record RunsPromptly (opened : StoreNow) (a b : Outer) : Type 0 where
  pub on_book : (rs : List Record) → StandsFor opened rs → HearsPromptly (lines_owed (run_at opened rs)) a b

-- whichever records the device stood for, a run on it was prompt
abbrev pub RepliesPromptly : Outer → Outer → Type 0
RepliesPromptly a b =
    (form : Form) (seat : Seat) (rs : List Record) → DeviceStandsFor form seat rs a.world.device → HearsPromptly (replay_owed form seat rs) a b
