-- What a dry run writes: the transcript of its lines, from the empty history.
use Rattle.std.specs.Prelude.{ℕ, List, map, Result, Ok, Err}
use Rattle.iss_model.specs.rules.Histories.{nothing_yet, history_keeper}
use Rattle.iss_model.specs.state.Cores.{CoreState, core_keeper}
use Rattle.iss_model.specs.run.Transcripts.{Reading, sound, faulty, Text, LineReply, transcript, after_line, bytes_of}
use Rattle.iss_event.specs.declared.line.Line.{Line}
use Rattle.iss_event.specs.declared.line.Mode.TheVariants.{Lines}
use Rattle.iss_event.specs.declared.line.FormFault.{FormFault}
use Rattle.iss_event.specs.Readings.{line_read}
use Rattle.iss_event.specs.FormLines.{form_text}
use Rattle.iss_top.specs.Lines.{lines_of}

-- what a line says, or the text of its fault
abbrev pub as_reading : Result Line FormFault → Reading
as_reading (Ok said) = sound said.input said.at
as_reading (Err fault) = faulty (form_text fault)

-- a line as it is read from standard input
unfoldable pub reading_of : List ℕ → Reading
reading_of line = as_reading (line_read Lines line)

-- the texts that lines are told, in order, from the empty history
abbrev pub texts_of_lines : List (List ℕ) → List Text
texts_of_lines lines = transcript history_keeper nothing_yet (map reading_of lines)

-- the texts that the lines of these bytes are told
abbrev pub dry_texts : List ℕ → List Text
dry_texts input = texts_of_lines (lines_of input)

-- all that is to go out
abbrev pub dry_output : List ℕ → List ℕ
dry_output input = bytes_of (dry_texts input)

-- what is told of a line that is not blank on a core, and what then stands
abbrev pub reply_of_line : CoreState → List ℕ → LineReply CoreState
reply_of_line s line = after_line core_keeper s (reading_of line)

-- texts without their levels
abbrev pub each_bytes : List Text → List (List ℕ)
each_bytes texts = map (λ text. text.bytes) texts
