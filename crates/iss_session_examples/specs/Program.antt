-- How the program reads texts while it serves.
use Rattle.std.specs.Prelude.{ℕ, List, Result, Ok, Err}
use Rattle.iss_model.specs.declared.input.Input.{Input}
use Rattle.iss_event.specs.declared.line.Line.{Line}
use Rattle.iss_event.specs.declared.line.FormFault.{FormFault}
use Rattle.iss_event.specs.declared.line.Mode.TheVariants.{Client}
use Rattle.iss_event.specs.Readings.{line_read}
use Rattle.iss_event.specs.FormLines.{form_text}
use Rattle.iss_jit.specs.Outcomes.{outcome_of}
use Rattle.iss_session.specs.Sessions.{Readers}

-- the input that a line spells, or the line that tells its fault
abbrev pub line_as : Result Line FormFault → Result Input (List ℕ)
line_as (Ok line) = Ok line.input
line_as (Err fault) = Err (form_text fault)

-- a client's line, and the gateway's answer to a call, each read as JSON
abbrev pub program_readers : Readers
program_readers = record { line = λ text. line_as (line_read Client text); outcome = outcome_of }
