-- What the program reads of a client's line is an event.
use Rattle.std.proofs.Common.{◌≡◌, true, Result, Ok, Err, IfOk}
use Rattle.std.specs.Prelude.{is_some}
use Rattle.iss_model.specs.Inputs.{event_token}
use Rattle.iss_event.specs.declared.line.Line.{Line}
use Rattle.iss_event.specs.declared.line.FormFault.{FormFault}
use Rattle.iss_event.specs.declared.line.Mode.TheVariants.{Client}
use Rattle.iss_event.specs.Readings.{line_read}
use Rattle.iss_event.proofs.ClientLines.{client_line_is_event}
use Rattle.iss_session.specs.Openings.{ReadsEvents}
use Rattle.iss_session_examples.specs.Program.{line_as, program_readers}

as_event : (r : Result Line FormFault) → IfOk r (λ line. is_some (event_token line.input) ≡ true) → IfOk (line_as r) (λ i. is_some (event_token i) ≡ true)
as_event (Ok line) h = h
as_event (Err fault) h = tt

pub program_reads_events : ReadsEvents program_readers
program_reads_events = record { events = λ text. as_event (line_read Client text) (client_line_is_event text) }
