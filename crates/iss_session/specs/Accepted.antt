-- The records that a session makes: those that lines would make, at the times at which its inputs are judged.
use Rattle.std.specs.Prelude.{List, [], ◌∷◌, ◌++◌, Some}
use Rattle.iss_model.specs.declared.input.Record.{Record}
use Rattle.iss_model.specs.run.Transcripts.{Reading, sound}
use Rattle.iss_model.specs.run.Runs.{accepted_records}
use Rattle.iss_session.specs.Items.{Happening, hears, judges}
use Rattle.iss_session.specs.Sessions.{Readers, Queued, Session}
use Rattle.iss_session.specs.Happenings.{session_change}

-- the first input of a queue as a line at the time that came last
abbrev pub first_line : Session → List Queued → List Reading
first_line s [] = []
first_line s (q ∷ queue) = sound q.input (Some s.clock) ∷ []

-- the inputs that are judged in these happenings, as lines
abbrev pub lines_judged : Readers → Session → List Happening → List Reading
lines_judged read s [] = []
lines_judged read s (hears item ∷ happenings) = lines_judged read (session_change read s (hears item)).session happenings
lines_judged read s (judges ∷ happenings) = first_line s s.queue ++ lines_judged read (session_change read s judges).session happenings

-- the records that are made in these happenings
abbrev pub session_records : Readers → Session → List Happening → List Record
session_records read s happenings = accepted_records s.run (lines_judged read s happenings)
