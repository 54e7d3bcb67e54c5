-- How the accepted events are kept: rows, and the bytes that spell their records.
use Rattle.std.specs.Prelude.{◌≡◌, ℕ, ◌≤◌, List, map, length, Option, Some, None, IsTrue, if◌then◌else◌}
use Rattle.std.specs.List.{AllByRecursion, IsDistinct, slice_range}
use Rattle.std.specs.Str.{bytes_eq}
use Rattle.std.specs.BTreeMap.{BTreeMap, get}
use Rattle.std.specs.Cmp.Lexicographic.{slice_cmp}
use Rattle.std.specs.Ordering.{nat_cmp}
use Rattle.iss_model.specs.declared.call.CallState.{CallState}
use Rattle.iss_model.specs.declared.decision.Answer.{Answer}
use Rattle.iss_model.specs.declared.decision.Answer.TheVariants as answer
use Rattle.iss_model.specs.declared.input.Input.{Input}
use Rattle.iss_model.specs.declared.input.Input.TheVariants as input
use Rattle.iss_model.specs.declared.input.Record.{Record}
use Rattle.iss_model.specs.declared.state.Seen.{Seen}
use Rattle.iss_model.specs.texts.Spelling.{spelling, is_record}
use Rattle.iss_model.specs.rules.Facts.{Accepted, reply_of_verdict}
use Rattle.iss_codec.specs.Taking.{◌>>=◌, take_byte, take_stamp}
use Rattle.iss_codec.specs.TakingRecords.{record_spelled}
use Rattle.iss_accepted.specs.declared.row.EventRow.{EventRow}
use Rattle.iss_accepted.specs.Values.{EventsNow}
use Rattle.iss_accepted.specs.Standing.{Standing, IsNamed, name_of, decisions_at, AreDecided}

-- the bytes of a row's record
abbrev pub bytes_of : List ℕ → EventRow → List ℕ
bytes_of bytes row = slice_range bytes row.start row.end

-- the record that was read, or one of no event
abbrev pub record_read : Option Record → Record
record_read None = record { at = 0; input = input.Time }
record_read (Some r) = r

-- the event of a record with this number
abbrev pub event_by : ℕ → Record → Accepted
event_by number r = record { number = number; at = r.at; input = r.input }

-- the event of a row: its bytes are read
abbrev pub event_of : List ℕ → EventRow → Accepted
event_of bytes row = event_by row.number (record_read (record_spelled (bytes_of bytes row)))

-- the record of an event
abbrev pub record_of : Accepted → Record
record_of a = record { at = a.at; input = a.input }

-- the event of a row with its verdict
abbrev pub standing_of : List ℕ → EventRow → Standing
standing_of bytes row = record { event = event_of bytes row; verdict = row.verdict }

-- the events of all rows
abbrev pub standings_of : List ℕ → List EventRow → List Standing
standings_of bytes rows = map (standing_of bytes) rows

-- the stamp at the start of a record's bytes, after its kind
abbrev pub stamp_taken : List ℕ → Option ℕ
stamp_taken bytes = do
  kind ← take_byte bytes
  at ← take_stamp kind.1
  Some at.0

-- a row's bytes are the spelling of its event's record
pub record IsSpelledIn (bytes : List ℕ) (row : EventRow) : Type 0 where
  pub begins : row.start ≤ row.end
  pub within : row.end ≤ length bytes
  pub spelled : bytes_of bytes row ≡ spelling (record_of (event_of bytes row))
  pub form : IsTrue (is_record (record_of (event_of bytes row)))
  pub named : IsNamed (standing_of bytes row)

-- The answer of an input by its token's row. If the row's bytes spell it at the event's stamp, it is the reply again. Otherwise it is the number of the row's record.
abbrev pub row_answer : List ℕ → EventRow → List ℕ → Input → Answer
row_answer bytes row token i =
    if bytes_eq (bytes_of bytes row) (spelling (record { at = (event_of bytes row).at; input = i })) then answer.Repeat token (reply_of_verdict row.verdict)
    else answer.Conflict token row.number

-- a row's event as it stands, with the mark of its call among these
abbrev pub row_seen : List ℕ → BTreeMap (List ℕ) CallState → EventRow → Seen
row_seen bytes marks row =
    record {
      number = row.number;
      body = record_of (event_of bytes row);
      verdict = row.verdict;
      mark = get (slice_cmp nat_cmp) marks (name_of (standing_of bytes row));
    }

-- what the rows tell
abbrev pub events_now : List Standing → List ℕ → EventsNow
events_now ss decided = record { accepted = map (λ s. s.event) ss; decisions = decisions_at ss decided }

-- Each row is spelled in the buffer, the names are those of the rows, no two alike, and the decided rows are known.
pub record IsKept (bytes : List ℕ) (rows : List EventRow) (names : List (List ℕ)) (decided : List ℕ) : Type 0 where
  pub spelled : AllByRecursion (IsSpelledIn bytes) rows
  pub placed : names ≡ map name_of (standings_of bytes rows)
  pub apart : IsDistinct bytes_eq names
  pub verdicts : AreDecided (standings_of bytes rows) decided
