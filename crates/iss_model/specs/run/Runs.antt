-- A run on a device: the texts that it writes, line by line, while history and room move on. Without a device it is a dry run.
use Rattle.std.specs.Prelude.{ℕ, ◌≤◌, List, [], ◌∷◌, ◌++◌, length, map, filter, Option, None, unwrap_or, option_to_list}
use Rattle.iss_model.specs.declared.input.Input.{Input}
use Rattle.iss_model.specs.declared.input.Record.{Record}
use Rattle.iss_model.specs.declared.decision.Judged.{Judged}
use Rattle.iss_model.specs.rules.Activity.{is_asked}
use Rattle.iss_model.specs.rules.Facts.{Facts}
use Rattle.iss_model.specs.rules.Judging.{judge}
use Rattle.iss_model.specs.rules.Histories.{History, nothing_yet, history_facts, history_keeper}
use Rattle.iss_model.specs.run.Sayings.{Said, asked, noticed, reaction_as}
use Rattle.iss_model.specs.run.Transcripts.{Reading, sound, faulty, Text, at_level, said_text_at}
use Rattle.iss_model.specs.run.Rooms.{Room, judgement_within, record_made, room_left}

-- what stands in a run: the instance of its device, the room on it, and the history
pub record Run : Type 0 where
  pub instance : ℕ
  pub room : Option Room
  pub history : History

-- a dry run begins with nothing, and has no device
abbrev pub dry_run : Run
dry_run = record { instance = 0; room = None; history = nothing_yet }

-- what stands after a line, and the texts that are written for it
pub record Response : Type 0 where
  pub run : Run
  pub texts : List Text

-- an input is judged at its stamp, and makes its record only if that fits
abbrev pub judgement_in : Run → Input → ℕ → Judged
judgement_in s i stamp = judgement_within s.room s.history.records (judge history_keeper s.history i stamp)

-- what stands after an input with this judgement, and what is said of it
abbrev pub response_as : Run → Input → ℕ → Judged → Response
response_as s i stamp j =
    let r = reaction_as history_keeper s.history i stamp j in
    record {
      run = record s { room = room_left s.room s.history.records (record_made j); history = r.world };
      texts = at_level (length r.world.records) (map (said_text_at s.instance) r.said);
    }

-- a line: its fault alone, or what is said of its input
abbrev pub response : Run → Reading → Response
response s (sound i at) = let stamp = unwrap_or at 0 in response_as s i stamp (judgement_in s i stamp)
response s (faulty text) = record { run = s; texts = at_level (length s.history.records) (text ∷ []) }

-- the record that a line makes, if it makes one
abbrev pub record_of_line : Run → Reading → Option Record
record_of_line s (sound i at) = record_made (judgement_in s i (unwrap_or at 0))
record_of_line s (faulty text) = None

-- the texts of the lines, one after the other
abbrev pub line_texts : Run → List Reading → List Text
line_texts s [] = []
line_texts s (line ∷ lines) = (response s line).texts ++ line_texts (response s line).run lines

-- what stands after the lines
abbrev pub run_after : Run → List Reading → Run
run_after s [] = s
run_after s (line ∷ lines) = run_after (response s line).run lines

-- the records that the lines make
abbrev pub accepted_records : Run → List Reading → List Record
accepted_records s [] = []
accepted_records s (line ∷ lines) = option_to_list (record_of_line s line) ++ accepted_records (response s line).run lines

-- what a run sends before its first line, each by number: the requests of the calls that are asked, then the pending notices
abbrev pub said_first : Facts → List Said
said_first f = map (λ call. asked call.opened) (filter is_asked f.calls) ++ map noticed f.pending

-- the texts with which a run begins
abbrev pub first_texts : Run → List Text
first_texts s = at_level (length s.history.records) (map (said_text_at s.instance) (said_first (history_facts s.history)))

-- all that a run writes
unfoldable pub transcript_of : Run → List Reading → List Text
transcript_of s lines = first_texts s ++ line_texts s lines

-- these texts go out one after the other at levels that never fall, from one number of records up to another
abbrev pub RiseFrom : ℕ → ℕ → List Text → Type 0
RiseFrom low high [] = low ≤ high
RiseFrom low high (text ∷ texts) = (low ≤ text.level) × RiseFrom text.level high texts
