-- What judging makes of a session.
use Rattle.std.specs.Prelude.{ℕ, List, [], ◌∷◌, ◌++◌, Option, Some, None}
use Rattle.std.specs.List.{flat_map}
use Rattle.iss_edge.specs.declared.outside.Channel.{Channel}
use Rattle.iss_model.specs.declared.input.Record.{Record}
use Rattle.iss_model.specs.declared.decision.Answer.{Answer}
use Rattle.iss_model.specs.declared.decision.Answer.TheVariants.{Conflict, Full, Spent}
use Rattle.iss_model.specs.declared.decision.Judged.{Judged}
use Rattle.iss_model.specs.declared.decision.Judged.TheVariants.{New, Clock, Told}
use Rattle.iss_model.specs.Inputs.{event_token}
use Rattle.iss_model.specs.texts.AnswerLines.{answer_text}
use Rattle.iss_model.specs.rules.Histories.{history_keeper}
use Rattle.iss_model.specs.run.Sayings.{reaction_to_record}
use Rattle.iss_model.specs.run.Rooms.{room_left}
use Rattle.iss_model.specs.run.Runs.{Run, judgement_in}
use Rattle.iss_http.specs.declared.statuses.TheConstants.{OK, CONFLICT, INSUFFICIENT_STORAGE}
use Rattle.iss_http.specs.Messages.{respond}
use Rattle.iss_session.specs.Desks.{Task, to_reply, Waiter, desk_with}
use Rattle.iss_session.specs.Sessions.{Queued, Session, tasks_of, with_tasks}

-- the status of a response that tells why an event isn't new
abbrev pub answer_status : Answer → ℕ
answer_status (Conflict token number) = CONFLICT
answer_status (Full free need) = INSUFFICIENT_STORAGE
answer_status Spent = INSUFFICIENT_STORAGE
answer_status _ = OK

-- a client is told why its event isn't new; if the gateway or the clock brought the input, nobody is told
abbrev pub answer_tasks : Option Channel → Answer → List Task
answer_tasks None a = []
answer_tasks (Some ch) a = to_reply ch (respond (answer_status a) (answer_text a)) ∷ []

-- a client waits for its event
abbrev pub waiters_of : Option Channel → Option (List ℕ) → List Waiter
waiters_of (Some ch) (Some event) = record { event = event; ch = ch } ∷ []
waiters_of _ _ = []

-- a run with one more record
abbrev pub run_with : Run → Record → Run
run_with run r =
    record run {
      room = room_left run.room run.history.records (Some r);
      history = (reaction_to_record history_keeper run.history r).world;
    }

-- a record is made while these clients wait, these inputs are still to be judged, and what is said of it is to go out
abbrev pub session_with : Session → Record → List Waiter → List Queued → Session
session_with s r waiting queue =
    record s {
      run = run_with s.run r;
      queue = queue;
      desk = desk_with (flat_map (tasks_of s.run.instance waiting) (reaction_to_record history_keeper s.run.history r).said) waiting;
    }

-- An input has this judgement, with these to be judged after it. If it is new, it makes its record, and its client waits. If a time record goes before
-- its answer, that is made first, and the input is judged again.
abbrev pub judged_so : Session → Queued → List Queued → Judged → Session
judged_so s q queue (New r) = session_with s r (s.desk.waiting ++ waiters_of q.client (event_token q.input)) queue
judged_so s q queue (Clock r) = session_with s r s.desk.waiting (q ∷ queue)
judged_so s q queue (Told a) = with_tasks (record s { queue = queue }) (answer_tasks q.client a)

-- An input is judged at the later of the time that came last and the time of the book. Its record is made only if it fits.
unfoldable pub judged_input : Session → Queued → List Queued → Session
judged_input s q queue = judged_so s q queue (judgement_in s.run q.input s.clock)

-- the first input of the queue is judged
abbrev pub judged_first : Session → List Queued → Session
judged_first s [] = s
judged_first s (q ∷ queue) = judged_input s q queue
