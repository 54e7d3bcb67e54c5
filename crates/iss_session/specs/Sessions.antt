-- Sessions: what stands while a run serves, and what comes next.
use Rattle.std.specs.Prelude.{ℕ, zero, suc, List, [], ◌∷◌, ◌++◌, length, find, Option, Some, None, Result, bytes_eq}
use Rattle.std.specs.List.{flat_map}
use Rattle.iss_edge.specs.declared.outside.Channel.{Channel}
use Rattle.iss_model.specs.declared.call.Opened.{Opened}
use Rattle.iss_model.specs.declared.input.Outcome.{Outcome}
use Rattle.iss_model.specs.declared.input.Input.{Input}
use Rattle.iss_model.specs.declared.decision.Reply.TheVariants.{Decided}
use Rattle.iss_model.specs.texts.Wordings.{reply_line}
use Rattle.iss_model.specs.texts.GatewayTexts.{request_text, notice_text}
use Rattle.iss_model.specs.rules.Histories.{history_facts}
use Rattle.iss_model.specs.run.Sayings.{Said, decided, asked, noticed}
use Rattle.iss_model.specs.run.Runs.{Run, said_first}
use Rattle.iss_http.specs.declared.statuses.TheConstants.{OK}
use Rattle.iss_http.specs.Messages.{respond}
use Rattle.iss_session.specs.Items.{Next, waits, takes, judging, nothing}
use Rattle.iss_session.specs.Desks.{of_call, of_notice, Task, to_dial, to_reply, Waiter, Desk, desk_with, next_for}
use Rattle.iss_session.specs.Links.{Link}

-- How texts are read. A client's line is read as an input, or as the line that tells its fault. A whole answer to a call, at an instance,
-- is read as an outcome.
pub record Readers : Type 0 where
  pub line : List ℕ → Result Input (List ℕ)
  pub outcome : ℕ → Opened → ℕ → List ℕ → Outcome

-- a client's channel whose request isn't whole yet, and the bytes that came on it
pub record OpenRequest : Type 0 where
  pub ch : Channel
  pub bytes : List ℕ

-- an input that is to be judged, and for a client's line the channel that it came on
pub record Queued : Type 0 where
  pub input : Input
  pub client : Option Channel

-- What stands: the run, the time that came last, how many waits are left, and the channel that is to be taken from. Then the clients
-- whose requests aren't whole, the links to the gateway, and the inputs that are to be judged. At last the texts that are to go out, with
-- the clients that wait.
pub record Session : Type 0 where
  pub run : Run
  pub clock : ℕ
  pub turns : ℕ
  pub ready : Option Channel
  pub readers : List OpenRequest
  pub links : List Link
  pub queue : List Queued
  pub desk : Desk

-- how many records stand
abbrev pub count : Session → ℕ
count s = length s.run.history.records

-- these texts are to go out
abbrev pub with_tasks : Session → List Task → Session
with_tasks s tasks = record s { desk = desk_with tasks s.desk.waiting }

-- this input is to be judged, after those that are already
abbrev pub with_queued : Session → Queued → Session
with_queued s q = record s { queue = s.queue ++ q ∷ [] }

-- an input that no client sent
abbrev pub unasked : Input → Queued
unasked i = record { input = i; client = None }

-- What is said, as texts

-- the response with which the client is answered that waits for an event
abbrev pub response_to : Option Waiter → List ℕ → List Task
response_to None line = []
response_to (Some w) line = to_reply w.ch (respond OK line) ∷ []

-- the client that waits for this event, if one does
abbrev pub waiter_for : List ℕ → List Waiter → Option Waiter
waiter_for event waiting = find (λ w. bytes_eq w.event event) waiting

-- The texts that go out for what is said of a record. A decision goes to the client that waits for it, and a request or a notice to the gateway.
abbrev pub tasks_of : ℕ → List Waiter → Said → List Task
tasks_of instance waiting (decided event verdict) = response_to (waiter_for event waiting) (reply_line event (Decided verdict))
tasks_of instance waiting (asked o) = to_dial (of_call o) (request_text instance o) ∷ []
tasks_of instance waiting (noticed n) = to_dial (of_notice n.number) (notice_text instance n) ∷ []
tasks_of instance waiting _ = []

-- The session with which a run begins: each call that is asked is sent again by number, and then each notice that isn't acknowledged.
abbrev pub session_of : Run → ℕ → Session
session_of run turns =
    record {
      run = run;
      clock = 0;
      turns = turns;
      ready = None;
      readers = [];
      links = [];
      queue = [];
      desk = desk_with (flat_map (tasks_of run.instance []) (said_first (history_facts run.history))) [];
    }

-- What comes next

-- another wait, while turns are left
abbrev pub wait_while : ℕ → Next
wait_while zero = nothing
wait_while (suc turns) = waits

-- the channel that is ready is taken from; else another wait
abbrev pub next_heard : ℕ → Option Channel → Next
next_heard turns None = wait_while turns
next_heard turns (Some ch) = takes ch

-- the queue, and then the outside
abbrev pub next_idle : Session → List Queued → Next
next_idle s [] = next_heard s.turns s.ready
next_idle s (q ∷ queue) = judging

-- the texts, and then the rest
abbrev pub next_by : Session → List Task → Next
next_by s [] = next_idle s s.queue
next_by s (task ∷ tasks) = next_for task

-- Texts go out first, and then inputs are judged in their order. Then a channel that is ready is taken from, and then the next arrival is
-- waited for.
abbrev pub next_of : Session → Next
next_of s = next_by s s.desk.tasks
