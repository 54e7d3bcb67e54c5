-- What is held while a run serves, as a session of the definitions of serving.
use Rattle.std.specs.Prelude.{◌≡◌, ◌-◌, ◌&&◌, ◌||◌, ℕ, Bool, true, List, [], ◌∷◌, ◌++◌, map, length, Option, Some, None, IsTrue, if◌then◌else◌}
use Rattle.std.specs.List.{flat_map, list_all}
use Rattle.iss_edge.specs.declared.outside.Channel.{Channel}
use Rattle.iss_model.specs.declared.call.CallId.{CallId}
use Rattle.iss_model.specs.declared.limits.TheConstants.{MOST_RECORDS}
use Rattle.iss_model.specs.declared.input.Input.TheVariants as input
use Rattle.iss_model.specs.declared.input.Outcome.TheVariants.{Connection}
use Rattle.iss_model.specs.declared.input.Record.{Record}
use Rattle.iss_model.specs.Forms.{is_in_form, is_outcome, is_stamp}
use Rattle.iss_model.specs.rules.Histories.{history_of}
use Rattle.iss_session.specs.declared.piece.TheConstants.{LONGEST_PIECE}
use Rattle.iss_session.specs.Desks.{Subject, of_call, of_notice, Task, Waiter, desk_with}
use Rattle.iss_session.specs.Links.{Link, LinkHeard, unfinished, outcome, acknowledged, dropped}
use Rattle.iss_session.specs.Sessions.{Session, Queued, OpenRequest, unasked}
use Rattle.iss_session.specs.Hearings.{is_reading, is_waiting, is_linked, links_of}
use Rattle.iss_link.specs.Values.{LinksNow}
use Rattle.iss_link.specs.declared.gone.Gone as link
use Rattle.iss_link.specs.declared.gone.Gone.TheVariants.{Asked, Noted, Unreached}
use Rattle.iss_opening.specs.Numbers.{is_from_one}
use Rattle.iss_store.specs.Routes.{IsServed}
use Rattle.iss_opening.specs.Values.{StoreNow, room_of}
use Rattle.iss_store.specs.Serving.{all_gone, tasks_pending}
use Rattle.iss_serve.specs.declared.held.Held.{Held}
use Rattle.iss_serve.specs.declared.held.QueuedInput.{QueuedInput}

-- What is held: clients whose requests aren't whole, clients that wait, links, and calls that weren't reached. Then the time that came
-- last, and how many waits are left.
pub record HeldNow : Type 0 where
  pub clients : List OpenRequest
  pub served : List Waiter
  pub links : LinksNow
  pub unreached : List CallId
  pub clock : ℕ
  pub turns : ℕ

abbrev pub seen_held : Held → HeldNow
seen_held h =
    record { clients = h.clients; served = h.routes.waiters; links = h.links; unreached = h.unreached.items; clock = h.clock; turns = h.turns }

-- an input with its client's channel, as the definitions have it
abbrev pub queued_as : QueuedInput → Queued
queued_as q = record { input = q.input; client = q.client }

-- the inputs that are to be judged first
abbrev pub queued_maybe : Option QueuedInput → List Queued
queued_maybe None = []
queued_maybe (Some q) = queued_as q ∷ []

-- the input is in form
abbrev pub IsQueuedInForm : QueuedInput → Type 0
IsQueuedInForm q = IsTrue (is_in_form q.input)

-- a call that wasn't reached has its answer
abbrev pub answer_unreached : CallId → Queued
answer_unreached call = unasked (input.Answer call Connection)

-- the answers of these calls
abbrev pub answers_unreached : List CallId → List Queued
answers_unreached calls = map answer_unreached calls

-- What stands while a run serves: the store, what is held, and the channel that is to be taken from. Then come the inputs that are judged
-- before the answers of calls that weren't reached, and the texts that are to go out.
pub record Stage : Type 0 where
  pub store : StoreNow
  pub held : HeldNow
  pub ready : Option Channel
  pub first : List Queued
  pub tasks : List Task

-- these inputs are to be judged first, and no text is to go out
abbrev pub to_judge : StoreNow → HeldNow → List Queued → Stage
to_judge s h first = record { store = s; held = h; ready = None; first = first; tasks = [] }

-- nothing is to be judged first
abbrev pub idle : StoreNow → HeldNow → Stage
idle s h = to_judge s h []

-- these texts are to go out, and then these inputs are to be judged first
abbrev pub sending : StoreNow → HeldNow → List Queued → List Task → Stage
sending s h first tasks = record { store = s; held = h; ready = None; first = first; tasks = tasks }

-- a run begins with the texts that still wait for the gateway
abbrev pub first_stage : StoreNow → HeldNow → Stage
first_stage s h = sending s h [] (tasks_pending s)

-- with what is held, this input is to be judged next, and then the others
abbrev pub judging_first : StoreNow → Held → QueuedInput → List Queued → Stage
judging_first s h first rest = to_judge s (seen_held h) (queued_as first ∷ rest)

-- with what is held, these inputs are left to judge
abbrev pub left_to_judge : Held → List Queued → StoreNow → Stage
left_to_judge h rest s = to_judge s (seen_held h) rest

-- with what is held, nothing is left to judge first
abbrev pub resting : Held → StoreNow → Stage
resting h s = idle s (seen_held h)

-- with what is held, the input that was heard is to be judged, if there is one
abbrev pub judging_heard : StoreNow → Held → Option QueuedInput → Stage
judging_heard s h heard = to_judge s (seen_held h) (queued_maybe heard)

-- a channel is to be taken from
abbrev pub taking : StoreNow → HeldNow → Channel → Stage
taking s h ch = record { store = s; held = h; ready = Some ch; first = []; tasks = [] }

-- the channel is a client's that isn't answered yet, or a link
abbrev pub listens_to : HeldNow → Channel → Bool
listens_to h ch = is_reading ch h.clients || is_waiting ch h.served || is_linked ch h.links.links

-- a wait brought that this channel is ready
abbrev pub arrived : StoreNow → HeldNow → Channel → Stage
arrived s h ch = record { store = s; held = h; ready = (if listens_to h ch then Some ch else None); first = []; tasks = [] }

-- what a channel that is ready leads to on each store, with what is held
abbrev pub arrived_on : Held → Channel → StoreNow → Stage
arrived_on h ch = λ s. arrived s (seen_held h) ch

-- the session that stands, if the store stands for these records
abbrev pub session_at : Stage → List Record → Session
session_at x rs =
    record {
      run = record { instance = x.store.core.instance; room = room_of x.store; history = history_of rs };
      clock = x.held.clock;
      turns = x.held.turns;
      ready = x.ready;
      readers = x.held.clients;
      links = x.held.links.links;
      queue = x.first ++ answers_unreached x.held.unreached;
      desk = desk_with x.tasks x.held.served;
    }

-- the calls that weren't reached
abbrev pub call_unreached : link.Gone → List CallId
call_unreached (Asked opened ch) = []
call_unreached (Noted number ch) = []
call_unreached (Unreached call) = call ∷ []

-- what became of these messages to the gateway was noted: the links that are watched then, and the calls that weren't reached
abbrev pub noted : List link.Gone → HeldNow → HeldNow
noted gone h =
    record h {
      links = record h.links { links = h.links.links ++ flat_map links_of (all_gone gone) };
      unreached = h.unreached ++ flat_map call_unreached gone;
    }

-- these calls are numbered from 1
abbrev pub CallsNumbered : List CallId → Type 0
CallsNumbered calls = list_all (λ call. is_from_one call.0) calls ≡ true

-- the call or the notice that a text to the gateway is about is numbered from 1
abbrev pub is_about_number : Subject → Bool
is_about_number (of_call opened) = is_from_one opened.call.0
is_about_number (of_notice number) = is_from_one number

-- the calls and notices whose answers are awaited are numbered from 1
abbrev pub LinksNumbered : List Link → Type 0
LinksNumbered links = list_all (λ link. is_about_number link.subject) links ≡ true

-- the call that has its answer, or the notice that is acknowledged, is numbered from 1, and the answer is of its form
abbrev pub is_heard_in_form : LinkHeard → Bool
is_heard_in_form (outcome call said) = is_from_one call.0 && is_outcome said
is_heard_in_form (acknowledged number) = is_from_one number
is_heard_in_form unfinished = true
is_heard_in_form (dropped number) = true

-- Clients are served. The time is a stamp, and there is room for what a take brings. The calls that weren't reached, and the calls and
-- notices whose answers are awaited, are numbered from 1.
pub record IsHeld (h : Held) : Type 0 where
  pub routes : IsServed h.routes
  pub clock : IsTrue (is_stamp h.clock)
  pub room : length h.buffer.items ≡ LONGEST_PIECE
  pub calls : CallsNumbered h.unreached.items
  pub links : LinksNumbered h.links.links

-- The routes are of the same kind. The time, the room, the links' instance and the waits that are left are as before. Calls and notices
-- are numbered from 1 if they were.
pub record IsStillHeld (before after : Held) : Type 0 where
  pub routes : after.routes.kind ≡ before.routes.kind
  pub clock : after.clock ≡ before.clock
  pub room : length after.buffer.items ≡ length before.buffer.items
  pub instance : after.links.instance ≡ before.links.instance
  pub turns : after.turns ≡ before.turns
  pub calls : CallsNumbered before.unreached.items → CallsNumbered after.unreached.items
  pub links : LinksNumbered before.links.links → LinksNumbered after.links.links

-- the links are those of the store's instance
abbrev pub IsOf : StoreNow → Held → Type 0
IsOf s h = h.links.instance ≡ s.core.instance

-- how many records may still come
abbrev pub records_left : StoreNow → ℕ
records_left s = MOST_RECORDS - s.core.state.count
