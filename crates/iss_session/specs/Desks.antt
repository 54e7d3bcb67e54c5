-- A desk: texts that are to go out one after the other. Each to the gateway goes on a channel of its own, and those to clients close
-- their channels.
use Rattle.std.specs.Prelude.{◌≡◌, ℕ, true, false, not, List, [], ◌∷◌, ◌++◌, filter, Some, None}
use Rattle.iss_edge.specs.declared.outside.Channel.{Channel}
use Rattle.iss_edge.specs.declared.outside.Action.TheVariants.{Dial, Close}
use Rattle.iss_edge.specs.declared.outside.Answered.{Answered}
use Rattle.iss_edge.specs.declared.outside.Answered.TheVariants.{Dialled, Emitted}
use Rattle.iss_edge.specs.Stretches.{Step}
use Rattle.iss_model.specs.declared.call.Opened.{Opened}
use Rattle.iss_model.specs.declared.call.CallId.{CallId}
use Rattle.iss_http.specs.Messages.{ask}
use Rattle.iss_session.specs.Items.{HeardItem, Next, dials, emits, nothing, is_answer_to, same_channel, leveled, emit_steps, IsTornEmit}

-- what a text to the gateway is about: a call, or the notice of a number
pub data Subject : Type 0 where
  of_call : Opened → Subject
  of_notice : ℕ → Subject

-- a text for the gateway that has no channel yet, a text for it on its channel, or the response to a client
pub data Task : Type 0 where
  to_dial : Subject → List ℕ → Task
  to_send : Channel → Subject → List ℕ → Task
  to_reply : Channel → List ℕ → Task

-- what became of a text to the gateway: it went out on this channel, or its call wasn't reached
pub data TextFate : Type 0 where
  reached : Channel → Subject → TextFate
  unreached : CallId → TextFate

-- a client's channel that waits until an event is decided
pub record Waiter : Type 0 where
  pub event : List ℕ
  pub ch : Channel

-- the texts that are to go out, and the clients that wait
pub record Desk : Type 0 where
  pub tasks : List Task
  pub waiting : List Waiter

-- the desk after a change, what became of texts to the gateway, and what was done in it
pub record DeskChange : Type 0 where
  pub desk : Desk
  pub gone : List TextFate
  pub steps : List Step

-- a change to this desk
abbrev pub desk_change_to : Desk → List TextFate → List Step → DeskChange
desk_change_to d gone steps = record { desk = d; gone = gone; steps = steps }

-- a desk of these texts and these clients
abbrev pub desk_with : List Task → List Waiter → Desk
desk_with tasks waiting = record { tasks = tasks; waiting = waiting }

-- the call that a text needs next
abbrev pub next_for : Task → Next
next_for (to_dial subject text) = dials
next_for (to_send ch subject text) = emits ch (ask text)
next_for (to_reply ch text) = emits ch text

-- the call that the first text needs
abbrev pub next_of_tasks : List Task → Next
next_of_tasks [] = nothing
next_of_tasks (task ∷ tasks) = next_for task

-- what becomes of a text that doesn't go out: its call isn't reached; a notice waits for the next run, and nothing is sent
abbrev pub gone_unsent : Subject → List TextFate
gone_unsent (of_call o) = unreached o.call ∷ []
gone_unsent (of_notice n) = []

-- the clients that wait on other channels
abbrev pub waiters_without : Channel → List Waiter → List Waiter
waiters_without ch waiters = filter (λ w. not (same_channel w.ch ch)) waiters

-- The first text's call has this answer; `d` has the texts after it. A channel to the gateway is closed if its text didn't go out whole,
-- and a client's channel after its response, whether that went out whole or not.
abbrev pub task_change : ℕ → Desk → Task → HeardItem → Answered → DeskChange
task_change level d (to_dial subject text) item (Dialled (Some ch)) =
    desk_change_to (desk_with (to_send ch subject text ∷ d.tasks) d.waiting) [] (leveled level (Dial ch) ∷ [])
task_change level d (to_dial subject text) item (Dialled None) = desk_change_to d (gone_unsent subject) []
task_change level d (to_send ch subject text) item (Emitted to true) =
    desk_change_to d (reached ch subject ∷ []) (emit_steps level ch (ask text) true item.torn)
task_change level d (to_send ch subject text) item (Emitted to false) =
    desk_change_to d (gone_unsent subject) (emit_steps level ch (ask text) false item.torn ++ leveled level (Close ch) ∷ [])
task_change level d (to_reply ch text) item (Emitted to ok) =
    desk_change_to (desk_with d.tasks (waiters_without ch d.waiting)) [] (emit_steps level ch text ok item.torn ++ leveled level (Close ch) ∷ [])
task_change level d _ item _ = desk_change_to d [] []

-- what becomes of a desk that has heard an answer, by its tasks
abbrev pub desk_change_by : ℕ → Desk → List Task → HeardItem → DeskChange
desk_change_by level d [] item = desk_change_to d [] []
desk_change_by level d (task ∷ tasks) item = task_change level (desk_with tasks d.waiting) task item item.answer

-- what one item makes of a desk, at this number of records
abbrev pub desk_change : ℕ → Desk → HeardItem → DeskChange
desk_change level d item = desk_change_by level d d.tasks item

-- the item answers the call that the first of these texts needs
pub record IsNextAt (tasks : List Task) (item : HeardItem) : Type 0 where
  pub answers : is_answer_to (next_of_tasks tasks) item.answer ≡ true
  pub torn : IsTornEmit (next_of_tasks tasks) item.answer item.torn

-- the desk after these items
abbrev pub desk_after : ℕ → Desk → List HeardItem → Desk
desk_after level d [] = d
desk_after level d (item ∷ items) = desk_after level (desk_change level d item).desk items

-- what was done in these items
abbrev pub desk_steps : ℕ → Desk → List HeardItem → List Step
desk_steps level d [] = []
desk_steps level d (item ∷ items) = (desk_change level d item).steps ++ desk_steps level (desk_change level d item).desk items

-- what became of texts to the gateway in these items
abbrev pub desk_gone : ℕ → Desk → List HeardItem → List TextFate
desk_gone level d [] = []
desk_gone level d (item ∷ items) = (desk_change level d item).gone ++ desk_gone level (desk_change level d item).desk items

-- each of these items answers the call that the desk needs next
abbrev pub FitsDesk : ℕ → Desk → List HeardItem → Type 0
FitsDesk level d [] = Unit {0}
FitsDesk level d (item ∷ items) = IsNextAt d.tasks item × FitsDesk level (desk_change level d item).desk items
