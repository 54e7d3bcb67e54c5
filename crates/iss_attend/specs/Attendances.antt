-- Attending to clients: each whole request is answered at once, and then its channel is closed.
use Rattle.std.specs.Prelude.{◌≡◌, ℕ, Bool, true, ◌+◌, List, [], ◌∷◌, ◌++◌, map, Option, Some, None, if◌then◌else◌}
use Rattle.iss_edge.specs.declared.outside.Channel.{Channel}
use Rattle.iss_edge.specs.declared.outside.Action.TheVariants.{Close}
use Rattle.iss_edge.specs.declared.outside.Answered.{Answered}
use Rattle.iss_edge.specs.declared.outside.Answered.TheVariants.{Waited, Took}
use Rattle.iss_edge.specs.declared.outside.Arrival.{Arrival}
use Rattle.iss_edge.specs.declared.outside.Arrival.TheVariants.{Client, Ready, Time, Idle, End}
use Rattle.iss_edge.specs.Stretches.{Step}
use Rattle.iss_http.specs.Requests.{Request, more, body, faulty, jit_request, IsHopelessRequest}
use Rattle.iss_session.specs.Items.{HeardItem, Next, nothing, is_answer_to, IsTornEmit, leveled}
use Rattle.iss_session.specs.Desks.{Task, to_reply, desk_with, next_for, DeskChange, desk_change}
use Rattle.iss_session.specs.Sessions.{OpenRequest, next_heard}
use Rattle.iss_session.specs.Hearings.{is_reading, one_less, fault_response, readers_with, readers_without, bytes_on, request_early}
use Rattle.iss_session.specs.Happenings.{closings}
use Rattle.iss_session.specs.Turns.{wait_count}

-- How bodies are answered, by what stands: what stands after a body, and the response to it.
pub record Manner (G : Type 0) : Type 0 where
  pub after : G → List ℕ → G
  pub response : G → List ℕ → List ℕ

-- the manner of these two
abbrev pub manner_of : {G : Type 0} → (G → List ℕ → G) → (G → List ℕ → List ℕ) → Manner G
manner_of after response = record { after = after; response = response }

-- What stands while clients are attended to: what answers them, how many waits are left, and the channel that is to be taken from. Then
-- the clients whose requests aren't whole, and the responses that are to go out.
pub record Attendance (G : Type 0) : Type 0 where
  pub standing : G
  pub turns : ℕ
  pub ready : Option Channel
  pub readers : List OpenRequest
  pub tasks : List Task

-- no channel is to be taken from, and nothing is to go out
abbrev pub at_rest : {G : Type 0} → G → ℕ → List OpenRequest → Attendance G
at_rest g turns readers = record { standing = g; turns = turns; ready = None; readers = readers; tasks = [] }

-- a run begins with no client
abbrev pub first_attendance : {G : Type 0} → G → ℕ → Attendance G
first_attendance g turns = at_rest g turns []

-- a channel is to be taken from
abbrev pub taking : {G : Type 0} → G → ℕ → List OpenRequest → Channel → Attendance G
taking g turns readers ch = record (at_rest g turns readers) { ready = Some ch }

-- a wait brought that this channel is ready: one that nobody listens to is left alone
abbrev pub arrived : {G : Type 0} → G → ℕ → List OpenRequest → Channel → Attendance G
arrived g turns readers ch = record (at_rest g turns readers) { ready = (if is_reading ch readers then Some ch else None) }

-- this response is to go out
abbrev pub replying : {G : Type 0} → G → ℕ → List OpenRequest → Channel → List ℕ → Attendance G
replying g turns readers ch text = record (at_rest g turns readers) { tasks = to_reply ch text ∷ [] }

-- what stands after a change, and what was done in it
pub record Change (G : Type 0) : Type 0 where
  pub now : Attendance G
  pub steps : List Step

-- a change to this, with these steps
abbrev pub change_to : {G : Type 0} → Attendance G → List Step → Change G
change_to s steps = record { now = s; steps = steps }

-- the request that a client's bytes are: its body is answered at once, and so is its fault
abbrev pub after_request : {G : Type 0} → Manner G → Attendance G → Channel → List ℕ → Request → Attendance G
after_request manner s ch bytes more = record s { readers = readers_with ch bytes s.readers }
after_request manner s ch bytes (body text) =
    record s {
      standing = manner.after s.standing text;
      readers = readers_without ch s.readers;
      tasks = to_reply ch (manner.response s.standing text) ∷ [];
    }
after_request manner s ch bytes (faulty fault) =
    record s { readers = readers_without ch s.readers; tasks = to_reply ch (fault_response fault) ∷ [] }

-- a channel that fails or ends before its request is whole is closed
abbrev pub client_gone : {G : Type 0} → Attendance G → Channel → Change G
client_gone s ch = change_to (record s { readers = readers_without ch s.readers }) (leveled 0 (Close ch) ∷ [])

-- what a take brought on a client's channel
abbrev pub after_take : {G : Type 0} → Manner G → Attendance G → Channel → Option (List ℕ) → Bool → Change G
after_take manner s ch None early = client_gone s ch
after_take manner s ch (Some []) early = client_gone s ch
after_take manner s ch (Some (b ∷ piece)) early =
    let bytes = bytes_on ch s.readers ++ b ∷ piece in
    change_to (after_request manner s ch bytes (request_early early (jit_request bytes))) []

-- What a wait brought. A channel that is ready and that nobody listens to changes nothing, and so does the time.
abbrev pub after_arrival : {G : Type 0} → Attendance G → Option Arrival → Attendance G
after_arrival s None = record s { turns = 0 }
after_arrival s (Some (Client ch)) = record s { readers = s.readers ++ record { ch = ch; bytes = [] } ∷ [] }
after_arrival s (Some (Ready ch)) = record s { ready = (if is_reading ch s.readers then Some ch else None) }
after_arrival s (Some (Time at)) = s
after_arrival s (Some Idle) = s
after_arrival s (Some End) = record s { turns = 0 }

-- what a wait or a take answered
abbrev pub after_hearing : {G : Type 0} → Manner G → Attendance G → HeardItem → Answered → Change G
after_hearing manner s item (Waited arrival) = change_to (after_arrival (record s { turns = one_less s.turns }) arrival) []
after_hearing manner s item (Took ch got) = after_take manner (record s { ready = None }) ch got item.early
after_hearing manner s item _ = change_to s []

-- what a desk did for its responses
abbrev pub after_desk : {G : Type 0} → Attendance G → DeskChange → Change G
after_desk s d = change_to (record s { tasks = d.desk.tasks }) d.steps

-- an answer of the outside is for the first response, if there is one, and else for a wait or a take
abbrev pub after_item : {G : Type 0} → Manner G → Attendance G → HeardItem → List Task → Change G
after_item manner s item [] = after_hearing manner s item item.answer
after_item manner s item (task ∷ tasks) = after_desk s (desk_change 0 (desk_with (task ∷ tasks) []) item)

-- what an answer of the outside makes of what stands
abbrev pub attendance_change : {G : Type 0} → Manner G → Attendance G → HeardItem → Change G
attendance_change manner s item = after_item manner s item s.tasks

-- Responses go out first. Then a channel that is ready is taken from, and then the next arrival is waited for.
abbrev pub next_by : {G : Type 0} → Attendance G → List Task → Next
next_by s [] = next_heard s.turns s.ready
next_by s (task ∷ tasks) = next_for task

-- the call that comes next
abbrev pub next_of : {G : Type 0} → Attendance G → Next
next_of s = next_by s s.tasks

-- a client's bytes may be answered early only if no head begins with them, whatever comes after them
abbrev pub MayAnswerEarly : List OpenRequest → Channel → Option (List ℕ) → Bool → Type 0
MayAnswerEarly readers ch (Some (b ∷ piece)) true = IsHopelessRequest (bytes_on ch readers ++ b ∷ piece)
MayAnswerEarly readers ch _ _ = Unit {0}

-- what an item tells of being early is allowed
abbrev pub MayBeEarly : List OpenRequest → HeardItem → Answered → Type 0
MayBeEarly readers item (Took ch got) = MayAnswerEarly readers ch got item.early
MayBeEarly readers item _ = Unit {0}

-- the item answers the call that comes next
pub record IsNext {G : Type 0} (s : Attendance G) (item : HeardItem) : Type 0 where
  pub answers : is_answer_to (next_of s) item.answer ≡ true
  pub torn : IsTornEmit (next_of s) item.answer item.torn
  pub early : MayBeEarly s.readers item item.answer

-- what stands after these items
abbrev pub attendance_after : {G : Type 0} → Manner G → Attendance G → List HeardItem → Attendance G
attendance_after manner s [] = s
attendance_after manner s (item ∷ items) = attendance_after manner (attendance_change manner s item).now items

-- what was done in these items
abbrev pub attendance_steps : {G : Type 0} → Manner G → Attendance G → List HeardItem → List Step
attendance_steps manner s [] = []
attendance_steps manner s (item ∷ items) =
    (attendance_change manner s item).steps ++ attendance_steps manner (attendance_change manner s item).now items

-- these items fit: each of them answers the call that comes next
abbrev pub Fits : {G : Type 0} → Manner G → Attendance G → List HeardItem → Type 0
Fits manner s [] = Unit {0}
Fits manner s (item ∷ items) = IsNext s item × Fits manner (attendance_change manner s item).now items

-- nothing comes next: what was heard is complete
abbrev pub IsComplete : {G : Type 0} → Attendance G → Type 0
IsComplete s = next_of s ≡ nothing

-- at the end every channel that is still open is closed
abbrev pub last_steps : {G : Type 0} → Attendance G → List Step
last_steps s = closings 0 (map (λ r. r.ch) s.readers)

-- the answers of these items
abbrev pub answers_in : List HeardItem → List Answered
answers_in items = map (λ item. item.answer) items

-- how many waits are answered in these items
abbrev pub waits_in : List HeardItem → ℕ
waits_in [] = 0
waits_in (item ∷ items) = wait_count item.answer + waits_in items

-- it isn't a wait that failed
abbrev pub HasCome : Answered → Type 0
HasCome (Waited None) = ⊥
HasCome _ = Unit {0}

-- no wait of these failed
abbrev pub NoWaitFailed : List HeardItem → Type 0
NoWaitFailed [] = Unit {0}
NoWaitFailed (item ∷ items) = HasCome item.answer × NoWaitFailed items
