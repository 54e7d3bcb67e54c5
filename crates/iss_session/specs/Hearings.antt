-- What an answer of the outside makes of a session.
use Rattle.std.specs.Prelude.{ℕ, zero, suc, min, Bool, not, ◌||◌, List, [], ◌∷◌, ◌++◌, filter, find, codes, Option, Some, None, Result, Ok, Err, if◌then◌else◌}
use Rattle.std.specs.List.{list_any, flat_map}
use Rattle.iss_edge.specs.declared.outside.Channel.{Channel}
use Rattle.iss_edge.specs.declared.outside.Arrival.{Arrival}
use Rattle.iss_edge.specs.declared.outside.Arrival.TheVariants.{Client, Ready, Time, Idle, End}
use Rattle.iss_edge.specs.declared.outside.Action.TheVariants.{Close}
use Rattle.iss_edge.specs.declared.outside.Answered.{Answered}
use Rattle.iss_edge.specs.declared.outside.Answered.TheVariants.{Waited, Took}
use Rattle.iss_edge.specs.Stretches.{Step}
use Rattle.iss_model.specs.declared.input.Outcome.TheVariants.{Connection}
use Rattle.iss_model.specs.declared.input.Input.{Input}
use Rattle.iss_model.specs.declared.input.Input.TheVariants as input
use Rattle.iss_model.specs.declared.limits.TheConstants.{LAST_STAMP}
use Rattle.iss_model.specs.texts.AnswerLines.{http_fault_line}
use Rattle.iss_http.specs.declared.faults.HttpFault.{HttpFault}
use Rattle.iss_http.specs.declared.faults.HttpFault.TheVariants.{Head, HeadLong, Method, Path, Coding, NoLength, BodyLong}
use Rattle.iss_http.specs.declared.statuses.TheConstants.{BAD_REQUEST, NOT_FOUND}
use Rattle.iss_http.specs.Messages.{respond}
use Rattle.iss_http.specs.Requests.{Request, more, body, faulty, request}
use Rattle.iss_session.specs.Items.{HeardItem, same_channel, leveled}
use Rattle.iss_session.specs.Desks.{Task, to_reply, TextFate, reached, unreached, Waiter, desk_with, waiters_without, DeskChange, desk_change}
use Rattle.iss_session.specs.Links.{Link, LinkHeard, unfinished, outcome, acknowledged, dropped, link_reading, heard_as, piece_of, links_after}
use Rattle.iss_session.specs.Sessions.{Readers, OpenRequest, Queued, Session, count, with_tasks, with_queued, unasked}

-- the session after a change, and what was done in it
pub record Change : Type 0 where
  pub session : Session
  pub steps : List Step

-- a change to this session, with these steps
abbrev pub change_to : Session → List Step → Change
change_to s steps = record { session = s; steps = steps }

-- a channel is closed
abbrev pub close_steps : Session → Channel → List Step
close_steps s ch = leveled (count s) (Close ch) ∷ []

-- Arrivals

-- the channel is one of a client whose request isn't whole yet
abbrev pub is_reading : Channel → List OpenRequest → Bool
is_reading ch readers = list_any (λ r. same_channel r.ch ch) readers

-- the channel is one of a client that waits
abbrev pub is_waiting : Channel → List Waiter → Bool
is_waiting ch waiters = list_any (λ w. same_channel w.ch ch) waiters

-- the channel is a link
abbrev pub is_linked : Channel → List Link → Bool
is_linked ch links = list_any (λ l. same_channel l.ch ch) links

-- the channel is a client's that isn't answered yet, or a link
abbrev pub is_listened_to : Session → Channel → Bool
is_listened_to s ch = is_reading ch s.readers || is_waiting ch s.desk.waiting || is_linked ch s.links

-- What a wait brought. A channel that is ready and that nobody listens to changes nothing; a time later than the last stamp counts as that.
abbrev pub after_arrival : Session → Option Arrival → Session
after_arrival s None = record s { turns = 0 }
after_arrival s (Some (Client ch)) = record s { readers = s.readers ++ record { ch = ch; bytes = [] } ∷ [] }
after_arrival s (Some (Ready ch)) = record s { ready = (if is_listened_to s ch then Some ch else None) }
after_arrival s (Some (Time at)) = with_queued (record s { clock = min at LAST_STAMP }) (unasked input.Time)
after_arrival s (Some Idle) = s
after_arrival s (Some End) = record s { turns = 0 }

-- one turn is over
abbrev pub one_less : ℕ → ℕ
one_less zero = zero
one_less (suc n) = n

-- Requests

-- the status of a response that tells a fault of HTTP
abbrev pub fault_status : HttpFault → ℕ
fault_status Path = NOT_FOUND
fault_status _ = BAD_REQUEST

-- the name of a fault of HTTP
abbrev pub fault_text : HttpFault → List ℕ
fault_text Head = codes "HEAD"
fault_text HeadLong = codes "HEAD_LONG"
fault_text Method = codes "METHOD"
fault_text Path = codes "PATH"
fault_text Coding = codes "CODING"
fault_text NoLength = codes "NO_LENGTH"
fault_text BodyLong = codes "BODY_LONG"

-- the response that tells a fault of HTTP
abbrev pub fault_response : HttpFault → List ℕ
fault_response fault = respond (fault_status fault) (http_fault_line (fault_text fault))

-- the clients on other channels
abbrev pub readers_without : Channel → List OpenRequest → List OpenRequest
readers_without ch readers = filter (λ r. not (same_channel r.ch ch)) readers

-- these are the bytes that came on a channel now
abbrev pub readers_with : Channel → List ℕ → List OpenRequest → List OpenRequest
readers_with ch bytes [] = []
readers_with ch bytes (r ∷ readers) =
    if same_channel r.ch ch then record r { bytes = bytes } ∷ readers else r ∷ readers_with ch bytes readers

-- the bytes that came on a channel so far
abbrev pub bytes_on : Channel → List OpenRequest → List ℕ
bytes_on ch [] = []
bytes_on ch (r ∷ readers) = if same_channel r.ch ch then r.bytes else bytes_on ch readers

-- a client's line is to be judged, or its fault is sent
abbrev pub after_line : Session → Channel → Result Input (List ℕ) → Session
after_line s ch (Ok i) = with_queued s (record { input = i; client = Some ch })
after_line s ch (Err line) = with_tasks s (to_reply ch (respond BAD_REQUEST line) ∷ [])

-- the request that a client's bytes are
abbrev pub after_request : Readers → Session → Channel → List ℕ → Request → Session
after_request read s ch bytes more = record s { readers = readers_with ch bytes s.readers }
after_request read s ch bytes (body text) = after_line (record s { readers = readers_without ch s.readers }) ch (read.line text)
after_request read s ch bytes (faulty fault) =
    with_tasks (record s { readers = readers_without ch s.readers }) (to_reply ch (fault_response fault) ∷ [])

-- bytes that no head begins with may be refused at once
abbrev pub request_early : Bool → Request → Request
request_early early r = if early then faulty Head else r

-- a client's channel that fails or ends before its request is whole is closed
abbrev pub reader_gone : Session → Channel → Change
reader_gone s ch = change_to (record s { readers = readers_without ch s.readers }) (close_steps s ch)

-- what a take brought on the channel of a client whose request wasn't whole
abbrev pub after_reading : Readers → Session → Channel → Option (List ℕ) → Bool → Change
after_reading read s ch None early = reader_gone s ch
after_reading read s ch (Some []) early = reader_gone s ch
after_reading read s ch (Some (b ∷ piece)) early =
    let bytes = bytes_on ch s.readers ++ b ∷ piece in
    change_to (after_request read s ch bytes (request_early early (request bytes))) []

-- What a take brought on the channel of a client that waits. Bytes and an end are ignored. If the take failed, the channel is closed, and the
-- client waits no longer.
abbrev pub after_waiting : Session → Channel → Option (List ℕ) → Change
after_waiting s ch None = change_to (record s { desk = desk_with s.desk.tasks (waiters_without ch s.desk.waiting) }) (close_steps s ch)
after_waiting s ch (Some piece) = change_to s []

-- Answers of the gateway

-- what is to be judged after a link heard this
abbrev pub inputs_of : LinkHeard → List Queued
inputs_of unfinished = []
inputs_of (outcome call o) = unasked (input.Answer call o) ∷ []
inputs_of (acknowledged n) = unasked (input.Ack n) ∷ []
inputs_of (dropped n) = []

-- a link is closed after its answer was heard
abbrev pub link_steps : Session → Channel → LinkHeard → List Step
link_steps s ch unfinished = []
link_steps s ch _ = close_steps s ch

-- a link heard this
abbrev pub after_answer : Session → Channel → List ℕ → LinkHeard → Change
after_answer s ch piece heard =
    change_to (record s { links = links_after ch piece s.links heard; queue = s.queue ++ inputs_of heard }) (link_steps s ch heard)

-- the link of this channel
abbrev pub link_at : Channel → List Link → Option Link
link_at ch links = find (λ l. same_channel l.ch ch) links

-- what a take brought on a link
abbrev pub after_link : Readers → Session → Channel → Option (List ℕ) → Bool → Option Link → Change
after_link read s ch got early None = change_to s []
after_link read s ch got early (Some link) =
    after_answer s ch (piece_of got) (heard_as (read.outcome s.run.instance) link.subject (link_reading link got early))

-- what a take brought on a channel
abbrev pub after_take : Readers → Session → Channel → Option (List ℕ) → Bool → Change
after_take read s ch got early =
    if is_reading ch s.readers then after_reading read s ch got early
    else if is_waiting ch s.desk.waiting then after_waiting s ch got
    else after_link read s ch got early (link_at ch s.links)

-- what a wait or a take answered
abbrev pub after_hearing : Readers → Session → HeardItem → Answered → Change
after_hearing read s item (Waited arrival) = change_to (after_arrival (record s { turns = one_less s.turns }) arrival) []
after_hearing read s item (Took ch got) = after_take read (record s { ready = None }) ch got item.early
after_hearing read s item _ = change_to s []

-- What became of texts to the gateway

-- a text that went out is watched for its answer
abbrev pub links_of : TextFate → List Link
links_of (reached ch subject) = record { ch = ch; subject = subject; bytes = [] } ∷ []
links_of (unreached call) = []

-- a call that wasn't reached has its answer
abbrev pub queued_of : TextFate → List Queued
queued_of (reached ch subject) = []
queued_of (unreached call) = unasked (input.Answer call Connection) ∷ []

-- what a desk's item did
abbrev pub after_desk : Session → DeskChange → Change
after_desk s d =
    change_to (record s { links = s.links ++ flat_map links_of d.gone; queue = s.queue ++ flat_map queued_of d.gone; desk = d.desk }) d.steps

-- an answer of the outside is for the first text, if there is one, and else for a wait or a take
abbrev pub after_item : Readers → Session → HeardItem → List Task → Change
after_item read s item [] = after_hearing read s item item.answer
after_item read s item (task ∷ tasks) = after_desk s (desk_change (count s) s.desk item)
