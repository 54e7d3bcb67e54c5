-- The inputs of clients that are to be judged are events.
use Rattle.std.proofs.Common.{◌≡◌, ℕ, Bool, true, false, cond, List, [], ◌∷◌, ◌++◌, Option, Some, None}
use Rattle.std.specs.Prelude.{Result, Ok, Err, IfOk, is_some}
use Rattle.std.specs.List.{flat_map}
use Rattle.iss_edge.specs.declared.outside.Channel.{Channel}
use Rattle.iss_edge.specs.declared.outside.Arrival.{Arrival}
use Rattle.iss_edge.specs.declared.outside.Arrival.TheVariants.{Client, Ready, Time, Idle, End}
use Rattle.iss_edge.specs.declared.outside.Answered.{Answered}
use Rattle.iss_edge.specs.declared.outside.Answered.TheVariants.{Waited, Took, Dialled, Emitted}
use Rattle.iss_model.specs.declared.input.Input.{Input}
use Rattle.iss_model.specs.declared.decision.Judged.{Judged}
use Rattle.iss_model.specs.declared.decision.Judged.TheVariants.{New, Clock, Told}
use Rattle.iss_model.specs.Inputs.{event_token}
use Rattle.iss_model.specs.run.Runs.{judgement_in}
use Rattle.iss_http.specs.Requests.{Request, more, body, faulty}
use Rattle.iss_session.specs.Items.{HeardItem, Happening, hears, judges}
use Rattle.iss_session.specs.Desks.{reached, Task, TextFate, unreached, desk_change_by}
use Rattle.iss_session.specs.Links.{Link, LinkHeard, piece_of, unfinished, outcome, acknowledged, dropped, heard_as, link_reading}
use Rattle.iss_session.specs.Sessions.{Readers, Queued, Session, count}
use Rattle.iss_session.specs.Judgements.{judged_so, judged_input, judged_first}
use Rattle.iss_session.specs.Hearings.{Change, after_arrival, one_less, after_line, after_request, after_reading, after_waiting, after_answer, after_link, link_at, is_reading, is_waiting, after_take, after_hearing, queued_of, after_item}
use Rattle.iss_session.specs.Happenings.{session_change, session_after}
use Rattle.iss_session.specs.Openings.{ReadsEvents}

-- an input of a client is an event
abbrev pub IsEventOf : Option Channel → Option (List ℕ) → Type 0
IsEventOf None token = Unit {0}
IsEventOf (Some ch) token = is_some token ≡ true

-- each input of a client in a queue is an event
abbrev pub AreEvents : List Queued → Type 0
AreEvents [] = Unit {0}
AreEvents (q ∷ queue) = IsEventOf q.client (event_token q.input) × AreEvents queue

-- they stay so

events_append : (a b : List Queued) → AreEvents a → AreEvents b → AreEvents (a ++ b)
events_append [] b ea eb = eb
events_append (q ∷ a) b ea eb = (ea.0, events_append a b ea.1 eb)

events_arrival : (s : Session) (a : Option Arrival) → AreEvents s.queue → AreEvents (after_arrival s a).queue
events_arrival s None e = e
events_arrival s (Some (Client ch)) e = e
events_arrival s (Some (Ready ch)) e = e
events_arrival s (Some (Time at)) e = events_append s.queue _ e (tt, tt)
events_arrival s (Some Idle) e = e
events_arrival s (Some End) e = e

events_line : (s : Session) (ch : Channel) (line : Result Input (List ℕ)) → IfOk line (λ i. is_some (event_token i) ≡ true) → AreEvents s.queue
    → AreEvents (after_line s ch line).queue
events_line s ch (Ok i) event e = events_append s.queue _ e (event, tt)
events_line s ch (Err text) event e = e

events_request : (read : Readers) → ReadsEvents read → (s : Session) (ch : Channel) (bytes : List ℕ) (r : Request) → AreEvents s.queue
    → AreEvents (after_request read s ch bytes r).queue
events_request read sound s ch bytes more e = e
events_request read sound s ch bytes (body text) e = events_line _ ch (read.line text) (sound.events text) e
events_request read sound s ch bytes (faulty fault) e = e

events_reading : (read : Readers) → ReadsEvents read → (s : Session) (ch : Channel) (got : Option (List ℕ)) (early : Bool) → AreEvents s.queue
    → AreEvents (after_reading read s ch got early).session.queue
events_reading read sound s ch None early e = e
events_reading read sound s ch (Some []) early e = e
events_reading read sound s ch (Some (b ∷ piece)) early e = events_request read sound s ch _ _ e

events_waiting : (s : Session) (ch : Channel) (got : Option (List ℕ)) → AreEvents s.queue → AreEvents (after_waiting s ch got).session.queue
events_waiting s ch None e = e
events_waiting s ch (Some piece) e = e

events_answer : (s : Session) (ch : Channel) (piece : List ℕ) (heard : LinkHeard) → AreEvents s.queue → AreEvents (after_answer s ch piece heard).session.queue
events_answer s ch piece unfinished e = events_append s.queue [] e tt
events_answer s ch piece (outcome call o) e = events_append s.queue _ e (tt, tt)
events_answer s ch piece (acknowledged n) e = events_append s.queue _ e (tt, tt)
events_answer s ch piece (dropped n) e = events_append s.queue [] e tt

events_link : (read : Readers) (s : Session) (ch : Channel) (got : Option (List ℕ)) (early : Bool) (link : Option Link) → AreEvents s.queue
    → AreEvents (after_link read s ch got early link).session.queue
events_link read s ch got early None e = e
events_link read s ch got early (Some link) e =
    events_answer s ch (piece_of got) (heard_as (read.outcome s.run.instance) link.subject (link_reading link got early)) e

events_either : (b : Bool) (x y : Change) → AreEvents x.session.queue → AreEvents y.session.queue → AreEvents (cond b x y).session.queue
events_either true x y ex ey = ex
events_either false x y ex ey = ey

events_take : (read : Readers) → ReadsEvents read → (s : Session) (ch : Channel) (got : Option (List ℕ)) (early : Bool) → AreEvents s.queue
    → AreEvents (after_take read s ch got early).session.queue
events_take read sound s ch got early e =
    events_either (is_reading ch s.readers) (after_reading read s ch got early) _ (events_reading read sound s ch got early e)
    (events_either (is_waiting ch s.desk.waiting) (after_waiting s ch got) (after_link read s ch got early (link_at ch s.links))
    (events_waiting s ch got e) (events_link read s ch got early (link_at ch s.links) e))

events_hearing : (read : Readers) → ReadsEvents read → (s : Session) (item : HeardItem) (answer : Answered) → AreEvents s.queue
    → AreEvents (after_hearing read s item answer).session.queue
events_hearing read sound s item (Waited arrival) e = events_arrival (record s { turns = one_less s.turns }) arrival e
events_hearing read sound s item (Took ch got) e = events_take read sound (record s { ready = None }) ch got item.early e
events_hearing read sound s item (Dialled ch) e = e
events_hearing read sound s item (Emitted ch ok) e = e

events_gone : (gone : List TextFate) → AreEvents (flat_map queued_of gone)
events_gone [] = tt
events_gone (reached ch subject ∷ gone) = events_gone gone
events_gone (unreached call ∷ gone) = (tt, events_gone gone)

events_item : (read : Readers) → ReadsEvents read → (s : Session) (item : HeardItem) (tasks : List Task) → AreEvents s.queue
    → AreEvents (after_item read s item tasks).session.queue
events_item read sound s item [] e = events_hearing read sound s item item.answer e
events_item read sound s item (task ∷ tasks) e =
    events_append s.queue _ e (events_gone (desk_change_by (count s) s.desk s.desk.tasks item).gone)

events_so : (s : Session) (q : Queued) (queue : List Queued) (j : Judged) → AreEvents (q ∷ queue) → AreEvents (judged_so s q queue j).queue
events_so s q queue (New r) e = e.1
events_so s q queue (Clock r) e = e
events_so s q queue (Told a) e = e.1

events_first : (s : Session) (queue : List Queued) → AreEvents s.queue → AreEvents queue → AreEvents (judged_first s queue).queue
unfolding judged_input
events_first s [] all e = all
events_first s (q ∷ queue) all e = events_so s q queue (judgement_in s.run q.input s.clock) e

pub events_stay : (read : Readers) → ReadsEvents read → (s : Session) (h : Happening) → AreEvents s.queue → AreEvents (session_change read s h).session.queue
events_stay read sound s (hears item) e = events_item read sound s item s.desk.tasks e
events_stay read sound s judges e = events_first s s.queue e e

pub events_after : (read : Readers) → ReadsEvents read → (s : Session) (hs : List Happening) → AreEvents s.queue → AreEvents (session_after read s hs).queue
events_after read sound s [] e = e
events_after read sound s (h ∷ hs) e = events_after read sound (session_change read s h).session hs (events_stay read sound s h e)
