-- A session waits no more often than it has turns.
use Rattle.std.proofs.Common.{◌≡◌, ℕ, suc, zero, ◌+◌, ◌≤◌, Bool, true, false, cond, List, [], ◌∷◌, Option, Some, None, refl, sym, ap, ◌∙◌, arith}
use Rattle.std.specs.Prelude.{Result, Ok, Err}
use Rattle.std.proofs.lemmas.Bool.{false≢true}
use Rattle.iss_edge.specs.declared.outside.Channel.{Channel}
use Rattle.iss_edge.specs.declared.outside.Arrival.{Arrival}
use Rattle.iss_edge.specs.declared.outside.Arrival.TheVariants.{Client, Ready, Time, Idle, End}
use Rattle.iss_edge.specs.declared.outside.Answered.{Answered}
use Rattle.iss_edge.specs.declared.outside.Answered.TheVariants.{Waited, Took, Dialled, Emitted}
use Rattle.iss_model.specs.declared.input.Input.{Input}
use Rattle.iss_model.specs.declared.decision.Judged.{Judged}
use Rattle.iss_model.specs.declared.decision.Judged.TheVariants.{New, Clock, Told}
use Rattle.iss_model.specs.run.Runs.{judgement_in}
use Rattle.iss_http.specs.Requests.{Request, more, body, faulty}
use Rattle.iss_session.specs.Items.{HeardItem, Happening, hears, judges, Next, judging, is_answer_to}
use Rattle.iss_session.specs.Desks.{Task, to_dial, to_send, to_reply, next_for}
use Rattle.iss_session.specs.Links.{Link}
use Rattle.iss_session.specs.Sessions.{Readers, Session, Queued, next_heard, next_idle, next_by}
use Rattle.iss_session.specs.Judgements.{judged_so, judged_input, judged_first}
use Rattle.iss_session.specs.Hearings.{Change, after_arrival, one_less, after_line, after_request, after_reading, after_waiting, after_link, link_at, is_reading, is_waiting, after_take, after_hearing, after_item}
use Rattle.iss_session.specs.Happenings.{session_change, session_after, Fits}
use Rattle.iss_session.specs.Turns.{wait_count, waits_in}

-- a take leaves the turns as they are

turns_line : (s : Session) (ch : Channel) (line : Result Input (List ℕ)) → (after_line s ch line).turns ≡ s.turns
turns_line s ch (Ok i) = refl
turns_line s ch (Err text) = refl

turns_request : (read : Readers) (s : Session) (ch : Channel) (bytes : List ℕ) (r : Request) → (after_request read s ch bytes r).turns ≡ s.turns
turns_request read s ch bytes more = refl
turns_request read s ch bytes (body text) = turns_line _ ch (read.line text)
turns_request read s ch bytes (faulty fault) = refl

turns_reading : (read : Readers) (s : Session) (ch : Channel) (got : Option (List ℕ)) (early : Bool) → (after_reading read s ch got early).session.turns ≡ s.turns
turns_reading read s ch None early = refl
turns_reading read s ch (Some []) early = refl
turns_reading read s ch (Some (b ∷ piece)) early = turns_request read s ch _ _

turns_waiting : (s : Session) (ch : Channel) (got : Option (List ℕ)) → (after_waiting s ch got).session.turns ≡ s.turns
turns_waiting s ch None = refl
turns_waiting s ch (Some piece) = refl

turns_link : (read : Readers) (s : Session) (ch : Channel) (got : Option (List ℕ)) (early : Bool) (link : Option Link)
    → (after_link read s ch got early link).session.turns ≡ s.turns
turns_link read s ch got early None = refl
turns_link read s ch got early (Some link) = refl

turns_either : (s : Session) (b : Bool) (x y : Change) → x.session.turns ≡ s.turns → y.session.turns ≡ s.turns → (cond b x y).session.turns ≡ s.turns
turns_either s true x y ex ey = ex
turns_either s false x y ex ey = ey

turns_take : (read : Readers) (s : Session) (ch : Channel) (got : Option (List ℕ)) (early : Bool) → (after_take read s ch got early).session.turns ≡ s.turns
turns_take read s ch got early =
    turns_either s (is_reading ch s.readers) (after_reading read s ch got early) _ (turns_reading read s ch got early)
    (turns_either s (is_waiting ch s.desk.waiting) (after_waiting s ch got) (after_link read s ch got early (link_at ch s.links))
    (turns_waiting s ch got) (turns_link read s ch got early (link_at ch s.links)))

-- an arrival leaves no more
turns_arrival : (s : Session) (a : Option Arrival) → (after_arrival s a).turns ≤ s.turns
turns_arrival s None = omega arith
turns_arrival s (Some (Client ch)) = omega arith
turns_arrival s (Some (Ready ch)) = omega arith
turns_arrival s (Some (Time at)) = omega arith
turns_arrival s (Some Idle) = omega arith
turns_arrival s (Some End) = omega arith

-- what comes next by the queue, the channel that is ready and the turns
abbrev by_parts : List Queued → Option Channel → ℕ → Next
by_parts [] ready turns = next_heard turns ready
by_parts (q ∷ queue) ready turns = judging

by_parts_is : (s : Session) (queue : List Queued) → next_idle s queue ≡ by_parts queue s.ready s.turns
by_parts_is s [] = refl
by_parts_is s (q ∷ queue) = refl

-- if a wait comes next, a turn is left
turn_left : (a : Option Arrival) (queue : List Queued) (ready : Option Channel) (turns : ℕ)
    → is_answer_to (by_parts queue ready turns) (Waited a) ≡ true → suc (one_less turns) ≡ turns
turn_left a [] None zero e = absurd (false≢true e)
turn_left a [] None (suc n) e = refl
turn_left a [] (Some ch) turns e = absurd (false≢true e)
turn_left a (q ∷ queue) ready turns e = absurd (false≢true e)

-- no text is sent by a wait
never_waits : {A : Type 0} (task : Task) (a : Option Arrival) → is_answer_to (next_for task) (Waited a) ≡ true → A
never_waits (to_dial subject text) a e = absurd (false≢true e)
never_waits (to_send ch subject text) a e = absurd (false≢true e)
never_waits (to_reply ch text) a e = absurd (false≢true e)

heard_turns : (read : Readers) (s : Session) (item : HeardItem) (answer : Answered) → is_answer_to (next_by s []) answer ≡ true
    → wait_count answer + (after_hearing read s item answer).session.turns ≤ s.turns
heard_turns read s item (Waited a) e =
    let t : Session = record s { turns = one_less s.turns } in
    omega (arith, turns_arrival t a, turn_left a s.queue s.ready s.turns (ap (λ (n : Next). is_answer_to n (Waited a)) (sym (by_parts_is s s.queue)) ∙ e))
heard_turns read s item (Took ch got) e = omega (arith, turns_take read (record s { ready = None }) ch got item.early)
heard_turns read s item (Dialled ch) e = omega arith
heard_turns read s item (Emitted ch ok) e = omega arith

sent_turns : (read : Readers) (s : Session) (item : HeardItem) (task : Task) (tasks : List Task) (answer : Answered) → is_answer_to (next_for task) answer ≡ true
    → wait_count answer + (after_item read s item (task ∷ tasks)).session.turns ≤ s.turns
sent_turns read s item task tasks (Waited a) e = never_waits task a e
sent_turns read s item task tasks (Took ch got) e = omega arith
sent_turns read s item task tasks (Dialled ch) e = omega arith
sent_turns read s item task tasks (Emitted ch ok) e = omega arith

item_turns : (read : Readers) (s : Session) (item : HeardItem) (tasks : List Task) → is_answer_to (next_by s tasks) item.answer ≡ true
    → wait_count item.answer + (after_item read s item tasks).session.turns ≤ s.turns
item_turns read s item [] e = heard_turns read s item item.answer e
item_turns read s item (task ∷ tasks) e = sent_turns read s item task tasks item.answer e

turns_so : (s : Session) (q : Queued) (queue : List Queued) (j : Judged) → (judged_so s q queue j).turns ≡ s.turns
turns_so s q queue (New r) = refl
turns_so s q queue (Clock r) = refl
turns_so s q queue (Told a) = refl

turns_first : (s : Session) (queue : List Queued) → (judged_first s queue).turns ≡ s.turns
unfolding judged_input
turns_first s [] = refl
turns_first s (q ∷ queue) = turns_so s q queue (judgement_in s.run q.input s.clock)

pub waits_within : (read : Readers) (s : Session) (hs : List Happening) → Fits read s hs → waits_in hs + (session_after read s hs).turns ≤ s.turns
waits_within read s [] fits = omega arith
waits_within read s (hears item ∷ hs) fits =
    let next = (session_change read s (hears item)).session in
    omega (arith, item_turns read s item s.desk.tasks fits.0.answers, waits_within read next hs fits.1)
waits_within read s (judges ∷ hs) fits =
    let next = (session_change read s judges).session in
    omega (arith, turns_first s s.queue, waits_within read next hs fits.1)
