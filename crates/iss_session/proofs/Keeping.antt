-- A channel that a session is given stays held until it is closed.
use Rattle.std.proofs.Common.{◌≡◌, refl, sym, ap, ◌∙◌, ℕ, Bool, true, false, cond, List, [], ◌∷◌, ◌++◌, map, Option, Some, None}
use Rattle.std.specs.Prelude.{◌==◌, Result, Ok, Err}
use Rattle.std.proofs.lemmas.Bool.{false≢true}
use Rattle.iss_edge.specs.declared.outside.Channel.{Channel}
use Rattle.iss_edge.specs.declared.outside.Arrival.{Arrival}
use Rattle.iss_edge.specs.declared.outside.Arrival.TheVariants.{Client, Ready, Time, Idle, End}
use Rattle.iss_edge.specs.declared.outside.Action.TheVariants.{Close}
use Rattle.iss_edge.specs.declared.outside.Answered.{Answered}
use Rattle.iss_edge.specs.declared.outside.Answered.TheVariants.{Waited, Took, Dialled, Emitted}
use Rattle.iss_edge.specs.Stretches.{actions_of}
use Rattle.iss_model.specs.declared.input.Input.{Input}
use Rattle.iss_http.specs.Requests.{Request, more, body, faulty}
use Rattle.iss_session.specs.Items.{HeardItem, leveled, same_channel}
use Rattle.iss_session.specs.Desks.{Task}
use Rattle.iss_session.specs.Links.{Link, LinkHeard, unfinished, outcome, acknowledged, dropped, heard_as, link_reading, links_with, links_without}
use Rattle.iss_session.specs.Sessions.{Readers, OpenRequest, Queued, Session, count}
use Rattle.iss_session.specs.Hearings.{Change, change_to, after_arrival, one_less, readers_without, readers_with, after_line, after_request, after_reading, after_waiting, after_answer, after_link, link_at, is_reading, is_waiting, after_take, after_hearing}
use Rattle.iss_session.specs.Openings.{left_open}
use Rattle.iss_session.proofs.Held.{is_among, reader_channel, waiter_channel, link_channel, task_channels, IsHeld, reads, sends, awaits, watches, queues, or_left, not_true, mapped_first, among_without, queued_first, queued_second, HoldsMore, held_more}

-- what a change does with the channel of a number: what was held is held, or was closed, and what was opened is held
pub record Keeps (n : ℕ) (s : Session) (c : Change) : Type 0 where
  pub held : IsHeld n s → left_open n true (actions_of c.steps) ≡ true → IsHeld n c.session
  pub opened : left_open n false (actions_of c.steps) ≡ true → IsHeld n c.session

-- by whether a channel is the one of this number
pub by_number : {A : Type 0} (b : Bool) → (b ≡ true → A) → (b ≡ false → A) → A
by_number true same different = same refl
by_number false same different = different refl

-- nothing is done, and all is held that was
pub silent : (n : ℕ) (s t : Session) → HoldsMore n s t → Keeps n s (change_to t [])
silent n s t holds = record { held = λ h e. held_more n s t holds h; opened = λ e. absurd (false≢true e) }

pub same_held : (n : ℕ) (s : Session) → HoldsMore n s s
same_held n s = record { reading = λ h. reads h; tasks = λ h. sends h; waiting = λ h. awaits h; links = λ h. watches h; queue = λ h. queues h }

-- no text is to go out
pub no_tasks : {A : Type 0} (n : ℕ) (tasks : List Task) → tasks ≡ [] → is_among n (task_channels tasks) ≡ true → A
no_tasks n tasks none h = absurd (false≢true (ap (λ (ts : List Task). is_among n (task_channels ts)) (sym none) ∙ h))

-- arrivals

keeps_arrival : (n : ℕ) (s : Session) (a : Option Arrival) → HoldsMore n s (after_arrival s a)
keeps_arrival n s None = record { reading = λ h. reads h; tasks = λ h. sends h; waiting = λ h. awaits h; links = λ h. watches h; queue = λ h. queues h }
keeps_arrival n s (Some (Client ch)) =
    record {
      reading = λ h. reads (mapped_first reader_channel n s.readers (record { ch = ch; bytes = [] } ∷ []) h);
      tasks = λ h. sends h;
      waiting = λ h. awaits h;
      links = λ h. watches h;
      queue = λ h. queues h;
    }
keeps_arrival n s (Some (Ready ch)) = record { reading = λ h. reads h; tasks = λ h. sends h; waiting = λ h. awaits h; links = λ h. watches h; queue = λ h. queues h }
keeps_arrival n s (Some (Time at)) =
    record {
      reading = λ h. reads h;
      tasks = λ h. sends h;
      waiting = λ h. awaits h;
      links = λ h. watches h;
      queue = λ h. queues (queued_first n s.queue _ h);
    }
keeps_arrival n s (Some Idle) = same_held n s
keeps_arrival n s (Some End) = record { reading = λ h. reads h; tasks = λ h. sends h; waiting = λ h. awaits h; links = λ h. watches h; queue = λ h. queues h }

-- requests

-- a channel leaves those whose requests aren't whole, for another place
leaves_readers : (n : ℕ) (ch : Channel) (s t : Session) → t.readers ≡ readers_without ch s.readers → ((ch.0 == n) ≡ true → IsHeld n t)
    → is_among n (map reader_channel s.readers) ≡ true → IsHeld n t
leaves_readers n ch s t without placed h =
    by_number (ch.0 == n) placed
    (λ other. reads (ap (λ (rs : List OpenRequest). is_among n (map reader_channel rs)) without ∙ among_without reader_channel n ch s.readers other h))

-- the channel of this number is the only one
pub alone : (n : ℕ) (ch : Channel) → (ch.0 == n) ≡ true → is_among n (ch ∷ []) ≡ true
alone n ch e = or_left (ch.0 == n) false e

keeps_line : (n : ℕ) (s : Session) (ch : Channel) (line : Result Input (List ℕ)) → s.desk.tasks ≡ []
    → HoldsMore n s (after_line (record s { readers = readers_without ch s.readers }) ch line)
keeps_line n s ch (Ok i) none =
    record {
      reading = leaves_readers n ch s _ refl (λ e. queues (queued_second n s.queue (record { input = i; client = Some ch } ∷ []) (alone n ch e)));
      tasks = λ h. sends h;
      waiting = λ h. awaits h;
      links = λ h. watches h;
      queue = λ h. queues (queued_first n s.queue _ h);
    }
keeps_line n s ch (Err text) none =
    record {
      reading = leaves_readers n ch s _ refl (λ e. sends (alone n ch e));
      tasks = no_tasks n s.desk.tasks none;
      waiting = λ h. awaits h;
      links = λ h. watches h;
      queue = λ h. queues h;
    }

readers_same : (ch : Channel) (bytes : List ℕ) (readers : List OpenRequest) → map reader_channel (readers_with ch bytes readers) ≡ map reader_channel readers
readers_same ch bytes [] = refl
readers_same ch bytes (r ∷ readers) = by (same_channel r.ch ch) (readers_with ch bytes readers) (readers_same ch bytes readers)
  where
    by : (b : Bool) (changed : List OpenRequest) → map reader_channel changed ≡ map reader_channel readers
        → map reader_channel (cond b (record r { bytes = bytes } ∷ readers) (r ∷ changed)) ≡ map reader_channel (r ∷ readers)
    by true changed same = refl
    by false changed same = ap (λ (channels : List Channel). r.ch ∷ channels) same

keeps_request : (read : Readers) (n : ℕ) (s : Session) (ch : Channel) (bytes : List ℕ) (r : Request) → s.desk.tasks ≡ []
    → HoldsMore n s (after_request read s ch bytes r)
keeps_request read n s ch bytes more none =
    record {
      reading = λ h. reads (ap (is_among n) (readers_same ch bytes s.readers) ∙ h);
      tasks = λ h. sends h;
      waiting = λ h. awaits h;
      links = λ h. watches h;
      queue = λ h. queues h;
    }
keeps_request read n s ch bytes (body text) none = keeps_line n s ch (read.line text) none
keeps_request read n s ch bytes (faulty fault) none =
    record {
      reading = leaves_readers n ch s _ refl (λ e. sends (alone n ch e));
      tasks = no_tasks n s.desk.tasks none;
      waiting = λ h. awaits h;
      links = λ h. watches h;
      queue = λ h. queues h;
    }

-- a channel that is closed: what stands on another one stays where it is
keeps_gone : (n : ℕ) (s : Session) (ch : Channel) → Keeps n s (change_to (record s { readers = readers_without ch s.readers }) (leveled (count s) (Close ch) ∷ []))
keeps_gone n s ch =
    record {
      held = λ h e. held_more n s _ (record {
        reading = λ h. reads (among_without reader_channel n ch s.readers (not_true (ch.0 == n) e) h);
        tasks = λ h. sends h;
        waiting = λ h. awaits h;
        links = λ h. watches h;
        queue = λ h. queues h;
      }) h;
      opened = λ e. absurd (false≢true e);
    }

keeps_reading : (read : Readers) (n : ℕ) (s : Session) (ch : Channel) (got : Option (List ℕ)) (early : Bool) → s.desk.tasks ≡ []
    → Keeps n s (after_reading read s ch got early)
keeps_reading read n s ch None early none = keeps_gone n s ch
keeps_reading read n s ch (Some []) early none = keeps_gone n s ch
keeps_reading read n s ch (Some (b ∷ piece)) early none = silent n s _ (keeps_request read n s ch _ _ none)

keeps_waiting : (n : ℕ) (s : Session) (ch : Channel) (got : Option (List ℕ)) → Keeps n s (after_waiting s ch got)
keeps_waiting n s ch (Some piece) = silent n s s (same_held n s)
keeps_waiting n s ch None =
    record {
      held = λ h e. held_more n s _ (record {
        reading = λ h. reads h;
        tasks = λ h. sends h;
        waiting = λ h. awaits (among_without waiter_channel n ch s.desk.waiting (not_true (ch.0 == n) e) h);
        links = λ h. watches h;
        queue = λ h. queues h;
      }) h;
      opened = λ e. absurd (false≢true e);
    }

-- answers of the gateway

links_same : (ch : Channel) (piece : List ℕ) (links : List Link) → map link_channel (links_with ch piece links) ≡ map link_channel links
links_same ch piece [] = refl
links_same ch piece (link ∷ links) = by (same_channel link.ch ch) (links_with ch piece links) (links_same ch piece links)
  where
    by : (b : Bool) (changed : List Link) → map link_channel changed ≡ map link_channel links
        → map link_channel (cond b (record link { bytes = link.bytes ++ piece } ∷ links) (link ∷ changed)) ≡ map link_channel (link ∷ links)
    by true changed same = refl
    by false changed same = ap (λ (channels : List Channel). link.ch ∷ channels) same

-- a link is left, and this is to be judged
keeps_left : (n : ℕ) (s : Session) (ch : Channel) (more_queue : List Queued)
    → Keeps n s (change_to (record s { links = links_without ch s.links; queue = s.queue ++ more_queue }) (leveled (count s) (Close ch) ∷ []))
keeps_left n s ch more_queue =
    record {
      held = λ h e. held_more n s _ (record {
        reading = λ h. reads h;
        tasks = λ h. sends h;
        waiting = λ h. awaits h;
        links = λ h. watches (among_without link_channel n ch s.links (not_true (ch.0 == n) e) h);
        queue = λ h. queues (queued_first n s.queue more_queue h);
      }) h;
      opened = λ e. absurd (false≢true e);
    }

keeps_answer : (n : ℕ) (s : Session) (ch : Channel) (piece : List ℕ) (heard : LinkHeard) → Keeps n s (after_answer s ch piece heard)
keeps_answer n s ch piece unfinished =
    silent n s _ (record {
      reading = λ h. reads h;
      tasks = λ h. sends h;
      waiting = λ h. awaits h;
      links = λ h. watches (ap (is_among n) (links_same ch piece s.links) ∙ h);
      queue = λ h. queues (queued_first n s.queue [] h);
    })
keeps_answer n s ch piece (outcome call o) = keeps_left n s ch _
keeps_answer n s ch piece (acknowledged k) = keeps_left n s ch _
keeps_answer n s ch piece (dropped k) = keeps_left n s ch []

keeps_link : (read : Readers) (n : ℕ) (s : Session) (ch : Channel) (got : Option (List ℕ)) (early : Bool) (link : Option Link)
    → Keeps n s (after_link read s ch got early link)
keeps_link read n s ch got early None = silent n s s (same_held n s)
keeps_link read n s ch got early (Some link) =
    keeps_answer n s ch _ (heard_as (read.outcome s.run.instance) link.subject (link_reading link got early))

keeps_either : (n : ℕ) (s : Session) (b : Bool) (x y : Change) → Keeps n s x → Keeps n s y → Keeps n s (cond b x y)
keeps_either n s true x y kx ky = kx
keeps_either n s false x y kx ky = ky

keeps_take : (read : Readers) (n : ℕ) (s : Session) (ch : Channel) (got : Option (List ℕ)) (early : Bool) → s.desk.tasks ≡ []
    → Keeps n s (after_take read s ch got early)
keeps_take read n s ch got early none =
    keeps_either n s (is_reading ch s.readers) (after_reading read s ch got early) _ (keeps_reading read n s ch got early none)
    (keeps_either n s (is_waiting ch s.desk.waiting) (after_waiting s ch got) (after_link read s ch got early (link_at ch s.links))
    (keeps_waiting n s ch got) (keeps_link read n s ch got early (link_at ch s.links)))

-- a field that holds no channel may differ
same_places : (n : ℕ) (s t : Session) (c : Change) → HoldsMore n s t → Keeps n t c → Keeps n s c
same_places n s t c holds keeps = record { held = λ h e. keeps.held (held_more n s t holds h) e; opened = keeps.opened }

pub keeps_hearing : (read : Readers) (n : ℕ) (s : Session) (item : HeardItem) (answer : Answered) → s.desk.tasks ≡ []
    → Keeps n s (after_hearing read s item answer)
keeps_hearing read n s item (Waited arrival) none =
    same_places n s (record s { turns = one_less s.turns }) _
    (record { reading = λ h. reads h; tasks = λ h. sends h; waiting = λ h. awaits h; links = λ h. watches h; queue = λ h. queues h })
    (silent n (record s { turns = one_less s.turns }) _ (keeps_arrival n (record s { turns = one_less s.turns }) arrival))
keeps_hearing read n s item (Took ch got) none =
    same_places n s (record s { ready = None }) _
    (record { reading = λ h. reads h; tasks = λ h. sends h; waiting = λ h. awaits h; links = λ h. watches h; queue = λ h. queues h })
    (keeps_take read n (record s { ready = None }) ch got item.early none)
keeps_hearing read n s item (Dialled ch) none = silent n s s (same_held n s)
keeps_hearing read n s item (Emitted ch ok) none = silent n s s (same_held n s)
