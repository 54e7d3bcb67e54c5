-- Channels stay held as texts go out, and as inputs are judged.
use Rattle.std.proofs.Common.{◌≡◌, refl, sym, ap, subst, ◌∙◌, ℕ, Bool, true, false, not, List, [], ◌∷◌, ◌++◌, map, Option, Some, None}
use Rattle.std.specs.Prelude.{◌==◌, ◌||◌, ◌&&◌}
use Rattle.std.specs.List.{flat_map}
use Rattle.std.proofs.lemmas.Bool.{false≢true}
use Rattle.iss_edge.specs.declared.outside.Channel.{Channel}
use Rattle.iss_edge.specs.declared.outside.Action.TheVariants.{Close}
use Rattle.iss_edge.specs.declared.outside.Answered.{Answered}
use Rattle.iss_edge.specs.declared.outside.Answered.TheVariants.{Waited, Took, Dialled, Emitted}
use Rattle.iss_edge.specs.Outer.{torn_actions}
use Rattle.iss_edge.specs.Stretches.{with_levels, actions_of}
use Rattle.iss_model.specs.declared.decision.Answer.{Answer}
use Rattle.iss_model.specs.declared.decision.Judged.{Judged}
use Rattle.iss_model.specs.declared.decision.Judged.TheVariants.{New, Clock, Told}
use Rattle.iss_model.specs.Inputs.{event_token}
use Rattle.iss_model.specs.run.Runs.{judgement_in}
use Rattle.iss_http.specs.Messages.{ask}
use Rattle.iss_session.specs.Items.{HeardItem, Happening, hears, judges, judging, is_answer_to, leveled, emit_steps}
use Rattle.iss_session.specs.Desks.{Subject, reached, Task, to_dial, to_send, to_reply, TextFate, Waiter, Desk, desk_with, next_for, gone_unsent, task_change, desk_change_by}
use Rattle.iss_session.specs.Sessions.{Readers, Queued, Session, count, next_by}
use Rattle.iss_session.specs.Judgements.{answer_tasks, waiters_of, judged_so, judged_input, judged_first}
use Rattle.iss_session.specs.Hearings.{links_of, queued_of, after_desk, after_item}
use Rattle.iss_session.specs.Happenings.{Follows, session_change}
use Rattle.iss_session.specs.Openings.{left_open}
use Rattle.iss_session.proofs.Held.{is_among, and_client, waiter_channel, link_channel, task_channels, client_channels, IsHeld, reads, sends, awaits, watches, queues, or_left, or_right, or_rest, not_true, mapped_first, mapped_second, among_without, queued_first, HoldsMore, held_more}
use Rattle.iss_session.proofs.ClientEvents.{IsEventOf, AreEvents}
use Rattle.iss_session.proofs.Keeping.{Keeps, by_number, silent, same_held, no_tasks, alone, keeps_hearing}

-- texts

-- what was torn off opens no other channel than its own
torn_other : (n : ℕ) (was : Bool) (level : ℕ) (ch : Channel) (torn : Option (List ℕ))
    → left_open n was (actions_of (with_levels level (torn_actions ch torn) ++ leveled level (Close ch) ∷ [])) ≡ true → (ch.0 == n) ≡ false
torn_other n was level ch None e = closed_other was (ch.0 == n) e
  where
    closed_other : (was b : Bool) → (was && not b) ≡ true → b ≡ false
    closed_other true b e = not_true b e
    closed_other false b e = absurd (false≢true e)
torn_other n was level ch (Some prefix) e = closed_other (was || ch.0 == n) (ch.0 == n) e
  where
    closed_other : (was b : Bool) → (was && not b) ≡ true → b ≡ false
    closed_other true b e = not_true b e
    closed_other false b e = absurd (false≢true e)

emit_other : (n : ℕ) (was : Bool) (level : ℕ) (ch : Channel) (text : List ℕ) (ok : Bool) (torn : Option (List ℕ))
    → left_open n was (actions_of (emit_steps level ch text ok torn ++ leveled level (Close ch) ∷ [])) ≡ true → (ch.0 == n) ≡ false
emit_other n was level ch text true torn e = torn_other n was level ch (Some text) e
emit_other n was level ch text false torn e = torn_other n was level ch torn e

-- what was torn off opens no channel at all
torn_shut : {A : Type 0} (n : ℕ) (level : ℕ) (ch : Channel) (torn : Option (List ℕ))
    → left_open n false (actions_of (with_levels level (torn_actions ch torn) ++ leveled level (Close ch) ∷ [])) ≡ true → A
torn_shut n level ch None e = absurd (false≢true e)
torn_shut n level ch (Some prefix) e = absurd (false≢true (sym (never (ch.0 == n)) ∙ e))
  where
    never : (b : Bool) → (b && not b) ≡ false
    never true = refl
    never false = refl

emit_shut : {A : Type 0} (n : ℕ) (level : ℕ) (ch : Channel) (text : List ℕ) (ok : Bool) (torn : Option (List ℕ))
    → left_open n false (actions_of (emit_steps level ch text ok torn ++ leveled level (Close ch) ∷ [])) ≡ true → A
emit_shut n level ch text true torn e = torn_shut n level ch (Some text) e
emit_shut n level ch text false torn e = torn_shut n level ch torn e

-- the session after a desk's change
abbrev after_gone : Session → Desk → List TextFate → Session
after_gone s d gone = record s { links = s.links ++ flat_map links_of gone; queue = s.queue ++ flat_map queued_of gone; desk = d }

-- what a desk's change holds, if its desk holds these texts and clients
desk_holds : (n : ℕ) (s : Session) (d : Desk) (gone : List TextFate) → (is_among n (task_channels s.desk.tasks) ≡ true → IsHeld n (after_gone s d gone))
    → (is_among n (map waiter_channel s.desk.waiting) ≡ true → IsHeld n (after_gone s d gone)) → HoldsMore n s (after_gone s d gone)
desk_holds n s d gone tasks waiting =
    record {
      reading = λ h. reads h;
      tasks = tasks;
      waiting = waiting;
      links = λ h. watches (mapped_first link_channel n s.links (flat_map links_of gone) h);
      queue = λ h. queues (queued_first n s.queue (flat_map queued_of gone) h);
    }

-- a text went out on this channel
abbrev sent_on : Channel → Subject → List TextFate
sent_on ch subject = reached ch subject ∷ []

keeps_task : (n : ℕ) (s : Session) (task : Task) (tasks : List Task) (item : HeardItem) (answer : Answered) → is_answer_to (next_for task) answer ≡ true
    → s.desk.tasks ≡ task ∷ tasks → Keeps n s (after_desk s (task_change (count s) (desk_with tasks s.desk.waiting) task item answer))
keeps_task n s (to_dial subject text) tasks item (Dialled (Some ch)) a is =
    record {
      held = λ h e. held_more n s _ (desk_holds n s _ [] (λ t. sends (or_right (ch.0 == n) (is_among n (task_channels tasks)) (ap (λ (ts : List Task). is_among n (task_channels ts)) (sym is) ∙ t))) (λ w. awaits w)) h;
      opened = λ e. sends (or_left (ch.0 == n) (is_among n (task_channels tasks)) e);
    }
keeps_task n s (to_dial subject text) tasks item (Dialled None) a is =
    silent n s _ (desk_holds n s _ (gone_unsent subject) (λ t. sends (ap (λ (ts : List Task). is_among n (task_channels ts)) (sym is) ∙ t)) (λ w. awaits w))
keeps_task n s (to_dial subject text) tasks item (Waited arrival) a is = absurd (false≢true a)
keeps_task n s (to_dial subject text) tasks item (Took ch got) a is = absurd (false≢true a)
keeps_task n s (to_dial subject text) tasks item (Emitted ch ok) a is = absurd (false≢true a)
keeps_task n s (to_send ch subject text) tasks item (Emitted to true) a is =
    let linked : is_among n (ch ∷ []) ≡ true → IsHeld n (after_gone s (desk_with tasks s.desk.waiting) (sent_on ch subject)) =
    λ e. watches (mapped_second link_channel n s.links (flat_map links_of (sent_on ch subject)) e) in
    record {
      held = λ h e. held_more n s _ (desk_holds n s _ (sent_on ch subject)
          (λ t. by_number (ch.0 == n) (λ y. linked (alone n ch y))
          (λ o. sends (or_rest (ch.0 == n) (is_among n (task_channels tasks)) o (ap (λ (ts : List Task). is_among n (task_channels ts)) (sym is) ∙ t))))
          (λ w. awaits w)) h;
      opened = λ e. linked (alone n ch e);
    }
keeps_task n s (to_send ch subject text) tasks item (Emitted to false) a is =
    record {
      held = λ h e.
          let other : (ch.0 == n) ≡ false = emit_other n true (count s) ch (ask text) false item.torn e in
          held_more n s _ (desk_holds n s _ (gone_unsent subject)
          (λ t. sends (or_rest (ch.0 == n) (is_among n (task_channels tasks)) other (ap (λ (ts : List Task). is_among n (task_channels ts)) (sym is) ∙ t))) (λ w. awaits w)) h;
      opened = λ e. emit_shut n (count s) ch (ask text) false item.torn e;
    }
keeps_task n s (to_send ch subject text) tasks item (Waited arrival) a is = absurd (false≢true a)
keeps_task n s (to_send ch subject text) tasks item (Took from got) a is = absurd (false≢true a)
keeps_task n s (to_send ch subject text) tasks item (Dialled to) a is = absurd (false≢true a)
keeps_task n s (to_reply ch text) tasks item (Emitted to ok) a is =
    record {
      held = λ h e.
          let other : (ch.0 == n) ≡ false = emit_other n true (count s) ch text ok item.torn e in
          held_more n s _ (desk_holds n s _ []
          (λ t. sends (or_rest (ch.0 == n) (is_among n (task_channels tasks)) other (ap (λ (ts : List Task). is_among n (task_channels ts)) (sym is) ∙ t)))
          (λ w. awaits (among_without waiter_channel n ch s.desk.waiting other w))) h;
      opened = λ e. emit_shut n (count s) ch text ok item.torn e;
    }
keeps_task n s (to_reply ch text) tasks item (Waited arrival) a is = absurd (false≢true a)
keeps_task n s (to_reply ch text) tasks item (Took from got) a is = absurd (false≢true a)
keeps_task n s (to_reply ch text) tasks item (Dialled to) a is = absurd (false≢true a)

-- one item

keeps_item : (read : Readers) (n : ℕ) (s : Session) (item : HeardItem) (tasks : List Task) → s.desk.tasks ≡ tasks → is_answer_to (next_by s tasks) item.answer ≡ true
    → Keeps n s (after_item read s item tasks)
keeps_item read n s item [] is a = keeps_hearing read n s item item.answer is
keeps_item read n s item (task ∷ tasks) is a =
    subst (λ (ts : List Task). Keeps n s (after_desk s (desk_change_by (count s) s.desk ts item))) (sym is) (keeps_task n s task tasks item item.answer a is)

-- judging

-- a client whose event is new waits for it
client_waits : (n : ℕ) (client : Option Channel) (token : Option (List ℕ)) (rest : List Queued) (s t : Session) → IsEventOf client token
    → t.desk.waiting ≡ s.desk.waiting ++ waiters_of client token → t.queue ≡ rest → is_among n (and_client client (client_channels rest)) ≡ true → IsHeld n t
client_waits n None token rest s t event waiting queue h = queues (ap (λ (qs : List Queued). is_among n (client_channels qs)) queue ∙ h)
client_waits n (Some ch) None rest s t event waiting queue h = absurd (false≢true event)
client_waits n (Some ch) (Some token) rest s t event waiting queue h =
    by_number (ch.0 == n)
    (λ y. awaits (ap (λ (ws : List Waiter). is_among n (map waiter_channel ws)) waiting
    ∙ mapped_second waiter_channel n s.desk.waiting (record { event = token; ch = ch } ∷ []) (alone n ch y)))
    (λ o. queues (ap (λ (qs : List Queued). is_among n (client_channels qs)) queue ∙ or_rest (ch.0 == n) (is_among n (client_channels rest)) o h))

-- a client that receives an answer has a text that is to go out
client_told : (n : ℕ) (client : Option Channel) (a : Answer) (rest : List Queued) (t : Session) → t.desk.tasks ≡ answer_tasks client a → t.queue ≡ rest
    → is_among n (and_client client (client_channels rest)) ≡ true → IsHeld n t
client_told n None a rest t tasks queue h = queues (ap (λ (qs : List Queued). is_among n (client_channels qs)) queue ∙ h)
client_told n (Some ch) a rest t tasks queue h =
    by_number (ch.0 == n)
    (λ y. sends (ap (λ (ts : List Task). is_among n (task_channels ts)) tasks ∙ alone n ch y))
    (λ o. queues (ap (λ (qs : List Queued). is_among n (client_channels qs)) queue ∙ or_rest (ch.0 == n) (is_among n (client_channels rest)) o h))

keeps_so : (n : ℕ) (s : Session) (q : Queued) (queue : List Queued) (j : Judged) → s.desk.tasks ≡ [] → s.queue ≡ q ∷ queue
    → IsEventOf q.client (event_token q.input) → HoldsMore n s (judged_so s q queue j)
keeps_so n s q queue (New r) none is event =
    record {
      reading = λ h. reads h;
      tasks = no_tasks n s.desk.tasks none;
      waiting = λ h. awaits (mapped_first waiter_channel n s.desk.waiting (waiters_of q.client (event_token q.input)) h);
      links = λ h. watches h;
      queue = λ h. client_waits n q.client (event_token q.input) queue s _ event refl refl (ap (λ (qs : List Queued). is_among n (client_channels qs)) (sym is) ∙ h);
    }
keeps_so n s q queue (Clock r) none is event =
    record {
      reading = λ h. reads h;
      tasks = no_tasks n s.desk.tasks none;
      waiting = λ h. awaits h;
      links = λ h. watches h;
      queue = λ h. queues (ap (λ (qs : List Queued). is_among n (client_channels qs)) (sym is) ∙ h);
    }
keeps_so n s q queue (Told a) none is event =
    record {
      reading = λ h. reads h;
      tasks = no_tasks n s.desk.tasks none;
      waiting = λ h. awaits h;
      links = λ h. watches h;
      queue = λ h. client_told n q.client a queue _ refl refl (ap (λ (qs : List Queued). is_among n (client_channels qs)) (sym is) ∙ h);
    }

keeps_input : (n : ℕ) (s : Session) (q : Queued) (queue : List Queued) → s.desk.tasks ≡ [] → s.queue ≡ q ∷ queue
    → IsEventOf q.client (event_token q.input) → HoldsMore n s (judged_input s q queue)
unfolding judged_input
keeps_input n s q queue none is event = keeps_so n s q queue (judgement_in s.run q.input s.clock) none is event

-- if an input is judged, no text is to go out
judging_none : (s : Session) (tasks : List Task) → next_by s tasks ≡ judging → tasks ≡ []
judging_none s [] e = refl
judging_none s (to_dial subject text ∷ tasks) e = absurd cc
judging_none s (to_send ch subject text ∷ tasks) e = absurd cc
judging_none s (to_reply ch text ∷ tasks) e = absurd cc

keeps_first : (n : ℕ) (s : Session) (queue : List Queued) → s.desk.tasks ≡ [] → s.queue ≡ queue → AreEvents queue → HoldsMore n s (judged_first s queue)
keeps_first n s [] none is events = same_held n s
keeps_first n s (q ∷ queue) none is events = keeps_input n s q queue none is events.0

pub keeps_happening : (read : Readers) (n : ℕ) (s : Session) (h : Happening) → AreEvents s.queue → Follows s h → Keeps n s (session_change read s h)
keeps_happening read n s (hears item) events next = keeps_item read n s item s.desk.tasks refl next.answers
keeps_happening read n s judges events next =
    silent n s _ (keeps_first n s s.queue (judging_none s s.desk.tasks next) refl events)
