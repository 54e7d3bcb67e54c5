-- Each channel that a session receives is closed after the last bytes that go out on it.
use Rattle.std.proofs.Common.{◌≡◌, refl, sym, ap, subst, ◌∙◌, ℕ, Bool, true, false, not, List, [], ◌∷◌, ◌++◌, map, Some, append_assoc, eq-eqb}
use Rattle.std.specs.Prelude.{◌==◌, ◌||◌, ◌&&◌}
use Rattle.std.proofs.lemmas.Bool.{false≢true}
use Rattle.iss_edge.specs.declared.outside.Channel.{Channel}
use Rattle.iss_edge.specs.declared.outside.Arrival.TheVariants.{Client}
use Rattle.iss_edge.specs.declared.outside.Action.{Action}
use Rattle.iss_edge.specs.declared.outside.Answered.{Answered}
use Rattle.iss_edge.specs.declared.outside.Answered.TheVariants.{Waited}
use Rattle.iss_edge.specs.Stretches.{Step, actions_of}
use Rattle.iss_edge.proofs.StretchLemmas.{actions_of-append}
use Rattle.iss_model.specs.run.Runs.{Run}
use Rattle.iss_session.specs.Items.{HeardItem, Happening, hears, nothing, is_answer_to}
use Rattle.iss_session.specs.Desks.{Task, to_dial, to_send, to_reply, next_for}
use Rattle.iss_session.specs.Sessions.{Readers, Queued, Session, session_of, count, next_by, next_idle}
use Rattle.iss_session.specs.Hearings.{Change, after_hearing, after_item}
use Rattle.iss_session.specs.Happenings.{session_change, session_after, session_steps, Fits, IsComplete, closings, last_steps}
use Rattle.iss_session.specs.Openings.{open_after, left_open, ReadsEvents}
use Rattle.iss_session.proofs.Compositions.{after_append, fits_rest}
use Rattle.iss_session.proofs.Held.{is_among, reader_channel, waiter_channel, link_channel, client_channels, IsHeld, reads, sends, awaits, watches, queues, mapped_second}
use Rattle.iss_session.proofs.ClientEvents.{AreEvents, events_stay, events_after}
use Rattle.iss_session.proofs.Keeping.{Keeps, alone, no_tasks}
use Rattle.iss_session.proofs.KeepingTexts.{keeps_happening}

open_append : (n : ℕ) (was : Bool) (a b : List Action) → left_open n was (a ++ b) ≡ left_open n (left_open n was a) b
open_append n was [] b = refl
open_append n was (x ∷ a) b = open_append n (open_after n was x) a b

shut_by : (n : ℕ) (was : Bool) (level : ℕ) (channels : List Channel) → left_open n was (actions_of (closings level channels)) ≡ (was && not (is_among n channels))
shut_by n true level [] = refl
shut_by n false level [] = refl
shut_by n was level (ch ∷ channels) = shut_by n (was && not (ch.0 == n)) level channels ∙ by was (ch.0 == n) (is_among n channels)
  where
    by : (was here rest : Bool) → ((was && not here) && not rest) ≡ (was && not (here || rest))
    by true true true = refl
    by true true false = refl
    by true false true = refl
    by true false false = refl
    by false here rest = refl

-- what the last closings leave open: only what isn't among them
shut_last : (n : ℕ) (was : Bool) (s : Session) → left_open n was (actions_of (last_steps s))
    ≡ (((was && not (is_among n (map reader_channel s.readers))) && not (is_among n (map waiter_channel s.desk.waiting))) && not (is_among n (map link_channel s.links)))
shut_last n was s =
    let level = count s in
    let readers = closings level (map reader_channel s.readers) in
    let waiting = closings level (map waiter_channel s.desk.waiting) in
    let links = closings level (map link_channel s.links) in
    let a = is_among n (map reader_channel s.readers) in
    let b = is_among n (map waiter_channel s.desk.waiting) in
    let both : left_open n was (actions_of (readers ++ waiting)) ≡ ((was && not a) && not b) =
    ap (left_open n was) (actions_of-append readers waiting) ∙ open_append n was (actions_of readers) (actions_of waiting)
    ∙ ap (λ (w : Bool). left_open n w (actions_of waiting)) (shut_by n was level (map reader_channel s.readers))
    ∙ shut_by n (was && not a) level (map waiter_channel s.desk.waiting) in
    ap (left_open n was) (actions_of-append (readers ++ waiting) links) ∙ open_append n was (actions_of (readers ++ waiting)) (actions_of links)
    ∙ ap (λ (w : Bool). left_open n w (actions_of links)) both
    ∙ shut_by n ((was && not a) && not b) level (map link_channel s.links)

first_shut : (was a b c : Bool) → a ≡ true → (((was && not a) && not b) && not c) ≡ false
first_shut true true b c e = refl
first_shut false a b c e = refl
first_shut true false b c e = absurd (false≢true e)

second_shut : (was a b c : Bool) → b ≡ true → (((was && not a) && not b) && not c) ≡ false
second_shut false a b c e = refl
second_shut true true b c e = refl
second_shut true false true c e = refl
second_shut true false false c e = absurd (false≢true e)

third_shut : (was a b c : Bool) → c ≡ true → (((was && not a) && not b) && not c) ≡ false
third_shut false a b c e = refl
third_shut true true b c e = refl
third_shut true false true c e = refl
third_shut true false false true e = refl
third_shut true false false false e = absurd (false≢true e)

-- if nothing comes next, no text is to go out, and nothing is to be judged
over_tasks : (s : Session) (tasks : List Task) → next_by s tasks ≡ nothing → tasks ≡ []
over_tasks s [] e = refl
over_tasks s (to_dial subject text ∷ tasks) e = absurd cc
over_tasks s (to_send ch subject text ∷ tasks) e = absurd cc
over_tasks s (to_reply ch text ∷ tasks) e = absurd cc

over_queue : (s : Session) (queue : List Queued) → next_idle s queue ≡ nothing → queue ≡ []
over_queue s [] e = refl
over_queue s (q ∷ queue) e = absurd cc

shut_held : (n : ℕ) (s : Session) → IsComplete s → IsHeld n s → left_open n true (actions_of (last_steps s)) ≡ false
shut_held n s over (reads h) = shut_last n true s ∙ first_shut true _ _ _ h
shut_held n s over (awaits h) = shut_last n true s ∙ second_shut true _ _ _ h
shut_held n s over (watches h) = shut_last n true s ∙ third_shut true _ _ _ h
shut_held n s over (sends h) = no_tasks n s.desk.tasks (over_tasks s s.desk.tasks over) h
shut_held n s over (queues h) =
    let none : s.desk.tasks ≡ [] = over_tasks s s.desk.tasks over in
    let idle : next_idle s s.queue ≡ nothing = ap (λ (ts : List Task). next_by s ts) (sym none) ∙ over in
    absurd (false≢true (ap (λ (qs : List Queued). is_among n (client_channels qs)) (sym (over_queue s s.queue idle)) ∙ h))

shut_end : (n : ℕ) (was : Bool) (s : Session) → IsComplete s → (was ≡ true → IsHeld n s) → left_open n was (actions_of (last_steps s)) ≡ false
shut_end n true s over held = shut_held n s over (held refl)
shut_end n false s over held = shut_last n false s

held_so : (n : ℕ) (was : Bool) (s : Session) (c : Change) → Keeps n s c → (was ≡ true → IsHeld n s) → left_open n was (actions_of c.steps) ≡ true → IsHeld n c.session
held_so n true s c keeps held e = keeps.held (held refl) e
held_so n false s c keeps held e = keeps.opened e

-- a channel that is open only if it is held is closed at the end, after all that goes out on it
pub all_closed : (read : Readers) → ReadsEvents read → (n : ℕ) (was : Bool) (s : Session) (hs : List Happening) → Fits read s hs
    → IsComplete (session_after read s hs) → AreEvents s.queue → (was ≡ true → IsHeld n s)
    → left_open n was (actions_of (session_steps read s hs ++ last_steps (session_after read s hs))) ≡ false
all_closed read sound n was s [] fits over events held = shut_end n was s over held
all_closed read sound n was s (h ∷ hs) fits over events held =
    let c = session_change read s h in
    let rest = session_steps read c.session hs ++ last_steps (session_after read c.session hs) in
    ap (λ (steps : List Step). left_open n was (actions_of steps)) (append_assoc c.steps (session_steps read c.session hs) (last_steps (session_after read c.session hs)))
    ∙ ap (left_open n was) (actions_of-append c.steps rest)
    ∙ open_append n was (actions_of c.steps) (actions_of rest)
    ∙ all_closed read sound n (left_open n was (actions_of c.steps)) c.session hs fits.1 over (events_stay read sound s h events)
    (held_so n was s c (keeps_happening read n s h events fits.0) held)

-- a client's channel is held from its arrival on
client_held : (read : Readers) (s : Session) (item : HeardItem) (ch : Channel) (tasks : List Task) → item.answer ≡ Waited (Some (Client ch))
    → is_answer_to (next_by s tasks) item.answer ≡ true → IsHeld ch.0 (after_item read s item tasks).session
client_held read s item ch [] is a =
    subst (λ (answer : Answered). IsHeld ch.0 (after_hearing read s item answer).session) (sym is)
    (reads (mapped_second reader_channel ch.0 s.readers (record { ch = ch; bytes = [] } ∷ []) (alone ch.0 ch (eq-eqb ch.0 ch.0 refl))))
client_held read s item ch (task ∷ tasks) is a = never task (ap (is_answer_to (next_for task)) (sym is) ∙ a)
  where
    never : {A : Type 0} (task : Task) → is_answer_to (next_for task) (Waited (Some (Client ch))) ≡ true → A
    never (to_dial subject text) e = absurd (false≢true e)
    never (to_send to subject text) e = absurd (false≢true e)
    never (to_reply to text) e = absurd (false≢true e)

-- a client's channel is closed after all that goes out on it
pub client_closed : (read : Readers) → ReadsEvents read → (s : Session) (before after : List Happening) (item : HeardItem) (ch : Channel)
    → item.answer ≡ Waited (Some (Client ch)) → Fits read s (before ++ hears item ∷ after) → IsComplete (session_after read s (before ++ hears item ∷ after))
    → AreEvents s.queue
    → let t = session_after read s (before ++ hears item ∷ []) in left_open ch.0 true (actions_of (session_steps read t after ++ last_steps (session_after read t after))) ≡ false
client_closed read sound s before after item ch is fits over events =
    let m = session_after read s before in
    let u = (session_change read m (hears item)).session in
    let rest = fits_rest read s before (hears item ∷ after) fits in
    let same : session_after read s (before ++ hears item ∷ []) ≡ u = after_append read s before (hears item ∷ []) in
    let ends : IsComplete (session_after read u after) = subst IsComplete (after_append read s before (hears item ∷ after)) over in
    let closed : left_open ch.0 true (actions_of (session_steps read u after ++ last_steps (session_after read u after))) ≡ false =
    all_closed read sound ch.0 true u after rest.1 ends (events_stay read sound m (hears item) (events_after read sound s before events))
    (λ e. client_held read m item ch m.desk.tasks is rest.0.answers) in
    subst (λ (t : Session). left_open ch.0 true (actions_of (session_steps read t after ++ last_steps (session_after read t after))) ≡ false) (sym same) closed

-- the same of whole runs

pub run_closed : (read : Readers) (run : Run) (turns : ℕ) (hs : List Happening) (n : ℕ) → ReadsEvents read → Fits read (session_of run turns) hs
    → IsComplete (session_after read (session_of run turns) hs)
    → left_open n false (actions_of (session_steps read (session_of run turns) hs ++ last_steps (session_after read (session_of run turns) hs))) ≡ false
run_closed read run turns hs n sound fits over =
    all_closed read sound n false (session_of run turns) hs fits over tt (λ e. absurd (false≢true e))

pub run_client_closed : (read : Readers) (run : Run) (turns : ℕ) (before after : List Happening) (item : HeardItem) (ch : Channel) → ReadsEvents read
    → item.answer ≡ Waited (Some (Client ch)) → Fits read (session_of run turns) (before ++ hears item ∷ after)
    → IsComplete (session_after read (session_of run turns) (before ++ hears item ∷ after))
    → let t = session_after read (session_of run turns) (before ++ hears item ∷ []) in
    left_open ch.0 true (actions_of (session_steps read t after ++ last_steps (session_after read t after))) ≡ false
run_client_closed read run turns before after item ch sound is fits over =
    client_closed read sound (session_of run turns) before after item ch is fits over tt
