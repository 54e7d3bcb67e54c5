-- What a session does is neither a write nor a sync, and goes out at the number of records that stand. So it is a good stretch.
use Rattle.std.proofs.Common.{ℕ, ◌≤◌, Bool, true, false, cond, List, [], ◌∷◌, ◌++◌, map, Option, Some, None, refl, sym, subst, arith}
use Rattle.iss_edge.specs.declared.outside.Channel.{Channel}
use Rattle.iss_edge.specs.declared.outside.Action.{Action}
use Rattle.iss_edge.specs.declared.outside.Action.TheVariants.{Write, Sync, Emit, Dial, Close}
use Rattle.iss_edge.specs.declared.outside.Answered.{Answered}
use Rattle.iss_edge.specs.declared.outside.Answered.TheVariants.{Waited, Took, Dialled, Emitted}
use Rattle.iss_edge.specs.Outer.{torn_actions}
use Rattle.iss_edge.specs.Stretches.{Step, with_levels, actions_of, sent_level, SentUpTo, AreStill, GoesOn}
use Rattle.iss_edge.proofs.StretchLemmas.{still_goes_on, still_append, sent_append, sent_weaker, actions_of-append}
use Rattle.iss_http.specs.Messages.{ask}
use Rattle.iss_session.specs.Items.{HeardItem, Happening, hears, judges, leveled, emit_steps}
use Rattle.iss_session.specs.Desks.{Task, to_dial, to_send, to_reply, Desk, desk_with, task_change, desk_change_by}
use Rattle.iss_session.specs.Links.{Link, LinkHeard, unfinished, outcome, acknowledged, dropped, heard_as, link_reading}
use Rattle.iss_session.specs.Sessions.{Readers, Session, count}
use Rattle.iss_session.specs.Hearings.{Change, after_reading, after_waiting, link_steps, link_at, after_link, is_reading, is_waiting, after_take, after_hearing, after_item}
use Rattle.iss_session.specs.Happenings.{session_change, session_after, session_steps, closings, last_steps}
use Rattle.iss_session.specs.Levels.{LevelsRise, AreStillAt}
use Rattle.iss_session.proofs.Runs.{change_grows, after_grows}

still_at_append : (n : ℕ) (a b : List Step) → AreStillAt n a → AreStillAt n b → AreStillAt n (a ++ b)
still_at_append n [] b sa sb = sb
still_at_append n (step ∷ a) b sa sb = (sa.0, sa.1, still_at_append n a b sa.2 sb)

still_torn : (n : ℕ) (ch : Channel) (torn : Option (List ℕ)) → AreStillAt n (with_levels n (torn_actions ch torn))
still_torn n ch None = tt
still_torn n ch (Some prefix) = (refl, refl, tt)

still_emit : (n : ℕ) (ch : Channel) (text : List ℕ) (ok : Bool) (torn : Option (List ℕ)) → AreStillAt n (emit_steps n ch text ok torn)
still_emit n ch text true torn = (refl, refl, tt)
still_emit n ch text false torn = still_torn n ch torn

still_task : (n : ℕ) (d : Desk) (task : Task) (item : HeardItem) (answer : Answered) → AreStillAt n (task_change n d task item answer).steps
still_task n d (to_dial subject text) item (Dialled (Some ch)) = (refl, refl, tt)
still_task n d (to_dial subject text) item (Dialled None) = tt
still_task n d (to_send ch subject text) item (Emitted to true) = still_emit n ch (ask text) true item.torn
still_task n d (to_send ch subject text) item (Emitted to false) =
    still_at_append n (emit_steps n ch (ask text) false item.torn) (leveled n (Close ch) ∷ []) (still_emit n ch (ask text) false item.torn) (refl, refl, tt)
still_task n d (to_reply ch text) item (Emitted to ok) =
    still_at_append n (emit_steps n ch text ok item.torn) (leveled n (Close ch) ∷ []) (still_emit n ch text ok item.torn) (refl, refl, tt)
still_task n d _ item _ = tt

still_desk : (n : ℕ) (d : Desk) (tasks : List Task) (item : HeardItem) → AreStillAt n (desk_change_by n d tasks item).steps
still_desk n d [] item = tt
still_desk n d (task ∷ tasks) item = still_task n (desk_with tasks d.waiting) task item item.answer

still_reading : (read : Readers) (s : Session) (ch : Channel) (got : Option (List ℕ)) (early : Bool) → AreStillAt (count s) (after_reading read s ch got early).steps
still_reading read s ch None early = (refl, refl, tt)
still_reading read s ch (Some []) early = (refl, refl, tt)
still_reading read s ch (Some (b ∷ piece)) early = tt

still_waiting : (s : Session) (ch : Channel) (got : Option (List ℕ)) → AreStillAt (count s) (after_waiting s ch got).steps
still_waiting s ch None = (refl, refl, tt)
still_waiting s ch (Some piece) = tt

still_heard : (s : Session) (ch : Channel) (heard : LinkHeard) → AreStillAt (count s) (link_steps s ch heard)
still_heard s ch unfinished = tt
still_heard s ch (outcome call o) = (refl, refl, tt)
still_heard s ch (acknowledged n) = (refl, refl, tt)
still_heard s ch (dropped n) = (refl, refl, tt)

still_link : (read : Readers) (s : Session) (ch : Channel) (got : Option (List ℕ)) (early : Bool) (link : Option Link)
    → AreStillAt (count s) (after_link read s ch got early link).steps
still_link read s ch got early None = tt
still_link read s ch got early (Some link) =
    still_heard s ch (heard_as (read.outcome s.run.instance) link.subject (link_reading link got early))

still_either : (n : ℕ) (b : Bool) (x y : Change) → AreStillAt n x.steps → AreStillAt n y.steps → AreStillAt n (cond b x y).steps
still_either n true x y sx sy = sx
still_either n false x y sx sy = sy

still_take : (read : Readers) (s : Session) (ch : Channel) (got : Option (List ℕ)) (early : Bool) → AreStillAt (count s) (after_take read s ch got early).steps
still_take read s ch got early =
    still_either (count s) (is_reading ch s.readers) (after_reading read s ch got early) _ (still_reading read s ch got early)
    (still_either (count s) (is_waiting ch s.desk.waiting) (after_waiting s ch got) (after_link read s ch got early (link_at ch s.links))
    (still_waiting s ch got) (still_link read s ch got early (link_at ch s.links)))

still_hearing : (read : Readers) (s : Session) (item : HeardItem) (answer : Answered) → AreStillAt (count s) (after_hearing read s item answer).steps
still_hearing read s item (Waited arrival) = tt
still_hearing read s item (Took ch got) = still_take read (record s { ready = None }) ch got item.early
still_hearing read s item (Dialled ch) = tt
still_hearing read s item (Emitted ch ok) = tt

still_item : (read : Readers) (s : Session) (item : HeardItem) → AreStillAt (count s) (after_item read s item s.desk.tasks).steps
still_item read s item = by s.desk.tasks
  where
    by : (tasks : List Task) → AreStillAt (count s) (after_item read s item tasks).steps
    by [] = still_hearing read s item item.answer
    by (task ∷ tasks) = still_desk (count s) s.desk s.desk.tasks item

-- what a happening does goes out at the number of records that stand then
pub change_still : (read : Readers) (s : Session) (h : Happening) → AreStillAt (count s) (session_change read s h).steps
change_still read s (hears item) = still_item read s item
change_still read s judges = tt

-- a number of records up to which such steps may be sent

sent_one : (a : Action) (level k : ℕ) → level ≤ k → sent_level a level ≤ k
sent_one (Write at bytes ok) level k le = omega arith
sent_one (Sync ok) level k le = omega arith
sent_one (Emit ch [] ok) level k le = omega arith
sent_one (Emit ch (b ∷ bytes) ok) level k le = le
sent_one (Dial ch) level k le = omega arith
sent_one (Close ch) level k le = omega arith

sent_still : (n k : ℕ) (steps : List Step) → n ≤ k → AreStillAt n steps → SentUpTo k steps
sent_still n k [] le still = tt
sent_still n k (step ∷ steps) le still =
    (sent_one step.action step.level k (subst (λ (m : ℕ). m ≤ k) (sym still.1) le), sent_still n k steps le still.2)

actions_still : (n : ℕ) (steps : List Step) → AreStillAt n steps → AreStill (actions_of steps)
actions_still n [] still = tt
actions_still n (step ∷ steps) still = (still.0, actions_still n steps still.2)

-- each text that goes out has a level of at most the records that stand at the end
pub steps_sent : (read : Readers) (s : Session) (happenings : List Happening) → SentUpTo (count (session_after read s happenings)) (session_steps read s happenings)
steps_sent read s [] = tt
steps_sent read s (h ∷ happenings) =
    let c = session_change read s h in
    let n = count (session_after read c.session happenings) in
    let le : count s ≤ n = omega (arith, change_grows read s h, after_grows read c.session happenings) in
    sent_append n c.steps (session_steps read c.session happenings) (sent_still (count s) n c.steps le (change_still read s h)) (steps_sent read c.session happenings)

-- nothing of it is a write or a sync
pub steps_still : (read : Readers) (s : Session) (happenings : List Happening) → AreStill (actions_of (session_steps read s happenings))
steps_still read s [] = tt
steps_still read s (h ∷ happenings) =
    let c = session_change read s h in
    subst AreStill (sym (actions_of-append c.steps (session_steps read c.session happenings)))
    (still_append (actions_of c.steps) (actions_of (session_steps read c.session happenings)) (actions_still (count s) c.steps (change_still read s h)) (steps_still read c.session happenings))

-- what is done up to j records is a stretch good from j to j
pub stretch_goes_on : (starts stands : List ℕ → ℕ → Type 0) (read : Readers) (s : Session) (happenings : List Happening) (j : ℕ)
    → ((bytes : List ℕ) → starts bytes j → stands bytes j) → count (session_after read s happenings) ≤ j
    → GoesOn starts stands starts j j (session_steps read s happenings)
stretch_goes_on starts stands read s happenings j shows le =
    still_goes_on starts stands j (session_steps read s happenings) shows (steps_still read s happenings)
    (sent_weaker (count (session_after read s happenings)) j (session_steps read s happenings) le (steps_sent read s happenings))

-- the levels never fall

rise_from : (low mid high : ℕ) (steps : List Step) → low ≤ mid → LevelsRise mid high steps → LevelsRise low high steps
rise_from low mid high [] le rise = omega (arith, rise)
rise_from low mid high (step ∷ steps) le rise = (omega (arith, rise.0), rise.1)

rise_then : (low mid high : ℕ) (a b : List Step) → LevelsRise low mid a → LevelsRise mid high b → LevelsRise low high (a ++ b)
rise_then low mid high [] b ra rb = rise_from low mid high b ra rb
rise_then low mid high (step ∷ a) b ra rb = (ra.0, rise_then step.level mid high a b ra.1 rb)

rise_still : (n high : ℕ) (steps : List Step) → n ≤ high → AreStillAt n steps → LevelsRise n high steps
rise_still n high [] le still = le
rise_still n high (step ∷ steps) le still =
    (omega (arith, still.1), subst (λ (m : ℕ). LevelsRise m high steps) (sym still.1) (rise_still n high steps le still.2))

pub levels_rise : (read : Readers) (s : Session) (happenings : List Happening)
    → LevelsRise (count s) (count (session_after read s happenings)) (session_steps read s happenings)
levels_rise read s [] = omega arith
levels_rise read s (h ∷ happenings) =
    let c = session_change read s h in
    rise_then (count s) (count c.session) (count (session_after read c.session happenings)) c.steps (session_steps read c.session happenings)
    (rise_still (count s) (count c.session) c.steps (change_grows read s h) (change_still read s h))
    (levels_rise read c.session happenings)

-- the closes of the channels at the end are still, at the number of records that stand

still_closings : (n : ℕ) (channels : List Channel) → AreStillAt n (closings n channels)
still_closings n [] = tt
still_closings n (ch ∷ channels) = (refl, refl, still_closings n channels)

pub last_still : (s : Session) → AreStillAt (count s) (last_steps s)
last_still s =
    let n = count s in
    let readers = closings n (map (λ r. r.ch) s.readers) in
    let waiting = closings n (map (λ w. w.ch) s.desk.waiting) in
    still_at_append n (readers ++ waiting) (closings n (map (λ l. l.ch) s.links))
    (still_at_append n readers waiting (still_closings n (map (λ r. r.ch) s.readers)) (still_closings n (map (λ w. w.ch) s.desk.waiting)))
    (still_closings n (map (λ l. l.ch) s.links))

pub last_goes_on : (starts stands : List ℕ → ℕ → Type 0) (s : Session) (j : ℕ)
    → ((bytes : List ℕ) → starts bytes j → stands bytes j) → count s ≤ j → GoesOn starts stands starts j j (last_steps s)
last_goes_on starts stands s j shows le =
    still_goes_on starts stands j (last_steps s) shows (actions_still (count s) (last_steps s) (last_still s)) (sent_still (count s) j (last_steps s) le (last_still s))
