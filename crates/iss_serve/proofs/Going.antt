-- Parts of a run that serves, one after the other, and each kind of them.
use Rattle.std.proofs.Common.{◌≡◌, ℕ, ◌≤◌, inl, inr, true, List, Some, None, [], ◌∷◌, ◌++◌, length, refl, sym, ap, subst, ◌∙◌, append-nil, append_assoc, arith}
use Rattle.std.specs.List.{list_all}
use Rattle.std.proofs.lemmas.Bool.{false≢true, and_from}
use Rattle.std.proofs.lemmas.List.Folds.{list_all-append}
use Rattle.iss_edge.specs.declared.outside.Action.{Action}
use Rattle.iss_edge.specs.declared.outside.Action.TheVariants.{Write, Sync, Emit, Dial, Close}
use Rattle.iss_edge.specs.declared.outside.Answered.{Answered}
use Rattle.iss_edge.specs.declared.outside.Answered.TheVariants.{Waited, Took, Dialled, Emitted}
use Rattle.iss_edge.specs.Outer.{Outer, Adds}
use Rattle.iss_edge.specs.Stretches.{Step, actions_of, AreStill, sent_level, SentUpTo}
use Rattle.iss_edge.proofs.StretchLemmas.{sent_weaker}
use Rattle.iss_halves.specs.Forms.{Form, Seat}
use Rattle.iss_model.specs.declared.input.Record.{Record}
use Rattle.iss_model.specs.run.Runs.{Run}
use Rattle.iss_session.specs.Items.{HeardItem, Happening, hears, judges, judging, is_answer_to, answers_of}
use Rattle.iss_session.specs.Desks.{Task, to_dial, to_send, to_reply, Desk, TextFate, next_for, next_of_tasks, desk_change, FitsDesk}
use Rattle.iss_session.specs.Sessions.{Readers, Session, count, next_of}
use Rattle.iss_session.specs.Judgements.{judged_first}
use Rattle.iss_session.specs.Levels.{AreStillAt}
use Rattle.iss_session.specs.Happenings.{session_change, session_after, session_steps, last_steps, Fits, IsNext, IsComplete}
use Rattle.iss_session.specs.Sendings.{Sends}
use Rattle.iss_session.proofs.Compositions.{after_append, steps_append, fits_append, answers_append}
use Rattle.iss_session.proofs.DesksInSessions.{unanswerable, all_heard, answers_all_heard, with_desk, desk_in_session, desk_steps_in_session, desk_fits_session}
use Rattle.iss_session.proofs.Runs.{run_item}
use Rattle.iss_session.proofs.StillSteps.{steps_still, steps_sent, last_still}
use Rattle.iss_opening.specs.Values.{StoreNow, form_under, seat_under}
use Rattle.iss_opening.specs.Standing.{StandsFor}
use Rattle.iss_standing.specs.Goings.{StepsGo, StepsGoPart}
use Rattle.iss_store.specs.Planning.{store_for}
use Rattle.iss_store.specs.Committing.{Keeps, KeepsPart}
use Rattle.iss_standing.proofs.Goings as joins
use Rattle.iss_standing.proofs.NextRecords.{with_record}
use Rattle.iss_serve.specs.Goings.{has_come, NoWaitFailed, records_in, SessionGoes, SessionGoesPart, GoesToEnd}

-- ---- what a session's last closes are

actions_still : (n : ℕ) (steps : List Step) → AreStillAt n steps → AreStill (actions_of steps)
actions_still n [] still = tt
actions_still n (step ∷ steps) still = (still.0, actions_still n steps still.2)

sent_most : (action : Action) (level : ℕ) → sent_level action level ≤ level
sent_most (Write at bytes ok) level = omega arith
sent_most (Sync ok) level = omega arith
sent_most (Emit ch [] ok) level = omega arith
sent_most (Emit ch (byte ∷ bytes) ok) level = omega arith
sent_most (Dial ch) level = omega arith
sent_most (Close ch) level = omega arith

still_sent : (n : ℕ) (steps : List Step) → AreStillAt n steps → SentUpTo n steps
still_sent n [] still = tt
still_sent n (step ∷ steps) still =
    (subst (λ (level : ℕ). sent_level step.action step.level ≤ level) still.1 (sent_most step.action step.level), still_sent n steps still.2)

-- ---- one after the other

heard_then : (a b c : List Answered) (xs ys : List Happening) → b ≡ a ++ answers_of xs → c ≡ b ++ answers_of ys → c ≡ a ++ answers_of (xs ++ ys)
heard_then a b c xs ys p q =
    q
    ∙ ap (λ (h : List Answered). h ++ answers_of ys) p
    ∙ append_assoc a (answers_of xs) (answers_of ys)
    ∙ ap (λ (h : List Answered). a ++ h) (sym (answers_append xs ys))

-- a session after these happenings, and what it did
after_then : (read : Readers) (s t : Session) (xs ys : List Happening) → session_after read s xs ≡ t → session_after read s (xs ++ ys) ≡ session_after read t ys
after_then read s t xs ys ends = after_append read s xs ys ∙ ap (λ (m : Session). session_after read m ys) ends

did_then : (read : Readers) (s t : Session) (xs ys : List Happening) → session_after read s xs ≡ t → session_steps read s (xs ++ ys) ≡ session_steps read s xs ++ session_steps read t ys
did_then read s t xs ys ends = steps_append read s xs ys ∙ ap (λ (m : Session). session_steps read s xs ++ session_steps read m ys) ends

fits_then : (read : Readers) (s t : Session) (xs ys : List Happening) → session_after read s xs ≡ t → Fits read s xs → Fits read t ys → Fits read s (xs ++ ys)
fits_then read s t xs ys ends p q = fits_append read s xs ys p (subst (λ (m : Session). Fits read m ys) (sym ends) q)

came_then : (xs ys : List Happening) → NoWaitFailed xs → NoWaitFailed ys → NoWaitFailed (xs ++ ys)
came_then xs ys p q =
    ap (λ (answers : List Answered). list_all has_come answers) (answers_append xs ys)
    ∙ list_all-append has_come (answers_of xs) (answers_of ys)
    ∙ and_from (list_all has_come (answers_of xs)) (list_all has_come (answers_of ys)) p q

module _ (read : Readers) (form : Form) (x y : Seat) (s t : Session) (a b c : Outer) (p : SessionGoes read form x y s t a b) where
  pub goes_then : (z : Seat) (u : Session) → SessionGoes read form y z t u b c → SessionGoes read form x z s u a c
  goes_then z u q =
      record {
        happenings = p.happenings ++ q.happenings;
        heard = heard_then a.heard b.heard c.heard p.happenings q.happenings p.heard q.heard;
        fits = fits_then read s t p.happenings q.happenings p.ends p.fits q.fits;
        came = came_then p.happenings q.happenings p.came q.came;
        ends = after_then read s t p.happenings q.happenings p.ends ∙ q.ends;
        goes =
            subst (λ (l : List Step). StepsGo form x z (records_in s) (records_in u) l a.world c.world) (sym (did_then read s t p.happenings q.happenings p.ends))
            (joins.goes_then form x y z (records_in s) (records_in t) (records_in u) (session_steps read s p.happenings) (session_steps read t q.happenings) a.world b.world c.world p.goes q.goes);
      }

  pub goes_then_part : (failed : Type 0) → SessionGoesPart failed read form y t b c → SessionGoesPart failed read form x s a c
  goes_then_part failed q =
      let said = session_steps read s p.happenings ++ q.said in
      record {
        happenings = p.happenings ++ q.happenings;
        heard = heard_then a.heard b.heard c.heard p.happenings q.happenings p.heard q.heard;
        fits = fits_then read s t p.happenings q.happenings p.ends p.fits q.fits;
        said = said;
        undone = q.undone;
        cut =
            did_then read s t p.happenings q.happenings p.ends
            ∙ ap (λ (l : List Step). session_steps read s p.happenings ++ l) q.cut
            ∙ sym (append_assoc (session_steps read s p.happenings) q.said q.undone);
        part =
            subst (λ (m : Session). StepsGoPart form x (records_in s) (records_in m) said a.world c.world) (sym (after_then read s t p.happenings q.happenings p.ends))
            (joins.goes_then_part form x y (records_in s) (records_in t) (records_in (session_after read t q.happenings)) (session_steps read s p.happenings) q.said a.world b.world c.world p.goes q.part);
        whole = elim q.whole [
          | inl goes ↦
              inl (
                goes.0,
                subst (λ (m : Session). StepsGo form x goes.0 (records_in s) (records_in m) said a.world c.world) (sym (after_then read s t p.happenings q.happenings p.ends))
                    (joins.goes_then form x y goes.0 (records_in s) (records_in t) (records_in (session_after read t q.happenings)) (session_steps read s p.happenings) q.said a.world b.world c.world p.goes goes.1),
              )
          | inr fails ↦ inr fails
        ];
      }

  -- a session that went on until nothing comes next, and then the last closes
  pub goes_to_end : IsComplete t → Adds (actions_of (last_steps t)) [] b c → GoesToEnd read form x y s t a c
  goes_to_end over closed =
      record {
        happenings = p.happenings;
        heard = closed.heard ∙ append-nil b.heard ∙ p.heard;
        fits = p.fits;
        came = p.came;
        ends = p.ends;
        complete = over;
        goes =
            joins.goes_then form x y y (records_in s) (records_in t) (records_in t) (session_steps read s p.happenings) (last_steps t) a.world b.world c.world p.goes
            (joins.still_goes form y (records_in t) (last_steps t) b.world c.world (actions_still (count t) (last_steps t) (last_still t)) (still_sent (count t) (last_steps t) (last_still t)) closed.device closed.trace);
      }

-- what a session went on to is a part of it
pub goes_part : (failed : Type 0) (read : Readers) (form : Form) (x y : Seat) (s t : Session) (a b : Outer) → SessionGoes read form x y s t a b → SessionGoesPart failed read form x s a b
goes_part failed read form x y s t a b p =
    record {
      happenings = p.happenings;
      heard = p.heard;
      fits = p.fits;
      said = session_steps read s p.happenings;
      undone = [];
      cut = sym (append-nil (session_steps read s p.happenings));
      part =
          subst (λ (m : Session). StepsGoPart form x (records_in s) (records_in m) (session_steps read s p.happenings) a.world b.world) (sym p.ends)
          (joins.goes_part form x y (records_in s) (records_in t) (session_steps read s p.happenings) a.world b.world p.goes);
      whole = inl (y, subst (λ (m : Session). StepsGo form x y (records_in s) (records_in m) (session_steps read s p.happenings) a.world b.world) (sym p.ends) p.goes);
    }

-- ---- what makes no record

-- what neither writes nor makes a record
pub still_goes : (read : Readers) (form : Form) (x : Seat) (s t : Session) (happenings : List Happening) (a b : Outer) → Fits read s happenings → NoWaitFailed happenings → session_after read s happenings ≡ t → records_in t ≡ records_in s
    → b.world.device ≡ a.world.device → b.heard ≡ a.heard ++ answers_of happenings → b.world.trace ≡ a.world.trace ++ actions_of (session_steps read s happenings) → SessionGoes read form x x s t a b
still_goes read form x s t happenings a b fits came ends same unwritten heard trace =
    let steps = session_steps read s happenings in
    let whole : count (session_after read s happenings) ≡ count s = ap count ends ∙ ap (λ (l : List Record). length l) same in
    let sent : SentUpTo (count s) steps = sent_weaker (count (session_after read s happenings)) (count s) steps (omega (arith, whole)) (steps_sent read s happenings) in
    record {
      happenings = happenings;
      heard = heard;
      fits = fits;
      came = came;
      ends = ends;
      goes =
          subst (λ (l : List Record). StepsGo form x x (records_in s) l steps a.world b.world) (sym same)
          (joins.still_goes form x (records_in s) steps a.world b.world (steps_still read s happenings) sent unwritten trace);
    }

pub goes_self : (read : Readers) (form : Form) (x : Seat) (s : Session) (a : Outer) → SessionGoes read form x x s s a a
goes_self read form x s a =
    still_goes read form x s s [] a a tt refl refl refl refl (sym (append-nil a.heard)) (sym (append-nil a.world.trace))

-- an answer that was called for, with what the session does then
pub heard_goes : (read : Readers) (form : Form) (x : Seat) (s : Session) (item : HeardItem) (a b : Outer) → IsNext s item → has_come item.answer ≡ true
    → Adds (actions_of (session_change read s (hears item)).steps) (item.answer ∷ []) a b → SessionGoes read form x x s (session_change read s (hears item)).session a b
heard_goes read form x s item a b next came adds =
    let c = session_change read s (hears item) in
    still_goes read form x s c.session (hears item ∷ []) a b (next, tt) (and_from (has_come item.answer) true came refl) refl (ap (λ (run : Run). run.history.records) (run_item read s item s.desk.tasks))
    adds.device adds.heard (adds.trace ∙ ap (λ (l : List Step). a.world.trace ++ actions_of l) (sym (append-nil c.steps)))

-- no wait answers a text's call
task_waits : {A : Type 0} (task : Task) → is_answer_to (next_for task) (Waited None) ≡ true → A
task_waits (to_dial subject text) e = absurd (false≢true e)
task_waits (to_send to subject text) e = absurd (false≢true e)
task_waits (to_reply to text) e = absurd (false≢true e)

text_came : (tasks : List Task) (answer : Answered) → is_answer_to (next_of_tasks tasks) answer ≡ true → has_come answer ≡ true
text_came [] answer e = unanswerable answer e
text_came (task ∷ tasks) (Waited None) e = task_waits task e
text_came (task ∷ tasks) (Waited (Some arrival)) e = refl
text_came (task ∷ tasks) (Took ch got) e = refl
text_came (task ∷ tasks) (Dialled ch) e = refl
text_came (task ∷ tasks) (Emitted ch ok) e = refl

desk_came : (level : ℕ) (d : Desk) (items : List HeardItem) → FitsDesk level d items → NoWaitFailed (all_heard items)
desk_came level d [] fits = refl
desk_came level d (item ∷ items) fits =
    and_from (has_come item.answer) (list_all has_come (answers_of (all_heard items))) (text_came d.tasks item.answer fits.0.answers)
    (desk_came level (desk_change level d item).desk items fits.1)

-- what a desk did for its texts
pub sends_goes : (read : Readers) (form : Form) (x : Seat) (s : Session) (e : Desk) (gone : List TextFate) (a b : Outer) → Sends (count s) s.desk e gone a b → SessionGoes read form x x s (with_desk s e gone) a b
sends_goes read form x s e gone a b p =
    still_goes read form x s (with_desk s e gone) (all_heard p.items) a b (desk_fits_session read s p.items p.fits) (desk_came (count s) s.desk p.items p.fits)
    (desk_in_session read s p.items p.fits ∙ λ i. with_desk s (p.ends i) (p.became i)) refl p.device
    (p.heard ∙ ap (λ (t : List Answered). a.heard ++ t) (sym (answers_all_heard p.items)))
    (p.trace ∙ ap (λ (l : List Step). a.world.trace ++ actions_of l) (sym (desk_steps_in_session read s p.items p.fits)))

-- an input was judged that makes no record
pub told_goes : (read : Readers) (form : Form) (x : Seat) (s : Session) (a b : Outer) → next_of s ≡ judging → records_in (judged_first s s.queue) ≡ records_in s → Adds [] [] a b
    → SessionGoes read form x x s (judged_first s s.queue) a b
told_goes read form x s a b next same adds =
    still_goes read form x s (judged_first s s.queue) (judges ∷ []) a b (next, tt) refl refl same adds.device adds.heard adds.trace

-- ---- a record that is made to last

module _ (read : Readers) (store : StoreNow) (s : Session) (r : Record) (a b : Outer) (next : next_of s ≡ judging) (stands : StandsFor store (records_in s))
    (made : records_in (judged_first s s.queue) ≡ with_record (records_in s) r) (quiet : b.heard ≡ a.heard) where
  pub commit_goes : Keeps store r a.world b.world → SessionGoes read (form_under store) (seat_under store) (seat_under (store_for store r)) s (judged_first s s.queue) a b
  commit_goes keeps =
      record {
        happenings = judges ∷ [];
        heard = quiet ∙ sym (append-nil a.heard);
        fits = (next, tt);
        came = refl;
        ends = refl;
        goes =
            subst (λ (l : List Record). StepsGo (form_under store) (seat_under store) (seat_under (store_for store r)) (records_in s) l [] a.world b.world) (sym made)
            (keeps.goes (records_in s) stands);
      }

  -- a part of it, before anything is said
  pub commit_goes_part : (failed : Type 0) → failed → KeepsPart store r a.world b.world → SessionGoesPart failed read (form_under store) (seat_under store) s a b
  commit_goes_part failed fails keeps =
      record {
        happenings = judges ∷ [];
        heard = quiet ∙ sym (append-nil a.heard);
        fits = (next, tt);
        said = [];
        undone = [];
        cut = refl;
        part =
            subst (λ (l : List Record). StepsGoPart (form_under store) (seat_under store) (records_in s) l [] a.world b.world) (sym made)
            (keeps.goes (records_in s) stands);
        whole = inr fails;
      }
