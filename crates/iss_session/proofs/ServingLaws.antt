-- Calls of a run that serves, one after the other, and what went out on each channel.
use Rattle.std.proofs.Common.{◌≡◌, ℕ, Bool, cond, List, [], ◌∷◌, ◌++◌, refl, sym, ap, subst, ◌∙◌, append_assoc}
use Rattle.std.proofs.lemmas.List.{append-nil}
use Rattle.std.proofs.lemmas.List.Elements.{filter-append}
use Rattle.iss_edge.specs.declared.outside.Action.{Action}
use Rattle.iss_edge.specs.declared.outside.Action.TheVariants.{Write, Sync, Emit, Dial, Close}
use Rattle.iss_edge.specs.declared.outside.Answered.{Answered}
use Rattle.iss_edge.specs.Outer.{Outer, Adds}
use Rattle.iss_edge.specs.World.{sent_by, sent_on}
use Rattle.iss_edge.specs.Stretches.{actions_of, is_still, AreStill}
use Rattle.iss_edge.proofs.Tolds.{sent_on-append}
use Rattle.iss_edge.proofs.StretchLemmas.{actions_of-append}
use Rattle.iss_model.specs.run.Runs.{Run}
use Rattle.iss_session.specs.Items.{HeardItem, Happening, hears, judges, judging, answers_of}
use Rattle.iss_session.specs.Desks.{Desk, TextFate, desk_steps}
use Rattle.iss_session.specs.Sessions.{Readers, Session, count, next_of, session_of}
use Rattle.iss_session.specs.Judgements.{judged_first}
use Rattle.iss_session.specs.Happenings.{session_change, session_after, session_steps, last_steps, Fits, IsNext, IsComplete}
use Rattle.iss_session.specs.Sendings.{Sends}
use Rattle.iss_session.specs.Serving.{channel_actions, Serves, ServesPart, ServesAll}
use Rattle.iss_session.proofs.Compositions.{after_append, steps_append, fits_append, answers_append}
use Rattle.iss_session.proofs.DesksInSessions.{all_heard, answers_all_heard, with_desk, desk_in_session, desk_steps_in_session, desk_fits_session}
use Rattle.iss_session.proofs.StillSteps.{steps_still}

-- actions none of which is on the device are all on channels
pub all_still : (xs : List Action) → AreStill xs → channel_actions xs ≡ xs
all_still [] still = refl
all_still (x ∷ xs) still =
    ap (λ (b : Bool). cond b (x ∷ channel_actions xs) (channel_actions xs)) still.0 ∙ ap (λ (t : List Action). x ∷ t) (all_still xs still.1)

-- what goes on from a session that follows on these happenings
steps_from : (read : Readers) (s t : Session) (a b : List Happening) → session_after read s a ≡ t
    → actions_of (session_steps read s (a ++ b)) ≡ actions_of (session_steps read s a) ++ actions_of (session_steps read t b)
steps_from read s t a b ends =
    ap actions_of (steps_append read s a b)
    ∙ actions_of-append (session_steps read s a) (session_steps read (session_after read s a) b)
    ∙ ap (λ (m : Session). actions_of (session_steps read s a) ++ actions_of (session_steps read m b)) ends

heard_then : (a b c : List Answered) (xs ys : List Happening) → b ≡ a ++ answers_of xs → c ≡ b ++ answers_of ys → c ≡ a ++ answers_of (xs ++ ys)
heard_then a b c xs ys p q =
    q ∙ ap (λ (h : List Answered). h ++ answers_of ys) p ∙ append_assoc a (answers_of xs) (answers_of ys) ∙ ap (λ (h : List Answered). a ++ h) (sym (answers_append xs ys))

trace_then : (a b c xs ys : List Action) → b ≡ a ++ xs → c ≡ b ++ ys → c ≡ a ++ (xs ++ ys)
trace_then a b c xs ys p q = q ∙ ap (λ (t : List Action). t ++ ys) p ∙ append_assoc a xs ys

pub serves_then : (read : Readers) (s t u : Session) (a b c : Outer) → Serves read s t a b → Serves read t u b c → Serves read s u a c
serves_then read s t u a b c p q =
    record {
      happenings = p.happenings ++ q.happenings;
      heard = heard_then a.heard b.heard c.heard p.happenings q.happenings p.heard q.heard;
      fits = fits_append read s p.happenings q.happenings p.fits (subst (λ (m : Session). Fits read m q.happenings) (sym p.ends) q.fits);
      ends = after_append read s p.happenings q.happenings ∙ ap (λ (m : Session). session_after read m q.happenings) p.ends ∙ q.ends;
      added = p.added ++ q.added;
      grew = trace_then a.world.trace b.world.trace c.world.trace p.added q.added p.grew q.grew;
      done = filter-append is_still p.added q.added ∙ ap (λ (x : List Action). x ++ channel_actions q.added) p.done
          ∙ ap (λ (x : List Action). actions_of (session_steps read s p.happenings) ++ x) q.done
          ∙ sym (steps_from read s t p.happenings q.happenings p.ends);
    }

pub serves_self : (read : Readers) (s : Session) (a : Outer) → Serves read s s a a
serves_self read s a =
    record {
      happenings = [];
      heard = sym (append-nil a.heard);
      fits = tt;
      ends = refl;
      added = [];
      grew = sym (append-nil a.world.trace);
      done = refl;
    }

-- a session that went so far, and a part of what comes next
pub serves_part : (read : Readers) (s t : Session) (a b c : Outer) → Serves read s t a b → ServesPart read t b c → ServesPart read s a c
serves_part read s t a b c p q =
    record {
      happenings = p.happenings ++ q.happenings;
      heard = heard_then a.heard b.heard c.heard p.happenings q.happenings p.heard q.heard;
      fits = fits_append read s p.happenings q.happenings p.fits (subst (λ (m : Session). Fits read m q.happenings) (sym p.ends) q.fits);
      added = p.added ++ q.added;
      undone = q.undone;
      grew = trace_then a.world.trace b.world.trace c.world.trace p.added q.added p.grew q.grew;
      done = steps_from read s t p.happenings q.happenings p.ends
          ∙ ap (λ (x : List Action). actions_of (session_steps read s p.happenings) ++ x) q.done
          ∙ ap (λ (x : List Action). x ++ (channel_actions q.added ++ q.undone)) (sym p.done)
          ∙ sym (append_assoc (channel_actions p.added) (channel_actions q.added) q.undone)
          ∙ ap (λ (x : List Action). x ++ q.undone) (sym (filter-append is_still p.added q.added));
    }

-- all that a session did is a part of it
pub serves_whole_part : (read : Readers) (s t : Session) (a b : Outer) → Serves read s t a b → ServesPart read s a b
serves_whole_part read s t a b p =
    record {
      happenings = p.happenings;
      heard = p.heard;
      fits = p.fits;
      added = p.added;
      undone = [];
      grew = p.grew;
      done = sym p.done ∙ sym (append-nil (channel_actions p.added));
    }

-- an answer that was called for, with what the session does then
pub heard_serves : (read : Readers) (s : Session) (item : HeardItem) (a b : Outer) → IsNext s item
    → Adds (actions_of (session_change read s (hears item)).steps) (item.answer ∷ []) a b → Serves read s (session_change read s (hears item)).session a b
heard_serves read s item a b next p =
    let c = session_change read s (hears item) in
    let actions = actions_of c.steps in
    let same : actions_of (c.steps ++ []) ≡ actions = ap actions_of (append-nil c.steps) in
    record {
      happenings = hears item ∷ [];
      heard = p.heard;
      fits = (next, tt);
      ends = refl;
      added = actions;
      grew = p.trace;
      done = all_still actions (subst AreStill same (steps_still read s (hears item ∷ []))) ∙ sym same;
    }

-- what a desk did for its texts is a part of the session
pub sends_serves : (read : Readers) (s : Session) (e : Desk) (gone : List TextFate) (a b : Outer) → Sends (count s) s.desk e gone a b → Serves read s (with_desk s e gone) a b
sends_serves read s e gone a b p =
    let added = actions_of (desk_steps (count s) s.desk p.items) in
    let steps = desk_steps_in_session read s p.items p.fits in
    record {
      happenings = all_heard p.items;
      heard = p.heard ∙ ap (λ (t : List Answered). a.heard ++ t) (sym (answers_all_heard p.items));
      fits = desk_fits_session read s p.items p.fits;
      ends = desk_in_session read s p.items p.fits ∙ λ i. with_desk s (p.ends i) (p.became i);
      added = added;
      grew = p.trace;
      done = all_still added (subst AreStill (ap actions_of steps) (steps_still read s (all_heard p.items))) ∙ ap actions_of (sym steps);
    }

-- an input was judged, and its record put on the device, if it made one
pub judged_serves : (read : Readers) (s : Session) (a b : Outer) (added : List Action) → next_of s ≡ judging
    → b.heard ≡ a.heard → b.world.trace ≡ a.world.trace ++ added → channel_actions added ≡ [] → Serves read s (judged_first s s.queue) a b
judged_serves read s a b added next heard grew none =
    record {
      happenings = judges ∷ [];
      heard = heard ∙ sym (append-nil a.heard);
      fits = (next, tt);
      ends = refl;
      added = added;
      grew = grew;
      done = none;
    }

-- a session from the start of a run to where nothing comes next, and then the last closes
pub serves_all : (read : Readers) (run : Run) (turns : ℕ) (t : Session) (a b c : Outer) → Serves read (session_of run turns) t a b → IsComplete t
    → AreStill (actions_of (last_steps t)) → c.heard ≡ b.heard → c.world.trace ≡ b.world.trace ++ actions_of (last_steps t) → ServesAll read run turns t a c
serves_all read run turns t a b c p over still heard grew =
    let last = actions_of (last_steps t) in
    let steps = session_steps read (session_of run turns) p.happenings in
    record {
      happenings = p.happenings;
      heard = heard ∙ p.heard;
      fits = p.fits;
      ends = p.ends;
      complete = over;
      added = p.added ++ last;
      grew = trace_then a.world.trace b.world.trace c.world.trace p.added last p.grew grew;
      done = filter-append is_still p.added last ∙ ap (λ (x : List Action). x ++ channel_actions last) p.done
          ∙ ap (λ (x : List Action). actions_of steps ++ x) (all_still last still) ∙ sym (actions_of-append steps (last_steps t));
    }

-- what went out on a channel

sent_still : (ch : ℕ) (xs : List Action) → sent_on ch (channel_actions xs) ≡ sent_on ch xs
sent_still ch [] = refl
sent_still ch (Write at bytes ok ∷ xs) = sent_still ch xs
sent_still ch (Sync ok ∷ xs) = sent_still ch xs
sent_still ch (Emit to bytes ok ∷ xs) = ap (λ (t : List ℕ). sent_by ch (Emit to bytes ok) ++ t) (sent_still ch xs)
sent_still ch (Dial to ∷ xs) = sent_still ch xs
sent_still ch (Close to ∷ xs) = sent_still ch xs

-- from what was done on channels
sent_done : (ch : ℕ) (a b added done : List Action) → b ≡ a ++ added → channel_actions added ≡ done → sent_on ch b ≡ sent_on ch a ++ sent_on ch done
sent_done ch a b added done grew is =
    ap (sent_on ch) grew ∙ sent_on-append ch a added
    ∙ ap (λ (xs : List ℕ). sent_on ch a ++ xs) (sym (sent_still ch added) ∙ ap (sent_on ch) is)

pub serves_sent : (read : Readers) (s t : Session) (a b : Outer) (ch : ℕ) → (p : Serves read s t a b)
    → sent_on ch b.world.trace ≡ sent_on ch a.world.trace ++ sent_on ch (actions_of (session_steps read s p.happenings))
serves_sent read s t a b ch p =
    sent_done ch a.world.trace b.world.trace p.added (actions_of (session_steps read s p.happenings)) p.grew p.done

pub serves_all_sent : (read : Readers) (run : Run) (turns : ℕ) (t : Session) (a b : Outer) (ch : ℕ) → (p : ServesAll read run turns t a b)
    → sent_on ch b.world.trace
    ≡ sent_on ch a.world.trace ++ sent_on ch (actions_of (session_steps read (session_of run turns) p.happenings ++ last_steps t))
serves_all_sent read run turns t a b ch p = sent_done ch a.world.trace b.world.trace p.added _ p.grew p.done

-- if a fault ended it, a prefix of that
pub record SentUpToFault (read : Readers) (s : Session) (a b : Outer) (ch : ℕ) (happenings : List Happening) : Type 0 where
  pub unsent : List ℕ
  pub sent : sent_on ch a.world.trace ++ sent_on ch (actions_of (session_steps read s happenings)) ≡ sent_on ch b.world.trace ++ unsent

pub serves_part_sent : (read : Readers) (s : Session) (a b : Outer) (ch : ℕ) → (p : ServesPart read s a b) → SentUpToFault read s a b ch p.happenings
serves_part_sent read s a b ch p =
    record {
      unsent = sent_on ch p.undone;
      sent = ap (λ (xs : List ℕ). sent_on ch a.world.trace ++ xs) (ap (sent_on ch) p.done ∙ sent_on-append ch (channel_actions p.added) p.undone)
          ∙ sym (append_assoc (sent_on ch a.world.trace) (sent_on ch (channel_actions p.added)) (sent_on ch p.undone))
          ∙ ap (λ (xs : List ℕ). xs ++ sent_on ch p.undone) (sym (sent_done ch a.world.trace b.world.trace p.added (channel_actions p.added) p.grew refl));
    }
