-- Parts of a run that serves, from one stage to the next, whatever records the store stands for.
use Rattle.std.proofs.Common.{◌≡◌, ℕ, inl, inr, true, List, [], ◌∷◌, length, Option, refl, sym, ap, subst, ◌∙◌, append-nil}
use Rattle.iss_edge.specs.declared.outside.Action.{Action}
use Rattle.iss_edge.specs.Outer.{Outer, Adds}
use Rattle.iss_edge.specs.Stretches.{actions_of}
use Rattle.iss_edge.specs.World.{Told}
use Rattle.iss_edge.proofs.Tolds.{told_map, told_then, told_self}
use Rattle.iss_halves.specs.Forms.{Form, Seat}
use Rattle.iss_model.specs.declared.call.CallId.{CallId}
use Rattle.iss_model.specs.declared.input.Record.{Record}
use Rattle.iss_agreement.proofs.Records.{records_history}
use Rattle.iss_session.specs.Items.{HeardItem, hears}
use Rattle.iss_session.specs.Desks.{Desk, TextFate, desk_with}
use Rattle.iss_model.specs.run.Runs.{Run}
use Rattle.iss_session.specs.Sessions.{Readers, Session, Queued, count}
use Rattle.iss_session.specs.Happenings.{session_change, session_after, session_steps, IsNext}
use Rattle.iss_session.proofs.Runs.{run_item}
use Rattle.iss_session.specs.Sendings.{Sends}
use Rattle.iss_session.proofs.DesksInSessions.{with_desk}
use Rattle.iss_session_examples.specs.Program.{program_readers}
use Rattle.iss_opening.specs.Values.{StoreNow, form_under, seat_under}
use Rattle.iss_opening.specs.Standing.{StandsFor}
use Rattle.iss_standing.specs.Goings.{StepsGo, StepsGoPart}
use Rattle.iss_standing.proofs.Goings as joins
use Rattle.iss_store.proofs.Books.{count_on_book}
use Rattle.iss_serve.specs.Goings.{has_come, records_in, SessionGoes, SessionGoesPart}
use Rattle.iss_serve.specs.Held.{HeldNow, Stage, idle, to_judge, answers_unreached, session_at}
use Rattle.iss_serve.specs.Runs.{ServesOn, ServesSome}
use Rattle.iss_serve.proofs.Going.{goes_self, goes_then, goes_then_part, goes_part, heard_goes, sends_goes}

-- how many records stand in a session
pub count_at : (x : Stage) (rs : List Record) → StandsFor x.store rs → count (session_at x rs) ≡ x.store.core.state.count
count_at x rs stands = ap (λ (l : List Record). length l) (records_history rs) ∙ sym (count_on_book x.store.core rs stands.core)

-- ---- nothing, and one after the other

pub on_self : (x : Stage) (a : Outer) → ServesOn x x a a
on_self x a =
    record {
      form_is = refl;
      on_book =
          λ rs stands.
          record { now = rs; stands = stands; goes = goes_self program_readers (form_under x.store) (seat_under x.store) (session_at x rs) a };
    }

pub on_then : (x y z : Stage) (a b c : Outer) → ServesOn x y a b → ServesOn y z b c → ServesOn x z a c
on_then x y z a b c p q =
    record {
      form_is = q.form_is ∙ p.form_is;
      on_book =
          λ rs stands.
          let first = p.on_book rs stands in
          let second = q.on_book first.now first.stands in
          record {
            now = second.now;
            stands = second.stands;
            goes =
                goes_then program_readers (form_under x.store) (seat_under x.store) (seat_under y.store) (session_at x rs) (session_at y first.now) a b c first.goes
                (seat_under z.store) (session_at z second.now)
                (subst (λ (form : Form). SessionGoes program_readers form (seat_under y.store) (seat_under z.store) (session_at y first.now) (session_at z second.now) b c) p.form_is second.goes);
          };
    }

pub on_then_some : (failed : Type 0) (x y : Stage) (a b c : Outer) → ServesOn x y a b → ServesSome failed y b c → ServesSome failed x a c
on_then_some failed x y a b c p q =
    record {
      on_book =
          λ rs stands.
          let first = p.on_book rs stands in
          goes_then_part program_readers (form_under x.store) (seat_under x.store) (seat_under y.store) (session_at x rs) (session_at y first.now) a b c first.goes failed
          (subst (λ (form : Form). SessionGoesPart failed program_readers form (seat_under y.store) (session_at y first.now) b c) p.form_is (q.on_book first.now first.stands));
    }

pub some_of_on : (failed : Type 0) (x y : Stage) (a b : Outer) → ServesOn x y a b → ServesSome failed x a b
some_of_on failed x y a b p =
    record {
      on_book =
          λ rs stands.
          let first = p.on_book rs stands in
          goes_part failed program_readers (form_under x.store) (seat_under x.store) (seat_under y.store) (session_at x rs) (session_at y first.now) a b first.goes;
    }

-- a session that stayed on one store ends at the seat of that store
to_seat : (s s' : StoreNow) (t u : Session) (a b : Outer) → s' ≡ s → SessionGoes program_readers (form_under s) (seat_under s) (seat_under s) t u a b
    → SessionGoes program_readers (form_under s) (seat_under s) (seat_under s') t u a b
to_seat s s' t u a b same goes = subst (λ (seat : Seat). SessionGoes program_readers (form_under s) (seat_under s) seat t u a b) (ap seat_under (sym same)) goes

-- two stages of one store that are the same session
pub on_same : (x y : Stage) (a : Outer) → y.store ≡ x.store → ((rs : List Record) → session_at x rs ≡ session_at y rs) → ServesOn x y a a
on_same x y a same is =
    record {
      form_is = ap form_under same;
      on_book =
          λ rs stands.
          record {
            now = rs;
            stands = subst (λ (s : StoreNow). StandsFor s rs) (sym same) stands;
            goes =
                to_seat x.store y.store (session_at x rs) (session_at y rs) a a same
                (subst (λ (t : Session). SessionGoes program_readers (form_under x.store) (seat_under x.store) (seat_under x.store) (session_at x rs) t a a) (is rs)
                (goes_self program_readers (form_under x.store) (seat_under x.store) (session_at x rs) a));
          };
    }

-- the answers of calls that weren't reached are judged first
pub calls_first : (store : StoreNow) (h : HeldNow) (calls : List CallId) (o : Option Outer) → calls ≡ h.unreached
    → Told (ServesOn (idle store h) (to_judge store (record h { unreached = [] }) (answers_unreached calls))) o o
calls_first store h calls o is =
    told_self (ServesOn (idle store h) (to_judge store (record h { unreached = [] }) (answers_unreached calls))) o
    (λ a.
    on_same (idle store h) (to_judge store (record h { unreached = [] }) (answers_unreached calls)) a refl
    (λ rs.
    ap (λ (cs : List CallId). record (session_at (idle store h) rs) { queue = answers_unreached cs }) (sym is)
    ∙ ap (λ (queue : List Queued). record (session_at (idle store h) rs) { queue = queue }) (sym (append-nil (answers_unreached calls)))))

-- ---- the same of what is told

pub told_on_self : (x : Stage) (o : Option Outer) → Told (ServesOn x x) o o
told_on_self x o = told_self (ServesOn x x) o (on_self x)

pub told_on_then : (x y z : Stage) (o p q : Option Outer) → Told (ServesOn x y) o p → Told (ServesOn y z) p q → Told (ServesOn x z) o q
told_on_then x y z o p q f g = told_then (ServesOn x y) (ServesOn y z) (ServesOn x z) o p q (on_then x y z) f g

pub told_on_then_some : (failed : Type 0) (x y : Stage) (o p q : Option Outer) → Told (ServesOn x y) o p → Told (ServesSome failed y) p q → Told (ServesSome failed x) o q
told_on_then_some failed x y o p q f g = told_then (ServesOn x y) (ServesSome failed y) (ServesSome failed x) o p q (on_then_some failed x y) f g

pub told_some_of_on : (failed : Type 0) (x y : Stage) (o p : Option Outer) → Told (ServesOn x y) o p → Told (ServesSome failed x) o p
told_some_of_on failed x y o p f = told_map (ServesOn x y) (ServesSome failed x) o p (some_of_on failed x y) f

-- nothing failed that couldn't
some_never : (failed : Type 0) (x : Stage) (a b : Outer) → ServesSome ⊥ x a b → ServesSome failed x a b
some_never failed x a b p =
    record {
      on_book = λ rs stands.
          let part = p.on_book rs stands in
          record {
            happenings = part.happenings;
            heard = part.heard;
            fits = part.fits;
            said = part.said;
            undone = part.undone;
            cut = part.cut;
            part = part.part;
            whole = elim part.whole [ inl goes ↦ inl goes | inr fails ↦ absurd fails ];
          };
    }

pub told_some_never : (failed : Type 0) (x : Stage) (o p : Option Outer) → Told (ServesSome ⊥ x) o p → Told (ServesSome failed x) o p
told_some_never failed x o p f = told_map (ServesSome ⊥ x) (ServesSome failed x) o p (some_never failed x) f

-- nothing was done
pub told_none_on : (failed : Type 0) (x : Stage) (o : Option Outer) → Told (ServesSome failed x) o o
told_none_on failed x o = told_some_of_on failed x x o o (told_on_self x o)

-- a stage that is the same session
pub told_on_as : (x x' y y' : Stage) (o p : Option Outer) → x ≡ x' → y ≡ y' → Told (ServesOn x y) o p → Told (ServesOn x' y') o p
told_on_as x x' y y' o p e f t =
    subst (λ (s : Stage). Told (ServesOn s y') o p) e (subst (λ (s : Stage). Told (ServesOn x s) o p) f t)

pub told_some_as : (failed : Type 0) (x x' : Stage) (o p : Option Outer) → x ≡ x' → Told (ServesSome failed x) o p → Told (ServesSome failed x') o p
told_some_as failed x x' o p e t = subst (λ (s : Stage). Told (ServesSome failed s) o p) e t

-- ---- each kind of part, on a store that stays as it is

-- an answer that was called for, if a fault keeps what the session does then from being done
heard_goes_part : (failed : Type 0) (read : Readers) (form : Form) (x : Seat) (s : Session) (item : HeardItem) (a b : Outer) → IsNext s item → Adds [] (item.answer ∷ []) a b → SessionGoesPart failed read form x s a b
heard_goes_part failed read form x s item a b next adds =
    let t = session_after read s (hears item ∷ []) in
    let same : records_in t ≡ records_in s = ap (λ (run : Run). run.history.records) (run_item read s item s.desk.tasks) in
    record {
      happenings = hears item ∷ [];
      heard = adds.heard;
      fits = (next, tt);
      said = [];
      undone = session_steps read s (hears item ∷ []);
      cut = refl;
      part =
          subst (λ (l : List Record). StepsGoPart form x (records_in s) l [] a.world b.world) (sym same)
          (joins.goes_part form x x (records_in s) (records_in s) [] a.world b.world
          (joins.still_goes form x (records_in s) [] a.world b.world tt tt adds.device adds.trace));
      whole =
          inl (
            x,
            subst (λ (l : List Record). StepsGo form x x (records_in s) l [] a.world b.world) (sym same)
                (joins.still_goes form x (records_in s) [] a.world b.world tt tt adds.device adds.trace),
          );
    }

-- the session goes on to another stage of the same store
abbrev pub Leads : Stage → Stage → (Session → Session) → Type 0
Leads x y change = (rs : List Record) → change (session_at x rs) ≡ session_at y rs

-- an answer that was called for, with what the session does then
pub heard_on : (store : StoreNow) (x y : Stage) (item : HeardItem) (actions : List Action) (a b : Outer) → x.store ≡ store → y.store ≡ store
    → ((rs : List Record) → IsNext (session_at x rs) item) → has_come item.answer ≡ true
    → Leads x y (λ s. (session_change program_readers s (hears item)).session)
    → ((rs : List Record) → actions_of (session_change program_readers (session_at x rs) (hears item)).steps ≡ actions)
    → Adds actions (item.answer ∷ []) a b → ServesOn x y a b
heard_on store x y item actions a b xs ys next came leads does adds =
    record {
      form_is = ap form_under (ys ∙ sym xs);
      on_book =
          λ rs stands.
          record {
            now = rs;
            stands = subst (λ (s : StoreNow). StandsFor s rs) (xs ∙ sym ys) stands;
            goes =
                to_seat x.store y.store (session_at x rs) (session_at y rs) a b (ys ∙ sym xs)
                (subst (λ (t : Session). SessionGoes program_readers (form_under x.store) (seat_under x.store) (seat_under x.store) (session_at x rs) t a b) (leads rs)
                (heard_goes program_readers (form_under x.store) (seat_under x.store) (session_at x rs) item a b (next rs) came
                (subst (λ (l : List Action). Adds l (item.answer ∷ []) a b) (sym (does rs)) adds)));
          };
    }

-- an answer that was called for, if a fault keeps the session's steps from being done
pub heard_some : (failed : Type 0) (x : Stage) (item : HeardItem) (a b : Outer) → ((rs : List Record) → IsNext (session_at x rs) item) → Adds [] (item.answer ∷ []) a b → ServesSome failed x a b
heard_some failed x item a b next adds =
    record { on_book = λ rs stands. heard_goes_part failed program_readers (form_under x.store) (seat_under x.store) (session_at x rs) item a b (next rs) adds }

-- what a desk did for its texts
pub sends_on : (store : StoreNow) (x y : Stage) (e : Desk) (gone : List TextFate) (a b : Outer) → x.store ≡ store → y.store ≡ store
    → Leads x y (λ s. with_desk s e gone)
    → Sends x.store.core.state.count (desk_with x.tasks x.held.served) e gone a b → ServesOn x y a b
sends_on store x y e gone a b xs ys leads sends =
    record {
      form_is = ap form_under (ys ∙ sym xs);
      on_book =
          λ rs stands.
          record {
            now = rs;
            stands = subst (λ (s : StoreNow). StandsFor s rs) (xs ∙ sym ys) stands;
            goes =
                to_seat x.store y.store (session_at x rs) (session_at y rs) a b (ys ∙ sym xs)
                (subst (λ (t : Session). SessionGoes program_readers (form_under x.store) (seat_under x.store) (seat_under x.store) (session_at x rs) t a b) (leads rs)
                (sends_goes program_readers (form_under x.store) (seat_under x.store) (session_at x rs) e gone a b
                (subst (λ (n : ℕ). Sends n (desk_with x.tasks x.held.served) e gone a b) (sym (count_at x rs stands)) sends)));
          };
    }

-- what a desk did in part for its texts
pub sends_some : (failed : Type 0) (x : Stage) (e : Desk) (gone : List TextFate) (a b : Outer) → Sends x.store.core.state.count (desk_with x.tasks x.held.served) e gone a b → ServesSome failed x a b
sends_some failed x e gone a b sends =
    record {
      on_book =
          λ rs stands.
          goes_part failed program_readers (form_under x.store) (seat_under x.store) (seat_under x.store) (session_at x rs) (with_desk (session_at x rs) e gone) a b
          (sends_goes program_readers (form_under x.store) (seat_under x.store) (session_at x rs) e gone a b
          (subst (λ (n : ℕ). Sends n (desk_with x.tasks x.held.served) e gone a b) (sym (count_at x rs stands)) sends));
    }
