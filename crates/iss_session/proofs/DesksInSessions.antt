-- What a session does for texts alone is what its desk does.
use Rattle.std.proofs.Common.{◌≡◌, ℕ, true, false, List, [], ◌∷◌, ◌++◌, map, Option, refl, sym, ap, subst, ◌∙◌, append_assoc}
use Rattle.std.specs.List.{flat_map}
use Rattle.std.proofs.lemmas.Bool.{false≢true}
use Rattle.std.proofs.lemmas.List.{append-nil}
use Rattle.std.proofs.lemmas.Grind.{flat_map-append}
use Rattle.iss_edge.specs.declared.outside.Channel.{Channel}
use Rattle.iss_edge.specs.declared.outside.Answered.{Answered}
use Rattle.iss_edge.specs.declared.outside.Answered.TheVariants.{Waited, Took, Dialled, Emitted}
use Rattle.iss_edge.specs.Stretches.{Step}
use Rattle.iss_session.specs.Items.{HeardItem, Happening, hears, Next, nothing, is_answer_to, IsTornEmit, answers_of}
use Rattle.iss_session.specs.Desks.{Task, to_dial, to_send, to_reply, Desk, TextFate, next_for, next_of_tasks, IsNextAt, desk_change, desk_after, desk_steps, desk_gone, FitsDesk}
use Rattle.iss_session.specs.Links.{Link}
use Rattle.iss_session.specs.Sessions.{Readers, Session, Queued, count, next_by}
use Rattle.iss_session.specs.Hearings.{Change, links_of, queued_of, after_desk, after_item}
use Rattle.iss_session.specs.Happenings.{MayBeEarly, IsNext, session_after, session_steps, Fits}

nothing_answers : (a : Answered) → is_answer_to nothing a ≡ false
nothing_answers (Waited arrival) = refl
nothing_answers (Took ch got) = refl
nothing_answers (Dialled ch) = refl
nothing_answers (Emitted ch ok) = refl

-- nothing isn't a call that an item could answer
pub unanswerable : {A : Type 0} → (a : Answered) → is_answer_to nothing a ≡ true → A
unanswerable a e = absurd (false≢true (sym (nothing_answers a) ∙ e))

-- these items are heard
abbrev pub all_heard : List HeardItem → List Happening
all_heard [] = []
all_heard (item ∷ items) = hears item ∷ all_heard items

pub answers_all_heard : (items : List HeardItem) → answers_of (all_heard items) ≡ map (λ item. item.answer) items
answers_all_heard [] = refl
answers_all_heard (item ∷ items) = ap (λ (answers : List Answered). item.answer ∷ answers) (answers_all_heard items)

busy_change : (read : Readers) (s : Session) (tasks : List Task) (item : HeardItem) → IsNextAt tasks item
    → after_item read s item tasks ≡ after_desk s (desk_change (count s) s.desk item)
busy_change read s [] item next = unanswerable item.answer next.answers
busy_change read s (task ∷ tasks) item next = refl

-- a session with this desk, after this became of texts to the gateway
abbrev pub with_desk : Session → Desk → List TextFate → Session
with_desk s d gone = record s { links = s.links ++ flat_map links_of gone; queue = s.queue ++ flat_map queued_of gone; desk = d }

with_none : (s : Session) → with_desk s s.desk [] ≡ s
with_none s = λ i. record s { links = append-nil s.links i; queue = append-nil s.queue i }

with_both : (s : Session) (d e : Desk) (a b : List TextFate) → with_desk (with_desk s d a) e b ≡ with_desk s e (a ++ b)
with_both s d e a b =
    let links : (s.links ++ flat_map links_of a) ++ flat_map links_of b ≡ s.links ++ flat_map links_of (a ++ b) =
    append_assoc s.links (flat_map links_of a) (flat_map links_of b) ∙ ap (λ (ls : List Link). s.links ++ ls) (sym (flat_map-append links_of a b)) in
    let queue : (s.queue ++ flat_map queued_of a) ++ flat_map queued_of b ≡ s.queue ++ flat_map queued_of (a ++ b) =
    append_assoc s.queue (flat_map queued_of a) (flat_map queued_of b) ∙ ap (λ (qs : List Queued). s.queue ++ qs) (sym (flat_map-append queued_of a b)) in
    λ i. record s { links = links i; queue = queue i; desk = e }

pub desk_in_session : (read : Readers) (s : Session) (items : List HeardItem) → FitsDesk (count s) s.desk items
    → session_after read s (all_heard items) ≡ with_desk s (desk_after (count s) s.desk items) (desk_gone (count s) s.desk items)
desk_in_session read s [] fits = sym (with_none s)
desk_in_session read s (item ∷ items) fits =
    let c = desk_change (count s) s.desk item in
    ap (λ (c : Change). session_after read c.session (all_heard items)) (busy_change read s s.desk.tasks item fits.0)
    ∙ desk_in_session read (with_desk s c.desk c.gone) items fits.1
    ∙ with_both s c.desk (desk_after (count s) c.desk items) c.gone (desk_gone (count s) c.desk items)

pub desk_steps_in_session : (read : Readers) (s : Session) (items : List HeardItem) → FitsDesk (count s) s.desk items
    → session_steps read s (all_heard items) ≡ desk_steps (count s) s.desk items
desk_steps_in_session read s [] fits = refl
desk_steps_in_session read s (item ∷ items) fits =
    let c = desk_change (count s) s.desk item in
    ap (λ (c : Change). c.steps ++ session_steps read c.session (all_heard items)) (busy_change read s s.desk.tasks item fits.0)
    ∙ ap (λ (steps : List Step). c.steps ++ steps) (desk_steps_in_session read (with_desk s c.desk c.gone) items fits.1)

busy_next : (s : Session) (tasks : List Task) (item : HeardItem) → IsNextAt tasks item → next_by s tasks ≡ next_of_tasks tasks
busy_next s [] item next = unanswerable item.answer next.answers
busy_next s (task ∷ tasks) item next = refl

-- no take answers a text's call
task_takes : {A : Type 0} (task : Task) (ch : Channel) (got : Option (List ℕ)) → is_answer_to (next_for task) (Took ch got) ≡ true → A
task_takes (to_dial subject text) ch got e = absurd (false≢true e)
task_takes (to_send to subject text) ch got e = absurd (false≢true e)
task_takes (to_reply to text) ch got e = absurd (false≢true e)

busy_early : (s : Session) (tasks : List Task) (item : HeardItem) (answer : Answered) → is_answer_to (next_of_tasks tasks) answer ≡ true → MayBeEarly s item answer
busy_early s [] item answer e = unanswerable answer e
busy_early s (task ∷ tasks) item (Waited arrival) e = tt
busy_early s (task ∷ tasks) item (Took ch got) e = task_takes task ch got e
busy_early s (task ∷ tasks) item (Dialled ch) e = tt
busy_early s (task ∷ tasks) item (Emitted ch ok) e = tt

busy_is_next : (s : Session) (item : HeardItem) → IsNextAt s.desk.tasks item → IsNext s item
busy_is_next s item next =
    let same = sym (busy_next s s.desk.tasks item next) in
    record {
      answers = subst (λ (next : Next). is_answer_to next item.answer ≡ true) same next.answers;
      torn = subst (λ (next : Next). IsTornEmit next item.answer item.torn) same next.torn;
      early = busy_early s s.desk.tasks item item.answer next.answers;
    }

pub desk_fits_session : (read : Readers) (s : Session) (items : List HeardItem) → FitsDesk (count s) s.desk items → Fits read s (all_heard items)
desk_fits_session read s [] fits = tt
desk_fits_session read s (item ∷ items) fits =
    let c = desk_change (count s) s.desk item in (
      busy_is_next s item fits.0,
      subst (λ (c : Change). Fits read c.session (all_heard items)) (sym (busy_change read s s.desk.tasks item fits.0))
          (desk_fits_session read (with_desk s c.desk c.gone) items fits.1),
    )
