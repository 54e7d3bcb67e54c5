-- What was heard decides what a session went through.
use Rattle.std.proofs.Common.{◌≡◌, refl, sym, ap, subst, ◌∙◌, Bool, true, false, List, [], ◌∷◌}
use Rattle.std.proofs.lemmas.Bool.{false≢true}
use Rattle.iss_edge.specs.declared.outside.Answered.{Answered}
use Rattle.iss_edge.specs.declared.outside.Answered.TheVariants.{Waited, Took, Dialled, Emitted}
use Rattle.iss_session.specs.Items.{HeardItem, Happening, hears, judges, Next, judging, nothing, is_answer_to, items_of}
use Rattle.iss_session.specs.Sessions.{Readers, Session, next_of}
use Rattle.iss_session.specs.Happenings.{session_change, session_after, Fits, IsNext, IsComplete}
use Rattle.iss_session.proofs.DesksInSessions.{unanswerable}

abbrev first_or : HeardItem → List HeardItem → HeardItem
first_or other [] = other
first_or other (item ∷ items) = item

abbrev others : List HeardItem → List HeardItem
others [] = []
others (item ∷ items) = items

abbrev is_judging : Next → Bool
is_judging judging = true
is_judging _ = false

judging_answers : (a : Answered) → is_answer_to judging a ≡ false
judging_answers (Waited arrival) = refl
judging_answers (Took ch got) = refl
judging_answers (Dialled ch) = refl
judging_answers (Emitted ch ok) = refl

not_both : {A : Type 0} → (s : Session) (item : HeardItem) → IsNext s item → next_of s ≡ judging → A
not_both s item next e =
    absurd (false≢true (sym (judging_answers item.answer) ∙ ap (λ (n : Next). is_answer_to n item.answer) (sym e) ∙ next.answers))

not_over : {A : Type 0} → (s : Session) (item : HeardItem) → IsNext s item → next_of s ≡ nothing → A
not_over s item next e = unanswerable item.answer (ap (λ (n : Next). is_answer_to n item.answer) (sym e) ∙ next.answers)

not_idle : {A : Type 0} → (s : Session) → next_of s ≡ judging → next_of s ≡ nothing → A
not_idle s e f = absurd (false≢true (ap is_judging (sym f ∙ e)))

pub heard_decides : (read : Readers) (s : Session) (a b : List Happening) → Fits read s a → Fits read s b
    → IsComplete (session_after read s a) → IsComplete (session_after read s b) → items_of a ≡ items_of b → a ≡ b
heard_decides read s [] [] fa fb ca cb e = refl
heard_decides read s [] (hears y ∷ b) fa fb ca cb e = not_over s y fb.0 ca
heard_decides read s [] (judges ∷ b) fa fb ca cb e = not_idle s fb.0 ca
heard_decides read s (hears x ∷ a) [] fa fb ca cb e = not_over s x fa.0 cb
heard_decides read s (judges ∷ a) [] fa fb ca cb e = not_idle s fa.0 cb
heard_decides read s (hears x ∷ a) (judges ∷ b) fa fb ca cb e = not_both s x fa.0 fb.0
heard_decides read s (judges ∷ a) (hears y ∷ b) fa fb ca cb e = not_both s y fb.0 fa.0
heard_decides read s (judges ∷ a) (judges ∷ b) fa fb ca cb e =
    ap (λ (hs : List Happening). judges ∷ hs) (heard_decides read (session_change read s judges).session a b fa.1 fb.1 ca cb e)
heard_decides read s (hears x ∷ a) (hears y ∷ b) fa fb ca cb e =
    let same : x ≡ y = ap (first_or x) e in
    let fits = subst (λ (z : HeardItem). Fits read (session_change read s (hears z)).session b) (sym same) fb.1 in
    let complete = subst (λ (z : HeardItem). IsComplete (session_after read (session_change read s (hears z)).session b)) (sym same) cb in
    ap (λ (hs : List Happening). hears x ∷ hs) (heard_decides read (session_change read s (hears x)).session a b fa.1 fits ca complete (ap others e))
    ∙ ap (λ (z : HeardItem). hears z ∷ b) same
