-- Two parts of what was heard, one after the other.
use Rattle.std.proofs.Common.{◌≡◌, ℕ, List, [], ◌∷◌, ◌++◌, refl, sym, ap, ◌∙◌, append_assoc}
use Rattle.iss_edge.specs.declared.outside.Answered.{Answered}
use Rattle.iss_edge.specs.Stretches.{Step}
use Rattle.iss_session.specs.Items.{HeardItem, Happening, hears, judges, answers_of}
use Rattle.iss_session.specs.Desks.{Desk, TextFate, desk_change, desk_after, desk_steps, desk_gone, FitsDesk}
use Rattle.iss_session.specs.Sessions.{Readers, Session}
use Rattle.iss_session.specs.Happenings.{session_change, session_after, session_steps, Fits}

pub after_append : (read : Readers) (s : Session) (a b : List Happening) → session_after read s (a ++ b) ≡ session_after read (session_after read s a) b
after_append read s [] b = refl
after_append read s (h ∷ a) b = after_append read (session_change read s h).session a b

pub steps_append : (read : Readers) (s : Session) (a b : List Happening)
    → session_steps read s (a ++ b) ≡ session_steps read s a ++ session_steps read (session_after read s a) b
steps_append read s [] b = refl
steps_append read s (h ∷ a) b =
    let c = session_change read s h in
    ap (λ (steps : List Step). c.steps ++ steps) (steps_append read c.session a b)
    ∙ sym (append_assoc c.steps (session_steps read c.session a) (session_steps read (session_after read c.session a) b))

pub fits_append : (read : Readers) (s : Session) (a b : List Happening) → Fits read s a → Fits read (session_after read s a) b → Fits read s (a ++ b)
fits_append read s [] b fa fb = fb
fits_append read s (h ∷ a) b fa fb = (fa.0, fits_append read (session_change read s h).session a b fa.1 fb)

pub fits_front : (read : Readers) (s : Session) (a b : List Happening) → Fits read s (a ++ b) → Fits read s a
fits_front read s [] b f = tt
fits_front read s (h ∷ a) b f = (f.0, fits_front read (session_change read s h).session a b f.1)

pub fits_rest : (read : Readers) (s : Session) (a b : List Happening) → Fits read s (a ++ b) → Fits read (session_after read s a) b
fits_rest read s [] b f = f
fits_rest read s (h ∷ a) b f = fits_rest read (session_change read s h).session a b f.1

pub answers_append : (a b : List Happening) → answers_of (a ++ b) ≡ answers_of a ++ answers_of b
answers_append [] b = refl
answers_append (hears item ∷ a) b = ap (λ (answers : List Answered). item.answer ∷ answers) (answers_append a b)
answers_append (judges ∷ a) b = answers_append a b

-- the same of a desk's items

pub desk_after_append : (level : ℕ) (d : Desk) (a b : List HeardItem) → desk_after level d (a ++ b) ≡ desk_after level (desk_after level d a) b
desk_after_append level d [] b = refl
desk_after_append level d (item ∷ a) b = desk_after_append level (desk_change level d item).desk a b

pub desk_steps_append : (level : ℕ) (d : Desk) (a b : List HeardItem)
    → desk_steps level d (a ++ b) ≡ desk_steps level d a ++ desk_steps level (desk_after level d a) b
desk_steps_append level d [] b = refl
desk_steps_append level d (item ∷ a) b =
    let c = desk_change level d item in
    ap (λ (steps : List Step). c.steps ++ steps) (desk_steps_append level c.desk a b)
    ∙ sym (append_assoc c.steps (desk_steps level c.desk a) (desk_steps level (desk_after level c.desk a) b))

pub desk_gone_append : (level : ℕ) (d : Desk) (a b : List HeardItem)
    → desk_gone level d (a ++ b) ≡ desk_gone level d a ++ desk_gone level (desk_after level d a) b
desk_gone_append level d [] b = refl
desk_gone_append level d (item ∷ a) b =
    let c = desk_change level d item in
    ap (λ (gone : List TextFate). c.gone ++ gone) (desk_gone_append level c.desk a b)
    ∙ sym (append_assoc c.gone (desk_gone level c.desk a) (desk_gone level (desk_after level c.desk a) b))

pub fits_desk_append : (level : ℕ) (d : Desk) (a b : List HeardItem) → FitsDesk level d a → FitsDesk level (desk_after level d a) b → FitsDesk level d (a ++ b)
fits_desk_append level d [] b fa fb = fb
fits_desk_append level d (item ∷ a) b fa fb = (fa.0, fits_desk_append level (desk_change level d item).desk a b fa.1 fb)
