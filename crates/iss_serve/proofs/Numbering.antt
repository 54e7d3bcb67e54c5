-- What is held numbers its calls and notices from 1, and what is heard is in form.
use Rattle.std.proofs.Common.{◌≡◌, ℕ, suc, zero, ◌<◌, Bool, true, false, cond, not, ◌&&◌, List, [], ◌∷◌, ◌++◌, length, get_or, refl, sym, ap, ap₂, subst, ◌∙◌, arith}
use Rattle.std.specs.Prelude.{Option, ◌==◌}
use Rattle.std.specs.List.{list_all}
use Rattle.std.proofs.lemmas.Bool.{and_parts}
use Rattle.std.proofs.lemmas.List.Folds.{list_all-append}
use Rattle.iss_edge.specs.declared.outside.Channel.{Channel}
use Rattle.iss_model.specs.declared.call.CallId.{CallId}
use Rattle.iss_model.proofs.Lists.{find_passes}
use Rattle.iss_http.specs.Answers.{AnswerReading, more, ended, garbled, whole}
use Rattle.iss_http.specs.declared.statuses.TheConstants.{OK}
use Rattle.iss_jit.specs.Outcomes.{outcome_of}
use Rattle.iss_jit.proofs.EachOutcome.{in_form}
use Rattle.iss_session.specs.Desks.{Subject, of_call, of_notice}
use Rattle.iss_session.specs.Hearings.{links_of}
use Rattle.iss_session.specs.Items.{same_channel}
use Rattle.iss_session.specs.Links.{Link, LinkHeard, unfinished, outcome, acknowledged, dropped, heard_as, link_reading, piece_of, links_after, links_with, links_without}
use Rattle.iss_link.specs.declared.gone.Gone as link
use Rattle.iss_link.specs.declared.gone.Gone.TheVariants.{Asked, Noted, Unreached}
use Rattle.iss_link.specs.Hearing.{Answers}
use Rattle.iss_link.specs.Values.{LinksNow, gone_as}
use Rattle.iss_opening.specs.Numbers.{is_from_one}
use Rattle.iss_store.specs.Serving.{has_number}
use Rattle.iss_serve.specs.Held.{CallsNumbered, LinksNumbered, is_about_number, is_heard_in_form}

-- ---- lists

-- what holds of each element holds of the one at a place
pub all_at : {A : Type 0} (p : A → Bool) (xs : List A) (i : ℕ) (d : A) → i < length xs → list_all p xs ≡ true → p (get_or xs i d) ≡ true
all_at p [] i d within h = absurd (none within)
  where
    none : i < 0 → ⊥
    none k = omega (arith, k)
all_at p (y ∷ xs) zero d within h = (and_parts (p y) (list_all p xs) h).0
all_at p (y ∷ xs) (suc i) d within h = all_at p xs i d (omega (arith, within)) (and_parts (p y) (list_all p xs) h).1

both_all : {A : Type 0} (p : A → Bool) (xs ys : List A) → list_all p xs ≡ true → list_all p ys ≡ true → list_all p (xs ++ ys) ≡ true
both_all p xs ys h k = list_all-append p xs ys ∙ ap₂ (λ (a b : Bool). a && b) h k

-- ---- what became of messages

pub unreached_numbered : (before after : List CallId) (call : CallId) → after ≡ before ++ call ∷ [] → is_from_one call.0 ≡ true → CallsNumbered before → CallsNumbered after
unreached_numbered before after call e h calls =
    subst CallsNumbered (sym e) (both_all (λ (c : CallId). is_from_one c.0) before (call ∷ []) calls (ap (λ (b : Bool). b && true) h))

its_links : (g : link.Gone) → has_number g ≡ true → LinksNumbered (links_of (gone_as g))
its_links (Asked opened ch) h = ap (λ (b : Bool). b && true) h
its_links (Noted number ch) h = ap (λ (b : Bool). b && true) h
its_links (Unreached call) h = refl

pub watched_numbered : (before after : List Link) (g : link.Gone) → after ≡ before ++ links_of (gone_as g) → has_number g ≡ true → LinksNumbered before → LinksNumbered after
watched_numbered before after g e h links =
    subst LinksNumbered (sym e) (both_all (λ (l : Link). is_about_number l.subject) before (links_of (gone_as g)) links (its_links g h))

-- ---- what is heard

heard_in_form : (instance : ℕ) (subject : Subject) (reading : AnswerReading) → is_about_number subject ≡ true → is_heard_in_form (heard_as (outcome_of instance) subject reading) ≡ true
heard_in_form instance (of_call o) more h = refl
heard_in_form instance (of_call o) ended h = ap (λ (b : Bool). b && true) h
heard_in_form instance (of_call o) garbled h = ap (λ (b : Bool). b && true) h
heard_in_form instance (of_call o) (whole status body) h = ap₂ (λ (a b : Bool). a && b) h (in_form instance o status body)
heard_in_form instance (of_notice n) more h = refl
heard_in_form instance (of_notice n) ended h = refl
heard_in_form instance (of_notice n) garbled h = refl
heard_in_form instance (of_notice n) (whole status body) h = by (status == OK)
  where
    by : (b : Bool) → is_heard_in_form (cond b (acknowledged n) (dropped n)) ≡ true
    by true = h
    by false = refl

pub answer_in_form : (before after : LinksNow) (ch : Channel) (got : Option (List ℕ)) (said : LinkHeard) → Answers before after ch got said → LinksNumbered before.links → is_heard_in_form said ≡ true
answer_in_form before after ch got said answers links =
    ap is_heard_in_form answers.answer
    ∙ heard_in_form before.instance answers.link.subject (link_reading answers.link got answers.early)
    (find_passes (λ (l : Link). same_channel l.ch ch) (λ (l : Link). is_about_number l.subject) before.links answers.link links answers.found)

with_numbered : (ch : Channel) (piece : List ℕ) (links : List Link) → LinksNumbered links → LinksNumbered (links_with ch piece links)
with_numbered ch piece [] h = refl
with_numbered ch piece (l ∷ links) h =
    let both = and_parts (is_about_number l.subject) (list_all (λ (x : Link). is_about_number x.subject) links) h in
    by (same_channel l.ch ch) both.0 both.1 (with_numbered ch piece links both.1)
  where
    by : (b : Bool) → is_about_number l.subject ≡ true → LinksNumbered links → LinksNumbered (links_with ch piece links)
        → LinksNumbered (cond b (record l { bytes = l.bytes ++ piece } ∷ links) (l ∷ links_with ch piece links))
    by true first rest changed = ap₂ (λ (a c : Bool). a && c) first rest
    by false first rest changed = ap₂ (λ (a c : Bool). a && c) first changed

without_numbered : (ch : Channel) (links : List Link) → LinksNumbered links → LinksNumbered (links_without ch links)
without_numbered ch [] h = refl
without_numbered ch (l ∷ links) h =
    let both = and_parts (is_about_number l.subject) (list_all (λ (x : Link). is_about_number x.subject) links) h in
    by (not (same_channel l.ch ch)) both.0 (without_numbered ch links both.1)
  where
    by : (b : Bool) → is_about_number l.subject ≡ true → LinksNumbered (links_without ch links) → LinksNumbered (cond b (l ∷ links_without ch links) (links_without ch links))
    by true first rest = ap₂ (λ (a c : Bool). a && c) first rest
    by false first rest = rest

after_numbered : (ch : Channel) (piece : List ℕ) (links : List Link) (said : LinkHeard) → LinksNumbered links → LinksNumbered (links_after ch piece links said)
after_numbered ch piece links unfinished h = with_numbered ch piece links h
after_numbered ch piece links (outcome call what) h = without_numbered ch links h
after_numbered ch piece links (acknowledged number) h = without_numbered ch links h
after_numbered ch piece links (dropped number) h = without_numbered ch links h

pub left_numbered : (before after : LinksNow) (ch : Channel) (got : Option (List ℕ)) (said : LinkHeard) → Answers before after ch got said → LinksNumbered before.links → LinksNumbered after.links
left_numbered before after ch got said answers links = subst LinksNumbered (sym answers.links) (after_numbered ch (piece_of got) before.links said links)
