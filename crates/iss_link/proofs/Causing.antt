-- What each answer on a link comes by.
use Rattle.std.proofs.Common.{◌≡◌, ℕ, ◌==◌, Bool, true, false, cond, List, [], ◌∷◌, ◌++◌, Some, None, refl, sym, ap, ◌∙◌, arith, true≢false, inl, inr}
use Rattle.std.proofs.lemmas.Bool.Decides.{nat_tests}
use Rattle.std.specs.Prelude.{◌⊎◌}
use Rattle.iss_model.specs.declared.call.Opened.{Opened}
use Rattle.iss_model.specs.declared.call.CallId.{CallId}
use Rattle.iss_model.specs.declared.currency.Currency.{Currency}
use Rattle.iss_model.specs.declared.input.Outcome.{Outcome}
use Rattle.iss_model.specs.declared.input.Outcome.TheVariants.{Funded, Refused, Application, Connection, Partial}
use Rattle.iss_http.specs.declared.statuses.TheConstants.{OK}
use Rattle.iss_http.specs.Answers.{AnswerReading, more, ended, garbled, whole, answer_read}
use Rattle.iss_http.proofs.Endings.{is_more, is_ended, no_more_once_over, no_end_before}
use Rattle.iss_jit.specs.declared.answers.TheConstants.{REFUSED}
use Rattle.iss_jit.specs.Outcomes.{outcome_of}
use Rattle.iss_jit.proofs.EachOutcome.{refused_at, no_connection}
use Rattle.iss_session.specs.Desks.{Subject, of_call, of_notice}
use Rattle.iss_session.specs.Links.{LinkHeard, unfinished, outcome, acknowledged, dropped, reading_early, heard_as}
use Rattle.iss_link.specs.Causes.{UnfinishedOnlyAt, ConnectionOnlyAt, ApplicationExactly, RefusedExactly, PartExactly, AcknowledgedExactly, DroppedExactly}

either : {A B C : Type 0} → (A → C) → (B → C) → A ⊎ B → C
either f g (inl a) = f a
either f g (inr b) = g b

-- ---- what is heard as what

abbrev is_unfinished : LinkHeard → Bool
is_unfinished unfinished = true
is_unfinished _ = false

abbrev outcome_in : LinkHeard → Outcome
outcome_in (outcome call o) = o
outcome_in _ = Funded

abbrev is_outcome : LinkHeard → Bool
is_outcome (outcome call o) = true
is_outcome _ = false

abbrev is_acknowledged : LinkHeard → Bool
is_acknowledged (acknowledged n) = true
is_acknowledged _ = false

abbrev is_refused : Outcome → Bool
is_refused Refused = true
is_refused _ = false

abbrev is_application : Outcome → Bool
is_application Application = true
is_application _ = false

abbrev is_part : Outcome → Bool
is_part (Partial currency amount) = true
is_part _ = false

-- what a whole answer means for a notice
either_told : (test : LinkHeard → Bool) (b : Bool) (n : ℕ) → test (acknowledged n) ≡ false → test (dropped n) ≡ false → test (cond b (acknowledged n) (dropped n)) ≡ false
either_told test true n p q = p
either_told test false n p q = q

more_only : (instance : ℕ) (subject : Subject) (reading : AnswerReading) → heard_as (outcome_of instance) subject reading ≡ unfinished → reading ≡ more
more_only instance subject more e = refl
more_only instance (of_call o) ended e = absurd (true≢false (sym (ap is_unfinished e)))
more_only instance (of_call o) garbled e = absurd (true≢false (sym (ap is_unfinished e)))
more_only instance (of_call o) (whole status body) e = absurd (true≢false (sym (ap is_unfinished e)))
more_only instance (of_notice n) ended e = absurd (true≢false (sym (ap is_unfinished e)))
more_only instance (of_notice n) garbled e = absurd (true≢false (sym (ap is_unfinished e)))
more_only instance (of_notice n) (whole status body) e =
    absurd (true≢false (sym (ap is_unfinished e) ∙ either_told is_unfinished (status == OK) n refl refl))

ended_only : (instance : ℕ) (subject : Subject) (reading : AnswerReading) (call : CallId) → heard_as (outcome_of instance) subject reading ≡ outcome call Connection → reading ≡ ended
ended_only instance subject ended call e = refl
ended_only instance (of_call o) more call e = absurd (true≢false (ap is_unfinished e))
ended_only instance (of_notice n) more call e = absurd (true≢false (ap is_unfinished e))
ended_only instance (of_call o) garbled call e = absurd (true≢false (ap (λ (h : LinkHeard). is_application (outcome_in h)) e))
ended_only instance (of_call o) (whole status body) call e =
    absurd (no_connection instance o status body (ap outcome_in e))
ended_only instance (of_notice n) garbled call e = absurd (true≢false (sym (ap is_outcome e)))
ended_only instance (of_notice n) (whole status body) call e =
    absurd (true≢false (sym (ap is_outcome e) ∙ either_told is_outcome (status == OK) n refl refl))

-- ---- by what a take brought

not_early : (early : Bool) (reading : AnswerReading) → (reading_early early reading ≡ garbled → ⊥) → reading_early early reading ≡ reading
not_early true reading other = absurd (other refl)
not_early false reading other = refl

pub unfinished_only : UnfinishedOnlyAt
unfinished_only instance link None early e = absurd (true≢false (sym (ap is_more (more_only instance link.subject ended e))))
unfinished_only instance link (Some []) early e =
    let all = link.bytes ++ [] in
    let now : reading_early early (answer_read all true) ≡ more = more_only instance link.subject (reading_early early (answer_read all true)) e in
    absurd (true≢false (sym (ap is_more (sym (not_early early (answer_read all true) (λ g. true≢false (sym (ap is_more now) ∙ ap is_more g))) ∙ now)) ∙ no_more_once_over all))
unfinished_only instance link (Some (b ∷ piece)) early e =
    let all = link.bytes ++ b ∷ piece in
    let now : reading_early early (answer_read all false) ≡ more = more_only instance link.subject (reading_early early (answer_read all false)) e in
    sym (not_early early (answer_read all false) (λ g. true≢false (sym (ap is_more now) ∙ ap is_more g))) ∙ now

pub connection_only : ConnectionOnlyAt
connection_only instance link call None early e = tt
connection_only instance link call (Some []) early e =
    let all = link.bytes ++ [] in
    let now : reading_early early (answer_read all true) ≡ ended = ended_only instance link.subject (reading_early early (answer_read all true)) call e in
    sym (not_early early (answer_read all true) (λ g. true≢false (sym (ap is_ended now) ∙ ap is_ended g))) ∙ now
connection_only instance link call (Some (b ∷ piece)) early e =
    let all = link.bytes ++ b ∷ piece in
    let now : reading_early early (answer_read all false) ≡ ended = ended_only instance link.subject (reading_early early (answer_read all false)) call e in
    true≢false (sym (ap is_ended (sym (not_early early (answer_read all false) (λ g. true≢false (sym (ap is_ended now) ∙ ap is_ended g))) ∙ now)) ∙ no_end_before all)

-- ---- by what the bytes are

pub application_exactly : ApplicationExactly
application_exactly instance o more = (λ e. absurd (true≢false (ap is_unfinished e)), either (λ e. absurd (true≢false (ap is_more e))) (λ w. absurd (true≢false (ap is_more w.is))))
application_exactly instance o ended =
    (λ e. absurd (true≢false (sym (ap (λ (h : LinkHeard). is_application (outcome_in h)) e))), either (λ e. absurd (true≢false (ap is_ended e))) (λ w. absurd (true≢false (ap is_ended w.is))))
application_exactly instance o garbled = (λ e. inl refl, λ w. refl)
application_exactly instance o (whole status body) = (
  λ e. inr (record { status = status; body = body; is = refl; so = ap outcome_in e }),
  either (λ e. absurd (not_garbled status body e)) (λ w. ap (outcome o.call) (by_whole instance o status body w.status w.body w.is w.so)),
)
  where
    not_garbled : (status : ℕ) (body : List ℕ) → whole status body ≡ garbled → ⊥
    not_garbled status body e = cc

    by_whole : (instance : ℕ) (o : Opened) (status : ℕ) (body : List ℕ) (s : ℕ) (b : List ℕ) → whole status body ≡ whole s b → outcome_of instance o s b ≡ Application → outcome_of instance o status body ≡ Application
    by_whole instance o status body s b e so = cc

is_number : (n m : ℕ) → (n == m) ≡ true → n ≡ m
is_number n m e = grind (arith, nat_tests)

pub refused_exactly : RefusedExactly
refused_exactly instance o more = (λ e. absurd (true≢false (ap is_unfinished e)), λ w. absurd (true≢false (ap is_more w.is)))
refused_exactly instance o ended = (λ e. absurd (true≢false (sym (ap (λ (h : LinkHeard). is_refused (outcome_in h)) e))), λ w. absurd (true≢false (ap is_ended w.is)))
refused_exactly instance o garbled = (λ e. absurd (true≢false (sym (ap (λ (h : LinkHeard). is_refused (outcome_in h)) e))), λ w. absurd (not_whole w.status w.body w.is))
  where
    not_whole : (status : ℕ) (body : List ℕ) → garbled ≡ whole status body → ⊥
    not_whole status body e = cc
refused_exactly instance o (whole status body) = (
  λ e. record { status = status; body = body; is = refl; so = (refused_at instance o status body).0 (ap outcome_in e) },
  λ w. ap (outcome o.call) ((refused_at instance o status body).1 (by_whole status body w.status w.body w.is w.so)),
)
  where
    by_whole : (status : ℕ) (body : List ℕ) (s : ℕ) (b : List ℕ) → whole status body ≡ whole s b → s ≡ REFUSED → status ≡ REFUSED
    by_whole status body s b e so = cc

pub part_exactly : PartExactly
part_exactly instance o c x more = (λ e. absurd (true≢false (ap is_unfinished e)), λ w. absurd (true≢false (ap is_more w.is)))
part_exactly instance o c x ended = (λ e. absurd (true≢false (sym (ap (λ (h : LinkHeard). is_part (outcome_in h)) e))), λ w. absurd (true≢false (ap is_ended w.is)))
part_exactly instance o c x garbled = (λ e. absurd (true≢false (sym (ap (λ (h : LinkHeard). is_part (outcome_in h)) e))), λ w. absurd (not_whole w.status w.body w.is))
  where
    not_whole : (status : ℕ) (body : List ℕ) → garbled ≡ whole status body → ⊥
    not_whole status body e = cc
part_exactly instance o c x (whole status body) = (
  λ e. record { status = status; body = body; is = refl; so = ap outcome_in e },
  λ w. ap (outcome o.call) (by_whole instance o c x status body w.status w.body w.is w.so),
)
  where
    by_whole : (instance : ℕ) (o : Opened) (c : Currency) (x : ℕ) (status : ℕ) (body : List ℕ) (s : ℕ) (b : List ℕ) → whole status body ≡ whole s b
        → outcome_of instance o s b ≡ Partial c x → outcome_of instance o status body ≡ Partial c x
    by_whole instance o c x status body s b e so = cc

at_200 : (n status : ℕ) → status ≡ OK → cond (status == OK) (acknowledged n) (dropped n) ≡ acknowledged n
at_200 n status e = ap (λ (m : ℕ). cond (m == OK) (acknowledged n) (dropped n)) e

only_200 : (n : ℕ) (b : Bool) → cond b (acknowledged n) (dropped n) ≡ acknowledged n → b ≡ true
only_200 n true e = refl
only_200 n false e = ap is_acknowledged e

pub acknowledged_exactly : AcknowledgedExactly
acknowledged_exactly instance n more = (λ e. absurd (true≢false (ap is_unfinished e)), λ w. absurd (true≢false (ap is_more w.is)))
acknowledged_exactly instance n ended = (λ e. absurd (true≢false (sym (ap is_acknowledged e))), λ w. absurd (true≢false (ap is_ended w.is)))
acknowledged_exactly instance n garbled = (λ e. absurd (true≢false (sym (ap is_acknowledged e))), λ w. absurd (not_whole w.status w.body w.is))
  where
    not_whole : (status : ℕ) (body : List ℕ) → garbled ≡ whole status body → ⊥
    not_whole status body e = cc
acknowledged_exactly instance n (whole status body) = (
  λ e. record { status = status; body = body; is = refl; so = is_number status OK (only_200 n (status == OK) e) },
  λ w. at_200 n status (by_whole status body w.status w.body w.is w.so),
)
  where
    by_whole : (status : ℕ) (body : List ℕ) (s : ℕ) (b : List ℕ) → whole status body ≡ whole s b → s ≡ OK → status ≡ OK
    by_whole status body s b e so = cc

not_200 : (n : ℕ) (status : ℕ) → (status ≡ OK → ⊥) → cond (status == OK) (acknowledged n) (dropped n) ≡ dropped n
not_200 n status other = pick (status == OK) (λ e. other (is_number status OK e))
  where
    pick : (b : Bool) → (b ≡ true → ⊥) → cond b (acknowledged n) (dropped n) ≡ dropped n
    pick true other = absurd (other refl)
    pick false other = refl

pub dropped_exactly : DroppedExactly
dropped_exactly instance n more = (
  λ e. absurd (true≢false (ap is_unfinished e)),
  either (λ e. absurd (true≢false (ap is_more e))) (either (λ e. absurd (true≢false (ap is_more e))) (λ w. absurd (true≢false (ap is_more w.is)))),
)
dropped_exactly instance n ended = (λ e. inl refl, λ w. refl)
dropped_exactly instance n garbled = (λ e. inr (inl refl), λ w. refl)
dropped_exactly instance n (whole status body) = (
  λ e. inr (inr (record { status = status; body = body; is = refl; so = λ is. true≢false (ap is_acknowledged (sym (at_200 n status is) ∙ e)) })),
  either (λ e. absurd (not_ended status body e))
      (either (λ e. absurd (not_garbled status body e)) (λ w. not_200 n status (λ is. w.so (by_whole status body w.status w.body w.is is)))),
)
  where
    not_ended : (status : ℕ) (body : List ℕ) → whole status body ≡ ended → ⊥
    not_ended status body e = cc

    not_garbled : (status : ℕ) (body : List ℕ) → whole status body ≡ garbled → ⊥
    not_garbled status body e = cc

    by_whole : (status : ℕ) (body : List ℕ) (s : ℕ) (b : List ℕ) → whole status body ≡ whole s b → status ≡ OK → s ≡ OK
    by_whole status body s b e so = cc
