use Rattle.std.proofs.Common.{rules, ◌≡◌, ℕ, ◌*◌, [], ◌∷◌, ◌++◌, refl, ap, ◌∙◌}
use Rattle.std.specs.Prelude.{Some, None}
use Rattle.iss_model.specs.run.Transcripts.{sound}
use Rattle.iss_drill.specs.Events.{outcome_of}
use Rattle.iss_drill.proofs.Courses.{event_answered, event_alone}
use Rattle.iss_drill.proofs.run.give_event.Goals as goal

pub returns-clause-given : goal.returns-clause-given
returns-clause-given c =
    λ start lines event drawn given.
    let at : ℕ = 60000 * c.from-at.result in
    event_answered start lines c.args.number c.args.event.now at c.in-Some.call c.outcome_of-outcome.result c.in_ok-next.opened c.give-2.new.tally c.in_ok-answered.answered
    event (ap (λ (n : ℕ). 60000 * n) c.from-at.ensures) (c.in_ok-next.ensures.opened start lines given) c.in-Some.is
    (c.outcome_of-outcome.ensures.value ∙ ap (λ (y : ℕ). outcome_of y) drawn)
    (c.in_ok-answered.ensures.given start (lines ++ sound c.args.event.now (Some at) ∷ []) (Some at) refl
    (c.in_ok-next.ensures.given start lines (Some at) refl given))

pub returns-in_default-clause-given : goal.returns-in_default-clause-given
returns-in_default-clause-given c =
    λ start lines event drawn given.
    let at : ℕ = 60000 * c.from-at.result in
    let none : c.in_ok-next.opened ≡ None = search rules in
    event_alone start lines c.args.number c.args.event.now at c.in_ok-next.opened c.give.new.tally c.in_ok-next.next
    event (ap (λ (n : ℕ). 60000 * n) c.from-at.ensures) (c.in_ok-next.ensures.opened start lines given) none
    (c.in_ok-next.ensures.given start lines (Some at) refl given)
