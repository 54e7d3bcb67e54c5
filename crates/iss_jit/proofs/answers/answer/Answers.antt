use Rattle.std.specs.Prelude.{◌↔◌}
use Rattle.std.proofs.Common.{◌≡◌, IsTrue}
use Rattle.iss_model.specs.declared.input.Outcome.{Outcome}
use Rattle.iss_model.specs.declared.input.Outcome.TheVariants.{Refused, Connection}
use Rattle.iss_model.specs.Forms.{is_outcome}
use Rattle.iss_jit.specs.declared.answers.TheConstants.{REFUSED}
use Rattle.iss_jit.specs.Outcomes.{CountsIfPart}
use Rattle.iss_jit.proofs.EachOutcome.{said_as, refused_at, no_connection, in_form, counts}
use Rattle.iss_jit.proofs.answers.answer.Goals as goal

pub returns-clause-refused : goal.returns-clause-refused
returns-clause-refused c =
    said_as (λ (o : Outcome). (o ≡ Refused) ↔ (c.args.status ≡ REFUSED)) c.outcome_of.result _ c.outcome_of.ensures
    (refused_at c.args.instance c.args.opened.now c.args.status c.args.body.now)

pub returns-clause-never_connection : goal.returns-clause-never_connection
returns-clause-never_connection c =
    said_as (λ (o : Outcome). o ≡ Connection → ⊥) c.outcome_of.result _ c.outcome_of.ensures
    (no_connection c.args.instance c.args.opened.now c.args.status c.args.body.now)

pub returns-clause-form : goal.returns-clause-form
returns-clause-form c =
    said_as (λ (o : Outcome). IsTrue (is_outcome o)) c.outcome_of.result _ c.outcome_of.ensures
    (in_form c.args.instance c.args.opened.now c.args.status c.args.body.now)

pub returns-clause-part : goal.returns-clause-part
returns-clause-part c =
    said_as (CountsIfPart c.args.opened.now) c.outcome_of.result _ c.outcome_of.ensures
    (counts c.args.instance c.args.opened.now c.args.status c.args.body.now)
