use Rattle.std.proofs.Common.{[], ◌∷◌, ◌++◌, refl, subst}
use Rattle.std.specs.Prelude.{None}
use Rattle.iss_model.specs.declared.input.Input.{Input}
use Rattle.iss_model.specs.run.Transcripts.{sound}
use Rattle.iss_drill.specs.Giving.{HasGiven}
use Rattle.iss_drill.proofs.run.give_setup.Goals as goal

pub returns-clause-given : goal.returns-clause-given
returns-clause-given c =
    λ start lines given.
    subst (λ (i : Input). HasGiven start (lines ++ sound i None ∷ []) c.give.new.tally c.in_ok-next.next) c.setup_input.ensures.value
    (c.in_ok-next.ensures.given start lines None refl given)
