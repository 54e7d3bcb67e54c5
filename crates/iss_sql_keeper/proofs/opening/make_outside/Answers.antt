use Rattle.iss_sql_keeper.proofs.RefusedLemmas.{anyway_ok, inside_after}
use Rattle.iss_sql_keeper.proofs.opening.make_outside.Goals as goal

pub returns-clause-made : goal.returns-clause-made
returns-clause-made g c clean = anyway_ok c.outside.result _ (c.in_ok-make.ensures.made clean)

pub returns-clause-done : goal.returns-clause-done
returns-clause-done g c clean can = anyway_ok c.outside.result _ (c.in_ok-make.ensures.done clean can)

pub returns-clause-cause : goal.returns-clause-cause
returns-clause-cause g c clean can = inside_after _ _ (c.in_ok-make.ensures.done clean can) c.outside.result c.outside.ensures.inside
