use Rattle.iss_sql_keeper.proofs.ShownLemmas.{on_ok}
use Rattle.iss_sql_keeper.proofs.RefusedLemmas.{unmade_for}
use Rattle.iss_sql_keeper.proofs.opening.make.Goals as goal

pub returns-clause-made : goal.returns-clause-made
returns-clause-made g c clean = on_ok _ c.make_tables.result c.told.result c.told.ensures.same (c.make_tables.ensures.made clean)

pub returns-clause-done : goal.returns-clause-done
returns-clause-done g c clean can = on_ok _ c.make_tables.result c.told.result c.told.ensures.same (c.make_tables.ensures.done clean can)

pub returns-clause-cause : goal.returns-clause-cause
returns-clause-cause g c clean can = unmade_for _ _ c.make_tables.result c.told.result c.told.ensures.same c.told.ensures.named (c.make_tables.ensures.cause clean can)
