use Rattle.iss_drill.proofs.run.fresh_store.Goals as goal

pub returns-clause-opened : goal.returns-clause-opened
returns-clause-opened c = c.in_ok-store.ensures.opened _ c.first.ensures
