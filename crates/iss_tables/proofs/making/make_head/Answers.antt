use Rattle.std.proofs.Common.{arith}
use Rattle.iss_tables.proofs.TableLemmas.{head_made_by, head_left_by, head_alone_by, head_done_by}
use Rattle.iss_tables.proofs.Unmade.{head_unmade}
use Rattle.iss_tables.proofs.making.make_head.Goals as goal

pub returns-clause-made : goal.returns-clause-made
returns-clause-made g c clean = head_made_by _ _ _ (c.execute.ensures.runs clean)

pub returns-clause-stands : goal.returns-clause-stands
returns-clause-stands g c clean = head_left_by _ _ _ (c.execute.ensures.runs clean)

pub returns-clause-clean : goal.returns-clause-clean
returns-clause-clean g c clean = omega (arith, c.execute.ensures.survives.clean)

pub returns-clause-alone : goal.returns-clause-alone
returns-clause-alone g c clean = head_alone_by _ _ _ (c.execute.ensures.runs clean)

pub returns-clause-done : goal.returns-clause-done
returns-clause-done g c clean can = head_done_by _ _ _ can (c.execute.ensures.runs clean) c.execute.ensures.survives.counts c.execute.ensures.survives.limit

pub returns-clause-cause : goal.returns-clause-cause
returns-clause-cause g c clean can = head_unmade _ _ _ can (c.execute.ensures.runs clean)
