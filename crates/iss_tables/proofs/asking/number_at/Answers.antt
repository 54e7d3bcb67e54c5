use Rattle.iss_tables.proofs.HeadReading.{number_cause}
use Rattle.iss_tables.proofs.asking.number_at.Goals as goal

pub returns-clause-cause : goal.returns-clause-cause
returns-clause-cause c = number_cause c.args.row.now c.args.at c.get.result c.get.ensures.named c.get.ensures.kind
