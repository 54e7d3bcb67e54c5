use Rattle.iss_event.proofs.ReportTexts.{then_put}
use Rattle.iss_event.proofs.report.put_start.Goals as goal

pub returns : goal.returns
returns c = then_put c.put_between-2.result _ _ _ _ _ c.in_ok-put_between.ensures c.put_between-2.ensures
