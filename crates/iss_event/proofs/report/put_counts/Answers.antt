use Rattle.iss_event.proofs.ReportTexts.{then_both}
use Rattle.iss_event.proofs.report.put_counts.Goals as goal

pub returns : goal.returns
returns c = then_both c.put_counted-2.result _ _ _ _ _ _ _ c.in_ok-put_counted.ensures c.in_ok-put_decimal.ensures c.put_counted-2.ensures
