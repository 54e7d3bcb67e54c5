use Rattle.iss_event.proofs.ReportTexts.{then_put}
use Rattle.iss_event.proofs.report.put_sheet.Goals as goal

pub returns : goal.returns
returns c = then_put c.put_text.result _ _ _ _ _ c.in_ok-put_start.ensures c.put_text.ensures
