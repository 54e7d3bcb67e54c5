use Rattle.iss_event.proofs.Lines.{named, acked}
use Rattle.iss_event.proofs.writing.put_acked.Goals as goal

pub returns : goal.returns
returns c = named c.put_numbered.result _ _ _ _ (acked c.args.notice) c.put_numbered.ensures
