use Rattle.iss_event.proofs.Lines.{named, fault}
use Rattle.iss_event.proofs.writing.put_fault.Goals as goal

pub returns : goal.returns
returns c = named c.put_between.result _ _ _ _ (fault c.args.fault.now) c.put_between.ensures
