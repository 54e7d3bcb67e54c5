use Rattle.iss_known.proofs.Taking.{its_input}
use Rattle.iss_known.proofs.parts.Parts.take_up.Goals as goal

pub settle-requires : goal.settle-requires
settle-requires c = record { form = its_input c.args.seen.now c.requires.form }
