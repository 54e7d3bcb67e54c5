use Rattle.iss_image.proofs.Firsts.{windows_by_firsts}
use Rattle.iss_image.proofs.lookups.ControlWindows.of.Goals as goal

pub returns : goal.returns
returns c = windows_by_firsts c.in_ok-index.index c.args.events.now c.in_ok-index.ensures
