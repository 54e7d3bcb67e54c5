use Rattle.iss_sound_events.proofs.ListedNames.{added_once}
use Rattle.iss_sound_events.proofs.listed.add_once.Goals as goal

pub returns : goal.returns
returns c = added_once c.args.names.now c.add.new.self c.args.name.now c.in_ok-add.ensures.added
