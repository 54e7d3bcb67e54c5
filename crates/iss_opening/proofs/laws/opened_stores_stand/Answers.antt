use Rattle.iss_opening.proofs.Stores.{opened_stand}
use Rattle.iss_opening.proofs.laws.opened_stores_stand.Goals as goal

pub returns : goal.returns
returns c = opened_stand
