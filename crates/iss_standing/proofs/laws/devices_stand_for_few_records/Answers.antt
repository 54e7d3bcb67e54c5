use Rattle.iss_standing.proofs.Few.{few_stand}
use Rattle.iss_standing.proofs.laws.devices_stand_for_few_records.Goals as goal

pub returns : goal.returns
returns c = few_stand
