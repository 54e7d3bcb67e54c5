use Rattle.iss_gateway.proofs.Transcripts.{honest_at}
use Rattle.iss_gateway.proofs.laws.gateways_are_honest.Goals as goal

pub returns : goal.returns
returns c = honest_at
