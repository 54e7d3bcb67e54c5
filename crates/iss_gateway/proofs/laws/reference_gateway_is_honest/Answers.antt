use Rattle.iss_gateway.proofs.Transcripts.{honest_over}
use Rattle.iss_gateway.proofs.laws.reference_gateway_is_honest.Goals as goal

pub returns : goal.returns
returns c = honest_over
