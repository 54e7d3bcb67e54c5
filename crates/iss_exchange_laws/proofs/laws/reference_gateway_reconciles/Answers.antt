use Rattle.iss_exchange_laws.specs.Rules.{exchange_of}
use Rattle.iss_model.specs.texts.CallTokens.{call_uuid}
use Rattle.iss_exchange_laws.proofs.Honest.{honest_even, honest_reconcile, reference_leads}
use Rattle.iss_exchange_laws.proofs.laws.reference_gateway_reconciles.Goals as goal

pub returns-clause-led : goal.returns-clause-led
returns-clause-led c = reference_leads

pub returns-clause-reconciles : goal.returns-clause-reconciles
returns-clause-reconciles c = λ instance most limit ms. honest_reconcile instance ms (exchange_of (call_uuid instance) most limit ms) (reference_leads instance most limit ms)

pub returns-clause-settled : goal.returns-clause-settled
returns-clause-settled c = λ instance most limit ms. honest_even instance ms (exchange_of (call_uuid instance) most limit ms) (reference_leads instance most limit ms)
