use Rattle.iss_laws.proofs.CallSteps.{step_pays}
use Rattle.iss_laws.proofs.payments.funded_calls_are_paid.Goals as goal

pub returns : goal.returns
returns c = λ f number s r form new well before agrees. (step_pays f number s r form new well).pairs agrees before
