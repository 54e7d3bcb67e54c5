use Rattle.iss_laws.proofs.CallSteps.{step_opens_none}
use Rattle.iss_laws.proofs.payments.only_purchases_open_calls.Goals as goal

pub returns : goal.returns
returns c = λ s r other new well. step_opens_none s r other
