use Rattle.iss_model.specs.state.Cores.{core_facts}
use Rattle.iss_laws.proofs.CallSteps.{nothing_payable, step_pays}
use Rattle.iss_laws.proofs.payments.calls_stay_payable.Goals as goal

pub returns-clause-begins : goal.returns-clause-begins
returns-clause-begins c = nothing_payable

pub returns-clause-steps : goal.returns-clause-steps
returns-clause-steps c = λ s r form new well before. (step_pays (core_facts s) 0 s r form new well).payable before

pub returns-clause-lasting : goal.returns-clause-lasting
returns-clause-lasting c = λ s r form new well. (step_pays (core_facts s) 0 s r form new well).stand
