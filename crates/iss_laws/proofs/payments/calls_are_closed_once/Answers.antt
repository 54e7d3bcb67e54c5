use Rattle.iss_laws.proofs.CallSteps.{step_counts, step_voids}
use Rattle.iss_laws.proofs.payments.calls_are_closed_once.Goals as goal

pub returns-clause-counted : goal.returns-clause-counted
returns-clause-counted c = λ s r n new well. (step_counts s r new well).counted n

pub returns-clause-voided : goal.returns-clause-voided
returns-clause-voided c = λ s r n new well. (step_voids n s r).voided

pub returns-clause-named : goal.returns-clause-named
returns-clause-named c = λ s r new well. (step_voids 0 s r).told
