use Rattle.iss_velocity.proofs.NotedSums.{limits_same, activity_same}
use Rattle.iss_velocity.proofs.laws.controls_that_stay_count_the_same.Goals as goal

pub returns-clause-limits : goal.returns-clause-limits
returns-clause-limits c = λ name amount usage noted controls. limits_same noted controls name amount usage

pub returns-clause-activity : goal.returns-clause-activity
returns-clause-activity c = λ name active noted controls. activity_same noted controls name active
