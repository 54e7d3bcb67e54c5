use Rattle.iss_http.proofs.Stays.{hopeless_waits, jit_waits, hopeless_ends}
use Rattle.iss_http.proofs.laws.a_bad_head_begins_nothing.Goals as goal

pub returns-clause-request : goal.returns-clause-request
returns-clause-request c = hopeless_waits

pub returns-clause-jit : goal.returns-clause-jit
returns-clause-jit c = jit_waits

pub returns-clause-answer : goal.returns-clause-answer
returns-clause-answer c = hopeless_ends
