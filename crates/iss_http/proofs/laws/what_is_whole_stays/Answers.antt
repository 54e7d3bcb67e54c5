use Rattle.iss_http.proofs.Stays.{request_later, jit_later, answer_later}
use Rattle.iss_http.proofs.laws.what_is_whole_stays.Goals as goal

pub returns-clause-request : goal.returns-clause-request
returns-clause-request c = request_later

pub returns-clause-jit : goal.returns-clause-jit
returns-clause-jit c = jit_later

pub returns-clause-answer : goal.returns-clause-answer
returns-clause-answer c = answer_later
