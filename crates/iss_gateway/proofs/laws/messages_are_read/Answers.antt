use Rattle.iss_gateway.proofs.ReadAgain.{request_again, notice_read}
use Rattle.iss_gateway.proofs.laws.messages_are_read.Goals as goal

pub returns-clause-requests : goal.returns-clause-requests
returns-clause-requests c = request_again

pub returns-clause-notices : goal.returns-clause-notices
returns-clause-notices c = notice_read
