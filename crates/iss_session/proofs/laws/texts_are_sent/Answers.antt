use Rattle.iss_session.proofs.ServingLaws.{serves_sent, serves_all_sent}
use Rattle.iss_session.proofs.laws.texts_are_sent.Goals as goal

pub returns-clause-part : goal.returns-clause-part
returns-clause-part c = serves_sent

pub returns-clause-whole : goal.returns-clause-whole
returns-clause-whole c = serves_all_sent
