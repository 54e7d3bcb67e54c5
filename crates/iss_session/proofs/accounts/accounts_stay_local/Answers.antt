use Rattle.iss_session.proofs.LocalSessions.{stays_local}
use Rattle.iss_session.proofs.accounts.accounts_stay_local.Goals as goal

pub returns : goal.returns
returns c = λ read run turns happenings rs book. stays_local read run turns rs happenings book
