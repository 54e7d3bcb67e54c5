use Rattle.iss_agreement.proofs.Since.{amounts_since, times_since}
use Rattle.iss_agreement.proofs.agreement.controls_count_since_their_first_record.Goals as goal

pub returns-clause-amounts : goal.returns-clause-amounts
returns-clause-amounts c = amounts_since

pub returns-clause-times : goal.returns-clause-times
returns-clause-times c = times_since
