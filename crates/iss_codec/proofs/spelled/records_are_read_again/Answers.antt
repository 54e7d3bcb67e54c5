use Rattle.iss_codec.proofs.TakenLaws.{record_back}
use Rattle.iss_codec.proofs.TakenRecords.{spelled_takes}
use Rattle.iss_codec.proofs.spelled.records_are_read_again.Goals as goal

pub returns-clause-back : goal.returns-clause-back
returns-clause-back c = record_back

pub returns-clause-alone_back : goal.returns-clause-alone_back
returns-clause-alone_back c = spelled_takes
