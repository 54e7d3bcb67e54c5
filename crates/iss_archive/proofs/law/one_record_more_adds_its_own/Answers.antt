use Rattle.iss_archive.proofs.PostingLaws.{postings_more}
use Rattle.iss_archive.proofs.law.one_record_more_adds_its_own.Goals as goal

pub returns : goal.returns
returns c rs r = postings_more rs r
