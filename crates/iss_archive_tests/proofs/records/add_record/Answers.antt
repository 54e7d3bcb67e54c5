use Rattle.iss_archive_tests.proofs.Following.{follows_next}
use Rattle.iss_archive_tests.proofs.records.add_record.Goals as goal

pub add-requires-clause-next : goal.add-requires-clause-next
add-requires-clause-next g c = follows_next _ c.args.head.now c.args.next.now c.args.rows.now c.requires.head c.requires.next
