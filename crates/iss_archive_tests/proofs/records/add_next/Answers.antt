use Rattle.iss_archive_tests.proofs.Following.{read_head}
use Rattle.iss_archive_tests.proofs.records.add_next.Goals as goal

pub add_after-requires : goal.add_after-requires
add_after-requires g c = read_head _ _ _ c.in_ok-head.ensures.read
