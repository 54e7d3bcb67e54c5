use Rattle.std.proofs.Common.{drop}
use Rattle.iss_notice.specs.Kept.{noted}
use Rattle.iss_notice.proofs.Restoring.{IsRestored}
use Rattle.iss_notice.proofs.notices.Notices.restore.Given as goal

abbrev pub invariant-loop-notice : goal.invariant-loop-notice
invariant-loop-notice l = IsRestored l.made l.list (noted l.pending) (drop l.notice-index l.list)
