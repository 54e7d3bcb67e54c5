use Rattle.std.proofs.Common.{◌≡◌, ◌++◌, map}
use Rattle.std.specs.Prelude.{box_value}
use Rattle.iss_notice.proofs.notices.Notices.pending_notices.Given as goal

abbrev pub invariant-loop-notice : goal.invariant-loop-notice
invariant-loop-notice l = l.notices.items ++ map box_value l.notice-iterator ≡ l.self.pending
