use Rattle.std.proofs.Common.{ap, arith}
use Rattle.iss_notice.specs.Kept.{noted, unboxed}
use Rattle.iss_notice.proofs.Boxes.{more_noted, rising_noted}
use Rattle.iss_notice.proofs.Restoring.{none_restored, more_restored}
use Rattle.iss_notice.proofs.notices.Notices.restore.Goals as goal

pub loop-notice-init : goal.loop-notice-init
loop-notice-init c = none_restored c.args.made c.args.list.now (noted c.new-pending.result) (ap unboxed c.new-pending.ensures.empty) (rising_noted c.new-pending.result.entries c.new-pending.ensures.ordered) c.requires.numbered

pub loop-notice-preserved : goal.loop-notice-preserved
loop-notice-preserved c =
    more_restored c.args.made c.args.list.now c.loop-notice.notice-index (noted c.loop-notice.pending) (noted c.insert.new.self) c.notice-item.result c.loop-notice.invariant
    (omega arith) c.notice-item.is (more_noted c.loop-notice.pending.entries c.insert.new.self.entries c.notice-item.result.number c.in_ok-new.field-0 c.notice-item.result c.in_ok-new.ensures.ok c.in_ok-insert.ensures.entries) (rising_noted c.insert.new.self.entries c.insert.ensures.ordered)
