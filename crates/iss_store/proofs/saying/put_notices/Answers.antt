use Rattle.std.proofs.Common.{arith}
use Rattle.iss_texts.proofs.Rows.{gains_more}
use Rattle.iss_store.specs.Saying.{notice_texts}
use Rattle.iss_store.proofs.saying.put_notices.Goals as goal

pub loop-notice-preserved : goal.loop-notice-preserved
loop-notice-preserved c =
    gains_more (notice_texts c.args.instance) c.args.notices.now c.loop-notice.notice-index c.notice-item.result c.args.texts.now c.loop-notice.texts c.put_notice.new.self
    (omega arith) c.notice-item.is c.loop-notice.invariant c.in_ok-put_notice.ensures
