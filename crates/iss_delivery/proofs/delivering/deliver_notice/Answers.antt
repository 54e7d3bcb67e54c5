use Rattle.std.proofs.Common.{◌∙◌}
use Rattle.iss_delivery.proofs.Delivered.{notice_heard}
use Rattle.iss_delivery.proofs.delivering.deliver_notice.Goals as goal

pub returns-clause-sent : goal.returns-clause-sent
returns-clause-sent c =
    notice_heard c.args.instance c.args.notice.now c.deref.result.now c.read_text.result c.requires.telling c.know_notice.ensures (c.deref.ensures.value ∙ c.in_ok-text.ensures) c.read_text.ensures.message
