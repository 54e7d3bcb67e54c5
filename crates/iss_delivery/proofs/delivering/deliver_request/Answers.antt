use Rattle.std.proofs.Common.{◌∙◌}
use Rattle.iss_delivery.proofs.Delivered.{request_heard}
use Rattle.iss_delivery.proofs.delivering.deliver_request.Goals as goal

pub returns-clause-sent : goal.returns-clause-sent
returns-clause-sent c =
    request_heard c.args.instance c.args.opened.now c.deref.result.now c.read_text.result c.requires.asking c.know_call.ensures (c.deref.ensures.value ∙ c.in_ok-text.ensures) c.read_text.ensures.message
