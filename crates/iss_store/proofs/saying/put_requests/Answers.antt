use Rattle.std.proofs.Common.{arith}
use Rattle.iss_texts.proofs.Rows.{gains_more}
use Rattle.iss_store.specs.Saying.{request_texts}
use Rattle.iss_store.proofs.saying.put_requests.Goals as goal

pub loop-call-preserved : goal.loop-call-preserved
loop-call-preserved c =
    gains_more (request_texts c.args.instance) c.args.calls.now c.loop-call.call-index c.call-item.result c.args.texts.now c.loop-call.texts c.put_request.new.self
    (omega arith) c.call-item.is c.loop-call.invariant c.in_ok-put_request.ensures
