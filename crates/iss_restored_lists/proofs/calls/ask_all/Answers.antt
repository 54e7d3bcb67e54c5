use Rattle.std.proofs.Common.{arith}
use Rattle.iss_restored_lists.proofs.CallsAgain.{begins, goes_on, its_number, over}
use Rattle.iss_restored_lists.proofs.calls.ask_all.Goals as goal

pub loop-call-init : goal.loop-call-init
loop-call-init c = begins c.args.known.now c.in_ok-calls.calls c.in_ok-calls.ensures c.requires

pub ask-requires-clause-next : goal.ask-requires-clause-next
ask-requires-clause-next c =
    its_number c.args.known.now c.loop-call.call-index c.call-item.result c.loop-call.calls (omega arith) c.call-item.is c.loop-call.invariant

pub ask-requires-clause-numbered : goal.ask-requires-clause-numbered
ask-requires-clause-numbered c = c.loop-call.invariant.numbered

pub loop-call-preserved : goal.loop-call-preserved
loop-call-preserved c =
    goes_on c.args.known.now c.loop-call.call-index c.call-item.result c.loop-call.calls (omega arith) c.call-item.is c.loop-call.invariant
    c.ask.new.calls c.in_ok-ask.ensures

pub returns : goal.returns
returns c = over c.args.known.now c.loop-call.calls c.loop-call.call-index (omega arith) c.loop-call.invariant
