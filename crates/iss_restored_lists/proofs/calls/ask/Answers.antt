use Rattle.iss_restored_lists.proofs.CallsAgain.{closed_as}
use Rattle.iss_restored_lists.proofs.calls.ask.Goals as goal

pub returns : goal.returns
returns c =
    closed_as c.args.calls.now c.args.call.now c.call.inside.opened c.call.inside.how c.call.view_is c.requires.numbered c.requires.next
    c.ask.new.self c.close-closed.new.self c.in-Some.how c.in_ok-ask.ensures.asked c.in-Some.is c.close-closed.ensures.closed
