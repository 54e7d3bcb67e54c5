use Rattle.iss_hold.proofs.ExpiriesKept.{not_late_yet, pushed_order, pushed_first, entered_order, entered_first}
use Rattle.iss_hold.proofs.queue.ExpiryQueue.start.Goals as goal

pub returns-then-comes_last-clause-order : goal.returns-then-comes_last-clause-order
returns-then-comes_last-clause-order c =
    pushed_order c.push.result c.args.txn.now c.requires.place c.requires.order (c.comes_last.ensures c.if-comes_last.true)
    c.push.ensures.added c.push.ensures.pushed c.push.ensures.holds_stay c.push.ensures.places_stay

pub returns-then-comes_last-clause-first : goal.returns-then-comes_last-clause-first
returns-then-comes_last-clause-first c =
    pushed_first c.push.result c.args.txn.now c.requires.place c.requires.order.places c.requires.first
    c.push.ensures.added c.push.ensures.pushed c.push.ensures.holds_stay c.push.ensures.places_stay

pub enter-requires-clause-unordered : goal.enter-requires-clause-unordered
enter-requires-clause-unordered c = not_late_yet c.args.txn.now.expires c.args.txn.now.origin c.requires.order c.requires.origin

pub returns-clause-order : goal.returns-clause-order
returns-clause-order c =
    entered_order c.enter.result c.args.txn.now c.requires.place c.requires.order c.requires.origin
    c.enter.ensures.added c.enter.ensures.entered c.enter.ensures.rising c.enter.ensures.holds_stay c.enter.ensures.late_stay

pub returns-clause-first : goal.returns-clause-first
returns-clause-first c = entered_first c.enter.result c.args.txn.now c.requires.order.places c.requires.first c.enter.ensures.added c.enter.ensures.holds_stay
