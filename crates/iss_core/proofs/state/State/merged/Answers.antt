use Rattle.std.proofs.Common.{List, map, fold}
use Rattle.iss_model.specs.rules.Due.{DueThing, items_with}
use Rattle.iss_core.specs.Sweeps.{call_items, txn_items}
use Rattle.iss_core.proofs.DueNames.{next_kept, all_out}
use Rattle.iss_core.proofs.state.State.merged.Goals as goal

pub loop-txn-preserved : goal.loop-txn-preserved
loop-txn-preserved c =
    let calls = c.args.self.now.calls in
    let txns = c.args.self.now.chain.holdings.txns in
    let all : List DueThing = map (λ item. item.thing) (fold items_with (call_items calls c.args.calls.now) (txn_items txns c.args.txns.now)) in
    let kept =
    next_kept calls txns c.loop-txn.due.items c.push_until.new.due.items c.push.new.self.items c.loop-txn.left.now c.in_ok-left.left.now c.args.txns.now
    c.loop-txn.txn-index c.expiry.result c.txn-item.result all c.loop-txn-test.true c.txn-item.is c.expiry.ensures
    c.in_ok-left.ensures.due c.in_ok-left.ensures.rest c.in_ok-push.ensures.items
    (record { ordered = c.loop-txn.invariant.ordered; out = c.loop-txn.invariant.out }) in
    record { ordered = kept.ordered; out = kept.out }

pub returns : goal.returns
returns c =
    let calls = c.args.self.now.calls in
    let txns = c.args.self.now.chain.holdings.txns in
    all_out calls txns c.loop-txn.due.items c.push_all.new.due.items c.loop-txn.left.now c.args.txns.now c.loop-txn.txn-index
    (map (λ item. item.thing) (fold items_with (call_items calls c.args.calls.now) (txn_items txns c.args.txns.now)))
    c.loop-txn-test.false c.in_ok-push_all.ensures
    (record { ordered = c.loop-txn.invariant.ordered; out = c.loop-txn.invariant.out })
