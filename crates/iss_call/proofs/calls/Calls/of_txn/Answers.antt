use Rattle.std.proofs.Common.{◌++◌, ℕ, List, map, ap, ◌∙◌, ◌-◌, ◌^◌, arith}
use Rattle.iss_model.specs.declared.call.CallId.{CallId}
use Rattle.iss_model.specs.rules.Activity.{CallNow}
use Rattle.iss_call.specs.Named.{calls_in}
use Rattle.iss_call.specs.States.{asked_of}
use Rattle.iss_call.specs.Orders.{call_of}
use Rattle.iss_call.proofs.TxnOrder.{forward, in_range}
use Rattle.iss_call.proofs.calls.Calls.of_txn.Goals as goal

pub range-number-items-requires : goal.range-number-items-requires
range-number-items-requires c = forward c.args.txn.now (2 ^ 32 - 1) c.new.result.start c.new.result.end c.new.ensures.start c.new.ensures.end

pub loop-number-init : goal.loop-number-init
loop-number-init c =
    let between = c.range-number-items.ensures.between c.new.ensures.exhausted in
    ap (λ (ids : List CallId). ids ++ map call_of c.into_iter-number-iterator.result) c.new-asked.ensures.items
    ∙ ap (λ (ks : List (List ℕ × ℕ)). map call_of ks) (c.into_iter-number-iterator.ensures.into_iter_gives ∙ between)
    ∙ in_range c.args.txn.now (2 ^ 32 - 1) c.new.result.start c.new.result.end c.self.inside.orders.txns.keys (calls_in c.self.inside.names 1 c.self.inside.rows.items) c.new.ensures.start c.new.ensures.end
    c.self.invariant.ordered.numbered (let few = c.self.invariant.ordered.few in omega (arith, few)) c.self.invariant.ordered.txns
    ∙ ap (λ (cs : List CallNow). map (λ x. x.opened.call) (asked_of cs c.args.txn.now)) c.self.view_is
