use Rattle.std.proofs.Common.{◌≡◌, ◌++◌, ℕ, List, map, filter, not, ap, ◌∙◌, ◌-◌, ◌^◌, arith, is_lt, rules}
use Rattle.iss_model.specs.declared.call.CallId.{CallId}
use Rattle.iss_model.specs.rules.Activity.{CallNow}
use Rattle.iss_model.specs.rules.Due.{DueItem, call_due}
use Rattle.iss_call.specs.Named.{calls_in}
use Rattle.iss_call.specs.States.{calls_due}
use Rattle.iss_call.specs.Orders.{by_deadline, call_of}
use Rattle.iss_call.proofs.DueOrder.{in_range}
use Rattle.iss_call.proofs.calls.Calls.due.Goals as goal

pub loop-number-init : goal.loop-number-init
loop-number-init c =
    let between : c.range-number-items.result ≡ filter (λ k. not (is_lt (by_deadline (c.args.now, 2 ^ 32 - 1) k))) c.self.inside.orders.deadlines.keys = search rules in
    ap (λ (ids : List CallId). map (λ id. call_due id.0) (ids ++ map call_of c.into_iter-number-iterator.result)) c.new-due.ensures.items
    ∙ ap (λ (ks : List (ℕ × ℕ)). map (λ id. call_due id.0) (map call_of ks)) (c.into_iter-number-iterator.ensures.into_iter_gives ∙ between)
    ∙ in_range c.args.now (2 ^ 32 - 1) c.self.inside.orders.deadlines.keys (calls_in c.self.inside.names 1 c.self.inside.rows.items) c.self.invariant.ordered.numbered (let few = c.self.invariant.ordered.few in omega (arith, few)) c.self.invariant.ordered.deadlines
    ∙ ap (λ (cs : List CallNow). map (λ (item : DueItem). item.thing) (calls_due cs c.args.now)) c.self.view_is
