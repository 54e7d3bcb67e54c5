use Rattle.std.proofs.Common.{◌++◌, ℕ, List, rules, map, filter, ap, ◌∙◌}
use Rattle.std.specs.Ordering.{nat_cmp}
use Rattle.std.specs.BTreeSet.{IsFromIterResult}
use Rattle.iss_model.specs.declared.call.CallId.{CallId}
use Rattle.iss_model.specs.rules.Activity.{CallNow, is_asked}
use Rattle.iss_call.specs.Named.{calls_in}
use Rattle.iss_call.specs.Orders.{id_of}
use Rattle.iss_call.proofs.ByNumber.{by_number}
use Rattle.iss_call.proofs.calls.Calls.asked.Goals as goal

pub loop-number-init : goal.loop-number-init
loop-number-init c =
    let numbers : IsFromIterResult nat_cmp (map (λ k. k.1) c.self.inside.orders.deadlines.keys) c.in_ok-numbers.numbers = search rules in
    ap (λ (ids : List CallId). ids ++ map id_of c.into_iter-number-iterator.result) c.new-asked.ensures.items
    ∙ ap (λ (ns : List ℕ). map id_of ns) c.into_iter-number-iterator.ensures.into_iter_gives.0
    ∙ by_number c.in_ok-numbers.numbers c.self.inside.orders.deadlines.keys (calls_in c.self.inside.names 1 c.self.inside.rows.items) c.self.invariant.ordered.numbered c.self.invariant.ordered.deadlines numbers
    ∙ ap (λ (cs : List CallNow). map (λ x. x.opened.call) (filter is_asked cs)) c.self.view_is
