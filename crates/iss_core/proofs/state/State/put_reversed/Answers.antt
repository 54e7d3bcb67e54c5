use Rattle.std.proofs.Common.{ap, min, ℕ, ◌∙◌}
use Rattle.iss_hold.specs.Holdings.{parts_of_hold}
use Rattle.iss_core.specs.States.{facts_of}
use Rattle.iss_core.proofs.Clearings.{ends_as}
use Rattle.iss_core.proofs.Endings.{reversed_from}
use Rattle.iss_core.proofs.state.State.put_reversed.Goals as goal

pub returns : goal.returns
returns c =
    let hold = c.args.hold.now in
    let operation = c.args.operation.now in
    ends_as c.put_decided.result _ _ _ c.put_decided.ensures
    (reversed_from (facts_of c.args.self.now) operation.token operation.amount hold.txn (parts_of_hold hold) c.next_notice.result c.in_ok-number.number c.whole.result c.min-freed.result c.min-gateway.result
    c.args.out.now.items c.put_abandonment.new.out.items c.reverse.new.out.items c.put_notice_of_some.new.out.items
    c.next_notice.ensures c.in_ok-number.ensures.next c.whole.ensures c.min-freed.ensures
    (c.min-gateway.ensures ∙ ap (λ (n : ℕ). min n hold.g) c.saturating_sub.ensures)
    c.in_ok-number.ensures.entries c.in_ok-reverse.ensures c.in_ok-put_notice_of_some.ensures)
