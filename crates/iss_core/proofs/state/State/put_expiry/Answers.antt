use Rattle.std.proofs.Common.{ap, ◌∙◌, ◌++◌}
use Rattle.iss_model.specs.rules.Acts.{entries_of_acts}
use Rattle.iss_model.specs.rules.Due.{expired_acts}
use Rattle.iss_model.specs.rules.Pieces.{Parts}
use Rattle.iss_hold.specs.Holdings.{parts_of_hold}
use Rattle.iss_core.specs.States.{facts_of}
use Rattle.iss_core.proofs.Clearings.{ends_as}
use Rattle.iss_core.proofs.Endings.{expired_from}
use Rattle.iss_core.proofs.state.State.put_expiry.Goals as goal

pub returns : goal.returns
returns c =
    let f = facts_of c.args.self.now in
    let t = c.args.hold.now.txn in
    ends_as c.put_notice_of_some.result _ _ _ c.put_notice_of_some.ensures
    (expired_from f t (parts_of_hold c.args.hold.now) c.next_notice.result c.in_ok-number.number c.whole.result c.args.out.now.items c.put_abandonment.new.out.items c.end.new.out.items
    c.next_notice.ensures c.in_ok-number.ensures.next c.whole.ensures c.in_ok-number.ensures.entries c.in_ok-end.ensures
    ∙ ap (λ (parts : Parts). c.args.out.now.items ++ entries_of_acts (expired_acts f t parts)) c.requires.held.parts)
