use Rattle.std.proofs.Common.{◌≡◌, IfOk, rules, sym, ap, ◌∙◌, map}
use Rattle.std.proofs.lemmas.Result.{IfOk-weaker}
use Rattle.std.specs.BTreeMap.{keys}
use Rattle.iss_model.specs.state.Cores.{Outbox}
use Rattle.iss_notice.specs.Kept.{noted}
use Rattle.iss_notice.proofs.Boxes.{unboxed_keys}
use Rattle.iss_notice.proofs.PendingNotices.{numbers}
use Rattle.iss_notice.proofs.notices.Notices.pending.Goals as goal

pub returns : goal.returns
returns c =
    let found : IfOk c.collect.result (λ v. v.items ≡ keys c.self.inside.pending) = search rules in
    IfOk-weaker c.collect.result _ _
    (λ v e. e ∙ sym (unboxed_keys c.self.inside.pending.entries) ∙ numbers c.self.inside.made (noted c.self.inside.pending) c.self.invariant.each
    ∙ ap (λ (o : Outbox). map (λ notice. notice.number) o.pending) c.self.view_is)
    found
