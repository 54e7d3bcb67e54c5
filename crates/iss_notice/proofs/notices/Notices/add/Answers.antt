use Rattle.std.proofs.Common.{◌≡◌, ◌+◌, refl, sym, ap, ◌∙◌, arith}
use Rattle.iss_model.specs.state.Cores.{Outbox, with_notice}
use Rattle.iss_notice.specs.Kept.{noted}
use Rattle.iss_notice.proofs.Boxes.{more_noted, rising_noted}
use Rattle.iss_notice.proofs.PendingNotices.{kept_more, values_more}
use Rattle.iss_notice.proofs.notices.Notices.add.Goals as goal

pub invariant_of-self-2 : goal.invariant_of-self-2
invariant_of-self-2 c =
    let next : c.args.notice.now.number ≡ c.self.inside.made + 1 = c.requires.next ∙ ap (λ (o : Outbox). o.made + 1) (sym c.self.view_is) in
    kept_more c.self.inside.made c.args.notice.now.number (noted c.self.inside.pending) (noted c.insert.new.self) c.args.notice.now c.self.invariant
    (omega (arith, next)) refl (more_noted c.self.inside.pending.entries c.insert.new.self.entries c.args.notice.now.number c.in_ok-boxed.boxed c.args.notice.now c.in_ok-boxed.ensures.ok c.in_ok-insert.ensures.entries) (rising_noted c.insert.new.self.entries c.insert.ensures.ordered)

pub returns-clause-added : goal.returns-clause-added
returns-clause-added c =
    let next : c.args.notice.now.number ≡ c.self.inside.made + 1 = c.requires.next ∙ ap (λ (o : Outbox). o.made + 1) (sym c.self.view_is) in
    let pending = values_more c.self.inside.made c.args.notice.now.number (noted c.self.inside.pending) (noted c.insert.new.self) c.args.notice.now c.self.invariant (omega (arith, next)) (more_noted c.self.inside.pending.entries c.insert.new.self.entries c.args.notice.now.number c.in_ok-boxed.boxed c.args.notice.now c.in_ok-boxed.ensures.ok c.in_ok-insert.ensures.entries) in
    (λ i. record { made = next i; pending = pending i }) ∙ ap (λ (o : Outbox). with_notice o c.args.notice.now) c.self.view_is
