use Rattle.std.proofs.Common.{◌≡◌, true, false, is_some, refl, sym, ap, ◌∙◌}
use Rattle.std.specs.BTreeMap.{is_at}
use Rattle.std.specs.Ordering.{nat_cmp}
use Rattle.iss_notice.specs.Kept.{noted, unboxed}
use Rattle.iss_notice.specs.Pending.{is_made, is_pending}
use Rattle.iss_notice.proofs.Boxes.{rising_noted, unboxed_found, unboxed_remove}
use Rattle.iss_notice.proofs.PendingNotices.{kept_less, pending_is, unmade, made_is, acked_unknown, acked_already, refused_exactly, refused_already, outbox_less}
use Rattle.iss_notice.proofs.notices.Notices.acknowledge.Goals as goal

pub invariant_of-self : goal.invariant_of-self
invariant_of-self c = kept_less c.self.inside.made c.args.number (noted c.self.inside.pending) (noted c.remove.new.self) c.self.invariant (ap unboxed c.remove.ensures.entries ∙ unboxed_remove (is_at (nat_cmp c.args.number)) c.self.inside.pending.entries) (rising_noted c.remove.new.self.entries c.remove.ensures.ordered)

pub returns-then-is_some-clause-exactly : goal.returns-then-is_some-clause-exactly
returns-then-is_some-clause-exactly c =
    let waits : is_pending c.args.number c.args.self.now ≡ true =
    sym (pending_is c.self.inside.made c.args.number (noted c.self.inside.pending) c.args.self.now c.self.invariant c.self.view_is)
    ∙ sym (unboxed_found (is_at (nat_cmp c.args.number)) c.self.inside.pending.entries) ∙ ap is_some (sym c.remove.ensures.value) ∙ sym c.is_some.ensures ∙ c.if-is_some.true in
    (λ e. waits, λ e. refl)

pub returns-then-is_some-clause-unknown : goal.returns-then-is_some-clause-unknown
returns-then-is_some-clause-unknown c =
    let waits : is_pending c.args.number c.args.self.now ≡ true =
    sym (pending_is c.self.inside.made c.args.number (noted c.self.inside.pending) c.args.self.now c.self.invariant c.self.view_is)
    ∙ sym (unboxed_found (is_at (nat_cmp c.args.number)) c.self.inside.pending.entries) ∙ ap is_some (sym c.remove.ensures.value) ∙ sym c.is_some.ensures ∙ c.if-is_some.true in
    acked_unknown (is_pending c.args.number c.args.self.now) (is_made c.args.number c.args.self.now) waits
    (unmade c.self.inside.made c.args.number (noted c.self.inside.pending) c.args.self.now c.self.invariant c.self.view_is)

pub returns-then-is_some-clause-already : goal.returns-then-is_some-clause-already
returns-then-is_some-clause-already c =
    let waits : is_pending c.args.number c.args.self.now ≡ true =
    sym (pending_is c.self.inside.made c.args.number (noted c.self.inside.pending) c.args.self.now c.self.invariant c.self.view_is)
    ∙ sym (unboxed_found (is_at (nat_cmp c.args.number)) c.self.inside.pending.entries) ∙ ap is_some (sym c.remove.ensures.value) ∙ sym c.is_some.ensures ∙ c.if-is_some.true in
    acked_already (is_pending c.args.number c.args.self.now) (is_made c.args.number c.args.self.now) waits

pub returns-then-is_some-clause-acknowledged : goal.returns-then-is_some-clause-acknowledged
returns-then-is_some-clause-acknowledged c =
    outbox_less c.self.inside.made c.args.number (noted c.self.inside.pending) (noted c.remove.new.self) c.args.self.now c.self.invariant c.self.view_is (ap unboxed c.remove.ensures.entries ∙ unboxed_remove (is_at (nat_cmp c.args.number)) c.self.inside.pending.entries)

pub returns-then-number-eq0-clause-exactly : goal.returns-then-number-eq0-clause-exactly
returns-then-number-eq0-clause-exactly c =
    let gone : is_pending c.args.number c.args.self.now ≡ false =
    sym (pending_is c.self.inside.made c.args.number (noted c.self.inside.pending) c.args.self.now c.self.invariant c.self.view_is)
    ∙ sym (unboxed_found (is_at (nat_cmp c.args.number)) c.self.inside.pending.entries) ∙ ap is_some (sym c.remove.ensures.value) ∙ sym c.is_some.ensures ∙ c.if-is_some.false in
    refused_exactly (is_pending c.args.number c.args.self.now) gone

pub returns-then-number-eq0-clause-acknowledged : goal.returns-then-number-eq0-clause-acknowledged
returns-then-number-eq0-clause-acknowledged c =
    outbox_less c.self.inside.made c.args.number (noted c.self.inside.pending) (noted c.remove.new.self) c.args.self.now c.self.invariant c.self.view_is (ap unboxed c.remove.ensures.entries ∙ unboxed_remove (is_at (nat_cmp c.args.number)) c.self.inside.pending.entries)

pub returns-clause-exactly : goal.returns-clause-exactly
returns-clause-exactly c =
    let gone : is_pending c.args.number c.args.self.now ≡ false =
    sym (pending_is c.self.inside.made c.args.number (noted c.self.inside.pending) c.args.self.now c.self.invariant c.self.view_is)
    ∙ sym (unboxed_found (is_at (nat_cmp c.args.number)) c.self.inside.pending.entries) ∙ ap is_some (sym c.remove.ensures.value) ∙ sym c.is_some.ensures ∙ c.if-is_some.false in
    refused_exactly (is_pending c.args.number c.args.self.now) gone

pub returns-clause-already : goal.returns-clause-already
returns-clause-already c =
    let gone : is_pending c.args.number c.args.self.now ≡ false =
    sym (pending_is c.self.inside.made c.args.number (noted c.self.inside.pending) c.args.self.now c.self.invariant c.self.view_is)
    ∙ sym (unboxed_found (is_at (nat_cmp c.args.number)) c.self.inside.pending.entries) ∙ ap is_some (sym c.remove.ensures.value) ∙ sym c.is_some.ensures ∙ c.if-is_some.false in
    refused_already (is_pending c.args.number c.args.self.now) (is_made c.args.number c.args.self.now) gone
    (made_is c.self.inside.made c.args.number (noted c.self.inside.pending) c.args.self.now c.self.view_is c.if-number-eq0.false c.if-number-self.false)

pub returns-clause-acknowledged : goal.returns-clause-acknowledged
returns-clause-acknowledged c =
    outbox_less c.self.inside.made c.args.number (noted c.self.inside.pending) (noted c.remove.new.self) c.args.self.now c.self.invariant c.self.view_is (ap unboxed c.remove.ensures.entries ∙ unboxed_remove (is_at (nat_cmp c.args.number)) c.self.inside.pending.entries)
