use Rattle.std.proofs.Common.{◌<◌, length, true, false, nat_le, refl, ◌∙◌}
use Rattle.iss_hold.specs.Indexes.{names}
use Rattle.iss_hold.proofs.ExpiryOrder.{first_has}
use Rattle.iss_hold.proofs.Listed.{any_due, or_true, or_false, first_named, none_named}
use Rattle.iss_hold.proofs.queue.ExpiryQueue.is_due.Goals as goal

pub returns-then-is_first_due : goal.returns-then-is_first_due
returns-then-is_first_due c =
    let o = c.requires.order in
    or_true (first_has c.args.now o.others)
    ∙ any_due c.args.now c.args.holds.now o.others o.queued (first_has c.args.now o.others) true o.whole refl (c.if-is_first_due.ensures o.queued o.places)

pub returns-in-Some : goal.returns-in-Some
returns-in-Some c =
    let o = c.requires.order in
    or_false (nat_le c.in-Some.expiry.now.0 c.args.now)
    ∙ any_due c.args.now c.args.holds.now o.others o.queued (nat_le c.in-Some.expiry.now.0 c.args.now) false o.whole
    (first_named c.args.now (names c.args.holds.now) c.args.self.now.late.entries o.others c.in-Some.expiry.now c.in-Some.field-0-1.now o.rest.named c.in-Some.ensures.first)
    (c.if-is_first_due.ensures o.queued o.places)

pub returns-in-None : goal.returns-in-None
returns-in-None c =
    let o = c.requires.order in
    any_due c.args.now c.args.holds.now o.others o.queued false false o.whole
    (none_named c.args.now (names c.args.holds.now) c.args.self.now.late.entries o.others o.rest.named
    (λ (h : 0 < length c.args.self.now.late.entries). let some = c.in-None.ensures.variant.1 h in absurd (cc)))
    (c.if-is_first_due.ensures o.queued o.places)
