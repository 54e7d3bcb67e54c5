use Rattle.std.proofs.Common.{Bool, cond, not, Some, None, sym, ap, ◌∙◌}
use Rattle.iss_model.specs.declared.decision.Reason.TheVariants as reason
use Rattle.iss_velocity.specs.Puts.{put_reason}
use Rattle.iss_velocity.specs.Keeping.{controls_in}
use Rattle.iss_velocity.proofs.Putting.{not_named, put_again, reason_so, known_so}
use Rattle.iss_velocity.proofs.table.Table.put.Goals as goal

pub add-requires-clause-new : goal.add-requires-clause-new
add-requires-clause-new c =
    not_named c.args.self.now.users c.args.self.now.past c.args.control.now.name c.args.self.now.controls.items (sym c.in_default.ensures)

pub returns-in_default-clause-reason : goal.returns-in_default-clause-reason
returns-in_default-clause-reason c =
    c.add.ensures.reason
    ∙ ap (λ o. put_reason o (controls_in c.args.self.now) c.args.control.now)
    (sym (not_named c.args.self.now.users c.args.self.now.past c.args.control.now.name c.args.self.now.controls.items (sym c.in_default.ensures)))

pub returns-then-not-is_fixed_as-clause-reason : goal.returns-then-not-is_fixed_as-clause-reason
returns-then-not-is_fixed_as-clause-reason c =
    ap (λ (b : Bool). cond (not b) (Some reason.ControlFixed) None) (sym (sym c.is_fixed_as.ensures ∙ c.if-not-is_fixed_as.true))
    ∙ sym (reason_so c.args.self.now.users c.args.self.now.past c.args.self.now.controls.items c.args.control.now c.in-Some.standing.now c.in-Some.ensures)

pub returns-clause-put : goal.returns-clause-put
returns-clause-put c =
    c.change.ensures.changed
    ∙ put_again (controls_in c.args.self.now) c.args.number c.args.control.now
    (known_so c.args.self.now.users c.args.self.now.past c.args.self.now.controls.items c.args.control.now.name c.in-Some.standing.now c.in-Some.ensures)

pub returns-clause-reason : goal.returns-clause-reason
returns-clause-reason c =
    ap (λ (b : Bool). cond (not b) (Some reason.ControlFixed) None) (sym (sym c.is_fixed_as.ensures ∙ c.if-not-is_fixed_as.false))
    ∙ sym (reason_so c.args.self.now.users c.args.self.now.past c.args.self.now.controls.items c.args.control.now c.in-Some.standing.now c.in-Some.ensures)
