use Rattle.std.proofs.Common.{Bool, cond, not, Some, None, sym, ap, ◌∙◌}
use Rattle.iss_model.specs.declared.decision.Reason.TheVariants as reason
use Rattle.iss_core.specs.States.{kept_state}
use Rattle.iss_core.proofs.ControlReasons.{known_control, unknown_control}
use Rattle.iss_core.proofs.state.State.control_reason.Goals as goal

pub returns-in-Some : goal.returns-in-Some
returns-in-Some c =
    ap (λ (b : Bool). cond (not b) (Some reason.ControlFixed) None) (sym (sym c.is_same_control.ensures ∙ c.if-is_same_control.true))
    ∙ known_control (kept_state c.args.self.now) c.args.control.now c.in-Some.standing.now c.in-Some.ensures

pub returns-in-Some-2 : goal.returns-in-Some-2
returns-in-Some-2 c =
    ap (λ (b : Bool). cond (not b) (Some reason.ControlFixed) None) (sym (sym c.is_same_control.ensures ∙ c.if-is_same_control.false))
    ∙ known_control (kept_state c.args.self.now) c.args.control.now c.in-Some.standing.now c.in-Some.ensures

pub returns-in-None : goal.returns-in-None
returns-in-None c = c.new_control_reason.ensures ∙ unknown_control (kept_state c.args.self.now) c.args.control.now c.in-None.ensures
