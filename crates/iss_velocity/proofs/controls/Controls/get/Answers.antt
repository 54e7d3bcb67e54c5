use Rattle.std.proofs.Common.{List, ◌∙◌, ap, sym}
use Rattle.std.specs.Option.{option_copied, option_map}
use Rattle.iss_model.specs.state.Cores.{ControlKept}
use Rattle.iss_velocity.specs.declared.standing.Standing.{Standing}
use Rattle.iss_velocity.specs.Puts.{kept_named}
use Rattle.iss_velocity.proofs.Putting.{found_named}
use Rattle.iss_velocity.proofs.controls.Controls.get.Goals as goal

pub returns-in_err-standing : goal.returns-in_err-standing
returns-in_err-standing c =
    ap option_copied c.from_residual.ensures ∙ ap (option_map (λ (s : Standing). s.control)) c.in_err-standing.ensures
    ∙ sym (found_named c.self.inside.table.users c.self.inside.table.past c.args.name.now 0 c.self.inside.table.controls.items)
    ∙ ap (λ (cs : List ControlKept). option_map (λ (k : ControlKept). k.control) (kept_named c.args.name.now cs)) c.self.view_is

pub returns : goal.returns
returns c =
    ap (option_map (λ (s : Standing). s.control)) c.in_ok-standing.ensures
    ∙ sym (found_named c.self.inside.table.users c.self.inside.table.past c.args.name.now 0 c.self.inside.table.controls.items)
    ∙ ap (λ (cs : List ControlKept). option_map (λ (k : ControlKept). k.control) (kept_named c.args.name.now cs)) c.self.view_is
