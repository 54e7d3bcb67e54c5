use Rattle.std.proofs.Common.{ap, ◌∙◌}
use Rattle.iss_model.specs.state.Cores.{CoreState}
use Rattle.iss_core.specs.States.{kept_state}
use Rattle.iss_core.proofs.SettingsAgain.{set_again_as}
use Rattle.iss_core.proofs.state.State.configure_again.Goals as goal

pub returns : goal.returns
returns c =
    ap (λ (d : CoreState). record d { count = 0 }) c.in_ok-configure.ensures
    ∙ set_again_as (kept_state c.args.self.now) c.args.number c.args.input.now c.requires.plain
