use Rattle.std.proofs.Common.{◌∙◌}
use Rattle.iss_core.specs.States.{kept_state}
use Rattle.iss_core.proofs.ControlReasons.{put_fits}
use Rattle.iss_core.proofs.state.State.put_control.Goals as goal

pub control_memory-requires : goal.control_memory-requires
control_memory-requires c = c.in-Err.ensures.reason ∙ put_fits (kept_state c.args.self.now) c.args.control.now c.requires
