use Rattle.iss_device.proofs.Lives.{ended_runs_leave_calm}
use Rattle.iss_device.proofs.laws.ended_runs_leave_calm.Goals as goal

pub returns : goal.returns
returns c = ended_runs_leave_calm
