use Rattle.iss_device.proofs.Lives.{made_devices_keep}
use Rattle.iss_device.proofs.laws.made_devices_keep.Goals as goal

pub returns : goal.returns
returns c = made_devices_keep
