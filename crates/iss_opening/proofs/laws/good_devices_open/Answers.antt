use Rattle.iss_opening.proofs.GoodDevices.{good_device, opened_device}
use Rattle.iss_opening.proofs.laws.good_devices_open.Goals as goal

pub returns-clause-standing : goal.returns-clause-standing
returns-clause-standing c = good_device

pub returns-clause-opened : goal.returns-clause-opened
returns-clause-opened c = opened_device
