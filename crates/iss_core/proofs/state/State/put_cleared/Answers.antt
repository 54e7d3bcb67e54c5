use Rattle.iss_model.specs.state.Cores.{core_facts}
use Rattle.iss_core.specs.States.{kept_state}
use Rattle.iss_core.proofs.Clearings.{ends_as, cleared_so}
use Rattle.iss_core.proofs.state.State.put_cleared.Goals as goal

pub returns : goal.returns
returns c =
    ends_as c.put_decided.result _ _ _ c.put_decided.ensures
    (cleared_so (core_facts (kept_state c.args.self.now)) c.args.operation.now c.args.hold.now c.without-rest.result c.taken_to_clear.result c.args.out.now.items c.clear.new.out.items c.put_capture.new.out.items
    c.taken_to_clear.ensures c.without-rest.ensures c.in_ok-clear.ensures c.in_ok-put_capture.ensures)
