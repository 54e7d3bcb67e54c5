use Rattle.iss_core.specs.States.{kept_state}
use Rattle.iss_core.proofs.CoreAgain.{rest_again}
use Rattle.iss_core.proofs.SettingsAgain.{settings_again}
use Rattle.iss_core.proofs.state.State.take_up_rest.Goals as goal

pub counters_again-requires-clause-made : goal.counters_again-requires-clause-made
counters_again-requires-clause-made c = (settings_again c.args.state.now (kept_state c.args.self.now) c.requires.set).controls

pub stand_ins_again-requires-clause-nothing : goal.stand_ins_again-requires-clause-nothing
stand_ins_again-requires-clause-nothing c = (settings_again c.args.state.now (kept_state c.args.self.now) c.requires.set).stood

pub returns : goal.returns
returns c =
    rest_again c.args.state.now (kept_state c.args.self.now) c.counters_again.new.controls c.stand_ins_again.new.sets c.in_ok-self-2.field-0 c.in_ok-self-3.field-0
    c.in_ok-self.field-0 c.in_ok-self-4.field-0 c.requires.set c.in_ok-counters_again.ensures c.in_ok-stand_ins_again.ensures c.in_ok-self-2.ensures
    c.in_ok-self-3.ensures c.in_ok-self.ensures c.in_ok-self-4.ensures
