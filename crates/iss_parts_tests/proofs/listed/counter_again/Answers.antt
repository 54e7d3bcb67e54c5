-- The control has no counter yet.
use Rattle.std.proofs.Common.{pos, ap, ◌∙◌, List}
use Rattle.iss_model.specs.rules.Controls.{ControlPut}
use Rattle.iss_model.specs.state.Cores.{ControlKept, with_control}
use Rattle.iss_parts_tests.proofs.Uncounted.{none_counted}
use Rattle.iss_parts_tests.proofs.listed.counter_again.Goals as goal

pub restore-requires : goal.restore-requires
restore-requires c =
    let put : ControlPut = record { number = 4; control = c.control.result } in
    none_counted c.put.new.self put c.args.name.now c.args.user.now (pos 0)
    (c.in-Ok.ensures.put ∙ ap (λ (cs : List ControlKept). with_control cs put) c.new-controls.ensures) c.control.ensures
