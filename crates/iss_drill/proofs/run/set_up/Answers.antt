use Rattle.iss_drill.proofs.Courses.{setup_begins, setup_next}
use Rattle.iss_drill.proofs.run.set_up.Goals as goal

pub inputs-init : goal.inputs-init
inputs-init c = setup_begins c.args.tally.now c.args.fresh c.args.device.now.size c.requires.start c.requires.few c.requires.size

pub inputs-preserved : goal.inputs-preserved
inputs-preserved c =
    setup_next c.inputs.number c.args.tally.now c.inputs.tally c.give_setup.new.tally c.args.fresh c.inputs.store c.in_ok-store.store
    c.args.device.now.size c.inputs.device.size c.give_setup.new.device.size c.inputs.invariant
    c.in_ok-store.ensures.lines c.in_ok-store.ensures.few c.in_ok-store.ensures.kept c.in_ok-store.ensures.size c.in_ok-store.ensures.given
