use Rattle.iss_drill.proofs.Holdings.{next_held_fits}
use Rattle.iss_drill.proofs.report.held_of_all.Goals as goal

pub with_held-held-requires : goal.with_held-held-requires
with_held-held-requires c =
    next_held_fits c.args.core.now.state c.loop-digit.digit _ c.requires c.loop-digit-test.true c.loop-digit.invariant
