use Rattle.iss_core.specs.States.{kept_state}
use Rattle.iss_core.proofs.CoreAgain.{shown_again, sound_again, stands_again}
use Rattle.iss_core.proofs.engine.Core.restore.Goals as goal

pub invariant_of-result : goal.invariant_of-result
invariant_of-result c =
    sound_again c.args.state.now (kept_state c.restore.new.self) (c.in_ok-restore.ensures.sound.0 c.if-not-branch.false) (c.in_ok-restore.ensures.made c.if-not-branch.false)

pub returns-clause-shows : goal.returns-clause-shows
returns-clause-shows c =
    shown_again c.args.state.now (kept_state c.restore.new.self) (c.in_ok-restore.ensures.sound.0 c.if-not-branch.false) (c.in_ok-restore.ensures.made c.if-not-branch.false)

pub returns-clause-stands : goal.returns-clause-stands
returns-clause-stands c = λ rs legal records its.
    stands_again c.args.state.now (kept_state c.restore.new.self) rs legal records its (c.in_ok-restore.ensures.made c.if-not-branch.false)
