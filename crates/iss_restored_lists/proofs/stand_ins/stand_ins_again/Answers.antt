use Rattle.std.proofs.Common.{◌∙◌, ap, subst, sym}
use Rattle.iss_model.specs.declared.state.State.{State}
use Rattle.iss_restored_lists.specs.StandIns.{AreNotable}
use Rattle.iss_restored_lists.proofs.StandInsAgain.{sums_notable}
use Rattle.iss_restored_lists.proofs.stand_ins.stand_ins_again.Goals as goal

pub note_all-requires-clause-notable : goal.note_all-requires-clause-notable
note_all-requires-clause-notable c =
    subst AreNotable (sym (c.deref.ensures.value ∙ ap (λ (s : State). s.sums) c.state.view_is))
    (sums_notable c.args.state.now c.requires.order c.requires.names c.requires.bounded)
