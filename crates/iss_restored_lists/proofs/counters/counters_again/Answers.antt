use Rattle.std.proofs.Common.{◌∙◌, ap, List, subst, sym}
use Rattle.iss_model.specs.declared.counted.Counter.{Counter}
use Rattle.iss_model.specs.declared.state.State.{State}
use Rattle.iss_restored_lists.specs.Counters.{AreRestorable}
use Rattle.iss_restored_lists.proofs.CountersAgain.{restorable}
use Rattle.iss_restored_lists.proofs.counters.counters_again.Goals as goal

pub restore_all-requires : goal.restore_all-requires
restore_all-requires c =
    subst (λ (ks : List Counter). AreRestorable c.args.known.now.txns ks c.args.controls.now)
    (sym (c.deref.ensures.value ∙ ap (λ (s : State). s.counters) c.state.view_is))
    (restorable c.args.known.now c.args.state.now c.args.controls.now c.requires.names c.requires.known c.requires.made)
