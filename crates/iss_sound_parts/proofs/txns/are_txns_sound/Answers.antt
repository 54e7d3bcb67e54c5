use Rattle.std.proofs.Common.{◌∙◌, ap, List}
use Rattle.iss_model.specs.declared.state.Carried.{Carried}
use Rattle.iss_model.specs.declared.state.State.{State}
use Rattle.iss_sound_parts.specs.Txns.{are_in_order}
use Rattle.iss_sound_parts.proofs.Together.{txns_sound}
use Rattle.iss_sound_parts.proofs.txns.are_txns_sound.Goals as goal

pub returns : goal.returns
returns c =
    txns_sound c.args.state.now c.args.known.now c.args.asked.now c.are_in_order.result c.requires.known c.requires.asked
    (c.are_in_order.ensures ∙ ap (λ (ts : List Carried). are_in_order c.args.known.now c.args.asked.now ts)
    (c.deref.ensures.value ∙ ap (λ (s : State). s.txns) c.state.view_is))
