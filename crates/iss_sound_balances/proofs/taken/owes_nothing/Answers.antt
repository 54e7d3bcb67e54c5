use Rattle.std.proofs.Common.{◌∙◌, ap}
use Rattle.std.specs.List.{list_all}
use Rattle.iss_sound_balances.specs.Listed.{is_nothing}
use Rattle.iss_sound_balances.proofs.TakenOut.{says_nothing}
use Rattle.iss_sound_balances.proofs.taken.owes_nothing.Goals as goal

pub returns : goal.returns
returns c =
    says_nothing c.args.owed.now c.in_ok-left.left.items c.are_nothing.result c.in_ok-left.ensures.balances
    (c.are_nothing.ensures ∙ ap (list_all is_nothing) c.deref.ensures.value)
