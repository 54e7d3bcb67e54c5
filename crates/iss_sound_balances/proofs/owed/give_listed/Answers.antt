use Rattle.std.proofs.Common.{◌∙◌, sym}
use Rattle.iss_sound_balances.proofs.Nothing.{nothing_moved}
use Rattle.iss_sound_balances.proofs.owed.give_listed.Goals as goal

pub returns-then-move_nothing : goal.returns-then-move_nothing
returns-then-move_nothing c =
    sym (nothing_moved c.args.known.now.txns c.args.carried.now c.args.owed.now (sym c.move_nothing.ensures ∙ c.if-move_nothing.true))
