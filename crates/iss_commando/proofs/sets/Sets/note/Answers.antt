use Rattle.std.proofs.Common.{pos, ap}
use Rattle.iss_model.specs.Sums.{stood_key}
use Rattle.iss_model.specs.state.Cores.{StandIns}
use Rattle.iss_commando.specs.Trees.{kept_in}
use Rattle.iss_commando.proofs.TreeSums.{small_at}
use Rattle.iss_commando.proofs.sets.Sets.note.Goals as goal

pub add_to-requires : goal.add_to-requires
add_to-requires c =
    small_at c.args.self.now.stood (kept_in c.self.inside.stood) (stood_key c.args.product.now c.args.user.now c.args.at) c.new.result (pos c.args.amount)
    (ap (λ (s : StandIns). s.stood) c.self.view_is) c.new.ensures c.requires.small
