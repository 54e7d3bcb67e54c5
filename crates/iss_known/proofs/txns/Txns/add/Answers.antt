use Rattle.std.proofs.Common.{◌∙◌, ap}
use Rattle.iss_index.specs.Places.{place_of}
use Rattle.iss_index.proofs.Placed.{unplaced}
use Rattle.iss_model.specs.rules.Activity.{TxnNow}
use Rattle.iss_known.proofs.txns.Txns.add.Goals as goal

pub add-requires : goal.add-requires
add-requires c =
    ap (place_of c.args.txn.now.token) c.self.invariant
    ∙ unplaced (λ (t : TxnNow). t.txn.token) c.args.txn.now.token c.self.inside.list.items (rw c.self.view_is c.requires)
