use Rattle.std.proofs.Common.{ap₂, ◌∙◌}
use Rattle.iss_index.specs.Places.{place_of}
use Rattle.iss_index.proofs.Placed.{unplaced}
use Rattle.iss_index.proofs.index.Index.add.Goals as goal

pub add-requires : goal.add-requires
add-requires g c =
    ap₂ place_of c.name.ensures c.self.invariant
    ∙ unplaced g.T.Named.name_of (g.T.Named.name_of c.args.thing) c.self.inside.things.items (rw c.self.view_is c.requires)
