use Rattle.std.proofs.Common.{◌∙◌, ap}
use Rattle.iss_index.specs.Places.{place_of}
use Rattle.iss_index.proofs.Placed.{unplaced}
use Rattle.iss_known.specs.declared.controls.ControlKnown.{ControlKnown}
use Rattle.iss_known.proofs.Firsts.{none_if}
use Rattle.iss_known.proofs.controls.Controls.push.Goals as goal

pub add-requires : goal.add-requires
add-requires c =
    ap (place_of c.args.control.now.name) c.self.invariant
    ∙ unplaced (λ (k : ControlKnown). k.name) c.args.control.now.name c.self.inside.list.items (none_if _ (rw c.self.view_is c.requires.new))
