use Rattle.std.proofs.Common.{◌∙◌}
use Rattle.std.specs.Ordering.{nat_cmp}
use Rattle.std.specs.Cmp.Lexicographic.{slice_cmp}
use Rattle.iss_model.proofs.TokenOrder.{kept_alike}
use Rattle.iss_model.proofs.token.TokenOrd.cmp.Goals as goal

pub returns : goal.returns
returns c =
    c.order.ensures
    ∙ kept_alike c.self.inside.bytes c.other.inside.bytes c.self.inside.len c.other.inside.len c.self.invariant c.other.invariant
    ∙ (λ j. slice_cmp nat_cmp (c.self.view_is j) (c.other.view_is j))
