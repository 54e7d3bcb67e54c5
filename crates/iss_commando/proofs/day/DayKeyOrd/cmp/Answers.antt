use Rattle.std.proofs.Common.{ap₂, sym, ◌∙◌}
use Rattle.std.specs.Ordering.{nat_cmp, ordering_then}
use Rattle.std.specs.Cmp.Lexicographic.{slice_cmp}
use Rattle.iss_commando.proofs.KeyOrder.{by_parts}
use Rattle.iss_commando.proofs.day.DayKeyOrd.cmp.Goals as goal

pub returns : goal.returns
returns c =
    c.then-2.ensures
    ∙ ap₂ ordering_then
    (c.then.ensures
    ∙ ap₂ ordering_then
    (c.cmp-by_product.ensures ∙ ap₂ (slice_cmp nat_cmp) c.text.ensures.value c.text-2.ensures.value)
    (c.cmp-by_user.ensures ∙ ap₂ (slice_cmp nat_cmp) c.text-3.ensures.value c.text-4.ensures.value))
    c.cmp.ensures
    ∙ sym (by_parts c.self.inside.product c.other.inside.product c.self.inside.user c.other.inside.user c.self.inside.day c.other.inside.day
    c.text.ensures.token c.text-2.ensures.token c.text-3.ensures.token c.text-4.ensures.token)
    ∙ ap₂ (slice_cmp nat_cmp) c.self.view_is c.other.view_is
