use Rattle.std.proofs.Common.{Some, None, refl}
use Rattle.iss_product.proofs.Entries.{switch_is}
use Rattle.iss_product.proofs.products.Products.switched.Goals as goal

pub returns-in-Some : goal.returns-in-Some
returns-in-Some c =
    switch_is c.self.inside.by_name.entries c.args.self.now c.args.name.now c.args.name.now c.self.invariant c.self.view_is refl (Some c.in-Some.listed.now) c.in-Some.ensures.value

pub returns-in-None : goal.returns-in-None
returns-in-None c =
    switch_is c.self.inside.by_name.entries c.args.self.now c.args.name.now c.args.name.now c.self.invariant c.self.view_is refl None c.in-None.ensures.value
