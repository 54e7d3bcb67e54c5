use Rattle.std.proofs.Common.{◌≡◌, Some, None, refl, rules}
use Rattle.iss_product.proofs.Entries.{product_is}
use Rattle.iss_product.proofs.products.Products.get.Goals as goal

pub returns-in_err-listed : goal.returns-in_err-listed
returns-in_err-listed c =
    let none : c.from_residual.result ≡ None = search rules in
    rw none
    (product_is c.self.inside.by_name.entries c.args.self.now c.args.name.now c.args.name.now c.self.invariant c.self.view_is refl None c.in_err-listed.ensures.value)

pub returns : goal.returns
returns c =
    product_is c.self.inside.by_name.entries c.args.self.now c.args.name.now c.args.name.now c.self.invariant c.self.view_is refl (Some c.in_ok-listed.listed.now) c.in_ok-listed.ensures.value
