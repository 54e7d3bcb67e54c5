use Rattle.std.proofs.Common.{refl}
use Rattle.iss_product.proofs.Entries.{pushed_listed, pushed_last}
use Rattle.iss_product.proofs.products.Products.push.Goals as goal

pub invariant_of-self-2 : goal.invariant_of-self-2
invariant_of-self-2 c =
    pushed_listed c.self.inside.by_name.entries c.args.self.now c.args.product.now c.args.product.now.name c.self.invariant c.self.view_is refl c.requires c.insert.new.self.entries c.in_ok-insert.ensures.entries c.in_ok-insert.ensures.unique

pub returns-clause-added : goal.returns-clause-added
returns-clause-added c =
    pushed_last c.self.inside.by_name.entries c.args.self.now c.args.product.now c.args.product.now.name c.self.invariant c.self.view_is refl c.requires c.insert.new.self.entries c.in_ok-insert.ensures.entries
