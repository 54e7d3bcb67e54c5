use Rattle.std.proofs.Common.{Some, None, refl, ap, is_some}
use Rattle.iss_product.specs.declared.products.Listed.{Listed}
use Rattle.iss_product.proofs.Entries.{product_is, switch_turned, switch_lacking, still_listed}
use Rattle.iss_product.proofs.products.Products.set_switch.Goals as goal

pub returns-in_default-clause-known : goal.returns-in_default-clause-known
returns-in_default-clause-known c =
    ap is_some (product_is c.self.inside.by_name.entries c.args.self.now c.args.name.now c.args.name.now c.self.invariant c.self.view_is refl None c.in_default.ensures.value)

pub returns-in_default-clause-turned : goal.returns-in_default-clause-turned
returns-in_default-clause-turned c =
    switch_lacking c.self.inside.by_name.entries c.args.self.now c.args.name.now c.args.name.now c.self.invariant c.self.view_is refl c.args.on
    c.get_mut.follows.lender-at-none.entries c.in_default.ensures.value (ap (λ m. m.entries) c.get_mut.follows.holds-at-none)

pub invariant_of-self-2 : goal.invariant_of-self-2
invariant_of-self-2 c =
    let after : Listed = record { product = c.in-Some.listed.now.product; on = c.args.on } in
    still_listed c.self.inside.by_name.entries c.args.self.now c.args.name.now c.args.name.now c.self.invariant c.self.view_is refl c.in-Some.listed.now after
    (c.get_mut.follows.lender after).entries c.in-Some.ensures.value refl (c.get_mut.follows.holds after).0 (c.get_mut.follows.holds after).4

pub returns-clause-known : goal.returns-clause-known
returns-clause-known c =
    ap is_some (product_is c.self.inside.by_name.entries c.args.self.now c.args.name.now c.args.name.now c.self.invariant c.self.view_is refl (Some c.in-Some.listed.now) c.in-Some.ensures.value)

pub returns-clause-turned : goal.returns-clause-turned
returns-clause-turned c =
    let after : Listed = record { product = c.in-Some.listed.now.product; on = c.args.on } in
    switch_turned c.self.inside.by_name.entries c.args.self.now c.args.name.now c.args.name.now c.self.invariant c.self.view_is refl c.in-Some.listed.now after
    (c.get_mut.follows.lender after).entries c.in-Some.ensures.value refl (c.get_mut.follows.holds after).0
