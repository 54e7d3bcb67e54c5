use Rattle.std.proofs.Common.{◌<◌, length, ◌∙◌, arith, ap₂, subst, refl}
use Rattle.std.specs.List.{IsDistinct}
use Rattle.std.specs.Str.{bytes_eq}
use Rattle.iss_index.specs.Places.{place_of}
use Rattle.iss_index.proofs.Placed.{found-within, none-changed, found-put, found-placed, found-names}
use Rattle.iss_index.proofs.index.Index.set.Goals as goal

pub returns-in_default-clause-placed : goal.returns-in_default-clause-placed
returns-in_default-clause-placed g c =
    rw (← c.self.view_is)
    (none-changed g.T.Named.name_of c.self.inside.things.items (g.T.Named.name_of c.args.thing)
    (c.in_default.ensures.value ∙ ap₂ place_of c.name.ensures c.self.invariant) (λ t. c.args.thing))

pub returns-in_default-clause-changed : goal.returns-in_default-clause-changed
returns-in_default-clause-changed g c = λ change makes.
    rw (← c.self.view_is)
    (none-changed g.T.Named.name_of c.self.inside.things.items (g.T.Named.name_of c.args.thing)
    (c.in_default.ensures.value ∙ ap₂ place_of c.name.ensures c.self.invariant) change)

pub index_mut-requires : goal.index_mut-requires
index_mut-requires g c =
    let below : c.in-Some.place < length c.self.inside.things.items =
    found-within g.T.Named.name_of c.self.inside.things.items (g.T.Named.name_of c.args.thing) c.in-Some.place
    (c.in-Some.ensures.value ∙ ap₂ place_of c.name.ensures c.self.invariant)
    in omega (arith, below, c.self.inside.things.ok.0)

pub invariant_of-self : goal.invariant_of-self
invariant_of-self g c =
    c.self.invariant
    ∙ found-names g.T.Named.name_of c.self.inside.things.items (g.T.Named.name_of c.args.thing) c.in-Some.place c.args.thing
    (c.in-Some.ensures.value ∙ ap₂ place_of c.name.ensures c.self.invariant) refl

pub returns-clause-placed : goal.returns-clause-placed
returns-clause-placed g c =
    rw (← c.self.view_is)
    (found-placed g.T.Named.name_of c.self.inside.things.items (g.T.Named.name_of c.args.thing) c.in-Some.place c.args.thing
    (c.in-Some.ensures.value ∙ ap₂ place_of c.name.ensures c.self.invariant)
    (subst (IsDistinct bytes_eq) c.self.invariant c.in-Some.ensures.apart))

pub returns-clause-changed : goal.returns-clause-changed
returns-clause-changed g c = λ change makes.
    rw (← c.self.view_is)
    (found-put g.T.Named.name_of c.self.inside.things.items (g.T.Named.name_of c.args.thing) c.in-Some.place c.args.thing
    (c.in-Some.ensures.value ∙ ap₂ place_of c.name.ensures c.self.invariant)
    (subst (IsDistinct bytes_eq) c.self.invariant c.in-Some.ensures.apart)
    change (rw c.self.view_is makes))
