use Rattle.std.proofs.Common.{◌<◌, length, ◌∙◌, arith, ap, option_map}
use Rattle.iss_index.specs.Places.{place_of}
use Rattle.iss_index.proofs.Placed.{found-within, found-named, none-named}
use Rattle.iss_index.proofs.index.Index.get_near.Goals as goal

pub returns-in_err-found : goal.returns-in_err-found
returns-in_err-found g c =
    rw (← c.self.view_is)
    (ap (option_map (λ found. found.now)) c.from_residual.ensures
    ∙ none-named g.T.Named.name_of c.self.inside.things.items c.args.name.now
    (c.in_err-found.ensures.value ∙ ap (place_of c.args.name.now) c.self.invariant))

pub index-requires : goal.index-requires
index-requires g c =
    let below : c.in_ok-found.found < length c.self.inside.things.items =
    found-within g.T.Named.name_of c.self.inside.things.items c.args.name.now c.in_ok-found.found
    (c.in_ok-found.ensures.value ∙ ap (place_of c.args.name.now) c.self.invariant)
    in omega (arith, below, c.self.inside.things.ok.0)

pub returns : goal.returns
returns g c =
    rw (← c.self.view_is)
    (found-named g.T.Named.name_of c.self.inside.things.items c.args.name.now c.in_ok-found.found c.index.result.now
    (c.in_ok-found.ensures.value ∙ ap (place_of c.args.name.now) c.self.invariant) c.index.ensures)
