use Rattle.std.proofs.Common.{◌≡◌, ◌++◌, ◌∷◌, [], None, length, ap, ◌∙◌, rules}
use Rattle.iss_index.specs.Places.{place_of}
use Rattle.iss_index.proofs.Hashed.{kept_more, kept_still}
use Rattle.iss_index.proofs.names.Names.add.Goals as goal

pub invariant_of-self-in_err-put : goal.invariant_of-self-in_err-put
invariant_of-self-in_err-put c =
    kept_still c.self-2.inside.places.groups.items c.put.new.self.groups.items c.self-2.inside.places.others c.put.new.self.others c.self-2.inside.names.items
    c.reserve.new.self.items c.self-2.invariant c.in_err-put.ensures.refused c.in_ok-reserve.ensures.items

pub invariant_of-self-2 : goal.invariant_of-self-2
invariant_of-self-2 c =
    let is : c.in_ok-place.place ≡ length c.self-2.inside.names.items = search rules in
    let new : place_of c.args.name.now c.self-2.inside.names.items ≡ None = search rules in
    kept_more c.self-2.inside.places.groups.items c.put.new.self.groups.items c.self-2.inside.places.others c.put.new.self.others c.self-2.inside.names.items
    c.push.new.self.items c.args.name.now c.in_ok-place.place c.self-2.invariant c.in_ok-put.ensures.put is new
    (c.in_ok-push.ensures.items ∙ ap (λ xs. xs ++ c.args.name.now ∷ []) c.in_ok-reserve.ensures.items)
