use Rattle.std.proofs.Common.{◌≡◌, true, subst}
use Rattle.iss_index.specs.Hashing.{is_at}
use Rattle.iss_index.proofs.Hashed.{its_place}
use Rattle.iss_index.proofs.names.Names.find_near.Goals as goal

pub returns-in-Some-clause-value : goal.returns-in-Some-clause-value
returns-in-Some-clause-value c =
    rw (← c.self.view_is)
    (its_place c.self.inside.names.items c.in-Some.place c.args.name.now c.self.invariant.apart
    (subst (λ names. is_at names c.in-Some.place c.args.name.now ≡ true) c.deref.ensures.value c.in-Some.ensures))
