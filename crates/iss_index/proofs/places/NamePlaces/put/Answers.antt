use Rattle.std.proofs.Common.{◌++◌, ◌∷◌, [], sym, subst}
use Rattle.std.proofs.lemmas.Result.{on_err_weaker}
use Rattle.iss_index.specs.Hashing.{AreFound}
use Rattle.iss_index.proofs.Hashed.{put_filled}
use Rattle.iss_index.proofs.places.NamePlaces.put.Goals as goal

pub returns-then-put_in_group-clause-put : goal.returns-then-put_in_group-clause-put
returns-then-put_in_group-clause-put c = λ names found is none.
    subst (λ others. AreFound c.put_in_group.new.self.groups.items others (names ++ c.args.name.now ∷ [])) (sym c.put_in_group.ensures.others)
    (put_filled c.args.self.now.groups.items c.put_in_group.new.self.groups.items c.args.self.now.others c.args.name.now c.args.place
    c.if-put_in_group.ensures.filled names found is none)

pub returns-clause-refused : goal.returns-clause-refused
returns-clause-refused c =
    on_err_weaker c.put_in_tree.result
    (λ stays names found. stays names
    (subst (λ groups. AreFound groups c.put_in_group.new.self.others names) (sym c.if-put_in_group.ensures.full)
    (subst (λ others. AreFound c.args.self.now.groups.items others names) (sym c.put_in_group.ensures.others) found)))
    c.put_in_tree.ensures.refused
