use Rattle.iss_index.proofs.Hashed.{put_other}
use Rattle.iss_index.proofs.places.NamePlaces.put_in_tree.Goals as goal

pub returns-clause-put : goal.returns-clause-put
returns-clause-put c = λ names found is none.
    put_other c.args.self.now.groups.items c.args.self.now.others c.insert.new.self c.args.name.now c.args.place
    c.in_ok-insert.ensures.updates.0 c.requires.full names found is none
