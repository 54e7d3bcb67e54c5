use Rattle.iss_index.proofs.Grown.{at_its_place, grown_by, there_by}
use Rattle.iss_index.proofs.names.Names.place_or_add.Goals as goal

pub returns-in-Some-clause-there : goal.returns-in-Some-clause-there
returns-in-Some-clause-there c = at_its_place c.args.self.now c.args.name.now c.in-Some.place c.in-Some.ensures.value

pub returns-in-None-clause-there : goal.returns-in-None-clause-there
returns-in-None-clause-there c = there_by c.args.self.now c.add.new.self c.args.name.now c.add.result c.add.ensures.added c.add.ensures.place

pub returns-in-None-clause-grown : goal.returns-in-None-clause-grown
returns-in-None-clause-grown c = grown_by c.args.self.now c.add.new.self c.args.name.now c.add.result c.add.ensures.added c.add.ensures.refused
