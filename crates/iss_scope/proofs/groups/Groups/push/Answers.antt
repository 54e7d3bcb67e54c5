use Rattle.iss_scope.proofs.Found.{not_found}
use Rattle.iss_scope.proofs.groups.Groups.push.Goals as goal

pub add-requires : goal.add-requires
add-requires c = not_found c.args.name.now c.self.inside.by_name c.args.self.now c.self.view_is c.requires.new
