use Rattle.json.specs.Value.{value_view}
use Rattle.iss_field.proofs.Views.{found_seen}
use Rattle.iss_field.proofs.found.member.Goals as goal

pub returns : goal.returns
returns c = found_seen c.last_member.result c.args.name.now (value_view c.args.line.now) c.last_member.ensures c.requires
