use Rattle.std.proofs.Common.{◌≡◌}
use Rattle.json.specs.Find.{get_member}
use Rattle.json.specs.Value.{members_view}
use Rattle.iss_field.proofs.found.last_named.Given as goal

abbrev pub invariant-loop-spelled : goal.invariant-loop-spelled
invariant-loop-spelled l = get_member l.name (members_view l.members) ≡ get_member l.name (members_view l.spelled-iterator.iter.rest.now)
