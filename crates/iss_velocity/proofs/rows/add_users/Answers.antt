use Rattle.std.proofs.Common.{List, subst}
use Rattle.iss_velocity.specs.declared.counters.Counter.{Counter}
use Rattle.iss_velocity.specs.Showing.{rows_of_user, AreAdded}
use Rattle.iss_velocity.proofs.Gathering.{users_added}
use Rattle.iss_velocity.proofs.rows.add_users.Goals as goal

pub loop-user-preserved : goal.loop-user-preserved
loop-user-preserved c =
    users_added c.args.users.now c.in-Some.user.now c.in-Some.counters.now c.next.new.self c.loop-user.user-iterator c.args.rows.now c.loop-user.rows c.add_counters.new.rows
    c.in-Some.ensures.steps c.loop-user.invariant
    (subst (λ (cs : List Counter). AreAdded (rows_of_user c.in-Some.user.now cs) c.loop-user.rows c.add_counters.new.rows) c.as_slice.ensures.value c.in_ok-add_counters.ensures)
