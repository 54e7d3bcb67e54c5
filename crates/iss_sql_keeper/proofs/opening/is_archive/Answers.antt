use Rattle.sqlite.specs.Held.{state}
use Rattle.iss_sql_keeper.proofs.ShownLemmas.{opened_kept, stays_then}
use Rattle.iss_sql_keeper.proofs.RefusedLemmas.{counted_ready, failed_after, still_ours, untaken_after}
use Rattle.iss_sql_keeper.proofs.opening.is_archive.Goals as goal

pub returns-clause-kept : goal.returns-clause-kept
returns-clause-kept g c = opened_kept _ _ c.in_ok-head.head c.is_counted.result (c.in_ok-head.ensures.stays.mode c.requires) c.in_ok-head.ensures.read c.is_counted.ensures.stays c.is_counted.ensures.found

pub returns-clause-stays : goal.returns-clause-stays
returns-clause-stays g c = stays_then _ _ _ c.in_ok-head.ensures.stays c.is_counted.ensures.stays

pub returns-clause-untaken : goal.returns-clause-untaken
returns-clause-untaken g c stored clean ours archive =
    let old = state g.S.Store c.args.conn.now in
    let after = state g.S.Store c.head_in.new.conn in
    let last = state g.S.Store c.is_counted.new.conn in
    let mid = c.is_counted.ensures.stays.clean clean in
    let answered = c.in_ok-head.ensures.done mid ours in
    let ready = counted_ready old after c.in_ok-head.head answered (c.in_ok-head.ensures.was mid ours) stored archive ours in
    untaken_after old after last answered.done c.is_counted.result (c.is_counted.ensures.untaken clean ready.ours ready.fits ready.above)

pub returns-clause-failed : goal.returns-clause-failed
returns-clause-failed g c stored clean ours =
    let old = state g.S.Store c.args.conn.now in
    let after = state g.S.Store c.head_in.new.conn in
    let last = state g.S.Store c.is_counted.new.conn in
    let mid = c.is_counted.ensures.stays.clean clean in
    let answered = c.in_ok-head.ensures.done mid ours in
    failed_after old after last answered.done c.is_counted.result (c.is_counted.ensures.failed clean (still_ours old after answered ours))
