use Rattle.sqlite.specs.Held.{state}
use Rattle.iss_sql_keeper.proofs.OpenedLemmas.{holds_on, ok_anyway}
use Rattle.iss_sql_keeper.proofs.RefusedLemmas.{failed_after, made_archive, untaken_after}
use Rattle.iss_sql_keeper.proofs.opening.prepare.Goals as goal

pub returns-clause-held : goal.returns-clause-held
returns-clause-held g c = ok_anyway c.is_archive.result (λ _ _. holds_on _ _ _ c.in_ok-make_outside.ensures.made c.in_ok-make_outside.ensures.settled c.is_archive.ensures.stays)

pub returns-clause-untaken : goal.returns-clause-untaken
returns-clause-untaken g c clean can holds =
    let old = state g.S.Store c.args.conn.now in
    let after = state g.S.Store c.make_outside.new.conn in
    let last = state g.S.Store c.is_archive.new.conn in
    let mid = c.is_archive.ensures.stays.clean clean in
    let both = made_archive old after (c.in_ok-make_outside.ensures.made mid) can holds in
    untaken_after old after last (c.in_ok-make_outside.ensures.done mid can) c.is_archive.result (c.is_archive.ensures.untaken both.1.head clean both.0 both.1.posts)

pub returns-clause-failed : goal.returns-clause-failed
returns-clause-failed g c clean can holds =
    let old = state g.S.Store c.args.conn.now in
    let after = state g.S.Store c.make_outside.new.conn in
    let last = state g.S.Store c.is_archive.new.conn in
    let mid = c.is_archive.ensures.stays.clean clean in
    let both = made_archive old after (c.in_ok-make_outside.ensures.made mid) can holds in
    failed_after old after last (c.in_ok-make_outside.ensures.done mid can) c.is_archive.result (c.is_archive.ensures.failed both.1.head clean both.0)
