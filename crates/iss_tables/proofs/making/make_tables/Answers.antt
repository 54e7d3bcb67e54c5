use Rattle.std.proofs.Common.{◌≡◌, Err, rules}
use Rattle.sqlite.specs.Held.{state}
use Rattle.iss_tables.proofs.TableLemmas.{both_made, done_then, then_ready}
use Rattle.iss_tables.proofs.Failing.{carried, open_not_shut}
use Rattle.iss_tables.proofs.making.make_tables.Goals as goal

pub returns-clause-made : goal.returns-clause-made
returns-clause-made g c clean =
    let mid = c.in_ok-make_post.ensures.clean clean in
    both_made _ _ _ (c.in_ok-make_head.ensures.made mid) (c.in_ok-make_head.ensures.alone mid) (c.in_ok-make_head.ensures.stands mid) (c.in_ok-make_post.ensures.made clean)
    (c.in_ok-make_post.ensures.stands clean)

pub returns-clause-done : goal.returns-clause-done
returns-clause-done g c clean can =
    let mid = c.in_ok-make_post.ensures.clean clean in
    let old = state g.S.Store c.args.conn.now in
    let after = state g.S.Store c.make_head.new.conn in
    let ready = then_ready old after (c.in_ok-make_head.ensures.made mid) (c.in_ok-make_head.ensures.alone mid) (c.in_ok-make_head.ensures.stands mid) can in
    done_then old after _ (c.in_ok-make_head.ensures.done mid can) (c.in_ok-make_post.ensures.done clean ready)

pub returns-in_err-make_post-clause-cause : goal.returns-in_err-make_post-clause-cause
returns-in_err-make_post-clause-cause g c clean can =
    let mid = c.in_err-make_post.ensures.clean clean in
    let old = state g.S.Store c.args.conn.now in
    let after = state g.S.Store c.make_head.new.conn in
    let ready = then_ready old after (c.in_ok-make_head.ensures.made mid) (c.in_ok-make_head.ensures.alone mid) (c.in_ok-make_head.ensures.stands mid) can in
    let why = c.in_err-make_post.ensures.cause clean ready in
    let done = c.in_ok-make_head.ensures.done mid can in
    let failed : c.from_residual-in_err-make_post.result ≡ Err c.in_err-make_post.field-0.0 = search rules in
    rw failed (carried old after _ _ done.counted (open_not_shut _ done.is_open) why)
