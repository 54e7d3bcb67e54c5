use Rattle.std.proofs.Common.{rules}
use Rattle.sqlite.specs.Held.{state}
use Rattle.iss_tables.specs.Calls.{IsOurs}
use Rattle.iss_sql_keeper.proofs.ShownLemmas.{asked_stays, asked_leaves, posts_held, if_ok}
use Rattle.iss_sql_keeper.proofs.TellingLemmas.{told_asked}
use Rattle.iss_sql_keeper.proofs.asking.ask_posts.Goals as goal

pub returns-clause-stays : goal.returns-clause-stays
returns-clause-stays g c =
    let ours : IsOurs (state g.S.Store c.args.conn.now) = search rules in
    asked_stays _ _ ours c.read_posts.ensures.kept c.read_posts.ensures.mode c.read_posts.ensures.survives

pub returns-clause-left : goal.returns-clause-left
returns-clause-left g c =
    let ours : IsOurs (state g.S.Store c.args.conn.now) = search rules in
    asked_leaves _ _ ours c.read_posts.ensures.kept c.read_posts.ensures.mode c.read_posts.ensures.survives

pub returns-clause-shown : goal.returns-clause-shown
returns-clause-shown g c =
    let ours : IsOurs (state g.S.Store c.args.conn.now) = search rules in
    if_ok _ c.read_posts.result c.told.result c.told.ensures.same
    (posts_held _ _ ours c.read_posts.ensures.kept c.read_posts.ensures.mode c.read_posts.ensures.survives c.requires c.what_is_shown_is_committed.ensures c.args.account.now c.read_posts.result c.read_posts.ensures.shown)

pub returns-clause-telling : goal.returns-clause-telling
returns-clause-telling g c =
    let ours : IsOurs (state g.S.Store c.args.conn.now) = search rules in
    told_asked _ _ c.read_posts.result c.told.result ours c.told.ensures.same c.read_posts.ensures.done
