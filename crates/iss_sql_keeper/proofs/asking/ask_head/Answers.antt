use Rattle.std.proofs.Common.{rules}
use Rattle.sqlite.specs.Held.{state}
use Rattle.iss_tables.specs.Calls.{IsOurs}
use Rattle.iss_sql_keeper.proofs.ShownLemmas.{asked_stays, asked_leaves, head_held, if_ok, on_ok}
use Rattle.iss_sql_keeper.proofs.RefusedLemmas.{holds_head, unread_for}
use Rattle.iss_sql_keeper.proofs.TellingLemmas.{told_asked}
use Rattle.iss_sql_keeper.proofs.asking.ask_head.Goals as goal

pub returns-clause-stays : goal.returns-clause-stays
returns-clause-stays g c =
    let ours : IsOurs (state g.S.Store c.args.conn.now) = search rules in
    asked_stays _ _ ours c.read_head.ensures.kept c.read_head.ensures.mode c.read_head.ensures.survives

pub returns-clause-left : goal.returns-clause-left
returns-clause-left g c =
    let ours : IsOurs (state g.S.Store c.args.conn.now) = search rules in
    asked_leaves _ _ ours c.read_head.ensures.kept c.read_head.ensures.mode c.read_head.ensures.survives

pub returns-clause-read : goal.returns-clause-read
returns-clause-read g c =
    let ours : IsOurs (state g.S.Store c.args.conn.now) = search rules in
    if_ok _ c.read_head.result c.told.result c.told.ensures.same
    (head_held _ _ ours c.read_head.ensures.kept c.read_head.ensures.mode c.read_head.ensures.survives c.requires c.what_is_shown_is_committed.ensures c.read_head.result c.read_head.ensures.read)

pub returns-clause-telling : goal.returns-clause-telling
returns-clause-telling g c =
    let ours : IsOurs (state g.S.Store c.args.conn.now) = search rules in
    told_asked _ _ c.read_head.result c.told.result ours c.told.ensures.same c.read_head.ensures.done

pub returns-clause-was : goal.returns-clause-was
returns-clause-was g c clean = if_ok _ c.read_head.result c.told.result c.told.ensures.same (c.read_head.ensures.read clean)

pub returns-clause-done : goal.returns-clause-done
returns-clause-done g c clean ours = on_ok _ c.read_head.result c.told.result c.told.ensures.same (c.read_head.ensures.done clean ours)

pub returns-clause-cause : goal.returns-clause-cause
returns-clause-cause g c holds clean ours = unread_for _ _ (holds_head (state g.S.Store c.args.conn.now).now.trees holds) c.read_head.result c.told.result c.told.ensures.same c.told.ensures.named (c.read_head.ensures.cause clean ours)
