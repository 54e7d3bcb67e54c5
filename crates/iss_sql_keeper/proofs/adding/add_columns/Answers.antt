use Rattle.std.proofs.Common.{rules}
use Rattle.sqlite.specs.Held.{state}
use Rattle.iss_tables.specs.Calls.{IsOurs}
use Rattle.iss_sql_keeper.proofs.ShownLemmas.{on_ok, on_err}
use Rattle.iss_sql_keeper.proofs.AddingLemmas.{undone_stays, added_to, leaves_added}
use Rattle.iss_sql_keeper.proofs.TellingLemmas.{told_committed}
use Rattle.iss_sql_keeper.proofs.adding.add_columns.Goals as goal

pub returns-clause-added : goal.returns-clause-added
returns-clause-added g c clean =
    let ours : IsOurs (state g.S.Store c.args.conn.now) = search rules in
    on_ok _ c.add.result c.told.result c.told.ensures.same
    (added_to _ _ c.args.rows.now c.args.head.now c.add.result c.requires ours c.what_is_shown_is_committed.ensures c.add.ensures.added c.add.ensures.committed clean)

pub returns-clause-telling : goal.returns-clause-telling
returns-clause-telling g c = told_committed _ _ c.add.result c.told.result c.told.ensures.same c.add.ensures.committed

pub returns-clause-undone : goal.returns-clause-undone
returns-clause-undone g c =
    on_err _ c.add.result c.told.result c.told.ensures.same (undone_stays _ _ c.args.rows.now c.args.head.now c.add.ensures.mode c.add.result c.add.ensures.clean c.add.ensures.undone)

pub returns-clause-left : goal.returns-clause-left
returns-clause-left g c =
    let ours : IsOurs (state g.S.Store c.args.conn.now) = search rules in
    leaves_added _ _ c.args.rows.now c.args.head.now c.requires ours c.what_is_shown_is_committed.ensures c.add.ensures.survives
