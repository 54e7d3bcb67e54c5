use Rattle.std.proofs.Common.{rules}
use Rattle.sqlite.specs.Held.{state}
use Rattle.iss_tables.specs.Calls.{IsOurs}
use Rattle.iss_sql_keeper.proofs.ShownLemmas.{asked_stays, above_held, if_ok}
use Rattle.iss_sql_keeper.proofs.RefusedLemmas.{miscounted, unasked_for}
use Rattle.iss_sql_keeper.proofs.TellingLemmas.{told_asked}
use Rattle.iss_sql_keeper.proofs.asking.is_none_above.Goals as goal

pub returns-clause-stays : goal.returns-clause-stays
returns-clause-stays g c =
    let ours : IsOurs (state g.S.Store c.args.conn.now) = search rules in
    asked_stays _ _ ours c.has_none_above.ensures.kept c.has_none_above.ensures.mode c.has_none_above.ensures.survives

pub returns-clause-found : goal.returns-clause-found
returns-clause-found g c =
    let ours : IsOurs (state g.S.Store c.args.conn.now) = search rules in
    if_ok _ c.has_none_above.result c.told.result c.told.ensures.same
    (above_held _ _ ours c.has_none_above.ensures.kept c.has_none_above.ensures.mode c.has_none_above.ensures.survives c.requires c.what_is_shown_is_committed.ensures c.args.most.now c.has_none_above.result c.has_none_above.ensures.found)

pub returns-clause-telling : goal.returns-clause-telling
returns-clause-telling g c =
    let ours : IsOurs (state g.S.Store c.args.conn.now) = search rules in
    told_asked _ _ c.has_none_above.result c.told.result ours c.told.ensures.same c.has_none_above.ensures.done

pub returns-clause-untaken : goal.returns-clause-untaken
returns-clause-untaken g c clean ours above =
    miscounted _ _ _ c.told.result (if_ok _ c.has_none_above.result c.told.result c.told.ensures.same (c.has_none_above.ensures.missed clean)) ours above

pub returns-clause-cause : goal.returns-clause-cause
returns-clause-cause g c clean ours = unasked_for _ _ c.has_none_above.result c.told.result c.told.ensures.same c.told.ensures.named (c.has_none_above.ensures.cause clean ours)
