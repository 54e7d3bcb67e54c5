use Rattle.sqlite.specs.Held.{state}
use Rattle.iss_sql_keeper.proofs.OpenedLemmas.{told_at}
use Rattle.iss_sql_keeper.proofs.RefusedLemmas.{refused_at}
use Rattle.iss_sql_keeper.proofs.TellingLemmas.{telling_at}
use Rattle.iss_sql_keeper.proofs.sqlite_keeper.SqliteKeeper.new.Goals as goal

pub returns-in-Ok-clause-told : goal.returns-in-Ok-clause-told
returns-in-Ok-clause-told g c = told_at (state g.S.Store) c.args.conn c.in-Some.conn c.in-Ok.database _ c.in-Some.is c.in-Ok.is c.in_ok-database.ensures.held

pub returns-in-Err-clause-cause : goal.returns-in-Err-clause-cause
returns-in-Err-clause-cause g c = refused_at (state g.S.Store) c.args.conn c.in-Some.conn c.in-Err.conn _ c.in-Some.is c.in-Err.is c.in_ok-database.ensures.cause

pub returns-in-Ok-clause-telling : goal.returns-in-Ok-clause-telling
returns-in-Ok-clause-telling g c = telling_at (state g.S.Store) c.in-Ok.database _ c.in-Ok.is c.in_ok-database.ensures.told
