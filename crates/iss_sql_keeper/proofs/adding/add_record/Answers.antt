use Rattle.std.proofs.Common.{refl}
use Rattle.iss_sql_keeper.proofs.ShownLemmas.{told_failed}
use Rattle.iss_sql_keeper.proofs.AddingLemmas.{kept_added, told_added, left_added}
use Rattle.iss_sql_keeper.proofs.adding.add_record.Goals as goal

pub returns-clause-kept : goal.returns-clause-kept
returns-clause-kept g c = kept_added _ _ _ _ c.args.head.now c.args.rows.now c.requires.kept c.requires.next refl refl c.add_columns.ensures.clean c.add_columns.ensures.mode c.add_columns.result c.add_columns.ensures.added c.add_columns.ensures.undone

pub returns-clause-added : goal.returns-clause-added
returns-clause-added g c = told_added _ _ _ _ c.args.head.now c.args.rows.now c.requires.kept c.requires.next refl refl c.add_columns.ensures.clean c.add_columns.result c.add_columns.ensures.added

pub returns-clause-undone : goal.returns-clause-undone
returns-clause-undone g c = told_failed _ _ c.add_columns.result c.add_columns.ensures.undone

pub returns-clause-stop : goal.returns-clause-stop
returns-clause-stop g c a = left_added _ _ _ _ c.args.head.now c.args.rows.now c.requires.kept c.requires.next refl refl c.add_columns.ensures.clean c.add_columns.ensures.left a
