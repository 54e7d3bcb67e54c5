use Rattle.std.proofs.Common.{sym, subst, rules}
use Rattle.iss_tables.proofs.Refused.{post_unput, fits_row}
use Rattle.sqlite.specs.State.{KeepsCommit}
use Rattle.sqlite.specs.Held.{state}
use Rattle.iss_tables.specs.Rows.{columns_of}
use Rattle.iss_tables.proofs.PostLemmas.{bound_text, keeps, keeps_self, stays, inside_or, puts_inside}
use Rattle.iss_tables.proofs.adding.put_post.Goals as goal

pub returns-clause-kept : goal.returns-clause-kept
returns-clause-kept g c clean =
    inside_or (state g.S.Store c.args.tx.now.conn.now).in_transaction
    (λ out. subst (λ h. KeepsCommit (state g.S.Store c.args.tx.now.conn.now) (state g.S.Store h)) (sym (c.execute.ensures.ended out).1) (keeps_self _))
    (λ within. keeps _ _ _ _ _ (c.execute.ensures.runs clean within))

pub returns-clause-stays : goal.returns-clause-stays
returns-clause-stays g c clean =
    inside_or (state g.S.Store c.args.tx.now.conn.now).in_transaction
    (λ out. rw (c.execute.ensures.ended out).0 tt)
    (λ within. stays _ _ _ _ _ (c.execute.ensures.runs clean within))

pub returns-clause-puts : goal.returns-clause-puts
returns-clause-puts g c clean =
    inside_or (state g.S.Store c.args.tx.now.conn.now).in_transaction
    (λ out. rw (c.execute.ensures.ended out).0 tt)
    (λ within. puts_inside _ _ (columns_of c.args.row.now) _
    (rw (c.params-to_sql.ensures, c.params-to_sql-2.ensures, c.params-to_sql-3.ensures, c.params-to_sql-4.ensures, c.params-to_sql-5.ensures, c.params-to_sql-6.ensures, c.params-to_sql-7.ensures, c.params-to_sql-8.ensures, c.params-to_sql-9.ensures, c.params-to_sql-10.ensures, bound_text c.args.row.now.from_user, bound_text c.args.row.now.to_user, bound_text c.args.row.now.txn)
    at (c.execute.ensures.runs clean within)))

pub returns-clause-cause : goal.returns-clause-cause
returns-clause-cause g c clean has within =
    post_unput _ _ (columns_of c.args.row.now) _ has (fits_row c.args.row.now.seq (search rules))
    (rw (c.params-to_sql.ensures, c.params-to_sql-2.ensures, c.params-to_sql-3.ensures, c.params-to_sql-4.ensures, c.params-to_sql-5.ensures, c.params-to_sql-6.ensures, c.params-to_sql-7.ensures, c.params-to_sql-8.ensures, c.params-to_sql-9.ensures, c.params-to_sql-10.ensures, bound_text c.args.row.now.from_user, bound_text c.args.row.now.to_user, bound_text c.args.row.now.txn)
    at (c.execute.ensures.runs clean within))
