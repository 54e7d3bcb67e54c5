use Rattle.std.proofs.Common.{sym, subst}
use Rattle.sqlite.specs.State.{KeepsCommit}
use Rattle.sqlite.specs.Held.{state}
use Rattle.iss_tables.proofs.PostLemmas.{keeps, keeps_self, stays, inside_or}
use Rattle.iss_tables.proofs.HeadLemmas.{sets_inside}
use Rattle.iss_tables.proofs.Unset.{head_unset}
use Rattle.iss_tables.proofs.adding.set_head.Goals as goal

pub returns-clause-kept : goal.returns-clause-kept
returns-clause-kept g c clean =
    inside_or (state g.S.Store c.args.tx.now.conn.now).in_transaction
    (λ out. subst (λ h. KeepsCommit (state g.S.Store c.args.tx.now.conn.now) (state g.S.Store h)) (sym (c.execute.ensures.ended out).1) (keeps_self _))
    (λ within. keeps _ _ _ _ _ (c.execute.ensures.runs clean within))

pub returns-clause-stays : goal.returns-clause-stays
returns-clause-stays g c clean =
    inside_or (state g.S.Store c.args.tx.now.conn.now).in_transaction
    (λ out. rw (c.execute.ensures.ended out).0 tt)
    (λ within. stays _ _ _ _ _ (c.execute.ensures.runs clean within))

pub returns-clause-sets : goal.returns-clause-sets
returns-clause-sets g c clean =
    inside_or (state g.S.Store c.args.tx.now.conn.now).in_transaction
    (λ out. rw (c.execute.ensures.ended out).0 tt)
    (λ within. sets_inside _ _ c.args.head.now _ (rw (c.params-to_sql.ensures, c.params-to_sql-2.ensures, c.params-to_sql-3.ensures) at (c.execute.ensures.runs clean within)))

pub returns-clause-cause : goal.returns-clause-cause
returns-clause-cause g c clean has within =
    head_unset _ _ c.args.head.now _ has (rw (c.params-to_sql.ensures, c.params-to_sql-2.ensures, c.params-to_sql-3.ensures) at (c.execute.ensures.runs clean within))
