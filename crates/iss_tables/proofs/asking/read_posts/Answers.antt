use Rattle.std.proofs.Common.{sym, subst, arith}
use Rattle.sqlite.specs.Listing.{understood}
use Rattle.sqlite.proofs.Callers.{IsPlain}
use Rattle.iss_tables.specs.Texts.{get_posts}
use Rattle.iss_tables.proofs.Compiled.{plain}
use Rattle.iss_tables.proofs.Reading.{posts_answer}
use Rattle.iss_tables.proofs.Unasked.{posts_unasked}
use Rattle.iss_tables.proofs.Asked.{answered, opened_asked, keeps_asked, survives_asked}
use Rattle.iss_tables.proofs.asking.read_posts.Goals as goal

pub returns-clause-shown : goal.returns-clause-shown
returns-clause-shown g c clean = posts_answer _ _ c.args.account.now.user.now c.args.account.now.currency c.query_all.result (rw (c.params-to_sql.ensures, c.params-to_sql-2.ensures) at (c.query_all.ensures.ok clean))

pub returns-clause-done : goal.returns-clause-done
returns-clause-done g c clean has =
    answered _ _ _ _ c.query_all.result (subst (λ s. IsPlain (understood s get_posts)) (sym has) plain.7) (c.query_all.ensures.ok clean) c.query_all.ensures.survives.counts c.query_all.ensures.survives.limit

pub returns-clause-kept : goal.returns-clause-kept
returns-clause-kept g c clean has =
    keeps_asked _ _ _ _ c.query_all.result (subst (λ s. IsPlain (understood s get_posts)) (sym has) plain.7) (c.query_all.ensures.ok clean) (c.query_all.ensures.err clean)

pub returns-clause-survives : goal.returns-clause-survives
returns-clause-survives g c has = survives_asked get_posts _ _ _ (subst (λ s. IsPlain (understood s get_posts)) (sym has) plain.7) c.query_all.ensures.survives

pub returns-clause-opened : goal.returns-clause-opened
returns-clause-opened g c clean = opened_asked _ _ _ _ c.query_all.result (c.query_all.ensures.ok clean) (c.query_all.ensures.err clean)

pub returns-clause-clean : goal.returns-clause-clean
returns-clause-clean g c clean = omega (arith, c.query_all.ensures.survives.clean)

pub returns-clause-cause : goal.returns-clause-cause
returns-clause-cause g c clean has = posts_unasked _ _ has c.args.account.now.user.now c.args.account.now.currency c.query_all.result
    (rw (c.params-to_sql.ensures, c.params-to_sql-2.ensures) at (c.query_all.ensures.err clean))
