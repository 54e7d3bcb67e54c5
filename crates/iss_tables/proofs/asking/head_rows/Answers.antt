use Rattle.std.proofs.Common.{sym, subst, arith}
use Rattle.sqlite.specs.Listing.{understood}
use Rattle.sqlite.proofs.Callers.{IsPlain}
use Rattle.iss_tables.specs.Texts.{get_head}
use Rattle.iss_tables.proofs.Compiled.{plain}
use Rattle.iss_tables.proofs.Reading.{head_answer}
use Rattle.iss_tables.proofs.Unasked.{head_unasked}
use Rattle.iss_tables.proofs.Asked.{answered, opened_asked, keeps_asked, survives_asked}
use Rattle.iss_tables.proofs.asking.head_rows.Goals as goal

pub returns-clause-shown : goal.returns-clause-shown
returns-clause-shown g c clean = head_answer _ _ c.query_all.result (c.query_all.ensures.ok clean)

pub returns-clause-done : goal.returns-clause-done
returns-clause-done g c clean has =
    answered _ _ _ _ c.query_all.result (subst (λ s. IsPlain (understood s get_head)) (sym has) plain.6) (c.query_all.ensures.ok clean) c.query_all.ensures.survives.counts c.query_all.ensures.survives.limit

pub returns-clause-kept : goal.returns-clause-kept
returns-clause-kept g c clean has =
    keeps_asked _ _ _ _ c.query_all.result (subst (λ s. IsPlain (understood s get_head)) (sym has) plain.6) (c.query_all.ensures.ok clean) (c.query_all.ensures.err clean)

pub returns-clause-survives : goal.returns-clause-survives
returns-clause-survives g c has = survives_asked get_head _ _ _ (subst (λ s. IsPlain (understood s get_head)) (sym has) plain.6) c.query_all.ensures.survives

pub returns-clause-opened : goal.returns-clause-opened
returns-clause-opened g c clean = opened_asked _ _ _ _ c.query_all.result (c.query_all.ensures.ok clean) (c.query_all.ensures.err clean)

pub returns-clause-clean : goal.returns-clause-clean
returns-clause-clean g c clean = omega (arith, c.query_all.ensures.survives.clean)

pub returns-clause-cause : goal.returns-clause-cause
returns-clause-cause g c clean has = head_unasked _ _ has c.query_all.result (c.query_all.ensures.err clean)
