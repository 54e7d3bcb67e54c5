use Rattle.std.proofs.Common.{rules, ◌≡◌, sym, subst}
use Rattle.std.specs.Prelude.{Err}
use Rattle.iss_edge.specs.World.{Told}
use Rattle.iss_opening.specs.Values.{StoreNow}
use Rattle.iss_opening.specs.Opening.{ReadsAlone}
use Rattle.iss_archive_run.specs.Made.{OpensSteps}
use Rattle.iss_archive_run.proofs.Readings.{told_ends, told_steps, told_unclosed, unclosed_refuses_none}
use Rattle.iss_archive_run.proofs.reading.open_steps.Goals as goal

pub returns-in_err-opened-clause-fault : goal.returns-in_err-opened-clause-fault
returns-in_err-opened-clause-fault g c =
    let failed : c.from_residual-in_err-opened.result ≡ Err c.in_err-opened.field-0.0 = search rules in
    rw failed (
    told_unclosed c.in_ok-reading.reading c.in_ok-reading.steps.items (g.E.Edge.told c.args.edge.now) (g.E.Edge.told c.read_steps.new.edge) (g.E.Edge.told c.finish.new.edge)
    c.in_ok-reading.ensures.reads StoreNow c.in_err-opened.field-0.0 c.in_err-opened.ensures.alone c.finish.ensures.moments
    )

pub returns-in_err-opened-clause-moments : goal.returns-in_err-opened-clause-moments
returns-in_err-opened-clause-moments g c =
    told_ends c.in_ok-reading.reading c.in_ok-reading.steps.items (g.E.Edge.told c.args.edge.now) (g.E.Edge.told c.read_steps.new.edge) (g.E.Edge.told c.finish.new.edge)
    c.in_ok-reading.ensures.reads c.finish.ensures.moments

pub returns-in_err-opened-clause-refused : goal.returns-in_err-opened-clause-refused
returns-in_err-opened-clause-refused g c =
    let failed : c.from_residual-in_err-opened.result ≡ Err c.in_err-opened.field-0.0 = search rules in
    rw failed (
    unclosed_refuses_none StoreNow StoreNow c.in_err-opened.field-0.0 (Told ReadsAlone (g.E.Edge.told c.args.edge.now) (g.E.Edge.told c.finish.new.edge)) c.in_err-opened.ensures.alone
    )

pub returns-clause-opened : goal.returns-clause-opened
returns-clause-opened g c =
    subst (λ (s : StoreNow). Told (OpensSteps s c.in_ok-reading.steps.items) (g.E.Edge.told c.args.edge.now) (g.E.Edge.told c.finish.new.edge)) (sym c.in_ok-opened.ensures.value)
    (told_steps c.in_ok-reading.reading c.in_ok-reading.steps.items (g.E.Edge.told c.args.edge.now) (g.E.Edge.told c.read_steps.new.edge) (g.E.Edge.told c.finish.new.edge)
    c.in_ok-reading.ensures.reads c.in_ok-opened.ensures.moments c.in_ok-opened.ensures.closed)

pub returns-clause-moments : goal.returns-clause-moments
returns-clause-moments g c =
    told_ends c.in_ok-reading.reading c.in_ok-reading.steps.items (g.E.Edge.told c.args.edge.now) (g.E.Edge.told c.read_steps.new.edge) (g.E.Edge.told c.finish.new.edge)
    c.in_ok-reading.ensures.reads c.in_ok-opened.ensures.moments
