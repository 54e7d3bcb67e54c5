use Rattle.std.proofs.Common.{rules, ◌≡◌, List, [], sym, ap, subst, ◌∙◌}
use Rattle.std.specs.Prelude.{Err}
use Rattle.iss_edge.specs.World.{Told}
use Rattle.iss_edge.proofs.Tolds.{later_then}
use Rattle.iss_archive.specs.declared.source.Stepped.{Stepped}
use Rattle.iss_halves.specs.Forms.{Layout}
use Rattle.iss_opening.specs.Values.{StoreNow}
use Rattle.iss_archive_run.proofs.Readings.{ReadsSteps, told_all, told_alone, told_first, told_good, told_next, told_stopped}
use Rattle.iss_archive_run.proofs.reading.read_steps.Goals as goal

pub reading-init : goal.reading-init
reading-init g c =
    let none : c.new-steps.result.items ≡ [] = search rules in
    record {
      read =
          subst (λ (l : List Stepped). Told (ReadsSteps c.in_ok-reading.reading l) (g.E.Edge.told c.args.edge.now) (g.E.Edge.told c.start.new.edge)) (sym none)
          (told_first c.in_ok-reading.reading (g.E.Edge.told c.args.edge.now) (g.E.Edge.told c.start.new.edge) c.in_ok-reading.ensures.first c.in_ok-reading.ensures.begins);
      size = c.in_ok-reading.ensures.size;
      later = c.in_ok-reading.ensures.cause.later;
    }

pub returns-in_err-next-clause-fault : goal.returns-in_err-next-clause-fault
returns-in_err-next-clause-fault g c =
    let failed : c.from_residual-in_err-next.result ≡ Err c.in_err-next.field-0.0 = search rules in
    rw failed (
    told_stopped c.reading.reading c.reading.steps.items (g.E.Edge.told c.args.edge.now) (g.E.Edge.told c.reading.edge) (g.E.Edge.told c.next.new.edge) c.reading.invariant.read c.in_err-next.field-0.0 c.in_err-next.ensures.reads
    )

pub returns-in_err-next-clause-moments : goal.returns-in_err-next-clause-moments
returns-in_err-next-clause-moments g c =
    told_good c.reading.reading c.reading.steps.items (g.E.Edge.told c.args.edge.now) (g.E.Edge.told c.reading.edge) (g.E.Edge.told c.next.new.edge) c.reading.invariant.read c.next.ensures.same

pub returns-in_err-next-clause-refused : goal.returns-in_err-next-clause-refused
returns-in_err-next-clause-refused g c =
    let failed : c.from_residual-in_err-next.result ≡ Err c.in_err-next.field-0.0 = search rules in
    rw failed (
    told_alone c.reading.reading c.reading.steps.items (g.E.Edge.told c.args.edge.now) (g.E.Edge.told c.reading.edge) (g.E.Edge.told c.next.new.edge) c.reading.invariant.read c.next.ensures.same StoreNow c.in_err-next.field-0.0
    )

pub returns-in_default-clause-reads : goal.returns-in_default-clause-reads
returns-in_default-clause-reads g c =
    told_all c.reading.reading c.in_ok-next.next c.in_ok-next.found c.reading.steps.items (g.E.Edge.told c.args.edge.now) (g.E.Edge.told c.reading.edge) (g.E.Edge.told c.next.new.edge)
    c.reading.invariant.read c.in_ok-next.ensures.reads c.next.ensures.same c.in_default.is

pub returns-in_default-clause-moments : goal.returns-in_default-clause-moments
returns-in_default-clause-moments g c =
    told_good c.reading.reading c.reading.steps.items (g.E.Edge.told c.args.edge.now) (g.E.Edge.told c.reading.edge) (g.E.Edge.told c.next.new.edge) c.reading.invariant.read c.next.ensures.same

pub returns-in_err-put-clause-moments : goal.returns-in_err-put-clause-moments
returns-in_err-put-clause-moments g c =
    told_good c.reading.reading c.reading.steps.items (g.E.Edge.told c.args.edge.now) (g.E.Edge.told c.reading.edge) (g.E.Edge.told c.next.new.edge) c.reading.invariant.read c.next.ensures.same

pub reading-preserved : goal.reading-preserved
reading-preserved g c =
    let x = g.E.Edge.told c.args.edge.now in
    let z = g.E.Edge.told c.next.new.edge in
    record {
      read =
          subst (λ (l : List Stepped). Told (ReadsSteps c.in_ok-next.next l) x z) (sym c.in_ok-put.ensures)
          (told_next c.reading.reading c.in_ok-next.next c.in_ok-next.found c.reading.steps.items x (g.E.Edge.told c.reading.edge) z
          c.reading.invariant.read c.in_ok-next.ensures.reads c.next.ensures.same c.in-Some.taken c.in-Some.is);
      size = ap (λ (l : Layout). l.size) c.in_ok-next.ensures.moves.layout ∙ c.reading.invariant.size ∙ sym c.next.ensures.kept;
      later =
          later_then (g.E.Edge.faults c.args.edge.now) (g.E.Edge.faults c.reading.edge) (g.E.Edge.faults c.next.new.edge) c.reading.invariant.later c.next.ensures.cause.later;
    }
