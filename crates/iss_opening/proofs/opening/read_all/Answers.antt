use Rattle.std.proofs.Common.{rules, ◌≡◌, sym, ap, ◌∙◌}
use Rattle.std.specs.Prelude.{Err}
use Rattle.iss_edge.specs.World.{Told}
use Rattle.iss_edge.proofs.Tolds.{later_then}
use Rattle.iss_halves.specs.Forms.{Layout}
use Rattle.iss_opening.specs.Opening.{ReadsAlone}
use Rattle.iss_opening.specs.Values.{StoreNow}
use Rattle.iss_opening.proofs.Telling.{on_refused}
use Rattle.iss_opening.proofs.ToldReadings.{read_alone, read_good, told_all, told_fault, told_next}
use Rattle.iss_opening.proofs.opening.read_all.Goals as goal

pub reading-init : goal.reading-init
reading-init g c =
    record {
      read = c.in_ok-reading.ensures.begins;
      size = c.in_ok-reading.ensures.size;
      later = c.in_ok-reading.ensures.cause.later;
      heard = c.in_ok-reading.ensures.heard;
      kept = c.in_ok-reading.ensures.kept;
      channels = c.in_ok-reading.ensures.channels;
    }

pub returns-in_err-next-clause-reads : goal.returns-in_err-next-clause-reads
returns-in_err-next-clause-reads g c =
    let failed : c.from_residual-in_err-next.result ≡ Err c.in_err-next.field-0.0 = search rules in
    rw failed (
    told_fault c.reading.reading c.in_err-next.field-0.0 (g.E.Edge.told c.args.edge.now) (g.E.Edge.told c.reading.edge) (g.E.Edge.told c.next.new.edge) c.reading.invariant.read c.in_err-next.ensures.reads
    )

pub returns-in_err-next-clause-moments : goal.returns-in_err-next-clause-moments
returns-in_err-next-clause-moments g c =
    read_good c.reading.reading (g.E.Edge.told c.args.edge.now) (g.E.Edge.told c.reading.edge) (g.E.Edge.told c.next.new.edge) c.reading.invariant.read c.next.ensures.same

pub returns-in_err-next-clause-refused : goal.returns-in_err-next-clause-refused
returns-in_err-next-clause-refused g c =
    let x = g.E.Edge.told c.args.edge.now in
    let z = g.E.Edge.told c.next.new.edge in
    let failed : c.from_residual-in_err-next.result ≡ Err c.in_err-next.field-0.0 = search rules in
    rw failed (
    on_refused StoreNow c.in_err-next.field-0.0 (Told ReadsAlone x z) (read_alone c.reading.reading x (g.E.Edge.told c.reading.edge) z c.reading.invariant.read c.next.ensures.same)
    )

pub returns-in_default-clause-reads : goal.returns-in_default-clause-reads
returns-in_default-clause-reads g c =
    told_all c.reading.reading c.in_ok-next.next c.in_ok-next.taken (g.E.Edge.told c.args.edge.now) (g.E.Edge.told c.reading.edge) (g.E.Edge.told c.next.new.edge) c.in_default.is c.reading.invariant.read c.in_ok-next.ensures.reads c.next.ensures.same

pub returns-in_default-clause-moments : goal.returns-in_default-clause-moments
returns-in_default-clause-moments g c =
    read_good c.reading.reading (g.E.Edge.told c.args.edge.now) (g.E.Edge.told c.reading.edge) (g.E.Edge.told c.next.new.edge) c.reading.invariant.read c.next.ensures.same

pub reading-preserved-in-Some : goal.reading-preserved-in-Some
reading-preserved-in-Some g c =
    record {
      read = told_next c.reading.reading c.in_ok-next.next c.in-Some.field-0 c.in_ok-next.taken (g.E.Edge.told c.args.edge.now) (g.E.Edge.told c.reading.edge) (g.E.Edge.told c.next.new.edge) c.in-Some.is c.reading.invariant.read c.in_ok-next.ensures.reads c.next.ensures.same;
      size = ap (λ (l : Layout). l.size) c.in_ok-next.ensures.moves.layout ∙ c.reading.invariant.size ∙ sym c.next.ensures.kept;
      later = later_then (g.E.Edge.faults c.args.edge.now) (g.E.Edge.faults c.reading.edge) (g.E.Edge.faults c.next.new.edge) c.reading.invariant.later c.next.ensures.cause.later;
      heard = search rules;
      kept = c.next.ensures.kept ∙ c.reading.invariant.kept;
      channels = c.next.ensures.channels ∙ c.reading.invariant.channels;
    }
