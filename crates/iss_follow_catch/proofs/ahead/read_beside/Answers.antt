use Rattle.std.proofs.Common.{rules, ◌≡◌, refl, sym, ap, ◌∙◌}
use Rattle.std.specs.Prelude.{Err, ◌↔◌, IsTrue}
use Rattle.iss_edge.proofs.Tolds.{later_then}
use Rattle.iss_halves.specs.Forms.{Layout}
use Rattle.iss_follow_catch.specs.Behind.{HoldSame, Passes}
use Rattle.iss_opening.specs.declared.fault.OpenFault.TheVariants.{OutOfMemory}
use Rattle.iss_opening.specs.Values.{StoreNow}
use Rattle.iss_follow_catch.proofs.Beside.{told_all, told_alone, told_begun, told_begun_alone, told_first, told_good, told_next, told_stopped}
use Rattle.iss_follow_catch.proofs.ahead.read_beside.Goals as goal

pub returns-in_err-met-clause-moments : goal.returns-in_err-met-clause-moments
returns-in_err-met-clause-moments g c =
    (told_begun c.in_ok-reading.reading (g.E.Edge.told c.args.edge.now) (g.E.Edge.told c.start.new.edge) c.in_ok-reading.ensures.begins).1

pub returns-in_err-met-clause-refused : goal.returns-in_err-met-clause-refused
returns-in_err-met-clause-refused g c =
    let failed : c.from_residual-in_err-met.result ≡ Err OutOfMemory = search rules in
    rw failed (told_begun_alone c.in_ok-reading.reading (g.E.Edge.told c.args.edge.now) (g.E.Edge.told c.start.new.edge) c.in_ok-reading.ensures.begins)

pub reading-init : goal.reading-init
reading-init g c =
    let known : IsTrue c.in_ok-met.met ↔ HoldSame c.in_ok-reading.reading.core c.args.other.now = search rules in
    record {
      read =
          told_first c.in_ok-reading.reading c.args.other.now c.in_ok-met.met c.new-later.result.items (g.E.Edge.told c.args.edge.now) (g.E.Edge.told c.start.new.edge)
          c.in_ok-reading.ensures.first c.new-later.ensures.items known c.in_ok-reading.ensures.begins;
      spelled = rw c.new-later.ensures.items refl;
      size = c.in_ok-reading.ensures.size;
      later = c.in_ok-reading.ensures.cause.later;
    }

pub returns-in_err-next-clause-opens : goal.returns-in_err-next-clause-opens
returns-in_err-next-clause-opens g c =
    let failed : c.from_residual-in_err-next.result ≡ Err c.in_err-next.field-0.0 = search rules in
    rw failed (
    told_stopped c.reading.reading c.args.other.now c.reading.met c.reading.later.items (g.E.Edge.told c.args.edge.now) (g.E.Edge.told c.reading.edge) c.reading.invariant.read
    c.in_err-next.field-0.0 (g.E.Edge.told c.next.new.edge) c.in_err-next.ensures.reads
    )

pub returns-in_err-next-clause-moments : goal.returns-in_err-next-clause-moments
returns-in_err-next-clause-moments g c =
    told_good c.reading.reading c.args.other.now c.reading.met c.reading.later.items (g.E.Edge.told c.args.edge.now) (g.E.Edge.told c.reading.edge) c.reading.invariant.read
    (g.E.Edge.told c.next.new.edge) c.next.ensures.same

pub returns-in_err-next-clause-refused : goal.returns-in_err-next-clause-refused
returns-in_err-next-clause-refused g c =
    let failed : c.from_residual-in_err-next.result ≡ Err c.in_err-next.field-0.0 = search rules in
    rw failed (
    told_alone c.reading.reading c.args.other.now c.reading.met c.reading.later.items (g.E.Edge.told c.args.edge.now) (g.E.Edge.told c.reading.edge) c.reading.invariant.read
    StoreNow c.in_err-next.field-0.0 (g.E.Edge.told c.next.new.edge) c.next.ensures.same
    )

pub returns-in_err-met-2-clause-refused : goal.returns-in_err-met-2-clause-refused
returns-in_err-met-2-clause-refused g c =
    let failed : c.from_residual-in_err-met-2.result ≡ Err OutOfMemory = search rules in
    rw failed (
    told_alone c.reading.reading c.args.other.now c.reading.met c.reading.later.items (g.E.Edge.told c.args.edge.now) (g.E.Edge.told c.reading.edge) c.reading.invariant.read
    StoreNow OutOfMemory (g.E.Edge.told c.next.new.edge) c.next.ensures.same
    )

pub returns-in_default-clause-moments : goal.returns-in_default-clause-moments
returns-in_default-clause-moments g c =
    told_good c.reading.reading c.args.other.now c.reading.met c.reading.later.items (g.E.Edge.told c.args.edge.now) (g.E.Edge.told c.reading.edge) c.reading.invariant.read
    (g.E.Edge.told c.next.new.edge) c.next.ensures.same

pub returns-in_default-clause-reads : goal.returns-in_default-clause-reads
returns-in_default-clause-reads g c =
    told_all c.reading.reading c.in_ok-next.next c.in_ok-next.taken c.args.other.now c.reading.met c.reading.later.items
    (g.E.Edge.told c.args.edge.now) (g.E.Edge.told c.reading.edge) (g.E.Edge.told c.next.new.edge) c.in_default.is c.reading.invariant.read c.in_ok-next.ensures.reads c.next.ensures.same

pub returns-in_err-met-2-clause-moments : goal.returns-in_err-met-2-clause-moments
returns-in_err-met-2-clause-moments g c =
    told_good c.reading.reading c.args.other.now c.reading.met c.reading.later.items (g.E.Edge.told c.args.edge.now) (g.E.Edge.told c.reading.edge) c.reading.invariant.read
    (g.E.Edge.told c.next.new.edge) c.next.ensures.same

pub reading-preserved : goal.reading-preserved
reading-preserved g c =
    let passes : Passes c.reading.met c.reading.later.items c.in-Some.taken.accepted c.in_ok-next.next.core c.args.other.now c.in_ok-met-2.met c.passes.new.later.items = search rules in
    record {
      read =
          told_next c.reading.reading c.in_ok-next.next c.in-Some.taken c.in_ok-next.taken c.args.other.now c.reading.met c.in_ok-met-2.met c.reading.later.items c.passes.new.later.items
          (g.E.Edge.told c.args.edge.now) (g.E.Edge.told c.reading.edge) (g.E.Edge.told c.next.new.edge) c.in-Some.is passes c.reading.invariant.read c.in_ok-next.ensures.reads c.next.ensures.same;
      spelled = search rules;
      size = ap (λ (l : Layout). l.size) c.in_ok-next.ensures.moves.layout ∙ c.reading.invariant.size ∙ sym c.next.ensures.kept;
      later = later_then (g.E.Edge.faults c.args.edge.now) (g.E.Edge.faults c.reading.edge) (g.E.Edge.faults c.next.new.edge) c.reading.invariant.later c.next.ensures.cause.later;
    }
