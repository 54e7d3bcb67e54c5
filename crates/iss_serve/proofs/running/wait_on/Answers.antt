use Rattle.std.proofs.Common.{sym, ◌∙◌, ◌≡◌, Err, rules}
use Rattle.iss_edge.specs.Outer.{outer_of}
use Rattle.iss_edge.proofs.Tolds.{later_self, later_then}
use Rattle.iss_serve.specs.Causes.{IsOfDisk}
use Rattle.iss_serve.specs.Held.{seen_held, idle}
use Rattle.iss_serve.proofs.Stages.{told_on_self, told_on_then, told_on_then_some}
use Rattle.iss_serve.proofs.running.wait_on.Goals as goal

pub turns-init : goal.turns-init
turns-init g c = record {
  waited = told_on_self (idle c.args.store (seen_held c.args.held.now)) (outer_of (g.E.Edge.told c.args.edge.now) (g.E.Edge.heard c.args.edge.now));
  held = c.requires.held;
  instance = c.requires.instance;
  settled = c.requires.settled;
  size = c.requires.size;
  alone = λ told. told;
  later = later_self (g.E.Edge.faults c.args.edge.now);
}

pub returns-in_err-next-clause-part : goal.returns-in_err-next-clause-part
returns-in_err-next-clause-part g c =
    let first = idle c.args.store (seen_held c.args.held.now) in
    let failed : c.from_residual.result ≡ Err c.in_err-next.field-0.0 = search rules in
    rw failed
    (told_on_then_some (IsOfDisk c.in_err-next.field-0.0) first (idle c.turns.next (seen_held c.turns.held)) (outer_of (g.E.Edge.told c.args.edge.now) (g.E.Edge.heard c.args.edge.now)) (outer_of (g.E.Edge.told c.turns.edge) (g.E.Edge.heard c.turns.edge)) (outer_of (g.E.Edge.told c.turn.new.edge) (g.E.Edge.heard c.turn.new.edge)) c.turns.invariant.waited c.in_err-next.ensures.part)

pub turns-preserved : goal.turns-preserved
turns-preserved g c = record {
  waited =
      told_on_then (idle c.args.store (seen_held c.args.held.now)) (idle c.turns.next (seen_held c.turns.held)) (idle c.in_ok-next.next (seen_held c.turn.new.held)) (outer_of (g.E.Edge.told c.args.edge.now) (g.E.Edge.heard c.args.edge.now)) (outer_of (g.E.Edge.told c.turns.edge) (g.E.Edge.heard c.turns.edge)) (outer_of (g.E.Edge.told c.turn.new.edge) (g.E.Edge.heard c.turn.new.edge))
      c.turns.invariant.waited c.in_ok-next.ensures.turned;
  held = c.in_ok-next.ensures.held;
  instance = c.in_ok-next.ensures.instance;
  settled = c.in_ok-next.ensures.settled;
  size = c.turn.ensures.kept ∙ c.turns.invariant.size ∙ sym c.in_ok-next.ensures.same_size;
  alone = λ told. c.turns.invariant.alone (c.turn.ensures.alone told);
  later = later_then _ _ _ c.turns.invariant.later c.turn.ensures.caused.later;
}
