use Rattle.std.proofs.Common.{Bool, ◌∷◌, refl, sym, subst, ◌∙◌, ◌≡◌, Err, rules}
use Rattle.iss_edge.specs.Outer.{outer_of}
use Rattle.iss_edge.specs.World.{Told}
use Rattle.iss_edge.proofs.Tolds.{later_self, later_then}
use Rattle.iss_serve.specs.Causes.{IsOfDisk}
use Rattle.iss_serve.specs.Held.{seen_held, queued_as, to_judge}
use Rattle.iss_serve.specs.Judged.{judged_again}
use Rattle.iss_serve.specs.Runs.{ServesOn}
use Rattle.iss_serve.proofs.Loops.{judges_self, judges_then}
use Rattle.iss_serve.proofs.Stages.{told_on_self, told_on_then, told_on_then_some}
use Rattle.iss_serve.proofs.judging.judge.Goals as goal

pub again-init : goal.again-init
again-init g c = record {
  judged = λ rest. told_on_self (to_judge c.args.store (seen_held c.args.held.now) (queued_as c.args.queued.now ∷ rest)) (outer_of (g.E.Edge.told c.args.edge.now) (g.E.Edge.heard c.args.edge.now));
  judges = judges_self c.args.store c.args.held.now c.requires.held c.requires.instance;
  size = c.requires.size;
  alone = λ told. told;
  later = later_self (g.E.Edge.faults c.args.edge.now);
  kept = refl;
}

pub returns-in_err-after-clause-part : goal.returns-in_err-after-clause-part
returns-in_err-after-clause-part g c = λ rest.
    let q = queued_as c.args.queued.now in
    let first = to_judge c.args.store (seen_held c.args.held.now) (q ∷ rest) in
    let failed : c.from_residual.result ≡ Err c.in_err-after.field-0.0 = search rules in
    rw failed
    (told_on_then_some (IsOfDisk c.in_err-after.field-0.0) first (to_judge c.again.next (seen_held c.again.held) (q ∷ rest)) (outer_of (g.E.Edge.told c.args.edge.now) (g.E.Edge.heard c.args.edge.now)) (outer_of (g.E.Edge.told c.again.edge) (g.E.Edge.heard c.again.edge)) (outer_of (g.E.Edge.told c.judge_once.new.edge) (g.E.Edge.heard c.judge_once.new.edge)) (c.again.invariant.judged rest) (c.in_err-after.ensures.part rest))

pub returns-then-not-more-clause-judged : goal.returns-then-not-more-clause-judged
returns-then-not-more-clause-judged g c = λ rest.
    let q = queued_as c.args.queued.now in
    let first = to_judge c.args.store (seen_held c.args.held.now) (q ∷ rest) in
    let mid = to_judge c.again.next (seen_held c.again.held) (q ∷ rest) in
    told_on_then first mid (to_judge c.in_ok-after.after (seen_held c.judge_once.new.held) rest) (outer_of (g.E.Edge.told c.args.edge.now) (g.E.Edge.heard c.args.edge.now)) (outer_of (g.E.Edge.told c.again.edge) (g.E.Edge.heard c.again.edge)) (outer_of (g.E.Edge.told c.judge_once.new.edge) (g.E.Edge.heard c.judge_once.new.edge)) (c.again.invariant.judged rest)
    (subst (λ (b : Bool). Told (ServesOn mid (to_judge c.in_ok-after.after (seen_held c.judge_once.new.held) (judged_again b q rest))) (outer_of (g.E.Edge.told c.again.edge) (g.E.Edge.heard c.again.edge)) (outer_of (g.E.Edge.told c.judge_once.new.edge) (g.E.Edge.heard c.judge_once.new.edge))) c.if-not-more.true (c.in_ok-after.ensures.judged rest))

pub again-preserved : goal.again-preserved
again-preserved g c =
    let q = queued_as c.args.queued.now in
    record {
      judged =
          λ rest.
          told_on_then (to_judge c.args.store (seen_held c.args.held.now) (q ∷ rest)) (to_judge c.again.next (seen_held c.again.held) (q ∷ rest)) (to_judge c.in_ok-after.after (seen_held c.judge_once.new.held) (q ∷ rest))
          (outer_of (g.E.Edge.told c.args.edge.now) (g.E.Edge.heard c.args.edge.now)) (outer_of (g.E.Edge.told c.again.edge) (g.E.Edge.heard c.again.edge)) (outer_of (g.E.Edge.told c.judge_once.new.edge) (g.E.Edge.heard c.judge_once.new.edge)) (c.again.invariant.judged rest)
          (subst (λ (b : Bool). Told (ServesOn (to_judge c.again.next (seen_held c.again.held) (q ∷ rest)) (to_judge c.in_ok-after.after (seen_held c.judge_once.new.held) (judged_again b q rest))) (outer_of (g.E.Edge.told c.again.edge) (g.E.Edge.heard c.again.edge)) (outer_of (g.E.Edge.told c.judge_once.new.edge) (g.E.Edge.heard c.judge_once.new.edge)))
          c.if-not-more.false (c.in_ok-after.ensures.judged rest));
      judges = judges_then c.args.store c.again.next c.in_ok-after.after c.args.held.now c.again.held c.judge_once.new.held c.again.invariant.judges c.in_ok-after.ensures.judges;
      size = c.judge_once.ensures.kept ∙ c.again.invariant.size ∙ sym c.in_ok-after.ensures.judges.size;
      alone = λ told. c.again.invariant.alone (c.judge_once.ensures.alone told);
      later = later_then _ _ _ c.again.invariant.later c.judge_once.ensures.caused.later;
      kept = c.judge_once.ensures.kept ∙ c.again.invariant.kept;
    }
