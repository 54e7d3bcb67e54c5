use Rattle.std.proofs.Common.{[], refl, sym, ap, subst, ◌∙◌, ◌≡◌, Err, rules}
use Rattle.iss_edge.specs.Outer.{outer_of}
use Rattle.iss_edge.specs.World.{Told}
use Rattle.iss_edge.proofs.Tolds.{later_self, later_then}
use Rattle.iss_serve.specs.Causes.{IsOfDisk}
use Rattle.iss_serve.specs.Held.{HeldNow, seen_held, idle, to_judge, answers_unreached}
use Rattle.iss_serve.specs.Runs.{ServesOn, ServesSome}
use Rattle.iss_serve.proofs.Stages.{calls_first, told_on_self, told_on_then, told_on_then_some}
use Rattle.iss_serve.proofs.judging.judge_unreached.Goals as goal

pub calls-init : goal.calls-init
calls-init g c = record {
  judged = told_on_self (idle c.args.store (seen_held c.args.held.now)) (outer_of (g.E.Edge.told c.args.edge.now) (g.E.Edge.heard c.args.edge.now));
  held = c.requires.held;
  instance = c.requires.instance;
  turns = refl;
  same_size = refl;
  size = c.requires.size;
  alone = λ told. told;
  later = later_self (g.E.Edge.faults c.args.edge.now);
  kept = refl;
}

pub returns-in_err-next-clause-part : goal.returns-in_err-next-clause-part
returns-in_err-next-clause-part g c =
    let h = seen_held c.calls.held in
    let calls = c.deref.result.now in
    let mid = to_judge c.calls.next (record h { unreached = [] }) (answers_unreached calls) in
    let taken = calls_first c.calls.next h calls (outer_of (g.E.Edge.told c.calls.edge) (g.E.Edge.heard c.calls.edge)) (c.deref.ensures.value ∙ c.take_unreached-calls.ensures.calls) in
    let begun = told_on_then (idle c.args.store (seen_held c.args.held.now)) (idle c.calls.next h) mid (outer_of (g.E.Edge.told c.args.edge.now) (g.E.Edge.heard c.args.edge.now)) (outer_of (g.E.Edge.told c.calls.edge) (g.E.Edge.heard c.calls.edge)) (outer_of (g.E.Edge.told c.calls.edge) (g.E.Edge.heard c.calls.edge)) c.calls.invariant.judged taken in
    let why = c.in_err-next.field-0.0 in
    let failed : c.from_residual.result ≡ Err why = search rules in
    let part = subst (λ (n : HeldNow). Told (ServesSome (IsOfDisk why) (to_judge c.calls.next n (answers_unreached calls))) (outer_of (g.E.Edge.told c.calls.edge) (g.E.Edge.heard c.calls.edge)) (outer_of (g.E.Edge.told c.judge_each.new.edge) (g.E.Edge.heard c.judge_each.new.edge))) c.take_unreached-calls.ensures.now c.in_err-next.ensures.part in
    rw failed
    (told_on_then_some (IsOfDisk why) (idle c.args.store (seen_held c.args.held.now)) mid (outer_of (g.E.Edge.told c.args.edge.now) (g.E.Edge.heard c.args.edge.now)) (outer_of (g.E.Edge.told c.calls.edge) (g.E.Edge.heard c.calls.edge)) (outer_of (g.E.Edge.told c.judge_each.new.edge) (g.E.Edge.heard c.judge_each.new.edge)) begun part)

pub calls-preserved : goal.calls-preserved
calls-preserved g c =
    let h = seen_held c.calls.held in
    let calls = c.deref.result.now in
    let mid = to_judge c.calls.next (record h { unreached = [] }) (answers_unreached calls) in
    let taken = calls_first c.calls.next h calls (outer_of (g.E.Edge.told c.calls.edge) (g.E.Edge.heard c.calls.edge)) (c.deref.ensures.value ∙ c.take_unreached-calls.ensures.calls) in
    let begun = told_on_then (idle c.args.store (seen_held c.args.held.now)) (idle c.calls.next h) mid (outer_of (g.E.Edge.told c.args.edge.now) (g.E.Edge.heard c.args.edge.now)) (outer_of (g.E.Edge.told c.calls.edge) (g.E.Edge.heard c.calls.edge)) (outer_of (g.E.Edge.told c.calls.edge) (g.E.Edge.heard c.calls.edge)) c.calls.invariant.judged taken in
    let last = idle c.in_ok-next.next (seen_held c.judge_each.new.held) in
    let judged = subst (λ (n : HeldNow). Told (ServesOn (to_judge c.calls.next n (answers_unreached calls)) last) (outer_of (g.E.Edge.told c.calls.edge) (g.E.Edge.heard c.calls.edge)) (outer_of (g.E.Edge.told c.judge_each.new.edge) (g.E.Edge.heard c.judge_each.new.edge))) c.take_unreached-calls.ensures.now c.in_ok-next.ensures.judged in
    record {
      judged = told_on_then (idle c.args.store (seen_held c.args.held.now)) mid last (outer_of (g.E.Edge.told c.args.edge.now) (g.E.Edge.heard c.args.edge.now)) (outer_of (g.E.Edge.told c.calls.edge) (g.E.Edge.heard c.calls.edge)) (outer_of (g.E.Edge.told c.judge_each.new.edge) (g.E.Edge.heard c.judge_each.new.edge)) begun judged;
      held = c.in_ok-next.ensures.judges.held;
      instance = c.in_ok-next.ensures.judges.instance;
      turns = c.in_ok-next.ensures.judges.turns ∙ ap (λ (n : HeldNow). n.turns) c.take_unreached-calls.ensures.now ∙ c.calls.invariant.turns;
      same_size = c.in_ok-next.ensures.judges.size ∙ c.calls.invariant.same_size;
      size = c.judge_each.ensures.kept ∙ c.calls.invariant.size ∙ sym c.in_ok-next.ensures.judges.size;
      alone = λ told. c.calls.invariant.alone (c.judge_each.ensures.alone told);
      later = later_then _ _ _ c.calls.invariant.later c.judge_each.ensures.caused.later;
      kept = c.judge_each.ensures.kept ∙ c.calls.invariant.kept;
    }
