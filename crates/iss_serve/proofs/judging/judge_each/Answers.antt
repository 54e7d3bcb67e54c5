use Rattle.std.proofs.Common.{◌≡◌, ◌<◌, ◌+◌, List, ◌∷◌, length, drop, refl, sym, ap, subst, ◌∙◌, arith, Err, rules}
use Rattle.iss_edge.specs.Outer.{outer_of}
use Rattle.iss_edge.specs.World.{Told}
use Rattle.iss_edge.proofs.Tolds.{later_self, later_then}
use Rattle.iss_model.specs.declared.call.CallId.{CallId}
use Rattle.iss_session.specs.Sessions.{Queued}
use Rattle.iss_opening.specs.Numbers.{is_from_one}
use Rattle.iss_serve.specs.Causes.{IsOfDisk}
use Rattle.iss_serve.specs.Held.{seen_held, queued_as, to_judge, answers_unreached}
use Rattle.iss_serve.specs.Runs.{ServesOn}
use Rattle.iss_serve.proofs.Loops.{judges_self, judges_then, next_call}
use Rattle.iss_serve.proofs.Numbering.{all_at}
use Rattle.iss_serve.proofs.Stages.{told_on_self, told_on_then, told_on_then_some}
use Rattle.iss_serve.proofs.judging.judge_each.Goals as goal

pub loop-call-init : goal.loop-call-init
loop-call-init g c = record {
  judged = told_on_self (to_judge c.args.store (seen_held c.args.held.now) (answers_unreached c.args.calls.now)) (outer_of (g.E.Edge.told c.args.edge.now) (g.E.Edge.heard c.args.edge.now));
  judges = judges_self c.args.store c.args.held.now c.requires.held c.requires.instance;
  size = c.requires.size;
  alone = λ told. told;
  later = later_self (g.E.Edge.faults c.args.edge.now);
  kept = refl;
}

pub answer-queued-requires : goal.answer-queued-requires
answer-queued-requires g c = record {
  numbered = all_at (λ (call : CallId). is_from_one call.0) c.args.calls.now c.loop-call.call-index _ c.loop-call-test.true c.requires.numbered;
  form = refl;
}

pub returns-in_err-next-clause-part : goal.returns-in_err-next-clause-part
returns-in_err-next-clause-part g c =
    let calls = c.args.calls.now in
    let i = c.loop-call.call-index in
    let within : i < length calls = omega arith in
    let first = to_judge c.args.store (seen_held c.args.held.now) (answers_unreached calls) in
    let here : answers_unreached (drop i calls) ≡ queued_as c.answer-queued.result ∷ answers_unreached (drop (i + 1) calls) =
    ap answers_unreached (next_call calls i _ within) ∙ ap (λ (q : Queued). q ∷ answers_unreached (drop (i + 1) calls)) (sym c.answer-queued.ensures.said) in
    let judged = subst (λ (qs : List Queued). Told (ServesOn first (to_judge c.loop-call.next (seen_held c.loop-call.held) qs)) (outer_of (g.E.Edge.told c.args.edge.now) (g.E.Edge.heard c.args.edge.now)) (outer_of (g.E.Edge.told c.loop-call.edge) (g.E.Edge.heard c.loop-call.edge))) here c.loop-call.invariant.judged in
    let failed : c.from_residual.result ≡ Err c.in_err-next.field-0.0 = search rules in
    rw failed
    (told_on_then_some (IsOfDisk c.in_err-next.field-0.0) first (to_judge c.loop-call.next (seen_held c.loop-call.held) (queued_as c.answer-queued.result ∷ answers_unreached (drop (i + 1) calls))) (outer_of (g.E.Edge.told c.args.edge.now) (g.E.Edge.heard c.args.edge.now)) (outer_of (g.E.Edge.told c.loop-call.edge) (g.E.Edge.heard c.loop-call.edge)) (outer_of (g.E.Edge.told c.judge.new.edge) (g.E.Edge.heard c.judge.new.edge)) judged
    (c.in_err-next.ensures.part (answers_unreached (drop (i + 1) calls))))

pub loop-call-preserved : goal.loop-call-preserved
loop-call-preserved g c =
    let calls = c.args.calls.now in
    let i = c.loop-call.call-index in
    let within : i < length calls = omega arith in
    let first = to_judge c.args.store (seen_held c.args.held.now) (answers_unreached calls) in
    let here : answers_unreached (drop i calls) ≡ queued_as c.answer-queued.result ∷ answers_unreached (drop (i + 1) calls) =
    ap answers_unreached (next_call calls i _ within) ∙ ap (λ (q : Queued). q ∷ answers_unreached (drop (i + 1) calls)) (sym c.answer-queued.ensures.said) in
    let judged = subst (λ (qs : List Queued). Told (ServesOn first (to_judge c.loop-call.next (seen_held c.loop-call.held) qs)) (outer_of (g.E.Edge.told c.args.edge.now) (g.E.Edge.heard c.args.edge.now)) (outer_of (g.E.Edge.told c.loop-call.edge) (g.E.Edge.heard c.loop-call.edge))) here c.loop-call.invariant.judged in
    record {
      judged =
          told_on_then first (to_judge c.loop-call.next (seen_held c.loop-call.held) (queued_as c.answer-queued.result ∷ answers_unreached (drop (i + 1) calls))) (to_judge c.in_ok-next.next (seen_held c.judge.new.held) (answers_unreached (drop (i + 1) calls)))
          (outer_of (g.E.Edge.told c.args.edge.now) (g.E.Edge.heard c.args.edge.now)) (outer_of (g.E.Edge.told c.loop-call.edge) (g.E.Edge.heard c.loop-call.edge)) (outer_of (g.E.Edge.told c.judge.new.edge) (g.E.Edge.heard c.judge.new.edge)) judged (c.in_ok-next.ensures.judged (answers_unreached (drop (i + 1) calls)));
      judges = judges_then c.args.store c.loop-call.next c.in_ok-next.next c.args.held.now c.loop-call.held c.judge.new.held c.loop-call.invariant.judges c.in_ok-next.ensures.judges;
      size = c.judge.ensures.kept ∙ c.loop-call.invariant.size ∙ sym c.in_ok-next.ensures.judges.size;
      alone = λ told. c.loop-call.invariant.alone (c.judge.ensures.alone told);
      later = later_then _ _ _ c.loop-call.invariant.later c.judge.ensures.caused.later;
      kept = c.judge.ensures.kept ∙ c.loop-call.invariant.kept;
    }
