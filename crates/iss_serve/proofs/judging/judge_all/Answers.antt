use Rattle.std.proofs.Common.{[], ◌∷◌}
use Rattle.std.proofs.lemmas.Result.{IfOk-weaker}
use Rattle.iss_edge.specs.Outer.{outer_of}
use Rattle.iss_serve.specs.Causes.{IsOfDisk}
use Rattle.iss_serve.specs.Held.{seen_held, queued_as, idle, to_judge}
use Rattle.iss_serve.proofs.Causings.{if_err_weaker}
use Rattle.iss_serve.proofs.Stages.{told_on_then, told_on_then_some}
use Rattle.iss_serve.proofs.judging.judge_all.Goals as goal

pub returns-clause-judged : goal.returns-clause-judged
returns-clause-judged g c =
    IfOk-weaker c.judge_unreached.result _ _
    (λ next p.
    told_on_then (to_judge c.args.store (seen_held c.args.held.now) (queued_as c.args.first.now ∷ [])) (idle c.in_ok-next.next (seen_held c.judge.new.held)) (idle next (seen_held c.judge_unreached.new.held))
    (outer_of (g.E.Edge.told c.args.edge.now) (g.E.Edge.heard c.args.edge.now)) (outer_of (g.E.Edge.told c.judge.new.edge) (g.E.Edge.heard c.judge.new.edge))
    (outer_of (g.E.Edge.told c.judge_unreached.new.edge) (g.E.Edge.heard c.judge_unreached.new.edge))
    (c.in_ok-next.ensures.judged []) p)
    c.judge_unreached.ensures.judged

pub returns-clause-part : goal.returns-clause-part
returns-clause-part g c =
    if_err_weaker c.judge_unreached.result _ _
    (λ why. told_on_then_some (IsOfDisk why) (to_judge c.args.store (seen_held c.args.held.now) (queued_as c.args.first.now ∷ [])) (idle c.in_ok-next.next (seen_held c.judge.new.held))
    (outer_of (g.E.Edge.told c.args.edge.now) (g.E.Edge.heard c.args.edge.now)) (outer_of (g.E.Edge.told c.judge.new.edge) (g.E.Edge.heard c.judge.new.edge))
    (outer_of (g.E.Edge.told c.judge_unreached.new.edge) (g.E.Edge.heard c.judge_unreached.new.edge))
    (c.in_ok-next.ensures.judged []))
    c.judge_unreached.ensures.part
