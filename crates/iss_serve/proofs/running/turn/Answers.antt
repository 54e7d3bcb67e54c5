use Rattle.std.proofs.Common.{[], ◌∷◌, Option, subst}
use Rattle.std.proofs.lemmas.Result.{IfOk-weaker}
use Rattle.iss_edge.specs.Outer.{outer_of}
use Rattle.iss_edge.specs.World.{Told}
use Rattle.iss_serve.specs.Causes.{IsOfDisk}
use Rattle.iss_serve.specs.declared.held.QueuedInput.{QueuedInput}
use Rattle.iss_serve.specs.Held.{seen_held, queued_as, queued_maybe, idle, to_judge}
use Rattle.iss_serve.specs.Runs.{ServesOn}
use Rattle.iss_serve.proofs.Causings.{if_err_weaker}
use Rattle.iss_serve.proofs.Stages.{told_on_then, told_on_then_some}
use Rattle.iss_serve.proofs.running.turn.Goals as goal

pub returns-in-Some-clause-turned : goal.returns-in-Some-clause-turned
returns-in-Some-clause-turned g c =
    let x = (outer_of (g.E.Edge.told c.args.edge.now) (g.E.Edge.heard c.args.edge.now)) in
    let y = (outer_of (g.E.Edge.told c.hear.new.edge) (g.E.Edge.heard c.hear.new.edge)) in
    let h = seen_held c.args.held.now in
    let heard = seen_held c.hear.new.self in
    let z = (outer_of (g.E.Edge.told c.judge_all.new.edge) (g.E.Edge.heard c.judge_all.new.edge)) in
    let hears = subst (λ (o : Option QueuedInput). Told (ServesOn (idle c.args.store h) (to_judge c.args.store heard (queued_maybe o))) x y) c.in-Some.is (c.in_ok-queued.ensures.hears c.args.store c.requires.instance) in
    IfOk-weaker c.judge_all.result _ _
    (λ next p. told_on_then (idle c.args.store h) (to_judge c.args.store heard (queued_as c.in-Some.queued ∷ [])) (idle next (seen_held c.judge_all.new.held)) x y z hears p)
    c.judge_all.ensures.judged

pub returns-in-Some-clause-part : goal.returns-in-Some-clause-part
returns-in-Some-clause-part g c =
    let x = (outer_of (g.E.Edge.told c.args.edge.now) (g.E.Edge.heard c.args.edge.now)) in
    let y = (outer_of (g.E.Edge.told c.hear.new.edge) (g.E.Edge.heard c.hear.new.edge)) in
    let h = seen_held c.args.held.now in
    let heard = seen_held c.hear.new.self in
    let z = (outer_of (g.E.Edge.told c.judge_all.new.edge) (g.E.Edge.heard c.judge_all.new.edge)) in
    let hears = subst (λ (o : Option QueuedInput). Told (ServesOn (idle c.args.store h) (to_judge c.args.store heard (queued_maybe o))) x y) c.in-Some.is (c.in_ok-queued.ensures.hears c.args.store c.requires.instance) in
    if_err_weaker c.judge_all.result _ _
    (λ why. told_on_then_some (IsOfDisk why) (idle c.args.store h) (to_judge c.args.store heard (queued_as c.in-Some.queued ∷ [])) x y z hears)
    c.judge_all.ensures.part

pub returns-in-None-clause-turned : goal.returns-in-None-clause-turned
returns-in-None-clause-turned g c =
    let x = (outer_of (g.E.Edge.told c.args.edge.now) (g.E.Edge.heard c.args.edge.now)) in
    let y = (outer_of (g.E.Edge.told c.hear.new.edge) (g.E.Edge.heard c.hear.new.edge)) in
    let h = seen_held c.args.held.now in
    let heard = seen_held c.hear.new.self in
    subst (λ (o : Option QueuedInput). Told (ServesOn (idle c.args.store h) (to_judge c.args.store heard (queued_maybe o))) x y) c.in-None.is (c.in_ok-queued.ensures.hears c.args.store c.requires.instance)
