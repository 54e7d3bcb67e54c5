use Rattle.std.proofs.Common.{◌≡◌, [], Err, rules}
use Rattle.std.proofs.lemmas.Result.{IfOk-weaker}
use Rattle.iss_edge.specs.Outer.{outer_of}
use Rattle.iss_edge.specs.World.{Told}
use Rattle.iss_store.specs.Serving.{tasks_pending}
use Rattle.iss_serve.specs.Causes.{fault_of_store, IsOfDisk}
use Rattle.iss_serve.specs.Held.{seen_held, idle, sending}
use Rattle.iss_serve.specs.Runs.{ServesSome}
use Rattle.iss_serve.proofs.Causings.{anyhow, caused_short, if_err_weaker}
use Rattle.iss_serve.proofs.Loops.{noted_still}
use Rattle.iss_serve.proofs.Keeps.{told_sent, told_sent_part, told_sent_some}
use Rattle.iss_serve.proofs.Stages.{told_on_then, told_on_then_some}
use Rattle.iss_serve.proofs.running.resume.Goals as goal

pub returns-in_err-gone-clause-part : goal.returns-in_err-gone-clause-part
returns-in_err-gone-clause-part g c =
    let h = seen_held c.args.held.now in
    let tasks = tasks_pending c.args.store in
    let x = (outer_of (g.E.Edge.told c.args.edge.now) (g.E.Edge.heard c.args.edge.now)) in
    let y = (outer_of (g.E.Edge.told c.resume.new.edge) (g.E.Edge.heard c.resume.new.edge)) in
    anyhow c.from_residual.result (λ why. Told (ServesSome (IsOfDisk why) (sending c.args.store h [] tasks)) x y)
    (λ why. told_sent_part (IsOfDisk why) c.args.store h [] tasks x y (c.in_err-gone.ensures.served c.requires.held.routes h.served).part)

pub returns-in_err-gone-clause-caused : goal.returns-in_err-gone-clause-caused
returns-in_err-gone-clause-caused g c =
    let failed : c.from_residual.result ≡ Err (fault_of_store c.in_err-gone.field-0.0) = search rules in
    let sends = c.in_err-gone.ensures.served c.requires.held.routes c.args.held.now.routes.waiters in
    rw failed (caused_short (g.E.Edge.faults c.args.edge.now) (g.E.Edge.faults c.resume.new.edge) c.in_err-gone.field-0.0 c.in_err-gone.ensures.cause.later sends.short)

pub returns-in_err-note_all-clause-part : goal.returns-in_err-note_all-clause-part
returns-in_err-note_all-clause-part g c =
    let h = seen_held c.args.held.now in
    let tasks = tasks_pending c.args.store in
    let x = (outer_of (g.E.Edge.told c.args.edge.now) (g.E.Edge.heard c.args.edge.now)) in
    let y = (outer_of (g.E.Edge.told c.resume.new.edge) (g.E.Edge.heard c.resume.new.edge)) in
    anyhow c.from_residual-in_err-note_all.result (λ why. Told (ServesSome (IsOfDisk why) (sending c.args.store h [] tasks)) x y)
    (λ why. told_sent_some (IsOfDisk why) c.args.store h [] tasks h.served c.in_ok-gone.gone.items x y (c.in_ok-gone.ensures.served c.requires.held.routes h.served).sends)

pub returns-clause-resumed : goal.returns-clause-resumed
returns-clause-resumed g c =
    let h = seen_held c.args.held.now in
    let now = seen_held c.note_all.new.self in
    let tasks = tasks_pending c.args.store in
    let x = (outer_of (g.E.Edge.told c.args.edge.now) (g.E.Edge.heard c.args.edge.now)) in
    let y = (outer_of (g.E.Edge.told c.resume.new.edge) (g.E.Edge.heard c.resume.new.edge)) in
    let z = (outer_of (g.E.Edge.told c.judge_unreached.new.edge) (g.E.Edge.heard c.judge_unreached.new.edge)) in
    let is = noted_still h now c.resume.new.routes.waiters c.in_ok-gone.gone.items c.deref.result.now c.in_ok-gone.ensures.waiters c.deref.ensures.value c.in_ok-note_all.ensures.now in
    IfOk-weaker c.judge_unreached.result _ _
    (λ next p.
    told_on_then (sending c.args.store h [] tasks) (idle c.args.store now) (idle next (seen_held c.judge_unreached.new.held)) x y z
    (told_sent c.args.store h now [] tasks h.served c.in_ok-gone.gone.items x y is (c.in_ok-gone.ensures.served c.requires.held.routes h.served).sends) p)
    c.judge_unreached.ensures.judged

pub returns-clause-part : goal.returns-clause-part
returns-clause-part g c =
    let h = seen_held c.args.held.now in
    let now = seen_held c.note_all.new.self in
    let tasks = tasks_pending c.args.store in
    let x = (outer_of (g.E.Edge.told c.args.edge.now) (g.E.Edge.heard c.args.edge.now)) in
    let y = (outer_of (g.E.Edge.told c.resume.new.edge) (g.E.Edge.heard c.resume.new.edge)) in
    let z = (outer_of (g.E.Edge.told c.judge_unreached.new.edge) (g.E.Edge.heard c.judge_unreached.new.edge)) in
    let is = noted_still h now c.resume.new.routes.waiters c.in_ok-gone.gone.items c.deref.result.now c.in_ok-gone.ensures.waiters c.deref.ensures.value c.in_ok-note_all.ensures.now in
    if_err_weaker c.judge_unreached.result _ _
    (λ why. told_on_then_some (IsOfDisk why) (sending c.args.store h [] tasks) (idle c.args.store now) x y z
    (told_sent c.args.store h now [] tasks h.served c.in_ok-gone.gone.items x y is (c.in_ok-gone.ensures.served c.requires.held.routes h.served).sends))
    c.judge_unreached.ensures.part
