use Rattle.std.proofs.Common.{◌∷◌, subst}
use Rattle.iss_edge.specs.Outer.{outer_of}
use Rattle.iss_edge.specs.World.{Told}
use Rattle.iss_session.specs.Judgements.{answer_tasks}
use Rattle.iss_opening.specs.Values.{StoreNow}
use Rattle.iss_serve.specs.Causes.{IsOfDisk}
use Rattle.iss_serve.specs.Held.{seen_held, queued_as, sending, to_judge}
use Rattle.iss_serve.specs.Runs.{ServesOn, ServesSome}
use Rattle.iss_serve.proofs.Causings.{anyhow}
use Rattle.iss_serve.proofs.Keeps.{told_answer}
use Rattle.iss_serve.proofs.Stages.{told_none_on, told_some_never, told_on_then, told_on_then_some}
use Rattle.iss_serve.proofs.judging.judge_once.Goals as goal

pub returns-in_err-tell-in-Err-Told-clause-part : goal.returns-in_err-tell-in-Err-Told-clause-part
returns-in_err-tell-in-Err-Told-clause-part g c = λ rest.
    let h = seen_held c.args.held.now in
    let q = queued_as c.args.queued.now in
    let a = c.in-Err-Told.answer in
    let x = (outer_of (g.E.Edge.told c.args.edge.now) (g.E.Edge.heard c.args.edge.now)) in
    let z = (outer_of (g.E.Edge.told c.tell.new.edge) (g.E.Edge.heard c.tell.new.edge)) in
    let part = subst (λ (s : StoreNow). Told (ServesSome ⊥ (sending s h rest (answer_tasks q.client a))) x z) c.plan.ensures.kept (c.in_err-tell-in-Err-Told.ensures.part rest) in
    anyhow c.from_residual-in_err-tell-in-Err-Told.result (λ why. Told (ServesSome (IsOfDisk why) (to_judge c.args.store h (q ∷ rest))) x z)
    (λ why. told_on_then_some (IsOfDisk why) (to_judge c.args.store h (q ∷ rest)) (sending c.args.store h rest (answer_tasks q.client a)) x x z
    (told_answer c.args.store h q rest a (rw c.in-Err-Told.field-0-is at c.in-Err-Told.ensures.on_book) x) (told_some_never (IsOfDisk why) (sending c.args.store h rest (answer_tasks q.client a)) x z part))

pub returns-in_ok-tell-in-Err-Told-clause-judged : goal.returns-in_ok-tell-in-Err-Told-clause-judged
returns-in_ok-tell-in-Err-Told-clause-judged g c = λ rest.
    let h = seen_held c.args.held.now in
    let q = queued_as c.args.queued.now in
    let a = c.in-Err-Told.answer in
    let x = (outer_of (g.E.Edge.told c.args.edge.now) (g.E.Edge.heard c.args.edge.now)) in
    let z = (outer_of (g.E.Edge.told c.tell.new.edge) (g.E.Edge.heard c.tell.new.edge)) in
    let left = to_judge c.plan.new.self (seen_held c.tell.new.held) rest in
    let told = subst (λ (s : StoreNow). Told (ServesOn (sending s h rest (answer_tasks q.client a)) left) x z) c.plan.ensures.kept (c.in_ok-tell-in-Err-Told.ensures.told rest) in
    told_on_then (to_judge c.args.store h (q ∷ rest)) (sending c.args.store h rest (answer_tasks q.client a)) left x x z
    (told_answer c.args.store h q rest a (rw c.in-Err-Told.field-0-is at c.in-Err-Told.ensures.on_book) x) told

pub returns-in-Err-OutOfMemory-clause-part : goal.returns-in-Err-OutOfMemory-clause-part
returns-in-Err-OutOfMemory-clause-part g c = λ rest. told_none_on ⊥ (to_judge c.args.store (seen_held c.args.held.now) (queued_as c.args.queued.now ∷ rest)) (outer_of (g.E.Edge.told c.args.edge.now) (g.E.Edge.heard c.args.edge.now))
