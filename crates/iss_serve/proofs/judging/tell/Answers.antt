use Rattle.std.proofs.Common.{◌≡◌, Err, ap, ◌∙◌, rules}
use Rattle.iss_edge.specs.Outer.{outer_of}
use Rattle.iss_edge.specs.World.{Told}
use Rattle.iss_session.specs.Desks.{waiters_without}
use Rattle.iss_session.specs.Judgements.{answer_tasks}
use Rattle.iss_serve.specs.Causes.{fault_of_store}
use Rattle.iss_serve.specs.Held.{seen_held, sending}
use Rattle.iss_serve.specs.Runs.{ServesSome}
use Rattle.iss_serve.proofs.Causings.{anyway, caused_short}
use Rattle.iss_serve.proofs.Keeps.{told_nobody, told_nothing_some, told_client_answer}
use Rattle.iss_serve.proofs.judging.tell.Goals as goal

pub returns-in_default-clause-told : goal.returns-in_default-clause-told
returns-in_default-clause-told g c = λ first.
    let x = outer_of (g.E.Edge.told c.args.edge.now) (g.E.Edge.heard c.args.edge.now) in
    told_nobody c.args.store.now (seen_held c.args.held.now) first c.args.queued.now.client c.args.answer.now x c.in_default.is

pub returns-in_err-tell-clause-part : goal.returns-in_err-tell-clause-part
returns-in_err-tell-clause-part g c = λ first.
    let x = outer_of (g.E.Edge.told c.args.edge.now) (g.E.Edge.heard c.args.edge.now) in
    let y = outer_of (g.E.Edge.told c.tell.new.edge) (g.E.Edge.heard c.tell.new.edge) in
    let stage = sending c.args.store.now (seen_held c.args.held.now) first (answer_tasks c.args.queued.now.client c.args.answer.now) in
    anyway c.from_residual.result (Told (ServesSome ⊥ stage) x y) (told_nothing_some ⊥ stage x y (c.in_err-tell.ensures.served c.requires.routes).unsent)

pub returns-in_err-tell-clause-caused : goal.returns-in_err-tell-clause-caused
returns-in_err-tell-clause-caused g c =
    let failed : c.from_residual.result ≡ Err (fault_of_store c.in_err-tell.field-0.0) = search rules in
    rw failed (caused_short (g.E.Edge.faults c.args.edge.now) (g.E.Edge.faults c.tell.new.edge) c.in_err-tell.field-0.0 c.in_err-tell.ensures.cause.later (c.in_err-tell.ensures.served c.requires.routes).short)

pub returns-clause-told : goal.returns-clause-told
returns-clause-told g c = λ first.
    let x = outer_of (g.E.Edge.told c.args.edge.now) (g.E.Edge.heard c.args.edge.now) in
    let y = outer_of (g.E.Edge.told c.tell.new.edge) (g.E.Edge.heard c.tell.new.edge) in
    let left : c.forget.new.self.waiters ≡ waiters_without c.in-Some.ch c.args.held.now.routes.waiters =
    c.forget.ensures.waiters ∙ ap (waiters_without c.in-Some.ch) c.tell.ensures.waiters in
    told_client_answer c.args.store.now (seen_held c.args.held.now) (record (seen_held c.args.held.now) { served = c.forget.new.self.waiters }) first c.args.queued.now.client c.in-Some.ch c.args.answer.now x y c.in-Some.is
    (λ i. record (seen_held c.args.held.now) { served = left i }) ((c.in_ok-tell.ensures.served c.requires.routes).sends c.args.held.now.routes.waiters)
