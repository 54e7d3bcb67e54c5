use Rattle.std.proofs.Common.{◌≡◌, List, Err, subst, rules}
use Rattle.iss_link.specs.declared.gone.Gone as link
use Rattle.iss_edge.specs.Outer.{outer_of}
use Rattle.iss_edge.specs.World.{Told}
use Rattle.iss_store.specs.Serving.{tasks_of_record}
use Rattle.iss_serve.specs.Causes.{fault_of_store}
use Rattle.iss_serve.specs.Held.{seen_held, noted, sending}
use Rattle.iss_serve.specs.Runs.{ServesSome}
use Rattle.iss_serve.proofs.Causings.{anyway, caused_short}
use Rattle.iss_serve.proofs.Keeps.{told_sent, told_sent_part, told_sent_some}
use Rattle.iss_serve.proofs.judging.release.Goals as goal

pub returns-in_err-gone-clause-part : goal.returns-in_err-gone-clause-part
returns-in_err-gone-clause-part g c = λ first.
    let tasks = tasks_of_record c.args.store.now c.args.durable c.args.held.now.routes.waiters in
    let x = outer_of (g.E.Edge.told c.args.edge.now) (g.E.Edge.heard c.args.edge.now) in
    let y = outer_of (g.E.Edge.told c.release.new.edge) (g.E.Edge.heard c.release.new.edge) in
    anyway c.from_residual.result (Told (ServesSome ⊥ (sending c.args.store.now (seen_held c.args.held.now) first tasks)) x y)
    (told_sent_part ⊥ c.args.store.now (seen_held c.args.held.now) first tasks x y (c.in_err-gone.ensures.served c.requires.routes).part)

pub returns-in_err-gone-clause-caused : goal.returns-in_err-gone-clause-caused
returns-in_err-gone-clause-caused g c =
    let failed : c.from_residual.result ≡ Err (fault_of_store c.in_err-gone.field-0.0) = search rules in
    rw failed (caused_short (g.E.Edge.faults c.args.edge.now) (g.E.Edge.faults c.release.new.edge) c.in_err-gone.field-0.0 c.in_err-gone.ensures.cause.later (c.in_err-gone.ensures.served c.requires.routes).short)

pub returns-in_err-note_all-clause-part : goal.returns-in_err-note_all-clause-part
returns-in_err-note_all-clause-part g c = λ first.
    let tasks = tasks_of_record c.args.store.now c.args.durable c.args.held.now.routes.waiters in
    let x = outer_of (g.E.Edge.told c.args.edge.now) (g.E.Edge.heard c.args.edge.now) in
    let y = outer_of (g.E.Edge.told c.release.new.edge) (g.E.Edge.heard c.release.new.edge) in
    anyway c.from_residual-in_err-note_all.result (Told (ServesSome ⊥ (sending c.args.store.now (seen_held c.args.held.now) first tasks)) x y)
    (told_sent_some ⊥ c.args.store.now (seen_held c.args.held.now) first tasks c.release.new.routes.waiters c.in_ok-gone.gone.items x y (c.in_ok-gone.ensures.served c.requires.routes).sends)

pub returns-clause-released : goal.returns-clause-released
returns-clause-released g c = λ first.
    let tasks = tasks_of_record c.args.store.now c.args.durable c.args.held.now.routes.waiters in
    let x = outer_of (g.E.Edge.told c.args.edge.now) (g.E.Edge.heard c.args.edge.now) in
    let y = outer_of (g.E.Edge.told c.release.new.edge) (g.E.Edge.heard c.release.new.edge) in
    told_sent c.args.store.now (seen_held c.args.held.now) (seen_held c.note_all.new.self) first tasks c.release.new.routes.waiters c.in_ok-gone.gone.items x y
    (subst (λ (l : List link.Gone). seen_held c.note_all.new.self ≡ noted l (record (seen_held c.args.held.now) { served = c.release.new.routes.waiters })) c.deref.ensures.value c.in_ok-note_all.ensures.now)
    (c.in_ok-gone.ensures.served c.requires.routes).sends
