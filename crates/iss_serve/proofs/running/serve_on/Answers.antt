use Rattle.std.proofs.Common.{◌≡◌, rules, Err}
use Rattle.iss_edge.specs.Outer.{outer_of}
use Rattle.iss_edge.specs.World.{Told}
use Rattle.iss_store.proofs.ServedTexts.{tasks_on_book}
use Rattle.iss_serve.specs.Causes.{IsOfDisk}
use Rattle.iss_serve.specs.Held.{first_stage, seen_held, idle}
use Rattle.iss_serve.specs.Runs.{ServesUpTo}
use Rattle.iss_serve.proofs.Causings.{anyhow}
use Rattle.iss_serve.proofs.Ending.{own_instance, fresh, told_not_begun, told_up_to, told_to_end}
use Rattle.iss_serve.proofs.Keeps.{told_nothing_some}
use Rattle.iss_serve.proofs.Stages.{told_on_then, told_on_then_some}
use Rattle.iss_serve.proofs.running.serve_on.Goals as goal

pub new-requires : goal.new-requires
new-requires g c =
    let is : c.instance.result ≡ c.args.store.core.instance = search rules in
    rw is (own_instance _ c.args.store c.store.invariant.store c.store.view_is)

pub returns-in_err-held-clause-part : goal.returns-in_err-held-clause-part
returns-in_err-held-clause-part g c =
    anyhow c.from_residual.result (λ why. Told (ServesUpTo (IsOfDisk why) c.args.store c.args.turns) (outer_of (g.E.Edge.told c.args.edge.now) (g.E.Edge.heard c.args.edge.now)) (outer_of (g.E.Edge.told c.args.edge.now) (g.E.Edge.heard c.args.edge.now))) (λ why. told_not_begun (IsOfDisk why) c.args.store c.args.turns (outer_of (g.E.Edge.told c.args.edge.now) (g.E.Edge.heard c.args.edge.now)))

pub returns-in_err-resumed-clause-part : goal.returns-in_err-resumed-clause-part
returns-in_err-resumed-clause-part g c =
    let is : seen_held c.in_ok-held.held ≡ fresh c.args.store c.args.turns = search rules in
    let x = (outer_of (g.E.Edge.told c.args.edge.now) (g.E.Edge.heard c.args.edge.now)) in
    let y = (outer_of (g.E.Edge.told c.resume.new.edge) (g.E.Edge.heard c.resume.new.edge)) in
    let failed : c.from_residual-in_err-resumed.result ≡ Err c.in_err-resumed.field-0.0 = search rules in
    rw failed
    (told_up_to c.args.store c.args.turns (seen_held c.in_ok-held.held) is (tasks_on_book c.args.store) (IsOfDisk c.in_err-resumed.field-0.0) x y c.in_err-resumed.ensures.part)

pub returns-in_err-wait_on-clause-part : goal.returns-in_err-wait_on-clause-part
returns-in_err-wait_on-clause-part g c =
    let is : seen_held c.in_ok-held.held ≡ fresh c.args.store c.args.turns = search rules in
    let x = (outer_of (g.E.Edge.told c.args.edge.now) (g.E.Edge.heard c.args.edge.now)) in
    let y = (outer_of (g.E.Edge.told c.resume.new.edge) (g.E.Edge.heard c.resume.new.edge)) in
    let z = (outer_of (g.E.Edge.told c.wait_on.new.edge) (g.E.Edge.heard c.wait_on.new.edge)) in
    let h = seen_held c.in_ok-held.held in
    let failed : c.from_residual-in_err-wait_on.result ≡ Err c.in_err-wait_on.field-0.0 = search rules in
    rw failed
    (told_up_to c.args.store c.args.turns h is (tasks_on_book c.args.store) (IsOfDisk c.in_err-wait_on.field-0.0) x z
    (told_on_then_some (IsOfDisk c.in_err-wait_on.field-0.0) (first_stage c.args.store h) (idle c.in_ok-resumed.resumed (seen_held c.resume.new.held)) x y z c.in_ok-resumed.ensures.resumed c.in_err-wait_on.ensures.part))

pub returns-in_err-close_all-clause-part : goal.returns-in_err-close_all-clause-part
returns-in_err-close_all-clause-part g c =
    let is : seen_held c.in_ok-held.held ≡ fresh c.args.store c.args.turns = search rules in
    let x = (outer_of (g.E.Edge.told c.args.edge.now) (g.E.Edge.heard c.args.edge.now)) in
    let y = (outer_of (g.E.Edge.told c.resume.new.edge) (g.E.Edge.heard c.resume.new.edge)) in
    let z = (outer_of (g.E.Edge.told c.wait_on.new.edge) (g.E.Edge.heard c.wait_on.new.edge)) in
    let w = (outer_of (g.E.Edge.told c.close_all.new.edge) (g.E.Edge.heard c.close_all.new.edge)) in
    let h = seen_held c.in_ok-held.held in
    let last = idle c.in_ok-wait_on.field-0 (seen_held c.wait_on.new.held) in
    anyhow c.from_residual-in_err-close_all.result (λ why. Told (ServesUpTo (IsOfDisk why) c.args.store c.args.turns) x w)
    (λ why. told_up_to c.args.store c.args.turns h is (tasks_on_book c.args.store) (IsOfDisk why) x w
    (told_on_then_some (IsOfDisk why) (first_stage c.args.store h) last x z w
    (told_on_then (first_stage c.args.store h) (idle c.in_ok-resumed.resumed (seen_held c.resume.new.held)) last x y z c.in_ok-resumed.ensures.resumed c.in_ok-wait_on.ensures.waited)
    (told_nothing_some (IsOfDisk why) last z w c.in_err-close_all.ensures.unchanged)))

pub returns-clause-whole : goal.returns-clause-whole
returns-clause-whole g c =
    let is : seen_held c.in_ok-held.held ≡ fresh c.args.store c.args.turns = search rules in
    let x = (outer_of (g.E.Edge.told c.args.edge.now) (g.E.Edge.heard c.args.edge.now)) in
    let y = (outer_of (g.E.Edge.told c.resume.new.edge) (g.E.Edge.heard c.resume.new.edge)) in
    let z = (outer_of (g.E.Edge.told c.wait_on.new.edge) (g.E.Edge.heard c.wait_on.new.edge)) in
    let w = (outer_of (g.E.Edge.told c.close_all.new.edge) (g.E.Edge.heard c.close_all.new.edge)) in
    let h = seen_held c.in_ok-held.held in
    let last = idle c.in_ok-wait_on.field-0 (seen_held c.wait_on.new.held) in
    told_to_end c.args.store c.args.turns h is (tasks_on_book c.args.store) c.in_ok-wait_on.field-0 (seen_held c.wait_on.new.held) c.in_ok-wait_on.ensures.settled c.in_ok-wait_on.ensures.turns x z w
    (told_on_then (first_stage c.args.store h) (idle c.in_ok-resumed.resumed (seen_held c.resume.new.held)) last x y z c.in_ok-resumed.ensures.resumed c.in_ok-wait_on.ensures.waited)
    c.in_ok-close_all.ensures.closed
