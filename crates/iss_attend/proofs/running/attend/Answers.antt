use Rattle.std.proofs.Common.{◌≡◌, true, Err, subst, ◌∙◌, rules}
use Rattle.std.specs.Prelude.{is_ok}
use Rattle.iss_edge.specs.Outer.{outer_of}
use Rattle.iss_edge.specs.World.{Told}
use Rattle.iss_attend.specs.declared.fault.AttendFault.TheVariants.{OutOfMemory}
use Rattle.iss_attend.specs.Attendances.{Attendance, manner_of, first_attendance}
use Rattle.iss_attend.specs.Held.{seen_held}
use Rattle.iss_attend.specs.Runs.{Attends, AttendsPart}
use Rattle.iss_attend.proofs.Ending.{told_unbegun, told_part_run, told_whole_run, not_done}
use Rattle.iss_attend.proofs.Going.{told_part_of}
use Rattle.iss_attend.proofs.running.attend.Goals as goal

pub returns-in_err-held-clause-attending : goal.returns-in_err-held-clause-attending
returns-in_err-held-clause-attending g c =
    let manner = manner_of g.A.AnswersBodies.after g.A.AnswersBodies.response in
    let failed : c.from_residual.result ≡ Err OutOfMemory = search rules in
    told_unbegun manner c.args.answers c.args.turns (is_ok c.from_residual.result ≡ true) (outer_of (g.E.Edge.told c.args.edge.now) (g.E.Edge.heard c.args.edge.now)) (not_done c.from_residual.result OutOfMemory failed)

pub returns-in_err-wait_on-clause-attending : goal.returns-in_err-wait_on-clause-attending
returns-in_err-wait_on-clause-attending g c =
    let manner = manner_of g.A.AnswersBodies.after g.A.AnswersBodies.response in
    let why = c.in_err-wait_on.field-0.0 in
    let failed : c.from_residual-in_err-wait_on.result ≡ Err why = search rules in
    let is : seen_held c.in_ok-held.held ≡ first_attendance c.args.answers c.args.turns = search rules in
    told_part_run manner c.args.answers c.args.turns (is_ok c.from_residual-in_err-wait_on.result ≡ true) (outer_of (g.E.Edge.told c.args.edge.now) (g.E.Edge.heard c.args.edge.now)) (outer_of (g.E.Edge.told c.wait_on.new.edge) (g.E.Edge.heard c.wait_on.new.edge))
    (not_done c.from_residual-in_err-wait_on.result why failed)
    (subst (λ (s : Attendance g.row.A.Denot). Told (AttendsPart manner s) (outer_of (g.E.Edge.told c.args.edge.now) (g.E.Edge.heard c.args.edge.now)) (outer_of (g.E.Edge.told c.wait_on.new.edge) (g.E.Edge.heard c.wait_on.new.edge))) is c.in_err-wait_on.ensures.part)

pub returns-in_err-open-clause-attending : goal.returns-in_err-open-clause-attending
returns-in_err-open-clause-attending g c =
    let manner = manner_of g.A.AnswersBodies.after g.A.AnswersBodies.response in
    let failed : c.from_residual-in_err-open.result ≡ Err OutOfMemory = search rules in
    let is : seen_held c.in_ok-held.held ≡ first_attendance c.args.answers c.args.turns = search rules in
    let s = first_attendance c.args.answers c.args.turns in
    let t = seen_held c.wait_on.new.held in
    told_part_run manner c.args.answers c.args.turns (is_ok c.from_residual-in_err-open.result ≡ true) (outer_of (g.E.Edge.told c.args.edge.now) (g.E.Edge.heard c.args.edge.now)) (outer_of (g.E.Edge.told c.wait_on.new.edge) (g.E.Edge.heard c.wait_on.new.edge))
    (not_done c.from_residual-in_err-open.result OutOfMemory failed)
    (told_part_of manner s t (outer_of (g.E.Edge.told c.args.edge.now) (g.E.Edge.heard c.args.edge.now)) (outer_of (g.E.Edge.told c.wait_on.new.edge) (g.E.Edge.heard c.wait_on.new.edge))
    (subst (λ (s : Attendance g.row.A.Denot). Told (Attends manner s t) (outer_of (g.E.Edge.told c.args.edge.now) (g.E.Edge.heard c.args.edge.now)) (outer_of (g.E.Edge.told c.wait_on.new.edge) (g.E.Edge.heard c.wait_on.new.edge))) is c.in_ok-wait_on.ensures.attends))

pub returns-clause-attending : goal.returns-clause-attending
returns-clause-attending g c =
    let manner = manner_of g.A.AnswersBodies.after g.A.AnswersBodies.response in
    let is : seen_held c.in_ok-held.held ≡ first_attendance c.args.answers c.args.turns = search rules in
    let t = seen_held c.wait_on.new.held in
    told_whole_run manner c.args.answers c.args.turns c.wait_on.new.held.answers c.wait_on.new.held.clients c.wait_on.new.held.turns c.in_ok-wait_on.ensures.over (true ≡ true)
    c.deref.result.now (outer_of (g.E.Edge.told c.args.edge.now) (g.E.Edge.heard c.args.edge.now)) (outer_of (g.E.Edge.told c.wait_on.new.edge) (g.E.Edge.heard c.wait_on.new.edge)) (outer_of (g.E.Edge.told c.close_each.new.edge) (g.E.Edge.heard c.close_each.new.edge)) (c.deref.ensures.value ∙ c.in_ok-open.ensures)
    (subst (λ (s : Attendance g.row.A.Denot). Told (Attends manner s t) (outer_of (g.E.Edge.told c.args.edge.now) (g.E.Edge.heard c.args.edge.now)) (outer_of (g.E.Edge.told c.wait_on.new.edge) (g.E.Edge.heard c.wait_on.new.edge))) is c.in_ok-wait_on.ensures.attends)
    c.close_each.ensures.closed
