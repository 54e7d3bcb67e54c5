use Rattle.std.proofs.Common.{◌-◌, Some, None, rules}
use Rattle.iss_edge.specs.declared.outside.Arrival.TheVariants.{Client, Ready, Time, Idle, End}
use Rattle.iss_edge.specs.declared.outside.Answered.TheVariants.{Waited}
use Rattle.iss_edge.specs.Calls.{Same, Waits, Hears}
use Rattle.iss_edge.specs.Outer.{outer_of}
use Rattle.iss_edge.specs.World.{Told}
use Rattle.iss_attend.specs.Attendances.{manner_of, arrived}
use Rattle.iss_attend.specs.Held.{seen_held}
use Rattle.iss_attend.specs.Runs.{AttendsPart}
use Rattle.iss_attend.proofs.Causing.{anyway}
use Rattle.iss_attend.proofs.Going.{told_attends_then, told_then_part}
use Rattle.iss_attend.proofs.Waiting.{told_wait_failed, told_waited_part, told_client, told_ready, told_time, told_idle, told_end}
use Rattle.iss_attend.proofs.held.Held.hear.Goals as goal

pub returns-in_default-clause-part : goal.returns-in_default-clause-part
returns-in_default-clause-part g c =
    let manner = manner_of g.A.AnswersBodies.after g.A.AnswersBodies.response in
    let s = c.args.self.now in
    let x = g.E.Edge.told c.args.edge.now in
    let z = g.E.Edge.told c.wait.new.self in
    let k = g.E.Edge.heard c.args.edge.now in
    let l = g.E.Edge.heard c.wait.new.self in
    let same : Told Same x z = search rules in
    let heard : Told (Hears (Waited None)) k l = search rules in
    told_wait_failed manner s.answers s.turns s.clients c.requires.turns x z k l same heard

pub returns-in_err-add-in-Client-clause-part : goal.returns-in_err-add-in-Client-clause-part
returns-in_err-add-in-Client-clause-part g c =
    let manner = manner_of g.A.AnswersBodies.after g.A.AnswersBodies.response in
    let s = c.args.self.now in
    let x = g.E.Edge.told c.args.edge.now in
    let z = g.E.Edge.told c.wait.new.self in
    let k = g.E.Edge.heard c.args.edge.now in
    let l = g.E.Edge.heard c.wait.new.self in
    let brought : Told (Waits (Client c.in-Client.ch)) x z = search rules in
    let heard : Told (Hears (Waited (Some (Client c.in-Client.ch)))) k l = search rules in
    anyway c.from_residual.result (Told (AttendsPart manner (seen_held s)) (outer_of x k) (outer_of z l))
    (told_waited_part manner s.answers s.turns s.clients c.requires.turns (Client c.in-Client.ch) x z k l brought heard)

pub returns-in_err-take-in-Ready-clause-part : goal.returns-in_err-take-in-Ready-clause-part
returns-in_err-take-in-Ready-clause-part g c =
    let manner = manner_of g.A.AnswersBodies.after g.A.AnswersBodies.response in
    let s = c.args.self.now in
    let x = g.E.Edge.told c.args.edge.now in
    let z = g.E.Edge.told c.wait.new.self in
    let k = g.E.Edge.heard c.args.edge.now in
    let l = g.E.Edge.heard c.wait.new.self in
    let brought : Told (Waits (Ready c.in-Ready.ch)) x z = search rules in
    let heard : Told (Hears (Waited (Some (Ready c.in-Ready.ch)))) k l = search rules in
    let w = (outer_of (g.E.Edge.told c.take.new.edge) (g.E.Edge.heard c.take.new.edge)) in
    anyway c.from_residual-in_err-take-in-Ready.result (Told (AttendsPart manner (seen_held s)) (outer_of x k) w)
    (told_then_part manner (seen_held s) (arrived s.answers (s.turns - 1) s.clients c.in-Ready.ch) (outer_of x k) (outer_of z l) w
    (told_ready manner s.answers s.turns s.clients c.requires.turns c.in-Ready.ch x z k l brought heard) c.in_err-take-in-Ready.ensures.part)

pub returns-in_ok-add-in-Client-clause-attends : goal.returns-in_ok-add-in-Client-clause-attends
returns-in_ok-add-in-Client-clause-attends g c =
    let manner = manner_of g.A.AnswersBodies.after g.A.AnswersBodies.response in
    let s = c.args.self.now in
    let x = g.E.Edge.told c.args.edge.now in
    let z = g.E.Edge.told c.wait.new.self in
    let k = g.E.Edge.heard c.args.edge.now in
    let l = g.E.Edge.heard c.wait.new.self in
    let brought : Told (Waits (Client c.in-Client.ch)) x z = search rules in
    let heard : Told (Hears (Waited (Some (Client c.in-Client.ch)))) k l = search rules in
    told_client manner s.answers s.turns s.clients c.requires.turns c.in-Client.ch c.add.new.self x z k l c.in_ok-add-in-Client.ensures brought heard

pub returns-in_ok-take-in-Ready-clause-attends : goal.returns-in_ok-take-in-Ready-clause-attends
returns-in_ok-take-in-Ready-clause-attends g c =
    let manner = manner_of g.A.AnswersBodies.after g.A.AnswersBodies.response in
    let s = c.args.self.now in
    let x = g.E.Edge.told c.args.edge.now in
    let z = g.E.Edge.told c.wait.new.self in
    let k = g.E.Edge.heard c.args.edge.now in
    let l = g.E.Edge.heard c.wait.new.self in
    let brought : Told (Waits (Ready c.in-Ready.ch)) x z = search rules in
    let heard : Told (Hears (Waited (Some (Ready c.in-Ready.ch)))) k l = search rules in
    let w = (outer_of (g.E.Edge.told c.take.new.edge) (g.E.Edge.heard c.take.new.edge)) in
    told_attends_then manner (seen_held s) (arrived s.answers (s.turns - 1) s.clients c.in-Ready.ch) (seen_held c.take.new.self) (outer_of x k) (outer_of z l) w
    (told_ready manner s.answers s.turns s.clients c.requires.turns c.in-Ready.ch x z k l brought heard) c.in_ok-take-in-Ready.ensures.attends

pub returns-in-Time-clause-attends : goal.returns-in-Time-clause-attends
returns-in-Time-clause-attends g c =
    let manner = manner_of g.A.AnswersBodies.after g.A.AnswersBodies.response in
    let s = c.args.self.now in
    let x = g.E.Edge.told c.args.edge.now in
    let z = g.E.Edge.told c.wait.new.self in
    let k = g.E.Edge.heard c.args.edge.now in
    let l = g.E.Edge.heard c.wait.new.self in
    let brought : Told (Waits (Time c.in-Time.field-0)) x z = search rules in
    let heard : Told (Hears (Waited (Some (Time c.in-Time.field-0)))) k l = search rules in
    told_time manner s.answers s.turns s.clients c.requires.turns c.in-Time.field-0 x z k l brought heard

pub returns-in-Idle-clause-attends : goal.returns-in-Idle-clause-attends
returns-in-Idle-clause-attends g c =
    let manner = manner_of g.A.AnswersBodies.after g.A.AnswersBodies.response in
    let s = c.args.self.now in
    let x = g.E.Edge.told c.args.edge.now in
    let z = g.E.Edge.told c.wait.new.self in
    let k = g.E.Edge.heard c.args.edge.now in
    let l = g.E.Edge.heard c.wait.new.self in
    let brought : Told (Waits Idle) x z = search rules in
    let heard : Told (Hears (Waited (Some Idle))) k l = search rules in
    told_idle manner s.answers s.turns s.clients c.requires.turns x z k l brought heard

pub returns-in-End-clause-attends : goal.returns-in-End-clause-attends
returns-in-End-clause-attends g c =
    let manner = manner_of g.A.AnswersBodies.after g.A.AnswersBodies.response in
    let s = c.args.self.now in
    let x = g.E.Edge.told c.args.edge.now in
    let z = g.E.Edge.told c.wait.new.self in
    let k = g.E.Edge.heard c.args.edge.now in
    let l = g.E.Edge.heard c.wait.new.self in
    let brought : Told (Waits End) x z = search rules in
    let heard : Told (Hears (Waited (Some End))) k l = search rules in
    told_end manner s.answers s.turns s.clients c.requires.turns x z k l brought heard
