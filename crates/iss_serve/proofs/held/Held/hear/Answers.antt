use Rattle.std.proofs.Common.{◌≡◌, ◌-◌, ◌++◌, ◌∷◌, [], Some, None, refl, sym, subst, rules}
use Rattle.iss_edge.specs.declared.outside.Arrival.TheVariants.{Client, Ready, Time, Idle, End}
use Rattle.iss_edge.specs.declared.outside.Answered.TheVariants.{Waited}
use Rattle.iss_edge.specs.Calls.{Same, Waits, Hears}
use Rattle.iss_edge.specs.Outer.{outer_of}
use Rattle.iss_edge.specs.World.{Told}
use Rattle.iss_session.specs.Sessions.{Queued}
use Rattle.iss_serve.specs.Causes.{IsOfDisk}
use Rattle.iss_serve.specs.Held.{HeldNow, seen_held, queued_maybe, idle, to_judge, arrived}
use Rattle.iss_serve.specs.Runs.{ServesOn, ServesSome}
use Rattle.iss_serve.proofs.Causings.{anyhow}
use Rattle.iss_serve.proofs.Stages.{told_some_never, told_on_then, told_on_then_some}
use Rattle.iss_serve.proofs.Waiting.{told_wait_failed, told_waited_some, told_client, told_ready, told_time, told_idle, told_end}
use Rattle.iss_serve.proofs.held.Held.hear.Goals as goal

pub returns-in_default-clause-part : goal.returns-in_default-clause-part
returns-in_default-clause-part g c = λ store own.
    let h = seen_held c.args.self.now in
    let x = g.E.Edge.told c.args.edge.now in
    let z = g.E.Edge.told c.wait.new.self in
    let k = g.E.Edge.heard c.args.edge.now in
    let l = g.E.Edge.heard c.wait.new.self in
    let same : Told Same x z = search rules in
    let heard : Told (Hears (Waited None)) k l = search rules in
    told_wait_failed store h c.requires.settled c.requires.turns ⊥ x z k l same heard

pub returns-in_err-add-in-Client-clause-part : goal.returns-in_err-add-in-Client-clause-part
returns-in_err-add-in-Client-clause-part g c = λ store own.
    let h = seen_held c.args.self.now in
    let x = g.E.Edge.told c.args.edge.now in
    let z = g.E.Edge.told c.wait.new.self in
    let k = g.E.Edge.heard c.args.edge.now in
    let l = g.E.Edge.heard c.wait.new.self in
    let brought : Told (Waits (Client c.in-Client.ch)) x z = search rules in
    let heard : Told (Hears (Waited (Some (Client c.in-Client.ch)))) k l = search rules in
    anyhow c.from_residual.result (λ why. Told (ServesSome (IsOfDisk why) (idle store h)) (outer_of x k) (outer_of z l))
    (λ why. told_waited_some store h c.requires.settled c.requires.turns (IsOfDisk why) (Client c.in-Client.ch) x z k l brought heard)

pub returns-in_err-take-in-Ready-clause-part : goal.returns-in_err-take-in-Ready-clause-part
returns-in_err-take-in-Ready-clause-part g c = λ store own.
    let h = seen_held c.args.self.now in
    let x = g.E.Edge.told c.args.edge.now in
    let z = g.E.Edge.told c.wait.new.self in
    let k = g.E.Edge.heard c.args.edge.now in
    let l = g.E.Edge.heard c.wait.new.self in
    let brought : Told (Waits (Ready c.in-Ready.ch)) x z = search rules in
    let heard : Told (Hears (Waited (Some (Ready c.in-Ready.ch)))) k l = search rules in
    let now : HeldNow = record h { turns = h.turns - 1 } in
    let w = (outer_of (g.E.Edge.told c.take.new.edge) (g.E.Edge.heard c.take.new.edge)) in
    anyhow c.from_residual-in_err-take-in-Ready.result (λ why. Told (ServesSome (IsOfDisk why) (idle store h)) (outer_of x k) w)
    (λ why. told_on_then_some (IsOfDisk why) (idle store h) (arrived store now c.in-Ready.ch) (outer_of x k) (outer_of z l) w
    (told_ready store h c.requires.settled c.requires.turns c.in-Ready.ch now x z k l refl brought heard) (told_some_never (IsOfDisk why) (arrived store now c.in-Ready.ch) (outer_of z l) w (c.in_err-take-in-Ready.ensures.part store own)))

pub returns-in_ok-add-in-Client-clause-hears : goal.returns-in_ok-add-in-Client-clause-hears
returns-in_ok-add-in-Client-clause-hears g c = λ store own.
    let h = seen_held c.args.self.now in
    let x = g.E.Edge.told c.args.edge.now in
    let z = g.E.Edge.told c.wait.new.self in
    let k = g.E.Edge.heard c.args.edge.now in
    let l = g.E.Edge.heard c.wait.new.self in
    let brought : Told (Waits (Client c.in-Client.ch)) x z = search rules in
    let heard : Told (Hears (Waited (Some (Client c.in-Client.ch)))) k l = search rules in
    let now : HeldNow = record h { turns = h.turns - 1; clients = c.add.new.self } in
    let is : now ≡ record h { turns = h.turns - 1; clients = h.clients ++ record { ch = c.in-Client.ch; bytes = [] } ∷ [] } = λ i. record h { turns = h.turns - 1; clients = c.in_ok-add-in-Client.ensures i } in
    told_client store h c.requires.settled c.requires.turns c.in-Client.ch now x z k l is brought heard

pub returns-in_ok-take-in-Ready-clause-hears : goal.returns-in_ok-take-in-Ready-clause-hears
returns-in_ok-take-in-Ready-clause-hears g c = λ store own.
    let h = seen_held c.args.self.now in
    let x = g.E.Edge.told c.args.edge.now in
    let z = g.E.Edge.told c.wait.new.self in
    let k = g.E.Edge.heard c.args.edge.now in
    let l = g.E.Edge.heard c.wait.new.self in
    let brought : Told (Waits (Ready c.in-Ready.ch)) x z = search rules in
    let heard : Told (Hears (Waited (Some (Ready c.in-Ready.ch)))) k l = search rules in
    let now : HeldNow = record h { turns = h.turns - 1 } in
    let w = (outer_of (g.E.Edge.told c.take.new.edge) (g.E.Edge.heard c.take.new.edge)) in
    told_on_then (idle store h) (arrived store now c.in-Ready.ch) (to_judge store (seen_held c.take.new.self) (queued_maybe c.in_ok-take-in-Ready.field-0)) (outer_of x k) (outer_of z l) w
    (told_ready store h c.requires.settled c.requires.turns c.in-Ready.ch now x z k l refl brought heard) (c.in_ok-take-in-Ready.ensures.hears store own)

pub returns-in-Time-clause-hears : goal.returns-in-Time-clause-hears
returns-in-Time-clause-hears g c = λ store own.
    let h = seen_held c.args.self.now in
    let x = g.E.Edge.told c.args.edge.now in
    let z = g.E.Edge.told c.wait.new.self in
    let k = g.E.Edge.heard c.args.edge.now in
    let l = g.E.Edge.heard c.wait.new.self in
    let brought : Told (Waits (Time c.in-Time.at)) x z = search rules in
    let heard : Told (Hears (Waited (Some (Time c.in-Time.at)))) k l = search rules in
    let now : HeldNow = record h { turns = h.turns - 1; clock = c.min-self.result } in
    subst (λ (q : Queued). Told (ServesOn (idle store h) (to_judge store now (q ∷ []))) (outer_of x k) (outer_of z l)) (sym c.unasked.ensures)
    (told_time store h c.requires.settled c.requires.turns c.in-Time.at now x z k l (λ i. record h { turns = h.turns - 1; clock = c.min-self.ensures i }) brought heard)

pub returns-in-Idle-clause-hears : goal.returns-in-Idle-clause-hears
returns-in-Idle-clause-hears g c = λ store own.
    let h = seen_held c.args.self.now in
    let x = g.E.Edge.told c.args.edge.now in
    let z = g.E.Edge.told c.wait.new.self in
    let k = g.E.Edge.heard c.args.edge.now in
    let l = g.E.Edge.heard c.wait.new.self in
    let brought : Told (Waits Idle) x z = search rules in
    let heard : Told (Hears (Waited (Some Idle))) k l = search rules in
    told_idle store h c.requires.settled c.requires.turns (record h { turns = h.turns - 1 }) x z k l refl brought heard

pub returns-in-End-clause-hears : goal.returns-in-End-clause-hears
returns-in-End-clause-hears g c = λ store own.
    let h = seen_held c.args.self.now in
    let x = g.E.Edge.told c.args.edge.now in
    let z = g.E.Edge.told c.wait.new.self in
    let k = g.E.Edge.heard c.args.edge.now in
    let l = g.E.Edge.heard c.wait.new.self in
    let brought : Told (Waits End) x z = search rules in
    let heard : Told (Hears (Waited (Some End))) k l = search rules in
    told_end store h c.requires.settled c.requires.turns (record h { turns = 0 }) x z k l refl brought heard
