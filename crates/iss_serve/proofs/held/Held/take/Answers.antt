use Rattle.std.proofs.Common.{◌≡◌, true, false, None, refl, sym, rules}
use Rattle.std.specs.Prelude.{IsSome}
use Rattle.std.proofs.lemmas.Result.{IfOk-weaker, on_err_weaker}
use Rattle.iss_edge.specs.Outer.{outer_of}
use Rattle.iss_session.specs.Hearings.{is_reading, is_waiting, link_at}
use Rattle.iss_serve.specs.Held.{seen_held, queued_maybe, idle, to_judge, taking, arrived}
use Rattle.iss_serve.proofs.Hears.{is_taken, is_passed, listened_reading, listened_waiting, listened_link, listened_none}
use Rattle.iss_serve.proofs.Stages.{told_on_self, told_on_as, told_some_as}
use Rattle.iss_serve.proofs.held.Held.take.Goals as goal

pub returns-then-is_reading-clause-hears : goal.returns-then-is_reading-clause-hears
returns-then-is_reading-clause-hears g c = λ store own.
    let h = seen_held c.args.self.now in
    let ch = c.args.ch in
    let reading : is_reading ch h.clients ≡ true = search rules in
    IfOk-weaker c.take_request.result _ _
    (λ heard p.
    told_on_as (taking store h ch) (arrived store h ch) (to_judge store (seen_held c.take_request.new.self) (queued_maybe heard)) (to_judge store (seen_held c.take_request.new.self) (queued_maybe heard)) (outer_of (g.E.Edge.told c.args.edge.now) (g.E.Edge.heard c.args.edge.now)) (outer_of (g.E.Edge.told c.take_request.new.edge) (g.E.Edge.heard c.take_request.new.edge))
    (sym (is_taken store h ch (listened_reading h ch reading))) refl p)
    (c.take_request.ensures.hears store)

pub returns-then-is_reading-clause-part : goal.returns-then-is_reading-clause-part
returns-then-is_reading-clause-part g c = λ store own.
    let h = seen_held c.args.self.now in
    let ch = c.args.ch in
    let reading : is_reading ch h.clients ≡ true = search rules in
    on_err_weaker c.take_request.result (told_some_as ⊥ (taking store h ch) (arrived store h ch) (outer_of (g.E.Edge.told c.args.edge.now) (g.E.Edge.heard c.args.edge.now)) (outer_of (g.E.Edge.told c.take_request.new.edge) (g.E.Edge.heard c.take_request.new.edge)) (sym (is_taken store h ch (listened_reading h ch reading)))) (c.take_request.ensures.part store)

pub returns-then-waits-clause-hears : goal.returns-then-waits-clause-hears
returns-then-waits-clause-hears g c = λ store own.
    let h = seen_held c.args.self.now in
    let ch = c.args.ch in
    let other : is_reading ch h.clients ≡ false = search rules in
    let waiting : is_waiting ch h.served ≡ true = search rules in
    told_on_as (taking store h ch) (arrived store h ch) (idle store (seen_held c.pass_over.new.self)) (idle store (seen_held c.pass_over.new.self)) (outer_of (g.E.Edge.told c.args.edge.now) (g.E.Edge.heard c.args.edge.now)) (outer_of (g.E.Edge.told c.pass_over.new.edge) (g.E.Edge.heard c.pass_over.new.edge))
    (sym (is_taken store h ch (listened_waiting h ch other waiting))) refl (c.pass_over.ensures.hears store)

pub returns-then-is_some-clause-hears : goal.returns-then-is_some-clause-hears
returns-then-is_some-clause-hears g c = λ store own.
    let h = seen_held c.args.self.now in
    let ch = c.args.ch in
    let other : is_reading ch h.clients ≡ false = search rules in
    let none_waits : is_waiting ch h.served ≡ false = search rules in
    let linked : IsSome (link_at ch h.links.links) = search rules in
    IfOk-weaker c.take_answer.result _ _
    (λ heard p.
    told_on_as (taking store h ch) (arrived store h ch) (to_judge store (seen_held c.take_answer.new.self) (queued_maybe heard)) (to_judge store (seen_held c.take_answer.new.self) (queued_maybe heard)) (outer_of (g.E.Edge.told c.args.edge.now) (g.E.Edge.heard c.args.edge.now)) (outer_of (g.E.Edge.told c.take_answer.new.edge) (g.E.Edge.heard c.take_answer.new.edge))
    (sym (is_taken store h ch (listened_link h ch other none_waits linked))) refl p)
    (c.take_answer.ensures.hears store own)

pub returns-then-is_some-clause-part : goal.returns-then-is_some-clause-part
returns-then-is_some-clause-part g c = λ store own.
    let h = seen_held c.args.self.now in
    let ch = c.args.ch in
    let other : is_reading ch h.clients ≡ false = search rules in
    let none_waits : is_waiting ch h.served ≡ false = search rules in
    let linked : IsSome (link_at ch h.links.links) = search rules in
    on_err_weaker c.take_answer.result (told_some_as ⊥ (taking store h ch) (arrived store h ch) (outer_of (g.E.Edge.told c.args.edge.now) (g.E.Edge.heard c.args.edge.now)) (outer_of (g.E.Edge.told c.take_answer.new.edge) (g.E.Edge.heard c.take_answer.new.edge)) (sym (is_taken store h ch (listened_link h ch other none_waits linked)))) (c.take_answer.ensures.part store own)

pub returns-clause-hears : goal.returns-clause-hears
returns-clause-hears g c = λ store own.
    let h = seen_held c.args.self.now in
    let ch = c.args.ch in
    let other : is_reading ch h.clients ≡ false = search rules in
    let none_waits : is_waiting ch h.served ≡ false = search rules in
    let unlinked : link_at ch h.links.links ≡ None = search rules in
    told_on_as (idle store h) (arrived store h ch) (idle store h) (idle store h) (outer_of (g.E.Edge.told c.args.edge.now) (g.E.Edge.heard c.args.edge.now)) (outer_of (g.E.Edge.told c.args.edge.now) (g.E.Edge.heard c.args.edge.now))
    (sym (is_passed store h ch (listened_none h ch other none_waits unlinked))) refl (told_on_self (idle store h) (outer_of (g.E.Edge.told c.args.edge.now) (g.E.Edge.heard c.args.edge.now)))
