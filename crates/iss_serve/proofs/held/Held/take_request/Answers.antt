use Rattle.std.proofs.Common.{◌≡◌, ℕ, [], ◌∷◌, List, length, take, None, refl, sym, ap, subst, ◌∙◌, rules}
use Rattle.std.proofs.lemmas.List.{with_items_is}
use Rattle.iss_serve.specs.declared.requests.Request.{Request}
use Rattle.iss_edge.specs.declared.outside.Answered.TheVariants.{Took}
use Rattle.iss_edge.specs.Outer.{outer_of, Adds}
use Rattle.iss_edge.specs.World.{Told}
use Rattle.iss_session.specs.Desks.{to_reply}
use Rattle.iss_serve.specs.declared.requests.Request.TheVariants.{More, Says, Bad}
use Rattle.iss_serve.specs.Requests.{ReadsOn}
use Rattle.iss_serve.specs.Held.{HeldNow, seen_held, idle, taking, sending}
use Rattle.iss_serve.specs.Runs.{ServesSome}
use Rattle.iss_serve.proofs.Causings.{anyway}
use Rattle.iss_serve.proofs.Hears.{told_client_failed, told_client_ended, told_took_some, told_request, told_replied}
use Rattle.iss_serve.proofs.Stages.{told_on_then}
use Rattle.iss_serve.proofs.held.Held.take_request.Goals as goal

pub returns-in_default-clause-hears : goal.returns-in_default-clause-hears
returns-in_default-clause-hears g c = λ store.
    let told : Told (Adds [] (Took c.args.ch None ∷ [])) (outer_of (g.E.Edge.told c.args.edge.now) (g.E.Edge.heard c.args.edge.now)) (outer_of (g.E.Edge.told c.take_piece.new.edge) (g.E.Edge.heard c.take_piece.new.edge)) = search rules in
    told_client_failed store (seen_held c.args.self.now) c.args.ch c.requires.settled (outer_of (g.E.Edge.told c.args.edge.now) (g.E.Edge.heard c.args.edge.now)) (outer_of (g.E.Edge.told c.take_piece.new.edge) (g.E.Edge.heard c.take_piece.new.edge)) (seen_held c.lose_client.new.self) (outer_of (g.E.Edge.told c.lose_client.new.edge) (g.E.Edge.heard c.lose_client.new.edge)) c.requires.reading c.lose_client.ensures.now told
    c.lose_client.ensures.told

pub returns-then-count-eq0-clause-hears : goal.returns-then-count-eq0-clause-hears
returns-then-count-eq0-clause-hears g c = λ store.
    let none : c.in-Some.count ≡ 0 = search rules in
    told_client_ended store (seen_held c.args.self.now) c.args.ch c.requires.settled (outer_of (g.E.Edge.told c.args.edge.now) (g.E.Edge.heard c.args.edge.now)) (outer_of (g.E.Edge.told c.take_piece.new.edge) (g.E.Edge.heard c.take_piece.new.edge)) (seen_held c.lose_client-then-count-eq0.new.self) (outer_of (g.E.Edge.told c.lose_client-then-count-eq0.new.edge) (g.E.Edge.heard c.lose_client-then-count-eq0.new.edge)) c.take_piece.new.buffer c.in-Some.count
    c.requires.reading none c.lose_client-then-count-eq0.ensures.now c.in-Some.ensures.told c.lose_client-then-count-eq0.ensures.told

pub returns-in_err-read_request-clause-part : goal.returns-in_err-read_request-clause-part
returns-in_err-read_request-clause-part g c = λ store.
    anyway c.from_residual.result (Told (ServesSome ⊥ (taking store (seen_held c.args.self.now) c.args.ch)) (outer_of (g.E.Edge.told c.args.edge.now) (g.E.Edge.heard c.args.edge.now)) (outer_of (g.E.Edge.told c.take_piece.new.edge) (g.E.Edge.heard c.take_piece.new.edge)))
    (told_took_some store (seen_held c.args.self.now) c.args.ch c.requires.settled (outer_of (g.E.Edge.told c.args.edge.now) (g.E.Edge.heard c.args.edge.now)) (outer_of (g.E.Edge.told c.take_piece.new.edge) (g.E.Edge.heard c.take_piece.new.edge)) c.take_piece.new.buffer c.in-Some.count c.take_piece.ensures.room c.in-Some.ensures.bound c.in-Some.ensures.told)

pub returns-in-More-clause-hears : goal.returns-in-More-clause-hears
returns-in-More-clause-hears g c = λ store.
    let h = seen_held c.args.self.now in
    let ch = c.args.ch in
    let x = (outer_of (g.E.Edge.told c.args.edge.now) (g.E.Edge.heard c.args.edge.now)) in
    let y = (outer_of (g.E.Edge.told c.take_piece.new.edge) (g.E.Edge.heard c.take_piece.new.edge)) in
    let now : HeldNow = record h { clients = c.read_request.new.clients } in
    let some : c.in-Some.count ≡ 0 → ⊥ = search rules in
    let there : c.deref.result.now ≡ c.take_piece.new.buffer =
    c.deref.ensures.value
    ∙ with_items_is c.args.self.now.buffer c.take_piece.new.buffer (c.take_piece.ensures.room ∙ sym c.requires.held.room ∙ ap (λ (l : List ℕ). length l) (sym c.deref_mut.ensures.value) ∙ c.deref_mut.ensures.len) in
    let piece : List ℕ = take c.in-Some.count c.deref.result.now in
    let read = subst (λ (r : Request). ReadsOn ch piece h.clients c.read_request.new.clients r) c.in-More.is c.in_ok-read_request.ensures.reads in
    let led =
    told_request store h ch c.requires.settled x y now c.take_piece.new.buffer c.in-Some.count piece More c.requires.reading c.take_piece.ensures.room c.in-Some.ensures.bound some (ap (λ (l : List ℕ). take c.in-Some.count l) there) read refl c.in-Some.ensures.told in
    led

pub returns-in-Says-clause-hears : goal.returns-in-Says-clause-hears
returns-in-Says-clause-hears g c = λ store.
    let h = seen_held c.args.self.now in
    let ch = c.args.ch in
    let x = (outer_of (g.E.Edge.told c.args.edge.now) (g.E.Edge.heard c.args.edge.now)) in
    let y = (outer_of (g.E.Edge.told c.take_piece.new.edge) (g.E.Edge.heard c.take_piece.new.edge)) in
    let now : HeldNow = record h { clients = c.read_request.new.clients } in
    let some : c.in-Some.count ≡ 0 → ⊥ = search rules in
    let there : c.deref.result.now ≡ c.take_piece.new.buffer =
    c.deref.ensures.value
    ∙ with_items_is c.args.self.now.buffer c.take_piece.new.buffer (c.take_piece.ensures.room ∙ sym c.requires.held.room ∙ ap (λ (l : List ℕ). length l) (sym c.deref_mut.ensures.value) ∙ c.deref_mut.ensures.len) in
    let piece : List ℕ = take c.in-Some.count c.deref.result.now in
    let read = subst (λ (r : Request). ReadsOn ch piece h.clients c.read_request.new.clients r) c.in-Says.is c.in_ok-read_request.ensures.reads in
    let led =
    told_request store h ch c.requires.settled x y now c.take_piece.new.buffer c.in-Some.count piece (Says c.in-Says.input) c.requires.reading c.take_piece.ensures.room c.in-Some.ensures.bound some (ap (λ (l : List ℕ). take c.in-Some.count l) there) read refl c.in-Some.ensures.told in
    led

pub returns-in-Bad-clause-hears : goal.returns-in-Bad-clause-hears
returns-in-Bad-clause-hears g c = λ store.
    let h = seen_held c.args.self.now in
    let ch = c.args.ch in
    let x = (outer_of (g.E.Edge.told c.args.edge.now) (g.E.Edge.heard c.args.edge.now)) in
    let y = (outer_of (g.E.Edge.told c.take_piece.new.edge) (g.E.Edge.heard c.take_piece.new.edge)) in
    let now : HeldNow = record h { clients = c.read_request.new.clients } in
    let some : c.in-Some.count ≡ 0 → ⊥ = search rules in
    let there : c.deref.result.now ≡ c.take_piece.new.buffer =
    c.deref.ensures.value
    ∙ with_items_is c.args.self.now.buffer c.take_piece.new.buffer (c.take_piece.ensures.room ∙ sym c.requires.held.room ∙ ap (λ (l : List ℕ). length l) (sym c.deref_mut.ensures.value) ∙ c.deref_mut.ensures.len) in
    let piece : List ℕ = take c.in-Some.count c.deref.result.now in
    let read = subst (λ (r : Request). ReadsOn ch piece h.clients c.read_request.new.clients r) c.in-Bad.is c.in_ok-read_request.ensures.reads in
    let led =
    told_request store h ch c.requires.settled x y now c.take_piece.new.buffer c.in-Some.count piece (Bad c.in-Bad.text) c.requires.reading c.take_piece.ensures.room c.in-Some.ensures.bound some (ap (λ (l : List ℕ). take c.in-Some.count l) there) read refl c.in-Some.ensures.told in
    let last = seen_held c.answer_client.new.self in
    let z = (outer_of (g.E.Edge.told c.answer_client.new.edge) (g.E.Edge.heard c.answer_client.new.edge)) in
    told_on_then (taking store h ch) (sending store now [] (to_reply ch c.in-Bad.text.items ∷ [])) (idle store last) x y z led
    (told_replied store now last ch c.in-Bad.text.items c.deref-in-Bad.result.now [] y z c.deref-in-Bad.ensures.value c.answer_client.ensures.now (c.answer_client.ensures.sends store.core.state.count [] now.served))
