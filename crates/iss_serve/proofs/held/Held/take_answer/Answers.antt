use Rattle.std.proofs.Common.{refl}
use Rattle.iss_edge.specs.Outer.{outer_of}
use Rattle.iss_edge.specs.World.{Told}
use Rattle.iss_link.specs.Values.{heard_of}
use Rattle.iss_serve.specs.Held.{HeldNow, seen_held, queued_maybe, taking}
use Rattle.iss_serve.specs.Runs.{ServesSome}
use Rattle.iss_serve.proofs.Causings.{anyway}
use Rattle.iss_serve.proofs.Numbering.{answer_in_form, left_numbered}
use Rattle.iss_serve.proofs.Hears.{told_link_heard, told_link_some}
use Rattle.iss_serve.proofs.held.Held.take_answer.Goals as goal

pub returns-in_err-heard-clause-part : goal.returns-in_err-heard-clause-part
returns-in_err-heard-clause-part g c = λ store own.
    let x = (outer_of (g.E.Edge.told c.args.edge.now) (g.E.Edge.heard c.args.edge.now)) in
    let y = (outer_of (g.E.Edge.told c.ready.new.edge) (g.E.Edge.heard c.ready.new.edge)) in
    anyway c.from_residual.result (Told (ServesSome ⊥ (taking store (seen_held c.args.self.now) c.args.ch)) x y)
    (told_link_some store (seen_held c.args.self.now) c.args.ch c.requires.settled x y c.ready.new.self _ _ _ _ c.in_err-heard.ensures.listens)

pub queued_of-requires : goal.queued_of-requires
queued_of-requires g c = record {
  form =
      answer_in_form c.args.self.now.links c.ready.new.self c.args.ch c.in_ok-heard.ensures.listens.got (heard_of c.in_ok-heard.heard) c.in_ok-heard.ensures.listens.answers
      c.requires.held.links;
}

pub returns-clause-still : goal.returns-clause-still
returns-clause-still g c = record {
  clock = refl;
  routes = refl;
  room = refl;
  instance = c.in_ok-heard.ensures.listens.answers.instance;
  turns = refl;
  calls = λ k. k;
  links = λ k.
      left_numbered c.args.self.now.links c.ready.new.self c.args.ch c.in_ok-heard.ensures.listens.got (heard_of c.in_ok-heard.heard) c.in_ok-heard.ensures.listens.answers k;
}

pub returns-clause-hears : goal.returns-clause-hears
returns-clause-hears g c = λ store own.
    let x = (outer_of (g.E.Edge.told c.args.edge.now) (g.E.Edge.heard c.args.edge.now)) in
    let y = (outer_of (g.E.Edge.told c.ready.new.edge) (g.E.Edge.heard c.ready.new.edge)) in
    let h = seen_held c.args.self.now in
    let now : HeldNow = record h { links = c.ready.new.self } in
    told_link_heard store h c.args.ch c.requires.settled x y now c.in_ok-heard.heard (queued_maybe c.queued_of.result) _ _ _ c.requires.no_client c.requires.none_waits own c.queued_of.ensures.queued refl
    c.in_ok-heard.ensures.listens
