use Rattle.iss_exchange.proofs.Becoming.{becomes_same_if, comes_there, found_there, nothing_comes, sendable_at}
use Rattle.iss_exchange.proofs.sides.Sides.reach_gateway.Goals as goal

pub hear-requires-clause-sendable : goal.hear-requires-clause-sendable
hear-requires-clause-sendable c =
    sendable_at c.args.place c.args.self.sent.items c.in-Some.what
    (found_there c.args.place c.args.self.sent.items _ _ _ c.deref.ensures.value c.sent_at.ensures c.in-Some.is) c.requires.orderly.sendable

pub returns-in-Some : goal.returns-in-Some
returns-in-Some c =
    becomes_same_if c.args.self c.hear.result _ _
    (comes_there c.args.self c.args.place c.in-Some.what
    (found_there c.args.place c.args.self.sent.items _ _ _ c.deref.ensures.value c.sent_at.ensures c.in-Some.is))
    c.hear.ensures

pub returns-in-None : goal.returns-in-None
returns-in-None c =
    nothing_comes c.args.self c.args.place
    (found_there c.args.place c.args.self.sent.items _ _ _ c.deref.ensures.value c.sent_at.ensures c.in-None.is) c.requires.standing
