use Rattle.std.proofs.Common.{◌≡◌, true, List, subst, sym}
use Rattle.iss_channels.specs.Placed.{things_of}
use Rattle.iss_session.specs.Sessions.{OpenRequest}
use Rattle.iss_session.specs.Hearings.{is_reading}
use Rattle.iss_clients.proofs.Feeding.{none_reads, fed_body, fed_fault, fed_kept, fed_others}
use Rattle.iss_clients.proofs.clients.Clients.feed.Goals as goal

pub unreachable-requires : goal.unreachable-requires
unreachable-requires g c =
    none_reads c.args.ch (things_of c.self.inside.clients) c.in_default.ensures.none (subst (λ (clients : List OpenRequest). is_reading c.args.ch clients ≡ true) (sym c.self.view_is) c.requires.reading)

pub returns-clause-body : goal.returns-clause-body
returns-clause-body g c =
    rw (← c.self.view_is)
    (fed_body c.args.ch (g.R.ReadsRequest.reads) (λ text. text.items) c.args.piece.now c.in-Some.said (things_of c.self.inside.clients) (things_of c.receive.new.self) c.in-Some.ensures.received)

pub returns-clause-fault : goal.returns-clause-fault
returns-clause-fault g c =
    rw (← c.self.view_is)
    (fed_fault c.args.ch (g.R.ReadsRequest.reads) (λ text. text.items) c.args.piece.now c.in-Some.said (things_of c.self.inside.clients) (things_of c.receive.new.self) c.in-Some.ensures.received)

pub returns-clause-kept : goal.returns-clause-kept
returns-clause-kept g c =
    rw (← c.self.view_is)
    (fed_kept c.args.ch (g.R.ReadsRequest.reads) (λ text. text.items) c.args.piece.now c.in-Some.said (things_of c.self.inside.clients) (things_of c.receive.new.self) c.in-Some.ensures.received)

pub returns-clause-others : goal.returns-clause-others
returns-clause-others g c =
    rw (← c.self.view_is)
    (fed_others c.args.ch (g.R.ReadsRequest.reads) (λ text. text.items) c.args.piece.now c.in-Some.said (things_of c.self.inside.clients) (things_of c.receive.new.self) c.in-Some.ensures.received)
