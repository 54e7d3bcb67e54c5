use Rattle.std.proofs.Common.{◌<◌, ap, subst, sym, ◌∙◌}
use Rattle.iss_gateway.specs.declared.books.TheConstants.{MOST_HEARD}
use Rattle.iss_gateway.specs.Books.{count_of}
use Rattle.iss_exchange.specs.Standing.{shown}
use Rattle.iss_exchange.specs.Values.{ExchangeNow, moved_on}
use Rattle.iss_exchange.proofs.Meeting.{moved_reached, shown_moved}
use Rattle.iss_exchange.proofs.Reaching.{reached_orderly}
use Rattle.iss_exchange.proofs.exchange.Exchange.turn.Goals as goal

pub turn-requires-clause-standing : goal.turn-requires-clause-standing
turn-requires-clause-standing c = c.self.invariant.0

pub turn-requires-clause-orderly : goal.turn-requires-clause-orderly
turn-requires-clause-orderly c = reached_orderly (shown c.self.inside.sides) c.self.invariant.1

pub turn-requires-clause-room : goal.turn-requires-clause-room
turn-requires-clause-room c = subst (λ (x : ExchangeNow). count_of x.now.books < MOST_HEARD) (sym c.self.view_is) c.requires

pub invariant_of-result : goal.invariant_of-result
invariant_of-result c = (c.in_ok-sides.ensures.standing, moved_reached c.self.inside.sides c.in_ok-sides.sides c.args.m.now c.in_ok-sides.ensures c.self.invariant.1)

pub returns : goal.returns
returns c =
    shown_moved c.self.inside.sides c.in_ok-sides.sides c.args.m.now c.in_ok-sides.ensures ∙ ap (λ (x : ExchangeNow). moved_on x c.args.m.now) c.self.view_is
