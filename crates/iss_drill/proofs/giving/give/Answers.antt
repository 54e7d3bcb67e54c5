use Rattle.iss_drill.proofs.Given.{given_more}
use Rattle.iss_drill.proofs.giving.give.Goals as goal

pub returns-clause-given : goal.returns-clause-given
returns-clause-given g c =
    λ start lines o e given.
    given_more start lines o c.args.input.now c.args.at c.args.tally.now c.take.new.tally c.args.store c.in_ok-taken.taken.0 c.in_ok-taken.taken.1 e given
    c.in_ok-taken.ensures.lines c.in_ok-taken.ensures.takes
