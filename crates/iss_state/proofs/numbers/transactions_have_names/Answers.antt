use Rattle.iss_state.proofs.invariants.Legal.{names_accepted, names_distinct, origins_before, unbegun_holds_nothing}
use Rattle.iss_state.proofs.numbers.transactions_have_names.Goals as goal

pub returns-clause-distinct : goal.returns-clause-distinct
returns-clause-distinct c = names_distinct

pub returns-clause-accepted : goal.returns-clause-accepted
returns-clause-accepted c = names_accepted

pub returns-clause-origins : goal.returns-clause-origins
returns-clause-origins c = origins_before

pub returns-clause-unbegun : goal.returns-clause-unbegun
returns-clause-unbegun c = unbegun_holds_nothing
