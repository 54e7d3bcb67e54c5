use Rattle.iss_model.specs.rules.Histories.{history_keeper, history_of}
use Rattle.iss_model.specs.state.Cores.{core_keeper, core_of}
use Rattle.iss_agreement.proofs.JudgedAgain.{new_again, clock_again}
use Rattle.iss_agreement.proofs.agreement.judging_is_stable.Goals as goal

pub returns-clause-book : goal.returns-clause-book
returns-clause-book c rs = new_again history_keeper (history_of rs)

pub returns-clause-book_clock : goal.returns-clause-book_clock
returns-clause-book_clock c rs = clock_again history_keeper (history_of rs)

pub returns-clause-state : goal.returns-clause-state
returns-clause-state c rs = new_again core_keeper (core_of rs)

pub returns-clause-state_clock : goal.returns-clause-state_clock
returns-clause-state_clock c rs = clock_again core_keeper (core_of rs)
