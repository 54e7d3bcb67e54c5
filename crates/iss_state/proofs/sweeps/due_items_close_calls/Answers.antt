use Rattle.iss_state.proofs.calls.CallsAfterDue.{closed_stays_closed, left_as_it_is, no_opening, still_asked, unknown_stays}
use Rattle.iss_state.proofs.sweeps.due_items_close_calls.Goals as goal

pub returns-clause-opened : goal.returns-clause-opened
returns-clause-opened c = no_opening

pub returns-clause-unknown : goal.returns-clause-unknown
returns-clause-unknown c = unknown_stays

pub returns-clause-closed : goal.returns-clause-closed
returns-clause-closed c = closed_stays_closed

pub returns-clause-asked : goal.returns-clause-asked
returns-clause-asked c = still_asked

pub returns-clause-left : goal.returns-clause-left
returns-clause-left c = left_as_it_is
