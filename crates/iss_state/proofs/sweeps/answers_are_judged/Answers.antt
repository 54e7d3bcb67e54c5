use Rattle.iss_state.proofs.calls.Answering.{closed_answer, open_answer, unknown_answer}
use Rattle.iss_state.proofs.sweeps.answers_are_judged.Goals as goal

pub returns-clause-unknown : goal.returns-clause-unknown
returns-clause-unknown c = unknown_answer

pub returns-clause-late : goal.returns-clause-late
returns-clause-late c = closed_answer

pub returns-clause-asked : goal.returns-clause-asked
returns-clause-asked c = open_answer
