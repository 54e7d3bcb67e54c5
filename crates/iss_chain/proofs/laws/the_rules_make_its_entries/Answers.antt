use Rattle.iss_chain.proofs.AmongRules.{funded_of, partly_of, stood_of, reversed_of, cleared_of, refunded_of, ended_of}
use Rattle.iss_chain.proofs.laws.the_rules_make_its_entries.Goals as goal

pub returns-clause-funded : goal.returns-clause-funded
returns-clause-funded c = funded_of

pub returns-clause-partly : goal.returns-clause-partly
returns-clause-partly c = partly_of

pub returns-clause-stood : goal.returns-clause-stood
returns-clause-stood c = stood_of

pub returns-clause-reversed : goal.returns-clause-reversed
returns-clause-reversed c = reversed_of

pub returns-clause-cleared : goal.returns-clause-cleared
returns-clause-cleared c = cleared_of

pub returns-clause-refunded : goal.returns-clause-refunded
returns-clause-refunded c = refunded_of

pub returns-clause-ended : goal.returns-clause-ended
returns-clause-ended c = ended_of
