use Rattle.iss_link.proofs.Causing.{unfinished_only, connection_only, application_exactly, refused_exactly, part_exactly, acknowledged_exactly, dropped_exactly}
use Rattle.iss_link.proofs.laws.answers_are_caused.Goals as goal

pub returns-clause-unfinished : goal.returns-clause-unfinished
returns-clause-unfinished c = unfinished_only

pub returns-clause-connection : goal.returns-clause-connection
returns-clause-connection c = connection_only

pub returns-clause-application : goal.returns-clause-application
returns-clause-application c = application_exactly

pub returns-clause-refused : goal.returns-clause-refused
returns-clause-refused c = refused_exactly

pub returns-clause-part : goal.returns-clause-part
returns-clause-part c = part_exactly

pub returns-clause-acknowledged : goal.returns-clause-acknowledged
returns-clause-acknowledged c = acknowledged_exactly

pub returns-clause-dropped : goal.returns-clause-dropped
returns-clause-dropped c = dropped_exactly
