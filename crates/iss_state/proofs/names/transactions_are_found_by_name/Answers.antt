use Rattle.iss_state.proofs.effects.FoundByName.{later_unlike, named_found, standing_found, unnamed_missed}
use Rattle.iss_state.proofs.names.transactions_are_found_by_name.Goals as goal

pub returns-clause-named : goal.returns-clause-named
returns-clause-named c = named_found

pub returns-clause-unnamed : goal.returns-clause-unnamed
returns-clause-unnamed c = unnamed_missed

pub returns-clause-standing : goal.returns-clause-standing
returns-clause-standing c = standing_found

pub returns-clause-later : goal.returns-clause-later
returns-clause-later c = later_unlike
