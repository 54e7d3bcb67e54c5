use Rattle.iss_state.proofs.effects.Effects.{end_effect, less_held_effect, more_held_effect}
use Rattle.iss_state.proofs.entries.entries_move_what_is_at_stake.Goals as goal

pub returns-clause-more_held : goal.returns-clause-more_held
returns-clause-more_held c = more_held_effect

pub returns-clause-less_held : goal.returns-clause-less_held
returns-clause-less_held c = less_held_effect

pub returns-clause-ended : goal.returns-clause-ended
returns-clause-ended c = end_effect
