use Rattle.iss_core.specs.States.{kept_state}
use Rattle.iss_core.proofs.Arms.{chain_may, undecided_may, use_small}
use Rattle.iss_core.proofs.state.State.enter.Goals as goal

pub decide-requires-clause-undecided : goal.decide-requires-clause-undecided
decide-requires-clause-undecided c = undecided_may (kept_state c.args.self.now) c.args.entry.now c.in-Decided.event c.in-Decided.verdict c.in-Decided.is c.requires

pub note-requires-clause-small : goal.note-requires-clause-small
note-requires-clause-small c = use_small (kept_state c.args.self.now) c.args.entry.now c.in-Usage.row c.in-Usage.is c.requires

pub enter-requires : goal.enter-requires
enter-requires c = chain_may (kept_state c.args.self.now) c.args.entry.now c.requires
