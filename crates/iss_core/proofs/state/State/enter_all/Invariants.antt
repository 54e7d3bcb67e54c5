use Rattle.std.proofs.Common.{◌≡◌, fold, drop}
use Rattle.iss_model.specs.state.Cores.{after_entry}
use Rattle.iss_core.specs.States.{kept_state}
use Rattle.iss_core.specs.Entering.{MayAllEnter}
use Rattle.iss_core.proofs.state.State.enter_all.Given as goal

abbrev pub invariant-loop-entry : goal.invariant-loop-entry
invariant-loop-entry l = record {
  entered : fold after_entry (kept_state l.self) (drop l.entry-index l.entries) ≡ fold after_entry (kept_state l.fn.self) l.entries;
  may : MayAllEnter (kept_state l.self) (drop l.entry-index l.entries);
}
