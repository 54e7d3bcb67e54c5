use Rattle.std.proofs.Common.{◌≡◌, ◌↔◌, drop, fold}
use Rattle.iss_states.specs.Settled.{set_part}
use Rattle.iss_well_formed.specs.Events.{AreJudged, with_seen_setting}
use Rattle.iss_core.specs.States.{kept_state}
use Rattle.iss_core.proofs.state.State.take_up_settings.Given as goal

-- what is left is judged and sets as the whole did
abbrev pub invariant-loop-event : goal.invariant-loop-event
invariant-loop-event l = record {
  plain : set_part (kept_state l.self) ≡ kept_state l.self;
  judged : AreJudged (kept_state l.self) (drop l.event-index l.events) ↔ AreJudged (kept_state l.fn.self) l.events;
  set : fold with_seen_setting (kept_state l.self) (drop l.event-index l.events) ≡ fold with_seen_setting (kept_state l.fn.self) l.events;
}
