-- What a test says of a state's events without a core that is made again.
use Rattle.std.specs.Prelude.{◌≡◌, Bool, true, ◌&&◌, nat_le, []}
use Rattle.std.specs.List.{list_all}
use Rattle.iss_model.specs.declared.limits.TheConstants.{MOST_RECORDS}
use Rattle.iss_model.specs.declared.state.Seen.{Seen}
use Rattle.iss_model.specs.declared.state.State.{State}
use Rattle.iss_model.specs.Forms.{is_stamp}
use Rattle.iss_states.specs.Order.{AreInOrder, do_numbers_rise, do_stamps_rise, is_event_record}
use Rattle.iss_well_formed.specs.Events.{AreMarkedWell, ArePendingIfAsked, is_marked_well, is_pending_if_asked}
use Rattle.iss_decided.specs.Verdicts.{do_parts_agree, is_decided_by_kind}
use Rattle.iss_least.specs.Least.{ArePartsOfLeast, is_of_least}
use Rattle.iss_sound_events.specs.Named.{are_named_apart}

-- The events of a state are sound alone, whatever a core makes of them. They are in order, and each is pending exactly if its call is
-- asked. Each mark may stand, and each verdict is one of its event's kind. The parts in a verdict and a mark agree, and are at least the least
-- amount.
pub record AreSoundAlone (s : State) : Type 0 where
  pub order : AreInOrder s
  pub pending : ArePendingIfAsked s
  pub marked : AreMarkedWell s
  pub kinds : list_all is_decided_by_kind s.events ≡ true
  pub parts : list_all do_parts_agree s.events ≡ true
  pub least : ArePartsOfLeast s

-- the events of a state are in order, as a test says it
abbrev pub are_in_order : State → Bool
are_in_order s =
    nat_le s.records MOST_RECORDS
    && is_stamp s.now
    && do_numbers_rise 0 s.records s.events
    && do_stamps_rise 0 s.now s.events
    && list_all is_event_record s.events
    && are_named_apart [] s.events

-- the verdict and the mark of an event may stand on it and go together
abbrev pub is_sound_seen : Seen → Bool
is_sound_seen e = is_pending_if_asked e && is_marked_well e && is_decided_by_kind e && do_parts_agree e && is_of_least e.verdict

-- the events of a state are sound alone, as a test says it
abbrev pub are_sound_alone : State → Bool
are_sound_alone s = list_all is_sound_seen s.events && are_in_order s
