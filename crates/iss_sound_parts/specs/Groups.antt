-- Counters in groups, one after the other in the order of the controls, and what is tested of a group.
use Rattle.std.specs.Prelude.{ℕ, Bool, ◌&&◌, ◌==◌, List, [], ◌∷◌, length, take, drop, nat_le, None, is_some}
use Rattle.std.specs.List.{list_all, prefix_len}
use Rattle.std.specs.Str.{bytes_eq}
use Rattle.iss_model.specs.declared.counted.Counter.{Counter}
use Rattle.iss_model.specs.declared.setting.Window.{Window}
use Rattle.iss_index.specs.Places.{place_of}
use Rattle.iss_named.specs.Counters.{is_span_of, place_of_counter}
use Rattle.iss_known.specs.declared.controls.ControlKnown.{ControlKnown}
use Rattle.iss_known.specs.Known.{KnownNow}
use Rattle.iss_sound_parts.specs.Rising.{do_follow}

-- a counter is of the control of this name
abbrev pub is_counter_of : List ℕ → Counter → Bool
is_counter_of name k = bytes_eq k.control name

-- how many counters at the front are of this control
abbrev pub number_first : List ℕ → List Counter → ℕ
number_first name ks = prefix_len (is_counter_of name) ks

-- Counters stand in groups, one for each of these controls and in their order, and each group passes a test. A group may have
-- no counter.
abbrev pub stand_in_groups : (ControlKnown → List Counter → Bool) → List ControlKnown → List Counter → Bool
stand_in_groups passes [] ks = length ks == 0
stand_in_groups passes (c ∷ cs) ks =
    passes c (take (number_first c.name ks) ks) && stand_in_groups passes cs (drop (number_first c.name ks) ks)

-- a counter is of a known user, with a span of this window
abbrev pub is_known_counter : KnownNow → Window → Counter → Bool
is_known_counter known window k = is_some (place_of k.user known.users) && is_span_of known.txns window k.user k.span

-- The counters of a group are no more than this, known, and in their order.
abbrev pub is_group_sound : KnownNow → ℕ → ControlKnown → List Counter → Bool
is_group_sound known most c ks =
    nat_le (length ks) most
    && (list_all (is_known_counter known c.window) ks && do_follow (place_of_counter known.txns) None ks)
