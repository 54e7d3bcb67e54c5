use Rattle.std.proofs.Common.{◌≡◌, drop}
use Rattle.std.specs.Prelude.{option_map, None}
use Rattle.iss_named.specs.Counters.{place_of_counter}
use Rattle.iss_sound_parts.specs.Rising.{do_follow, key_of}
use Rattle.iss_sound_parts.proofs.places.do_follow.Given as goal

abbrev pub invariant-loop-counter : goal.invariant-loop-counter
invariant-loop-counter l =
    do_follow (place_of_counter l.known.txns) (option_map key_of l.before) (drop l.counter-index l.counters) ≡ do_follow (place_of_counter l.known.txns) None l.counters
