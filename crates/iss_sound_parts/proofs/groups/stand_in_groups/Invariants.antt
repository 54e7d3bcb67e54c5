use Rattle.std.proofs.Common.{◌≡◌, drop}
use Rattle.iss_sound_parts.specs.Groups.{is_group_sound, stand_in_groups}
use Rattle.iss_sound_parts.proofs.groups.stand_in_groups.Given as goal

abbrev pub invariant-loop-control : goal.invariant-loop-control
invariant-loop-control l =
    stand_in_groups (is_group_sound l.known l.most) (drop l.control-index l.known.controls) l.left
    ≡ stand_in_groups (is_group_sound l.known l.most) l.known.controls l.counters
