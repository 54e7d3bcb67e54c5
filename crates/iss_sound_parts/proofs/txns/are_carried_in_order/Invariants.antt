use Rattle.std.proofs.Common.{◌≡◌, drop}
use Rattle.std.specs.List.{list_all}
use Rattle.iss_sound_parts.specs.Txns.{is_carried_in_order}
use Rattle.iss_sound_parts.proofs.txns.are_carried_in_order.Given as goal

abbrev pub invariant-loop-carried : goal.invariant-loop-carried
invariant-loop-carried l =
    list_all (is_carried_in_order l.known.txns l.asked) (drop l.carried-index l.txns) ≡ list_all (is_carried_in_order l.known.txns l.asked) l.txns
