use Rattle.std.proofs.Common.{◌≡◌, drop}
use Rattle.std.specs.List.{list_all}
use Rattle.iss_sound_events.specs.Done.{is_as_totalled}
use Rattle.iss_sound_events.proofs.sums.are_as_totalled.Given as goal

abbrev pub invariant-loop-carried : goal.invariant-loop-carried
invariant-loop-carried l = list_all (is_as_totalled l.totals) (drop l.carried-index l.txns) ≡ list_all (is_as_totalled l.totals) l.txns
