use Rattle.std.proofs.Common.{◌≡◌, drop}
use Rattle.iss_well_formed.specs.Notices.{do_notices_rise}
use Rattle.iss_sound_parts.proofs.notices.do_rise.Given as goal

abbrev pub invariant-loop-notice : goal.invariant-loop-notice
invariant-loop-notice l = do_notices_rise l.last l.made (drop l.notice-index l.notices) ≡ do_notices_rise 0 l.made l.notices
