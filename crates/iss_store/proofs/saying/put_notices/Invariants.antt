use Rattle.std.proofs.Common.{take}
use Rattle.std.specs.List.{flat_map}
use Rattle.iss_texts.specs.TextRows.{Gains}
use Rattle.iss_store.specs.Saying.{notice_texts}
use Rattle.iss_store.proofs.saying.put_notices.Given as goal

abbrev pub invariant-loop-notice : goal.invariant-loop-notice
invariant-loop-notice l = Gains (flat_map (notice_texts l.instance) (take l.notice-index l.notices)) l.initial.texts l.texts
