use Rattle.std.proofs.Common.{◌≡◌, ◌++◌, map, drop}
use Rattle.iss_model.specs.declared.entry.Entry.TheVariants.{Notice}
use Rattle.iss_store.proofs.serving.put_notices.Given as goal

abbrev pub invariant-loop-notice : goal.invariant-loop-notice
invariant-loop-notice l = l.entries.items ++ map Notice (drop l.notice-index l.notices) ≡ l.initial.entries.items ++ map Notice l.notices
