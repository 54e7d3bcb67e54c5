use Rattle.std.proofs.Common.{List, ap, subst, ◌∙◌}
use Rattle.iss_model.specs.declared.entry.Entry.{Entry}
use Rattle.iss_drill.specs.Drills.{call_opened}
use Rattle.iss_drill.specs.Tallies.{Counts}
use Rattle.iss_drill.proofs.Given.{kept, kept_few, opened_numbered}
use Rattle.iss_drill.proofs.giving.keep.Goals as goal

pub returns-in-Ok-release-clause-keeps : goal.returns-in-Ok-release-clause-keeps
returns-in-Ok-release-clause-keeps g c =
    λ run at.
    kept c.args.store c.in-Ok.next c.args.planned c.in-Ok.durable run c.args.tally.now c.count.new.self c.call_opened-opened.result
    c.in-Ok.ensures.on_book
    (subst (λ (es : List Entry). Counts es c.args.tally.now c.count.new.self) c.entries.ensures.value c.count.ensures)
    (c.call_opened-opened.ensures ∙ ap (λ (es : List Entry). call_opened es) c.entries-2.ensures.value) at

pub returns-in-Ok-release-clause-numbered : goal.returns-in-Ok-release-clause-numbered
returns-in-Ok-release-clause-numbered g c = opened_numbered c.entries-2.result.now c.call_opened-opened.result c.call_opened-opened.ensures c.entries-2.ensures.numbered

pub returns-in-Ok-release-clause-few : goal.returns-in-Ok-release-clause-few
returns-in-Ok-release-clause-few g c =
    kept_few c.args.tally.now.lines c.args.tally.now c.count.new.self c.entries.result.now c.entries.type_inv.0 c.requires.few c.count.ensures
