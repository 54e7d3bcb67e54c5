use Rattle.std.proofs.Common.{sym, ◌∙◌}
use Rattle.iss_event.specs.ReportLines.{counts_text, counts_piece}
use Rattle.iss_event.proofs.ReportTexts.{whole, counts, counts_as}
use Rattle.iss_event.proofs.report.count_line.Goals as goal

pub returns-clause-text : goal.returns-clause-text
returns-clause-text c =
    whole c.put_counts.new.out.items c.new-line.result.items (counts_piece c.args.calls c.args.notices c.args.records) (counts_text c.args.calls c.args.notices c.args.records)
    c.new-line.ensures.items c.in_ok-put_counts.ensures (sym (counts c.args.calls c.args.notices c.args.records))

pub returns-clause-of_facts : goal.returns-clause-of_facts
returns-clause-of_facts c =
    λ f are.
    whole c.put_counts.new.out.items c.new-line.result.items (counts_piece c.args.calls c.args.notices c.args.records) (counts_text c.args.calls c.args.notices c.args.records)
    c.new-line.ensures.items c.in_ok-put_counts.ensures (sym (counts c.args.calls c.args.notices c.args.records))
    ∙ counts_as f c.args.calls c.args.notices c.args.records are
