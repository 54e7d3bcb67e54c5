use Rattle.std.proofs.Common.{◌≡◌, rules}
use Rattle.iss_journal.proofs.Formats.{Sized}
use Rattle.iss_top.proofs.Formatted.{other_size_left, format_done, format_failed}
use Rattle.iss_top.proofs.format.format.Goals as goal

pub returns-then-size-clause-ran : goal.returns-then-size-clause-ran
returns-then-size-clause-ran g c =
    other_size_left c.args.size c.args.instance (g.E.Edge.extent c.args.edge.now) (g.E.Edge.faults c.args.edge.now) (g.E.Edge.told c.args.edge.now) (λ same. search rules)

pub returns-in-Ok-clause-ran : goal.returns-in-Ok-clause-ran
returns-in-Ok-clause-ran g c =
    let sized : Sized (g.E.Edge.extent c.args.edge.now) (g.E.Edge.told c.args.edge.now) = search rules in
    let same : g.E.Edge.extent c.args.edge.now ≡ c.args.size = search rules in
    format_done c.args.size c.args.instance (g.E.Edge.extent c.args.edge.now) (g.E.Edge.faults c.args.edge.now) (g.E.Edge.faults c.format.new.edge)
    (g.E.Edge.told c.args.edge.now) (g.E.Edge.told c.format.new.edge) sized same c.requires.least c.requires.most c.requires.small
    (search rules) (search rules) (search rules)

pub returns-in-Err-clause-ran : goal.returns-in-Err-clause-ran
returns-in-Err-clause-ran g c =
    let sized : Sized (g.E.Edge.extent c.args.edge.now) (g.E.Edge.told c.args.edge.now) = search rules in
    let same : g.E.Edge.extent c.args.edge.now ≡ c.args.size = search rules in
    format_failed c.in-Err.field-0 c.args.size c.args.instance (g.E.Edge.extent c.args.edge.now) (g.E.Edge.faults c.args.edge.now) (g.E.Edge.faults c.format.new.edge)
    (g.E.Edge.told c.args.edge.now) (g.E.Edge.told c.format.new.edge) sized same c.requires.least c.requires.most c.requires.small
    (search rules) (search rules) (search rules)
