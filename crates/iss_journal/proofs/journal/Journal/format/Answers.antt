use Rattle.std.proofs.Common.{rules}
use Rattle.iss_journal.proofs.Formats.{format_first, format_second, format_third, format_done, format_done_good}
use Rattle.iss_journal.proofs.journal.Journal.format.Goals as goal

pub returns-in_err-put-clause-moments : goal.returns-in_err-put-clause-moments
returns-in_err-put-clause-moments g c =
    format_first c.args.instance (g.E.Edge.extent c.args.edge.now) c.requires.least (g.E.Edge.told c.args.edge.now) (g.E.Edge.told c.put.new.edge) (search rules) c.in_err-put.ensures.part

pub returns-in_err-put-2-clause-moments : goal.returns-in_err-put-2-clause-moments
returns-in_err-put-2-clause-moments g c =
    format_second c.args.instance (g.E.Edge.extent c.args.edge.now) c.requires.least c.tail_of-tail.result (g.E.Edge.told c.args.edge.now) (g.E.Edge.told c.put.new.edge) (g.E.Edge.told c.put-2.new.edge) c.tail_of-tail.ensures (search rules) c.in_ok-put.ensures.done c.in_err-put-2.ensures.part

pub returns-in_err-put-3-clause-moments : goal.returns-in_err-put-3-clause-moments
returns-in_err-put-3-clause-moments g c =
    format_third c.args.instance (g.E.Edge.extent c.args.edge.now) c.requires.least c.tail_of-tail.result (g.E.Edge.told c.args.edge.now) (g.E.Edge.told c.put.new.edge) (g.E.Edge.told c.put-2.new.edge) (g.E.Edge.told c.put-3.new.edge) c.tail_of-tail.ensures (search rules) c.in_ok-put.ensures.done c.in_ok-put-2.ensures.done c.in_err-put-3.ensures.part

pub returns-clause-moments : goal.returns-clause-moments
returns-clause-moments g c =
    format_done_good c.args.instance (g.E.Edge.extent c.args.edge.now) c.requires.least c.tail_of-tail.result (g.E.Edge.told c.args.edge.now) (g.E.Edge.told c.put.new.edge) (g.E.Edge.told c.put-2.new.edge) (g.E.Edge.told c.put-3.new.edge) c.tail_of-tail.ensures (search rules) c.in_ok-put.ensures.done c.in_ok-put-2.ensures.done c.in_ok-put-3.ensures.done

pub returns-clause-formatted : goal.returns-clause-formatted
returns-clause-formatted g c =
    format_done c.args.instance (g.E.Edge.extent c.args.edge.now) c.requires.least c.tail_of-tail.result (g.E.Edge.told c.args.edge.now) (g.E.Edge.told c.put.new.edge) (g.E.Edge.told c.put-2.new.edge) (g.E.Edge.told c.put-3.new.edge) c.requires.most c.requires.small c.tail_of-tail.ensures (search rules) c.in_ok-put.ensures.done c.in_ok-put-2.ensures.done c.in_ok-put-3.ensures.done
