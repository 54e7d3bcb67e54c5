use Rattle.std.proofs.Common.{rules, ◌≡◌, Err}
use Rattle.iss_edge.specs.World.{Told}
use Rattle.iss_opening.specs.Values.{StoreNow}
use Rattle.iss_opening.specs.Opening.{ReadsAlone}
use Rattle.iss_opening.proofs.ToldReadings.{disk_refuses_none}
use Rattle.iss_follow_catch.proofs.Beside.{told_ahead, told_closes}
use Rattle.iss_follow_catch.proofs.ahead.open_ahead.Goals as goal

pub returns-in_err-opened-clause-moments : goal.returns-in_err-opened-clause-moments
returns-in_err-opened-clause-moments g c =
    told_closes c.in_ok-beside.beside.reading c.args.other.now c.in_ok-beside.beside.met c.in_ok-beside.beside.later.items
    (g.E.Edge.told c.args.edge.now) (g.E.Edge.told c.read_beside.new.edge) (g.E.Edge.told c.finish.new.edge) c.in_ok-beside.ensures.reads c.finish.ensures.moments

pub returns-in_err-opened-clause-refused : goal.returns-in_err-opened-clause-refused
returns-in_err-opened-clause-refused g c =
    let failed : c.from_residual-in_err-opened.result ≡ Err c.in_err-opened.field-0.0 = search rules in
    rw failed (
    disk_refuses_none StoreNow StoreNow c.in_err-opened.field-0.0 (Told ReadsAlone (g.E.Edge.told c.args.edge.now) (g.E.Edge.told c.finish.new.edge)) c.in_err-opened.ensures.alone
    )

pub returns-clause-moments : goal.returns-clause-moments
returns-clause-moments g c =
    told_closes c.in_ok-beside.beside.reading c.args.other.now c.in_ok-beside.beside.met c.in_ok-beside.beside.later.items
    (g.E.Edge.told c.args.edge.now) (g.E.Edge.told c.read_beside.new.edge) (g.E.Edge.told c.finish.new.edge) c.in_ok-beside.ensures.reads c.finish.ensures.moments

pub returns-clause-ahead : goal.returns-clause-ahead
returns-clause-ahead g c =
    told_ahead c.in_ok-beside.beside.reading c.in_ok-opened.opened c.args.other.now c.in_ok-beside.beside.met c.in_ok-beside.beside.later.items
    (g.E.Edge.told c.args.edge.now) (g.E.Edge.told c.read_beside.new.edge) (g.E.Edge.told c.finish.new.edge)
    c.in_ok-opened.ensures.value c.in_ok-beside.ensures.reads c.finish.ensures.moments c.in_ok-opened.ensures.closed
