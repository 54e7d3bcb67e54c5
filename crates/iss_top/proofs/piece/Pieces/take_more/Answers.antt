use Rattle.std.proofs.Common.{◌≡◌, Err, rules}
use Rattle.iss_top.proofs.ToldReading.{told_no_more}
use Rattle.iss_top.proofs.piece.Pieces.take_more.Goals as goal

pub returns-in_err-count-clause-stops : goal.returns-in_err-count-clause-stops
returns-in_err-count-clause-stops g c =
    let failed : c.from_residual.result ≡ Err c.in_err-count.field-0.0 = search rules in
    rw failed (
    told_no_more c.args.self.now.taken c.in_err-count.field-0.0 (g.E.Edge.told c.args.edge.now) (g.E.Edge.told c.take_piece.new.edge) c.in_err-count.ensures.stop c.requires.fit.limit c.in_err-count.ensures.unchanged
    )
