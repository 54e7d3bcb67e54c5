use Rattle.std.proofs.Common.{◌<◌, length, arith, ◌∙◌, sym}
use Rattle.iss_edge.proofs.Pieces.{taken_amid}
use Rattle.iss_edge.proofs.memory.network.pass_next.Goals as goal

pub returns-then-has_more_on : goal.returns-then-has_more_on
returns-then-has_more_on c =
    let l = c.loop-piece in
    let within : l.piece-index < length l.pieces = omega (arith, l.auto.pieces, c.loop-piece-test.true) in
    taken_amid c.args.ch.0 c.args.count l.piece-index l.pieces c.piece-item.result c.pass.new.self within (sym c.has_more_on.ensures ∙ c.if-has_more_on.true) c.pass.ensures
    ∙ l.invariant.passes
