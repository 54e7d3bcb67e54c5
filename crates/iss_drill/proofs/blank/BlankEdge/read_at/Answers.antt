use Rattle.std.proofs.Common.{rules, ◌≡◌, length, arith}
use Rattle.iss_drill.proofs.Blanks.{read_with}
use Rattle.iss_drill.proofs.blank.BlankEdge.read_at.Goals as goal

pub returns-clause-read : goal.returns-clause-read
returns-clause-read c =
    let same : length c.read_at.new.buf ≡ length c.args.buf.now = search rules in
    let kept = c.keeps.ensures c.if-not-keeps.false in
    read_with c.read_at.result c.args.self.now.size c.args.at c.read_at.new.buf _ _ (omega (arith, same, c.requires))
    (omega (arith, same, kept, c.args.self.now.first.device.ok.0)) c.read_at.ensures.read
