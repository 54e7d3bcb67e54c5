use Rattle.std.proofs.Common.{arith}
use Rattle.iss_drill.proofs.Blanks.{written_with, part_with}
use Rattle.iss_drill.proofs.blank.BlankEdge.write_at.Goals as goal

pub returns-clause-written : goal.returns-clause-written
returns-clause-written c =
    written_with c.write_at.result c.args.self.now.size c.args.at c.args.bytes.now _ _ c.requires
    (omega (arith, c.keeps.ensures c.if-not-keeps.false, c.args.self.now.first.device.ok.0)) c.write_at.ensures.written

pub returns-clause-part : goal.returns-clause-part
returns-clause-part c =
    part_with c.write_at.result c.args.self.now.size c.args.at c.args.bytes.now _ _ c.requires
    (omega (arith, c.keeps.ensures c.if-not-keeps.false, c.args.self.now.first.device.ok.0)) c.write_at.ensures.part
