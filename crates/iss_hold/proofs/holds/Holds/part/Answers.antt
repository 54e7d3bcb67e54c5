use Rattle.std.proofs.Common.{◌<◌, ◌^◌, pos, w64, ap, ◌∙◌, arith}
use Rattle.std.proofs.lemmas.Int.{to_z_pos}
use Rattle.iss_hold.proofs.HoldCalls.{part_small, part_there}
use Rattle.iss_hold.proofs.holds.Holds.part.Goals as goal

pub overflow_cast-result : goal.overflow_cast-result
overflow_cast-result c =
    let small = part_small c.hold_of-hold.ensures c.self.invariant.summed c.args.part in
    let is = c.part.ensures in
    omega arith

pub returns : goal.returns
returns c =
    let small = part_small c.hold_of-hold.ensures c.self.invariant.summed c.args.part in
    let is = c.part.ensures in
    let fits : c.part.result < 2 ^ 63 = omega arith in
    to_z_pos w64 c.part.result fits ∙ ap pos is ∙ part_there c.hold_of-hold.ensures c.self.view_is c.self.invariant.distinct c.args.part
