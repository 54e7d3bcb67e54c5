use Rattle.std.proofs.Common.{◌≡◌, ◌<◌, length, arith}
use Rattle.iss_velocity.specs.Puts.{standing_after_change}
use Rattle.iss_velocity.proofs.Adding.{next_changed, all_changed_at}
use Rattle.iss_velocity.proofs.table.change_all.Goals as goal

pub loop-i-preserved : goal.loop-i-preserved
loop-i-preserved c =
    let len = c.args.controls.now.ok.0 in
    let below : c.loop-i.i < length c.args.controls.now.items = omega (arith, len) in
    next_changed (standing_after_change c.args.name.now c.args.change.now) c.loop-i.i c.args.controls.now.items c.loop-i.controls.items c.index.result.now c.after.result
    c.loop-i.invariant below c.index.ensures c.after.ensures

pub returns : goal.returns
returns c =
    let len = c.args.controls.now.ok.0 in
    let end : c.loop-i.i ≡ length c.args.controls.now.items = omega (arith, len) in
    all_changed_at (standing_after_change c.args.name.now c.args.change.now) c.loop-i.i c.args.controls.now.items c.loop-i.controls.items c.loop-i.invariant end
