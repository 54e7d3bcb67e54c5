use Rattle.std.proofs.Common.{◌≡◌, ◌<◌, length, arith}
use Rattle.iss_velocity.specs.Counting.{counter_then}
use Rattle.iss_velocity.proofs.Adding.{element_is, next_changed, all_changed_at}
use Rattle.iss_velocity.proofs.counters.add.Goals as goal

pub counted-requires : goal.counted-requires
counted-requires c =
    let len = c.args.list.now.ok.0 in
    let below : c.loop-i.i < length c.args.list.now.items = omega (arith, len) in
    c.requires.fits c.loop-i.i c.index.result.now
    (element_is (counter_then c.args.controls.now c.args.groups.now c.args.row.now) c.loop-i.i c.args.list.now.items c.loop-i.list.items c.index.result.now c.loop-i.invariant below c.index.ensures)

pub loop-i-preserved : goal.loop-i-preserved
loop-i-preserved c =
    let len = c.args.list.now.ok.0 in
    let below : c.loop-i.i < length c.args.list.now.items = omega (arith, len) in
    next_changed (counter_then c.args.controls.now c.args.groups.now c.args.row.now) c.loop-i.i c.args.list.now.items c.loop-i.list.items c.index.result.now c.counted.result
    c.loop-i.invariant below c.index.ensures c.counted.ensures

pub returns : goal.returns
returns c =
    let len = c.args.list.now.ok.0 in
    let end : c.loop-i.i ≡ length c.args.list.now.items = omega (arith, len) in
    all_changed_at (counter_then c.args.controls.now c.args.groups.now c.args.row.now) c.loop-i.i c.args.list.now.items c.loop-i.list.items c.loop-i.invariant end
