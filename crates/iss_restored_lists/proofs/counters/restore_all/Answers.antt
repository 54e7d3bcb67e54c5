use Rattle.std.proofs.Common.{arith, refl}
use Rattle.iss_restored_lists.proofs.CountersAgain.{begins, goes_on, may, over}
use Rattle.iss_restored_lists.proofs.counters.restore_all.Goals as goal

pub loop-counter-init : goal.loop-counter-init
loop-counter-init c = begins c.args.known.now.txns c.args.counters.now c.args.controls.now c.args.controls.now refl c.requires

pub restore-requires : goal.restore-requires
restore-requires c =
    may c.args.known.now.txns c.args.counters.now c.loop-counter.counter-index c.counter-item.result (omega arith) c.counter-item.is
    c.args.controls.now c.loop-counter.controls c.requires c.loop-counter.invariant

pub loop-counter-preserved : goal.loop-counter-preserved
loop-counter-preserved c =
    goes_on c.args.known.now.txns c.args.counters.now c.loop-counter.counter-index c.counter-item.result (omega arith) c.counter-item.is
    c.args.controls.now c.loop-counter.controls c.requires c.loop-counter.invariant c.restore.new.controls c.in_ok-restore.ensures

pub returns : goal.returns
returns c = over c.args.known.now.txns c.args.counters.now c.args.controls.now c.loop-counter.controls c.loop-counter.counter-index (omega arith) c.loop-counter.invariant
