use Rattle.iss_hold.proofs.Restored.{live_low, stays_live, live_there, ends}
use Rattle.iss_hold.proofs.table.Table.restore.Goals as goal

pub change-requires-clause-low : goal.change-requires-clause-low
change-requires-clause-low c =
    live_low c.args.self.now.holds c.start.new.self.holds c.args.txn.now c.args.sums.now c.len-place.result c.live_hold-hold.result
    c.len-place.ensures c.in_ok-start.ensures.started c.live_hold-hold.ensures c.requires.low

pub returns-then-sums-clause-restored : goal.returns-then-sums-clause-restored
returns-then-sums-clause-restored c =
    stays_live c.args.self.now.holds c.start.new.self.holds c.args.txn.now c.args.sums.now c.len-place.result c.live_hold-hold.result
    c.len-place.ensures c.in_ok-start.ensures.started c.live_hold-hold.ensures c.change.ensures.put c.if-sums.true

pub end-requires-clause-there : goal.end-requires-clause-there
end-requires-clause-there c =
    live_there c.args.self.now.holds c.start.new.self.holds c.args.txn.now c.args.sums.now c.len-place.result c.live_hold-hold.result
    c.len-place.ensures c.in_ok-start.ensures.started c.live_hold-hold.ensures c.change.ensures.put

pub returns-clause-restored : goal.returns-clause-restored
returns-clause-restored c =
    ends c.args.self.now.holds c.start.new.self.holds c.args.txn.now c.args.sums.now c.len-place.result c.live_hold-hold.result
    c.len-place.ensures c.in_ok-start.ensures.started c.live_hold-hold.ensures c.change.ensures.put c.end.ensures.ended c.if-sums.false
