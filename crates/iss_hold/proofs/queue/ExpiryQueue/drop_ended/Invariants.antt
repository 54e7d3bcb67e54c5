use Rattle.std.proofs.Common.{length}
use Rattle.iss_hold.specs.Indexes.{AreInOrder}
use Rattle.iss_hold.proofs.queue.ExpiryQueue.drop_ended.Given as goal

abbrev pub invariant-ended : goal.invariant-ended
invariant-ended l = AreInOrder l.holds l.self.places.items l.self.late

abbrev pub decreases-ended : goal.decreases-ended
decreases-ended l = length l.self.places.items
