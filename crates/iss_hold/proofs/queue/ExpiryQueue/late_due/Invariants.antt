use Rattle.std.proofs.Common.{List, [], fold}
use Rattle.iss_hold.specs.Expiries.{Expiry, come_of}
use Rattle.iss_hold.specs.Indexes.{names, put_expiry, AreLate}
use Rattle.iss_hold.proofs.Listed.{AreListed}
use Rattle.iss_hold.proofs.queue.ExpiryQueue.late_due.Given as goal

abbrev pub invariant-loop-expiry : goal.invariant-loop-expiry
invariant-loop-expiry l =
    (others : List Expiry) → AreLate l.holds l.self.late others → AreListed (names l.holds) l.now l.expiry-iterator l.due.entries (fold put_expiry [] (come_of l.now others))
