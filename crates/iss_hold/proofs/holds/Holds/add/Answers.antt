use Rattle.iss_hold.proofs.HoldCalls.{more_low, more_fits, added}
use Rattle.iss_hold.proofs.holds.Holds.add.Goals as goal

pub with_more-more-requires : goal.with_more-more-requires
with_more-more-requires c = more_fits c.hold_of-place.ensures c.self.view_is c.args.part c.args.amount c.requires.small

pub change-requires-clause-low : goal.change-requires-clause-low
change-requires-clause-low c = more_low c.hold_of-place.ensures c.self.view_is c.args.part c.args.amount c.with_more-more.ensures c.requires.small

pub returns : goal.returns
returns c = added c.hold_of-place.ensures c.self.view_is c.args.part c.args.amount c.with_more-more.ensures c.change.ensures.put
