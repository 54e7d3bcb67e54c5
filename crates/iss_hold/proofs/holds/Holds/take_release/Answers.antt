use Rattle.iss_model.specs.rules.Pieces.{taken_to_release}
use Rattle.iss_hold.specs.Entries.{release_unhold_entries, parts_taken}
use Rattle.iss_hold.proofs.HoldCalls.{left_low, taken_there, told_there, releasing}
use Rattle.iss_hold.proofs.holds.Holds.take_release.Goals as goal

pub change-requires-clause-low : goal.change-requires-clause-low
change-requires-clause-low c = left_low c.hold_of-place.ensures c.self.invariant.summed (parts_taken c.taken_to_release-taken.result) c.without-left.ensures

pub returns-clause-holdings : goal.returns-clause-holdings
returns-clause-holdings c =
    taken_there c.hold_of-place.ensures c.self.view_is taken_to_release release_unhold_entries c.args.amount releasing c.self.invariant.distinct c.taken_to_release-taken.ensures c.without-left.ensures c.change.ensures.put

pub returns-clause-taken : goal.returns-clause-taken
returns-clause-taken c = told_there c.hold_of-place.ensures c.self.view_is taken_to_release c.args.amount c.self.invariant.distinct c.taken_to_release-taken.ensures
