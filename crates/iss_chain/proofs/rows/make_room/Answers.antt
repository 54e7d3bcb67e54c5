use Rattle.iss_chain.proofs.RowPlaces.{roomed_none, roomed_more, stands_within}
use Rattle.iss_chain.proofs.rows.make_room.Goals as goal

pub loop-sums-init : goal.loop-sums-init
loop-sums-init c = roomed_none c.args.sums.now.items c.args.place
