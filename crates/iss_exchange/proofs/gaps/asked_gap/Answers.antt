use Rattle.std.proofs.Common.{arith, []}
use Rattle.std.specs.Option.{option_map}
use Rattle.iss_delivery.proofs.Lists.{put_next}
use Rattle.iss_exchange.specs.Amounts.{amount_asked, shown_amount}
use Rattle.iss_exchange.proofs.gaps.asked_gap.Goals as goal

pub loop-opened-preserved : goal.loop-opened-preserved
loop-opened-preserved c =
    put_next (amount_asked c.args.instance c.args.gateway.now.books c.args.currency) c.args.asked.now c.loop-opened.opened-index c.opened-item.result (option_map shown_amount c.amount_asked.result) []
    c.loop-opened.amounts c.put.new.self (omega arith) c.opened-item.is c.amount_asked.ensures c.loop-opened.invariant c.in_ok-put.ensures
