use Rattle.std.proofs.Common.{arith, []}
use Rattle.std.specs.Option.{option_map}
use Rattle.iss_delivery.proofs.Lists.{put_next}
use Rattle.iss_exchange.specs.Amounts.{amount_noted, shown_amount}
use Rattle.iss_exchange.proofs.gaps.noted_gap.Goals as goal

pub loop-notice-preserved : goal.loop-notice-preserved
loop-notice-preserved c =
    put_next (amount_noted c.args.gateway.now.books c.args.currency) c.args.pending.now c.loop-notice.notice-index c.notice-item.result (option_map shown_amount c.amount_noted.result) []
    c.loop-notice.amounts c.put.new.self (omega arith) c.notice-item.is c.amount_noted.ensures c.loop-notice.invariant c.in_ok-put.ensures
