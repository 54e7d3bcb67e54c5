use Rattle.std.proofs.Common.{arith, []}
use Rattle.std.specs.Option.{option_map}
use Rattle.iss_delivery.proofs.Lists.{put_next}
use Rattle.iss_exchange.specs.Amounts.{amount_voided, shown_amount}
use Rattle.iss_exchange.proofs.gaps.voided_gap.Goals as goal

pub loop-opened-preserved : goal.loop-opened-preserved
loop-opened-preserved c =
    put_next (amount_voided c.args.instance c.args.gateway.now.books c.args.pending.now c.args.currency) c.args.calls.now c.loop-opened.opened-index c.opened-item.result (option_map shown_amount c.amount_voided.result) []
    c.loop-opened.amounts c.put.new.self (omega arith) c.opened-item.is c.amount_voided.ensures c.loop-opened.invariant c.in_ok-put.ensures
