use Rattle.std.proofs.Common.{arith}
use Rattle.iss_exchange_laws.specs.Messages.{sent_by}
use Rattle.iss_delivery.proofs.Lists.{put_next}
use Rattle.iss_delivery.proofs.sending.put_sent.Goals as goal

pub loop-entry-preserved : goal.loop-entry-preserved
loop-entry-preserved c =
    put_next sent_by c.args.entries.now c.loop-entry.entry-index c.entry-item.result c.sent_by.result c.args.out.now.items c.loop-entry.out.items c.put.new.things.items
    (omega arith) c.entry-item.is c.sent_by.ensures c.loop-entry.invariant c.in_ok-put.ensures
