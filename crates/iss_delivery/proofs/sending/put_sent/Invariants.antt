use Rattle.std.proofs.Common.{◌≡◌, ◌++◌, take}
use Rattle.std.specs.List.{filter_map}
use Rattle.iss_exchange_laws.specs.Messages.{sent_by}
use Rattle.iss_delivery.proofs.sending.put_sent.Given as goal

abbrev pub invariant-loop-entry : goal.invariant-loop-entry
invariant-loop-entry l = l.out.items ≡ l.fn.out.items ++ filter_map sent_by (take l.entry-index l.entries)
