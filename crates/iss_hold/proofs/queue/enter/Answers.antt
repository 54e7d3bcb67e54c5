use Rattle.std.proofs.Common.{ap, ◌∙◌}
use Rattle.std.specs.BTreeMap.{is_at}
use Rattle.std.specs.Map.{remove_entry}
use Rattle.iss_hold.specs.Indexes.{by_expiry}
use Rattle.iss_hold.proofs.IndexCalls.{left_again}
use Rattle.iss_hold.proofs.queue.enter.Goals as goal

pub returns-in_default-clause-late_stay : goal.returns-in_default-clause-late_stay
returns-in_default-clause-late_stay c =
    c.remove.ensures.entries
    ∙ ap (remove_entry (is_at (by_expiry (c.args.txn.now.expires, c.args.txn.now.origin)))) c.in_ok-insert.ensures.entries
    ∙ left_again (c.args.txn.now.expires, c.args.txn.now.origin) c.args.place c.args.late.now.entries c.requires.unordered
