use Rattle.std.proofs.Common.{ℕ, List, ap, ◌∙◌}
use Rattle.std.specs.Set.{remove_key}
use Rattle.std.specs.BTreeMap.{is_at}
use Rattle.iss_call.specs.Orders.{by_deadline}
use Rattle.iss_call.proofs.AskedKeys.{entered_and_left}
use Rattle.iss_call.proofs.orders.Orders.enter.Goals as goal

pub returns-then-is_err-clause-deadlines_stay : goal.returns-then-is_err-clause-deadlines_stay
returns-then-is_err-clause-deadlines_stay c =
    c.remove.ensures.keys
    ∙ ap (λ (ks : List (ℕ × ℕ)). remove_key (is_at (by_deadline (c.args.deadline, c.args.number))) ks) c.in_ok-insert.ensures.keys
    ∙ entered_and_left (c.args.deadline, c.args.number) c.args.self.now.deadlines.keys c.requires
