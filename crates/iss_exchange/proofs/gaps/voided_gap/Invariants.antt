use Rattle.std.proofs.Common.{◌≡◌, take}
use Rattle.std.specs.List.{filter_map}
use Rattle.iss_exchange.specs.Amounts.{amount_voided}
use Rattle.iss_exchange.proofs.gaps.voided_gap.Given as goal

abbrev pub invariant-loop-opened : goal.invariant-loop-opened
invariant-loop-opened l = l.amounts ≡ filter_map (amount_voided l.instance l.gateway.books l.pending l.currency) (take l.opened-index l.calls)
