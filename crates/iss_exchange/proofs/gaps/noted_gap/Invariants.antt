use Rattle.std.proofs.Common.{◌≡◌, take}
use Rattle.std.specs.List.{filter_map}
use Rattle.iss_exchange.specs.Amounts.{amount_noted}
use Rattle.iss_exchange.proofs.gaps.noted_gap.Given as goal

abbrev pub invariant-loop-notice : goal.invariant-loop-notice
invariant-loop-notice l = l.amounts ≡ filter_map (amount_noted l.gateway.books l.currency) (take l.notice-index l.pending)
