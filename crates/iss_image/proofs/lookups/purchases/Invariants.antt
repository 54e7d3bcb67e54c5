use Rattle.std.proofs.Common.{◌≡◌, drop}
use Rattle.iss_image.specs.Lookups.{purchase_told, with_firsts, first_purchases}
use Rattle.iss_image.proofs.lookups.purchases.Given as goal

abbrev pub invariant-loop-event : goal.invariant-loop-event
invariant-loop-event l = with_firsts (λ p. p.txn) purchase_told l.index (drop l.event-index l.events) ≡ first_purchases l.events
