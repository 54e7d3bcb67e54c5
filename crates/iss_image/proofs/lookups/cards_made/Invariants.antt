use Rattle.std.proofs.Common.{◌≡◌, drop}
use Rattle.iss_image.specs.Lookups.{card_told, with_firsts, first_cards}
use Rattle.iss_image.proofs.lookups.cards_made.Given as goal

abbrev pub invariant-loop-event : goal.invariant-loop-event
invariant-loop-event l = with_firsts (λ c. c.card) card_told l.index (drop l.event-index l.events) ≡ first_cards l.events
