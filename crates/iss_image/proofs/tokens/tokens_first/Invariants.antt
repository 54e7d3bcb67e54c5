use Rattle.std.proofs.Common.{◌≡◌, drop}
use Rattle.iss_image.specs.Images.{tokens_first, tokens_with}
use Rattle.iss_image.proofs.tokens.tokens_first.Given as goal

abbrev pub invariant-loop-event : goal.invariant-loop-event
invariant-loop-event l = tokens_with l.names (drop l.event-index l.events) ≡ tokens_first l.events
