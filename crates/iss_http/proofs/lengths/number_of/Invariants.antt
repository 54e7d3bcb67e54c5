use Rattle.std.proofs.Common.{◌≡◌, ◌<◌, ◌^◌, drop}
use Rattle.iss_http.specs.Lengths.{number_after}
use Rattle.iss_http.proofs.lengths.number_of.Given as goal

-- what all digits write is what the rest writes after the number so far
abbrev pub invariant-loop-digit : goal.invariant-loop-digit
invariant-loop-digit l = (number_after 0 l.text ≡ number_after l.number (drop l.digit-index l.text)) × (l.number < 10 ^ l.digit-index)
