use Rattle.std.proofs.Common.{◌≡◌, drop}
use Rattle.std.specs.Prelude.{fold}
use Rattle.iss_image.specs.Images.{with_token}
use Rattle.iss_image.proofs.tokens.add_each.Given as goal

abbrev pub invariant-loop-token : goal.invariant-loop-token
invariant-loop-token l = fold with_token l.names (drop l.token-index l.tokens) ≡ fold with_token l.initial.names l.tokens
