use Rattle.std.proofs.Common.{◌≡◌, drop}
use Rattle.std.specs.Cmp.Lexicographic.{pointwise}
use Rattle.std.specs.Str.{bytes_eq}
use Rattle.iss_image.proofs.tokens.are_these.Given as goal

abbrev pub invariant-loop-place : goal.invariant-loop-place
invariant-loop-place l = pointwise bytes_eq (drop l.place l.tokens) (drop l.place l.names) ≡ pointwise bytes_eq l.tokens l.names
