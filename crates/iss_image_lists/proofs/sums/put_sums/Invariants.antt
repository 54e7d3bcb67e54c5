use Rattle.std.proofs.Common.{◌≡◌, ◌++◌, length, take}
use Rattle.std.specs.List.{flat_map}
use Rattle.iss_model.specs.texts.Spelling.{number_bytes}
use Rattle.iss_codec.specs.Places.{place_bytes}
use Rattle.iss_image_lists.specs.Spelling.{sum_bytes}
use Rattle.iss_image_lists.proofs.sums.put_sums.Given as goal

abbrev pub invariant-loop-sum : goal.invariant-loop-sum
invariant-loop-sum g l =
    l.out.items ≡ l.fn.out.items ++ (number_bytes 4 (length l.sums) ++ flat_map (sum_bytes (place_bytes (g.P.Places.tokens l.places))) (take l.sum-index l.sums))
