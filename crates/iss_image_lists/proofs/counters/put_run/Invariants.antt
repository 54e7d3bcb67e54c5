use Rattle.std.proofs.Common.{◌≡◌, ◌++◌, length, take}
use Rattle.std.specs.List.{flat_map}
use Rattle.iss_model.specs.texts.Spelling.{number_bytes}
use Rattle.iss_codec.specs.Places.{place_bytes}
use Rattle.iss_image_lists.specs.Spelling.{counted_bytes}
use Rattle.iss_image_lists.proofs.counters.put_run.Given as goal

abbrev pub invariant-loop-counter : goal.invariant-loop-counter
invariant-loop-counter g l =
    l.out.items ≡ l.fn.out.items ++ (number_bytes 4 (length l.counters) ++ flat_map (counted_bytes (place_bytes (g.P.Places.tokens l.places))) (take l.counter-index l.counters))
