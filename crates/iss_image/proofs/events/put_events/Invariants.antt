use Rattle.std.proofs.Common.{◌≡◌, ◌++◌, length, take}
use Rattle.std.specs.List.{flat_map}
use Rattle.iss_model.specs.texts.Spelling.{number_bytes}
use Rattle.iss_codec.specs.Places.{place_bytes}
use Rattle.iss_image.specs.Images.{seen_bytes}
use Rattle.iss_image.proofs.events.put_events.Given as goal

abbrev pub invariant-loop-event : goal.invariant-loop-event
invariant-loop-event g l =
    l.out.items ≡ l.fn.out.items ++ (number_bytes 4 (length l.events) ++ flat_map (seen_bytes (place_bytes (g.P.Places.tokens l.places))) (take l.event-index l.events))
