use Rattle.std.proofs.Common.{◌≡◌, ◌++◌, length, take}
use Rattle.std.specs.List.{flat_map}
use Rattle.iss_model.specs.texts.Spelling.{number_bytes}
use Rattle.iss_codec.specs.Places.{place_bytes}
use Rattle.iss_image_lists.specs.Spelling.{notice_bytes}
use Rattle.iss_image_lists.proofs.notices.put_notices.Given as goal

abbrev pub invariant-loop-notice : goal.invariant-loop-notice
invariant-loop-notice g l =
    l.out.items ≡ l.fn.out.items ++ (number_bytes 4 (length l.notices) ++ flat_map (notice_bytes (place_bytes (g.P.Places.tokens l.places))) (take l.notice-index l.notices))
