use Rattle.std.proofs.Common.{◌≡◌, ◌++◌, length, take}
use Rattle.std.specs.List.{flat_map}
use Rattle.iss_model.specs.texts.Spelling.{number_bytes}
use Rattle.iss_codec.specs.Places.{place_bytes}
use Rattle.iss_image_lists.specs.Spelling.{txn_bytes}
use Rattle.iss_image_lists.proofs.txns.put_txns.Given as goal

abbrev pub invariant-loop-txn : goal.invariant-loop-txn
invariant-loop-txn g l =
    l.out.items ≡ l.fn.out.items ++ (number_bytes 4 (length l.txns) ++ flat_map (txn_bytes (place_bytes (g.P.Places.tokens l.places))) (take l.txn-index l.txns))
