use Rattle.std.proofs.Common.{◌≡◌, ◌++◌, length, take}
use Rattle.std.specs.List.{flat_map}
use Rattle.iss_model.specs.texts.Spelling.{number_bytes}
use Rattle.iss_codec.specs.Places.{place_bytes}
use Rattle.iss_image_lists.specs.Spelling.{balance_bytes}
use Rattle.iss_image_lists.proofs.balances.put_balances.Given as goal

abbrev pub invariant-loop-balance : goal.invariant-loop-balance
invariant-loop-balance g l =
    l.out.items ≡ l.fn.out.items ++ (number_bytes 4 (length l.balances) ++ flat_map (balance_bytes (place_bytes (g.P.Places.tokens l.places))) (take l.balance-index l.balances))
