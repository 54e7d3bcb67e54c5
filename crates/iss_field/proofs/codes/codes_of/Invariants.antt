use Rattle.std.proofs.Common.{◌≡◌, [], drop}
use Rattle.iss_field.specs.Seen.{seen_items}
use Rattle.iss_field.specs.Values.{codes_with}
use Rattle.iss_field.proofs.codes.codes_of.Given as goal

abbrev pub invariant-loop-item : goal.invariant-loop-item
invariant-loop-item l = codes_with l.codes.keys (seen_items (drop l.item-index l.items)) ≡ codes_with [] (seen_items l.items)
