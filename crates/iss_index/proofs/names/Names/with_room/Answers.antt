use Rattle.std.proofs.Common.{sym, subst}
use Rattle.std.specs.List.{IsDistinct}
use Rattle.std.specs.Str.{bytes_eq}
use Rattle.iss_index.specs.Hashing.{AreFound}
use Rattle.iss_index.proofs.Placed.{none_apart}
use Rattle.iss_index.proofs.names.Names.with_room.Goals as goal

pub invariant_of-result : goal.invariant_of-result
invariant_of-result c =
    record {
      found =
          subst (AreFound c.in_ok-with_room.field-0.groups.items c.in_ok-with_room.field-0.others) (sym c.in_ok-with_capacity.ensures.items)
          c.in_ok-with_room.ensures;
      apart = subst (IsDistinct bytes_eq) (sym c.in_ok-with_capacity.ensures.items) none_apart;
    }
