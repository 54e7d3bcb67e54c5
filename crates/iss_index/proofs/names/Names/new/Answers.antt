use Rattle.std.proofs.Common.{sym, subst}
use Rattle.std.specs.List.{IsDistinct}
use Rattle.std.specs.Str.{bytes_eq}
use Rattle.iss_index.specs.Hashing.{AreFound}
use Rattle.iss_index.proofs.Placed.{none_apart}
use Rattle.iss_index.proofs.names.Names.new.Goals as goal

pub invariant_of-result : goal.invariant_of-result
invariant_of-result c =
    record {
      found = subst (AreFound c.new-2.result.groups.items c.new-2.result.others) (sym c.new.ensures.items) c.new-2.ensures;
      apart = subst (IsDistinct bytes_eq) (sym c.new.ensures.items) none_apart;
    }
