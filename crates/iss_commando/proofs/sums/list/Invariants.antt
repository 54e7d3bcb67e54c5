use Rattle.std.proofs.Common.{◌≡◌, ◌++◌, true, map}
use Rattle.std.specs.FinMap as finite
use Rattle.std.specs.List.{list_all}
use Rattle.iss_commando.specs.Sums.{stood_entry, is_plain}
use Rattle.iss_commando.specs.Trees.{kept_in, kept_sum}
use Rattle.iss_commando.proofs.sums.list.Given as goal

abbrev pub invariant-loop-key : goal.invariant-loop-key
invariant-loop-key l = record {
  sums : map stood_entry l.list.items ++ map kept_sum l.key-iterator ≡ finite.entries (kept_in l.sums);
  named : list_all is_plain l.list.items ≡ true;
}
