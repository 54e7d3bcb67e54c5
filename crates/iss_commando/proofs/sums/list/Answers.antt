use Rattle.std.proofs.Common.{◌++◌, List, map, sym, ap, ◌∙◌}
use Rattle.std.specs.List.{list_all}
use Rattle.iss_model.specs.declared.counted.Stood.{Stood}
use Rattle.iss_commando.specs.Sums.{stood_entry, is_plain}
use Rattle.iss_commando.specs.Trees.{kept_sum}
use Rattle.iss_commando.proofs.TreeSums.{entries_in}
use Rattle.iss_commando.proofs.sums.list.Goals as goal

pub loop-key-init : goal.loop-key-init
loop-key-init c = record {
  sums =
      ap (λ (list : List Stood). map stood_entry list ++ map kept_sum c.into_iter-key-iterator.result) c.new-list.ensures.items
      ∙ ap (map kept_sum) (c.into_iter-key-iterator.ensures.into_iter_gives ∙ c.iter-key-items.ensures.rest)
      ∙ sym (entries_in c.args.sums.now c.iter-key-items.ensures.ordered);
  named = ap (list_all is_plain) c.new-list.ensures.items;
}
