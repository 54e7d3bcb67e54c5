use Rattle.std.proofs.Common.{List, ap, ◌∙◌}
use Rattle.std.specs.List.{filter_map}
use Rattle.iss_velocity.specs.declared.standing.Standing.{Standing}
use Rattle.iss_velocity.specs.Showing.{row_entry}
use Rattle.iss_velocity.proofs.Listed.{all_counters, if_both}
use Rattle.iss_velocity.proofs.table.Table.counters.Goals as goal

pub returns-clause-counters : goal.returns-clause-counters
returns-clause-counters c =
    if_both c.shown.result c.shown.ensures.counters c.shown.ensures.ordered
    (λ v e ordered. e ∙ ap (λ (ss : List Standing). filter_map (row_entry ss) c.in_ok-rows.rows.entries) c.deref.ensures.value
    ∙ all_counters c.args.self.now.users c.args.self.now.past c.in_ok-rows.rows c.requires.keyed.keyed c.in_ok-rows.ensures ordered c.args.self.now.controls.items)
