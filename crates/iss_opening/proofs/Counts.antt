-- A step counts its record.
use Rattle.std.proofs.Common.{◌≡◌, ℕ, ◌+◌, List, [], ◌∷◌, fold, refl, ◌∙◌}
use Rattle.iss_model.specs.declared.input.Record.{Record}
use Rattle.iss_model.specs.rules.Due.{DueItem, due_items, thing_entries}
use Rattle.iss_model.specs.rules.Keeper.{Growth}
use Rattle.iss_model.specs.rules.Stepping.{settle, step, own_entries}
use Rattle.iss_model.specs.state.Cores.{CoreState, with_record, core_facts, core_keeper}
use Rattle.iss_state.proofs.invariants.Kept.{entries_count}

due_count : (at : ℕ) (items : List DueItem) (g : Growth CoreState) → (fold (settle core_keeper at) g items).world.count ≡ g.world.count
due_count at [] g = refl
due_count at (item ∷ items) g =
    due_count at items (settle core_keeper at g item) ∙ entries_count g.world (thing_entries item.thing at (core_facts g.world))

pub step_count : (s : CoreState) (r : Record) → (step core_keeper s r).world.count ≡ s.count + 1
unfolding step
step_count s r =
    let taken = with_record s r in
    let ready : Growth CoreState = fold (settle core_keeper r.at) (record { world = taken; entries = [] }) (due_items (core_facts taken) r.at) in
    entries_count ready.world (own_entries r (core_facts ready.world)) ∙ due_count r.at (due_items (core_facts taken) r.at) (record { world = taken; entries = [] })
