-- What entries leave as it is: what was accepted, and the number of records.
use Rattle.std.proofs.Common.{List, [], fold, refl, ℕ, ◌∙◌, ◌∷◌, ◌≡◌}
use Rattle.iss_model.specs.declared.entry.Entry.{Entry}
use Rattle.iss_model.specs.declared.entry.Entry.TheVariants as entry
use Rattle.iss_model.specs.declared.input.Input.{Input}
use Rattle.iss_model.specs.declared.input.Input.TheVariants as input
use Rattle.iss_model.specs.declared.setting.Moved.TheVariants as moved
use Rattle.iss_model.specs.rules.Due.{DueItem, thing_entries}
use Rattle.iss_model.specs.rules.Keeper.{Growth}
use Rattle.iss_model.specs.rules.Stepping.{settle}
use Rattle.iss_model.specs.state.Cores.{CoreState, after_entry, after_setting, core_facts, core_keeper}

-- ---- what was accepted

setting_accepted : (s : CoreState) (i : Input) → (after_setting s i).accepted ≡ s.accepted
setting_accepted s (input.Move token (moved.Card card to)) = refl
setting_accepted s (input.Move token (moved.User user to)) = refl
setting_accepted s _ = refl

entry_accepted : (s : CoreState) (e : Entry) → (after_entry s e).accepted ≡ s.accepted
entry_accepted s (entry.Conf i) = setting_accepted s i
entry_accepted s _ = refl

pub entries_accepted : (s : CoreState) (es : List Entry) → (fold after_entry s es).accepted ≡ s.accepted
entries_accepted s [] = refl
entries_accepted s (e ∷ es) = entries_accepted (after_entry s e) es ∙ entry_accepted s e

-- what is due leaves it too
pub due_accepted : (at : ℕ) (g : Growth CoreState) (items : List DueItem) → (fold (settle core_keeper at) g items).world.accepted ≡ g.world.accepted
due_accepted at g [] = refl
due_accepted at g (item ∷ items) = due_accepted at (settle core_keeper at g item) items ∙ entries_accepted g.world (thing_entries item.thing at (core_facts g.world))

-- ---- the number of records

setting_count : (s : CoreState) (i : Input) → (after_setting s i).count ≡ s.count
setting_count s (input.Move token (moved.Card card to)) = refl
setting_count s (input.Move token (moved.User user to)) = refl
setting_count s _ = refl

entry_count : (s : CoreState) (e : Entry) → (after_entry s e).count ≡ s.count
entry_count s (entry.Conf i) = setting_count s i
entry_count s _ = refl

pub entries_count : (s : CoreState) (es : List Entry) → (fold after_entry s es).count ≡ s.count
entries_count s [] = refl
entries_count s (e ∷ es) = entries_count (after_entry s e) es ∙ entry_count s e
