-- What an entry does to a core's state, it does to the part of it that a chain keeps.
use Rattle.std.proofs.Common.{◌≡◌, List, [], ◌∷◌, fold, refl, ap, ◌∙◌}
use Rattle.iss_model.specs.declared.setting.Moved.TheVariants as moved
use Rattle.iss_model.specs.declared.input.Input.{Input}
use Rattle.iss_model.specs.declared.input.Input.TheVariants as input
use Rattle.iss_model.specs.declared.entry.Entry.{Entry}
use Rattle.iss_model.specs.declared.entry.Entry.TheVariants as entry
use Rattle.iss_model.specs.state.Cores.{CoreState, after_setting, after_entry}
use Rattle.iss_chain.specs.Values.{ChainNow, chain_part, chain_after_entry}

after_setting_part : (s : CoreState) (i : Input) → chain_part (after_setting s i) ≡ chain_part s
after_setting_part s (input.Move token (moved.Card card to)) = refl
after_setting_part s (input.Move token (moved.User user to)) = refl
after_setting_part s _ = refl

pub after_entry_part : (s : CoreState) (e : Entry) → chain_part (after_entry s e) ≡ chain_after_entry (chain_part s) e
after_entry_part s (entry.Conf i) = after_setting_part s i
after_entry_part s (entry.Began txn) = refl
after_entry_part s (entry.Post from to amount txn) = refl
after_entry_part s (entry.Hold txn user currency part amount) = refl
after_entry_part s (entry.Ended txn) = refl
after_entry_part s _ = refl

pub after_entries_part : (s : CoreState) (es : List Entry) → chain_part (fold after_entry s es) ≡ fold chain_after_entry (chain_part s) es
after_entries_part s [] = refl
after_entries_part s (e ∷ es) = after_entries_part (after_entry s e) es ∙ ap (λ (c : ChainNow). fold chain_after_entry c es) (after_entry_part s e)
