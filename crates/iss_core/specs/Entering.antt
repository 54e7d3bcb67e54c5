-- What an entry needs of the state that it is entered into.
use Rattle.std.specs.Prelude.{◌≡◌, true, List, [], ◌∷◌}
use Rattle.iss_model.specs.declared.entry.Entry.{Entry}
use Rattle.iss_model.specs.state.Cores.{CoreState, after_entry}
use Rattle.iss_state.specs.Entering.{IsEnterable}
use Rattle.iss_state.specs.InForm.{is_entry_in_form}
use Rattle.iss_state.specs.Dockets.{docket_of}
use Rattle.iss_state.specs.Allowed.{IsAllowed}
use Rattle.iss_state.specs.Pending.{decides_accepted}

-- An entry may be entered. It fits and leaves small sums, and it may come next on the docket. It is in form, and what it decides was accepted.
pub record MayEnter (s : CoreState) (e : Entry) : Type 0 where
  pub enterable : IsEnterable s e
  pub allowed : IsAllowed (docket_of s) e
  pub formed : is_entry_in_form e ≡ true
  pub decides : decides_accepted s.accepted e ≡ true

-- each of these entries may be entered, on the state after those before it
abbrev pub MayAllEnter : CoreState → List Entry → Type 0
MayAllEnter s [] = Unit {0}
MayAllEnter s (e ∷ es) = MayEnter s e × MayAllEnter (after_entry s e) es
