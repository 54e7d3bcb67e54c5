-- What holds of every core: what is asked, what is decided, and what its next entries need.
use Rattle.std.specs.Prelude.{◌≡◌, ℕ, Bool, true, false, List, [], ◌∷◌, map, Some, is_some}
use Rattle.std.specs.List.{list_all}
use Rattle.iss_model.specs.declared.entry.Entry.{Entry}
use Rattle.iss_model.specs.declared.entry.Entry.TheVariants as entry
use Rattle.iss_model.specs.declared.input.Input.{Input}
use Rattle.iss_model.specs.declared.input.Record.{Record}
use Rattle.iss_model.specs.Inputs.{event_token}
use Rattle.iss_model.specs.rules.Facts.{Accepted}
use Rattle.iss_model.specs.rules.Settings.{product_named}
use Rattle.iss_model.specs.state.Cores.{CoreState, ProductNow, after_entry}
use Rattle.iss_state.specs.Sound.{IsNewEvent, is_accepted}
use Rattle.iss_state.specs.Allowed.{IsAllowed}
use Rattle.iss_state.specs.Dockets.{docket_of}
use Rattle.iss_state.specs.Well.{IsAccounted, Known, IsWellAmong}

-- a product of this name stands
abbrev pub is_product : List ProductNow → List ℕ → Bool
is_product products name = is_some (product_named name (map (λ p. p.product) products))

-- what is known to a core
abbrev pub known_of : CoreState → Known
known_of s = record { events = is_accepted s.accepted; products = is_product s.products }

-- What holds of a core: its docket is well, and each accepted event is decided or waits for a call.
pub record IsWell (s : CoreState) : Type 0 where
  pub docket : IsWellAmong (known_of s) (docket_of s)
  pub accounted : (event : List ℕ) → is_accepted s.accepted event ≡ true → IsAccounted (docket_of s) event

-- each of these entries may come in its turn
abbrev pub AreAllowed : CoreState → List Entry → Type 0
AreAllowed s [] = Unit {0}
AreAllowed s (e ∷ es) = IsAllowed (docket_of s) e × AreAllowed (after_entry s e) es

-- an event that an entry decides was accepted
abbrev pub decides_accepted : List Accepted → Entry → Bool
decides_accepted accepted (entry.Decided event verdict) = is_accepted accepted event
decides_accepted accepted _ = true

-- each event that these entries decide was accepted
abbrev pub DecideKnown : CoreState → List Entry → Type 0
DecideKnown s es = list_all (decides_accepted s.accepted) es ≡ true

-- what holds if a record's input isn't an event that was accepted before, and the state is well
abbrev pub IfNewAndWell : CoreState → Record → Type 0 → Type 0
IfNewAndWell s r Holds = IsNewEvent s r.input → IsWell s → Holds

-- A record with this input was taken up, and hasn't made its own entries yet: its event is accepted, and wasn't known before.
pub record HasTakenUp (s : CoreState) (i : Input) : Type 0 where
  pub before : Known
  pub well : IsWellAmong before (docket_of s)
  pub unknown : (event : List ℕ) → event_token i ≡ Some event → before.events event ≡ false
  pub accepted : (event : List ℕ) → event_token i ≡ Some event → is_accepted s.accepted event ≡ true
  pub events_stay : (event : List ℕ) → before.events event ≡ true → is_accepted s.accepted event ≡ true
  pub products_stay : (name : List ℕ) → before.products name ≡ true → is_product s.products name ≡ true

-- if a record was taken up on one state, it is taken up on another
abbrev pub StaysTakenUp : Input → CoreState → CoreState → Type 0
StaysTakenUp i s t = HasTakenUp s i → HasTakenUp t i
