-- What holds of every state that records make.
use Rattle.std.specs.Prelude.{Bool, List, Some, false, find, is_some, nat_le, nat_lt, true, ℕ, ◌*◌, ◌+◌, ◌≡◌, ◌≤◌}
use Rattle.std.specs.List.{list_all}
use Rattle.iss_model.specs.declared.input.Input.{Input}
use Rattle.iss_model.specs.declared.input.Record.{Record}
use Rattle.iss_model.specs.declared.limits.TheConstants.{GREATEST_AMOUNT, MOST_RECORDS}
use Rattle.iss_model.specs.Forms.{is_in_form}
use Rattle.iss_model.specs.Inputs.{event_token, is_event}
use Rattle.iss_model.specs.rules.Facts.{Accepted}
use Rattle.iss_model.specs.rules.Settings.{is_named_in}
use Rattle.iss_model.specs.state.Cores.{CoreState, with_record}
use Rattle.iss_state.specs.Bounds.{SumsAreWithin}
use Rattle.iss_state.specs.Needs.{begun_txns}
use Rattle.iss_state.specs.Stakes.{IsOrderlyState, at_stake, txn_tokens}

-- how far a record can take a sum: four of the greatest amount
abbrev pub record_reach : ℕ
record_reach = 4 * GREATEST_AMOUNT

-- how far this many records can take a sum
abbrev pub reach_of : ℕ → ℕ
reach_of records = records * record_reach

-- an event of this token was accepted
abbrev pub is_accepted : List Accepted → List ℕ → Bool
is_accepted accepted token = is_some (find (λ a. is_event token a.input) accepted)

-- What holds of a state when this many records have made their entries. Each sum, with what is still at stake, stays within their reach.
-- Transactions have names of their own, of accepted events, and each began with one of the records so far.
pub record IsSoundAt (records : ℕ) (s : CoreState) : Type 0 where
  pub money : ℕ
  pub used : ℕ
  pub within : SumsAreWithin money used s
  pub money_within : money + 2 * at_stake s ≤ reach_of records
  pub use_within : used + at_stake s ≤ reach_of records
  pub orderly : IsOrderlyState s
  pub accepted : list_all (is_accepted s.accepted) (txn_tokens s.holdings.txns) ≡ true
  pub origins : list_all (λ t. nat_le t.origin s.count) (begun_txns s) ≡ true

-- the input isn't an event that was accepted before
abbrev pub IsNewEvent : CoreState → Input → Type 0
IsNewEvent s i = (token : List ℕ) → event_token i ≡ Some token → is_accepted s.accepted token ≡ false

-- what holds if a record's input is in form, and no event that was accepted before
abbrev pub IfNewInForm : CoreState → Record → Type 0 → Type 0
IfNewInForm s r Holds = is_in_form r.input ≡ true → IsNewEvent s r.input → Holds

-- each of these records has an input in form
abbrev pub AreInForm : List Record → Type 0
AreInForm rs = list_all (λ r. is_in_form r.input) rs ≡ true

-- A record was taken up on a sound state, and hasn't made its own entries yet. Its event is accepted and names no transaction, and all
-- transactions are of earlier records.
pub record IsReady (records : ℕ) (s : CoreState) (i : Input) : Type 0 where
  pub sound : IsSoundAt records s
  pub accepted : (token : List ℕ) → event_token i ≡ Some token → is_accepted s.accepted token ≡ true
  pub unnamed : (token : List ℕ) → event_token i ≡ Some token → is_named_in (txn_tokens s.holdings.txns) token ≡ false
  pub earlier : list_all (λ t. nat_lt t.origin s.count) (begun_txns s) ≡ true

-- a state with a record taken up is ready for the record's entries
abbrev pub IsReadyWith : ℕ → CoreState → Record → Type 0
IsReadyWith n s r = IsReady n (with_record s r) r.input

-- what holds if an input is in form, and a state is ready for its entries
abbrev pub IfReadyInForm : ℕ → CoreState → Input → Type 0 → Type 0
IfReadyInForm n s i Holds = is_in_form i ≡ true → IsReady n s i → Holds

-- a state that is ready is followed by one that is ready
abbrev pub StaysReady : ℕ → Input → CoreState → CoreState → Type 0
StaysReady n i s t = IsReady n s i → IsReady n t i

-- what holds if a state is sound for no more records than there may be
abbrev pub IfSoundWithin : ℕ → CoreState → Type 0 → Type 0
IfSoundWithin n s Holds = n ≤ MOST_RECORDS → IsSoundAt n s → Holds
