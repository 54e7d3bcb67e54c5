-- What the sums of a state's transactions owe to what was approved for them, and to who pays them.
use Rattle.std.specs.Prelude.{◌≡◌, ◌≤◌, ℕ, ◌+◌, Bool, true, false, not, ◌||◌, ◌==◌, List, [], ◌∷◌, Option, Some, if◌then◌else◌}
use Rattle.std.specs.List.{list_all}
use Rattle.std.specs.Str.{bytes_eq}
use Rattle.iss_model.specs.declared.decision.Verdict.{Verdict}
use Rattle.iss_model.specs.declared.decision.Verdict.TheVariants as verdict
use Rattle.iss_model.specs.declared.input.Input.{Input}
use Rattle.iss_model.specs.declared.input.Input.TheVariants as input
use Rattle.iss_model.specs.declared.state.Carried.{Carried}
use Rattle.iss_model.specs.declared.state.Seen.{Seen}
use Rattle.iss_model.specs.declared.state.State.{State}
use Rattle.iss_model.specs.rules.Activity.{TxnNow, txn_named}
use Rattle.iss_model.specs.rules.CardReasons.{is_account_funded}
use Rattle.iss_model.specs.rules.Reasons.{is_some_with}
use Rattle.iss_states.specs.Again.{amount_of_event}
use Rattle.iss_states.specs.Rebuilding.{rebuilt}

-- the authorisation of this transaction, or an increment of it
abbrev pub is_ask_of : List ℕ → Input → Bool
is_ask_of token (input.Authorization event card currency amount mcc mid partial) = bytes_eq event token
is_ask_of token (input.Increment event txn currency amount) = bytes_eq txn token
is_ask_of token _ = false

-- what an ask was approved for: all of its amount, a part, or nothing
abbrev pub approved_amount : Option Verdict → Input → ℕ
approved_amount (Some verdict.Approved) i = amount_of_event i
approved_amount (Some (verdict.Partial currency amount)) i = amount
approved_amount _ i = 0

-- what an event was approved for, if it asks for this transaction
abbrev pub approved_for : List ℕ → Option Verdict → Input → ℕ
approved_for token v i = if is_ask_of token i then approved_amount v i else 0

-- what the asks of a transaction were approved for among these events, together
abbrev pub approved_total : List ℕ → List Seen → ℕ
approved_total token [] = 0
approved_total token (e ∷ es) = approved_for token e.verdict e.body.input + approved_total token es

-- A transaction holds at most what it was approved for. The programme has paid at most that and what was cleared.
pub record IsWithinApproved (es : List Seen) (t : Carried) : Type 0 where
  pub held : t.sums.g + t.sums.p + t.sums.s ≤ approved_total t.txn es
  pub paid : t.sums.paid ≤ approved_total t.txn es + t.sums.cleared

-- so it is of each of these transactions
abbrev pub AreWithinApproved : List Seen → List Carried → Type 0
AreWithinApproved es [] = Unit {0}
AreWithinApproved es (t ∷ ts) = IsWithinApproved es t × AreWithinApproved es ts

-- so it is of each listed transaction, with all events
abbrev pub AreApproved : State → Type 0
AreApproved s = AreWithinApproved s.events s.txns

-- if its user's own balance pays a transaction, the programme has paid nothing for it
abbrev pub is_unpaid_if_own : List TxnNow → Carried → Bool
is_unpaid_if_own txns t = is_some_with (λ now. not (is_account_funded now.txn.funding) || t.sums.paid == 0) (txn_named t.txn txns)

-- so it is of each listed transaction
abbrev pub OwnAreUnpaid : State → Type 0
OwnAreUnpaid s = list_all (is_unpaid_if_own (rebuilt s).holdings.txns) s.txns ≡ true
