-- Which verdicts and marks may stand on the events of a state.
use Rattle.std.specs.Prelude.{◌≡◌, ℕ, Bool, true, false, not, ◌&&◌, ◌||◌, ◌==◌, nat_lt, List, Option, Some, is_none}
use Rattle.std.specs.List.{list_all}
use Rattle.iss_model.specs.declared.call.CallState.{CallState}
use Rattle.iss_model.specs.declared.call.CallState.TheVariants as call_state
use Rattle.iss_model.specs.declared.call.How.TheVariants as how
use Rattle.iss_model.specs.declared.currency.Currency.{Currency}
use Rattle.iss_model.specs.declared.decision.Verdict.{Verdict}
use Rattle.iss_model.specs.declared.decision.Verdict.TheVariants as verdict
use Rattle.iss_model.specs.declared.input.Input.{Input}
use Rattle.iss_model.specs.declared.input.Input.TheVariants as input
use Rattle.iss_model.specs.declared.state.Seen.{Seen}
use Rattle.iss_model.specs.declared.state.State.{State}
use Rattle.iss_model.specs.Currencies.{same_currency}
use Rattle.iss_model.specs.rules.Activity.{TxnNow, txn_named}
use Rattle.iss_model.specs.rules.CardReasons.{is_account_funded}
use Rattle.iss_model.specs.rules.Reasons.{is_some_with}
use Rattle.iss_states.specs.Rebuilding.{rebuilt}
use Rattle.iss_well_formed.specs.Events.{is_ask}

-- an event of this kind may have this verdict: only authorisations and increments are approved, and only other events are done
abbrev pub fits_kind : Input → Option Verdict → Bool
fits_kind i (Some verdict.Approved) = is_ask i
fits_kind i (Some (verdict.Partial currency amount)) = is_ask i
fits_kind i (Some verdict.Done) = not (is_ask i)
fits_kind i _ = true

-- the verdict of an event is one that its kind may have
abbrev pub is_decided_by_kind : Seen → Bool
is_decided_by_kind e = fits_kind e.body.input e.verdict

-- an event with this verdict takes effect: it is approved, in whole or in part, or done
abbrev pub takes_effect : Option Verdict → Bool
takes_effect (Some verdict.Approved) = true
takes_effect (Some (verdict.Partial currency amount)) = true
takes_effect (Some verdict.Done) = true
takes_effect _ = false

-- a transaction of this token is listed, in this currency
abbrev pub is_listed_in : List TxnNow → List ℕ → Currency → Bool
is_listed_in txns token currency = is_some_with (λ t. same_currency t.txn.currency currency) (txn_named token txns)

-- a card event is of a listed transaction, in its currency: an authorisation of its own, any other of the one that it names
abbrev pub is_of_its_txn : List TxnNow → Input → Bool
is_of_its_txn txns (input.Authorization token card currency amount mcc mid partial) = is_listed_in txns token currency
is_of_its_txn txns (input.Increment token txn currency amount) = is_listed_in txns txn currency
is_of_its_txn txns (input.Reversal token txn currency amount) = is_listed_in txns txn currency
is_of_its_txn txns (input.Clearing token txn currency amount last) = is_listed_in txns txn currency
is_of_its_txn txns (input.Refund token txn currency amount) = is_listed_in txns txn currency
is_of_its_txn txns _ = true

-- a card event that takes effect is of a listed transaction and in its currency
abbrev pub takes_effect_in_its_txn : List TxnNow → Seen → Bool
takes_effect_in_its_txn txns e = not (takes_effect e.verdict) || is_of_its_txn txns e.body.input

-- a transaction of this token is listed, in this currency, and the gateway pays it
abbrev pub is_paid_by_gateway_in : List TxnNow → List ℕ → Currency → Bool
is_paid_by_gateway_in txns token currency =
    is_some_with (λ t. not (is_account_funded t.txn.funding) && same_currency t.txn.currency currency) (txn_named token txns)

-- an event may have a mark: it is an authorisation or increment of a listed transaction that the gateway pays, in its currency
abbrev pub may_be_marked : List TxnNow → Input → Bool
may_be_marked txns (input.Authorization token card currency amount mcc mid partial) = is_paid_by_gateway_in txns token currency
may_be_marked txns (input.Increment token txn currency amount) = is_paid_by_gateway_in txns txn currency
may_be_marked txns _ = false

-- an event has no mark, or may have one
abbrev pub is_marked_in_its_txn : List TxnNow → Seen → Bool
is_marked_in_its_txn txns e = is_none e.mark || may_be_marked txns e.body.input

-- an event permits this part: it is an authorisation that permits one, in this currency, and the part is less than its amount
abbrev pub permits_this_part : Input → Currency → ℕ → Bool
permits_this_part (input.Authorization token card own amount mcc mid partial) currency part =
    partial && same_currency currency own && nat_lt part amount
permits_this_part _ currency part = false

-- a verdict of a part and a mark of one stand together, with the same amount, and only on an event that permits it
abbrev pub goes_with_part : Input → Option Verdict → Option CallState → Bool
goes_with_part i (Some (verdict.Partial currency amount)) (Some (call_state.Closed (how.Partial part))) =
    amount == part && permits_this_part i currency amount
goes_with_part i (Some (verdict.Partial currency amount)) _ = false
goes_with_part i _ (Some (call_state.Closed (how.Partial part))) = false
goes_with_part i _ _ = true

-- the parts in the verdict and in the mark of an event agree
abbrev pub do_parts_agree : Seen → Bool
do_parts_agree e = goes_with_part e.body.input e.verdict e.mark

-- The verdict of each event of a state is one that its kind may have. A card event that takes effect is of a listed transaction, in its
-- currency. An event with a mark may have one. The parts in the verdict and in the mark of an event agree.
pub record HaveSoundVerdicts (s : State) : Type 0 where
  pub kinds : list_all is_decided_by_kind s.events ≡ true
  pub listed : list_all (takes_effect_in_its_txn (rebuilt s).holdings.txns) s.events ≡ true
  pub marked : list_all (is_marked_in_its_txn (rebuilt s).holdings.txns) s.events ≡ true
  pub parts : list_all do_parts_agree s.events ≡ true
