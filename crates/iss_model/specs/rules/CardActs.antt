-- The acts of card events and of the gateway's answers, if they aren't declined.
use Rattle.std.specs.Prelude.{ℕ, ◌+◌, ◌-◌, min, nat_lt, ◌==◌, List, [], ◌∷◌, ◌++◌, Option, Some, None, if◌then◌else◌, Bool, ◌&&◌, ◌||◌}
use Rattle.iss_model.specs.declared.call.Failure.TheVariants as failure
use Rattle.iss_model.specs.declared.call.CallId.{CallId}
use Rattle.iss_model.specs.declared.call.Failure.{Failure}
use Rattle.iss_model.specs.declared.call.Opened.{Opened}
use Rattle.iss_model.specs.declared.currency.Currency.{Currency}
use Rattle.iss_model.specs.declared.decision.Reason.TheVariants as reason
use Rattle.iss_model.specs.declared.decision.Reason.{Reason}
use Rattle.iss_model.specs.declared.input.Outcome.TheVariants as outcome
use Rattle.iss_model.specs.declared.input.Outcome.{Outcome}
use Rattle.iss_model.specs.declared.setting.Product.{Product}
use Rattle.iss_model.specs.declared.txn.Txn.{Txn}
use Rattle.iss_model.specs.Currencies.{same_currency}
use Rattle.iss_model.specs.rules.Activity.{CallNow, TxnNow, is_asked}
use Rattle.iss_model.specs.rules.Acts.{reversed, captured, refunded, Act, Begins, Uses, HoldsOwn, Asks, Funds, FundsPart, Refuses, Fails, StandsIn, TurnsDown, Abandons, LetsGo, Ends, Clears, GivesBack, Tells, Does}
use Rattle.iss_model.specs.rules.Asks.{Ask, call_ask}
use Rattle.iss_model.specs.rules.CardReasons.{is_account_funded}
use Rattle.iss_model.specs.rules.Facts.{call_in, Facts, asked_calls_of, txn_in, next_notice}
use Rattle.iss_model.specs.rules.Pieces.{Parts, parts_held, in_all, left_of, taken_to_clear, notice_after_abandonment, owed_to_programme, failure_reason}
use Rattle.iss_model.specs.rules.Settings.{product_named, is_named_in}
use Rattle.iss_model.specs.rules.StandIns.{Stand, allowed, over_limit, uncovered, stand}

-- acts for a product that the gateway funds
abbrev pub acts_for_gateway : Txn → List Act → List Act
acts_for_gateway t acts = if is_account_funded t.funding then [] else acts

-- acts for an amount that isn't 0
abbrev pub acts_where : ℕ → List Act → List Act
acts_where amount acts = if amount == 0 then [] else acts

-- a transaction ends
abbrev pub end_acts : ℕ → Facts → Txn → Parts → Reason → List Act
end_acts number f t parts why = Abandons number t why (asked_calls_of f t.token) parts ∷ LetsGo t parts (in_all parts) ∷ Ends t ∷ []

-- what the sets decide of an ask
abbrev pub stand_acts : Stand → ℕ → Ask → Failure → ℕ → List Act
stand_acts (allowed s) number ask why at = StandsIn number ask at s ∷ []
stand_acts (over_limit s) number ask why at = TurnsDown ask (reason.StandInLimit s.name) ∷ []
stand_acts uncovered number ask why at = TurnsDown ask (failure_reason why) ∷ []

-- a call fails, and the sets decide what comes of its ask
abbrev pub failed_acts : Facts → Opened → Txn → Failure → ℕ → List Act
failed_acts f o t why at = Fails (next_notice f) o t why ∷ stand_acts (stand f (call_ask o t) why at) (next_notice f + 1) (call_ask o t) why at

-- a part of a call's amount counts if the call permits one, and it is in its currency and less than all
abbrev pub counts_as_part : Opened → Currency → ℕ → Bool
counts_as_part o currency amount = o.partial && same_currency currency o.currency && nat_lt amount o.amount

-- The gateway answers a call. A part that doesn't count is no answer.
abbrev pub outcome_acts : Outcome → Facts → Opened → Txn → ℕ → List Act
outcome_acts outcome.Funded f o t at = Funds o t ∷ []
outcome_acts outcome.Refused f o t at = Refuses o t ∷ []
outcome_acts outcome.Connection f o t at = failed_acts f o t failure.Connection at
outcome_acts outcome.Application f o t at = failed_acts f o t failure.Application at
outcome_acts (outcome.Partial currency amount) f o t at =
    if counts_as_part o currency amount then FundsPart o t amount ∷ [] else failed_acts f o t failure.Application at

-- acts for a transaction, if it is known
abbrev pub acts_of_txn : (Txn → List Act) → Option TxnNow → List Act
acts_of_txn make None = []
acts_of_txn make (Some now) = make now.txn

-- acts for a call that is asked, and for its transaction
abbrev pub acts_of_asked : (Opened → Txn → List Act) → Option CallNow → Facts → List Act
acts_of_asked make None f = []
acts_of_asked make (Some c) f = if is_asked c then acts_of_txn (make c.opened) (txn_in f c.opened.txn) else []

-- an ask is put to the gateway, or the programme stands in
abbrev pub gateway_acts : Option Product → Facts → Ask → List Act
gateway_acts None f ask = []
gateway_acts (Some product) f ask =
    if is_named_in f.switched product.name then stand_acts (stand f ask failure.Switch ask.at) (next_notice f) ask failure.Switch ask.at
    else Asks f product ask ∷ []

-- an ask seeks funding
abbrev pub funding_acts : Facts → Ask → List Act
funding_acts f ask =
    if is_account_funded ask.txn.funding then HoldsOwn ask ∷ [] else gateway_acts (product_named ask.txn.product f.products) f ask

-- an authorisation begins its transaction and seeks funding
abbrev pub authorization_acts : Facts → Option Ask → List Act
authorization_acts f None = []
authorization_acts f (Some ask) = Begins ask ∷ funding_acts f ask

-- an increment counts as use and seeks funding
abbrev pub increment_acts : Facts → Option Ask → List Act
increment_acts f None = []
increment_acts f (Some ask) = Uses ask ∷ funding_acts f ask

-- a transaction that holds these parts is reversed by an amount
abbrev pub reversed_acts : Facts → List ℕ → ℕ → Txn → Parts → List Act
reversed_acts f token amount t parts =
    let freed = min amount (in_all parts) in
    let gateway = min (freed - parts.p) parts.g in
    Abandons (next_notice f) t reason.Reversed (asked_calls_of f t.token) parts
    ∷ LetsGo t parts freed
    ∷ (if freed == in_all parts then Ends t ∷ [] else [])
    ++ acts_for_gateway t (acts_where freed (Tells (notice_after_abandonment (next_notice f) f t) reversed t freed gateway ∷ []))
    ++ Does token ∷ []

-- a reversal, of a transaction that is known
abbrev pub reversal_acts : Facts → List ℕ → ℕ → Option TxnNow → List Act
reversal_acts f token amount None = []
reversal_acts f token amount (Some now) = reversed_acts f token amount now.txn (parts_held f now.txn)

-- what follows on a clearing's money: the transaction ends, or goes on
abbrev pub after_clearing_acts : Facts → Txn → Parts → ℕ → Bool → List Act
after_clearing_acts f t rest amount ends =
    if ends then end_acts (next_notice f) f t rest reason.Cleared ++ acts_for_gateway t (Tells (notice_after_abandonment (next_notice f) f t) captured t amount rest.g ∷ [])
    else acts_for_gateway t (Tells (next_notice f) captured t amount 0 ∷ [])

-- A transaction that holds these parts is cleared by an amount. It ends if it is live, and this is its last clearing or leaves nothing held.
abbrev pub cleared_acts : Facts → List ℕ → ℕ → Bool → ℕ → TxnNow → Parts → List Act
cleared_acts f token amount last at now parts =
    let rest = left_of parts (taken_to_clear parts amount) in
    Clears now.txn parts amount at ∷ after_clearing_acts f now.txn rest amount (now.live && (last || in_all rest == 0)) ++ Does token ∷ []

-- a clearing, of a transaction that is known
abbrev pub clearing_acts : Facts → List ℕ → ℕ → Bool → ℕ → Option TxnNow → List Act
clearing_acts f token amount last at None = []
clearing_acts f token amount last at (Some now) = cleared_acts f token amount last at now (parts_held f now.txn)

-- a refund
abbrev pub refund_acts : Facts → List ℕ → ℕ → Option TxnNow → List Act
refund_acts f token amount None = []
refund_acts f token amount (Some now) =
    let t = now.txn in
    let programme = min amount (owed_to_programme f t) in
    GivesBack t amount programme ∷ acts_for_gateway t (Tells (next_notice f) refunded t amount (amount - programme) ∷ []) ++ Does token ∷ []

-- the gateway's answer to a call
abbrev pub answer_acts : CallId → Outcome → ℕ → Facts → List Act
answer_acts call what at f = acts_of_asked (λ o t. outcome_acts what f o t at) (call_in f call.0) f
