-- What a record rules: it decides events, or asks the gateway about one. What the rules have it rule: of each event whose call it closes,
-- and then of its own.
use Rattle.std.specs.Prelude.{◌≡◌, ℕ, Bool, false, not, ◌&&◌, ◌||◌, ◌==◌, nat_le, List, [], ◌∷◌, ◌++◌, Option, Some, None, option_map, option_and_then, if◌then◌else◌}
use Rattle.std.specs.List.{filter_map, cons_option}
use Rattle.std.specs.Str.{bytes_eq}
use Rattle.iss_model.specs.declared.call.Failure.{Failure}
use Rattle.iss_model.specs.declared.call.Failure.TheVariants as failure
use Rattle.iss_model.specs.declared.call.How.{How}
use Rattle.iss_model.specs.declared.call.How.TheVariants as how
use Rattle.iss_model.specs.declared.call.Opened.{Opened}
use Rattle.iss_model.specs.declared.decision.Reason.{Reason}
use Rattle.iss_model.specs.declared.decision.Reason.TheVariants as reason
use Rattle.iss_model.specs.declared.decision.Verdict.{Verdict}
use Rattle.iss_model.specs.declared.decision.Verdict.TheVariants as verdict
use Rattle.iss_model.specs.declared.entry.Entry.{Entry}
use Rattle.iss_model.specs.declared.entry.Entry.TheVariants as entry
use Rattle.iss_model.specs.declared.input.Input.{Input}
use Rattle.iss_model.specs.declared.input.Input.TheVariants as input
use Rattle.iss_model.specs.declared.input.Outcome.{Outcome}
use Rattle.iss_model.specs.declared.input.Outcome.TheVariants as outcome
use Rattle.iss_model.specs.declared.input.Record.{Record}
use Rattle.iss_model.specs.declared.txn.Txn.{Txn}
use Rattle.iss_model.specs.Inputs.{event_token, outcome_number}
use Rattle.iss_model.specs.rules.Asks.{Ask, call_ask}
use Rattle.iss_model.specs.rules.CardActs.{counts_as_part}
use Rattle.iss_model.specs.rules.CardReasons.{is_account_funded, authorization_reason, increment_reason, reversal_reason, clearing_reason, refund_reason}
use Rattle.iss_model.specs.rules.Facts.{Facts, txn_in, call_in}
use Rattle.iss_model.specs.rules.Histories.{History, history_facts, history_keeper, history_of}
use Rattle.iss_model.specs.rules.Pieces.{failure_reason}
use Rattle.iss_model.specs.rules.Reasons.{user_reason, card_reason, move_reason, product_reason, group_reason, control_reason, set_reason, switch_reason, load_reason}
use Rattle.iss_model.specs.rules.Settings.{is_named_in}
use Rattle.iss_model.specs.rules.StandIns.{Stand, allowed, over_limit, uncovered, stand}
use Rattle.iss_model.specs.rules.Stepping.{authorization_ask, increment_ask, after_due}
use Rattle.iss_agreement.specs.Stepped.{book_entries}

-- an event is decided, or the gateway is asked about it
pub data Ruling : Type 0 where
  decided_as : List ℕ → Verdict → Ruling
  asked_about : List ℕ → Ruling

-- what an entry rules
abbrev pub ruling_of : Entry → Option Ruling
ruling_of (entry.Decided event verdict) = Some (decided_as event verdict)
ruling_of (entry.Opened o) = Some (asked_about o.event)
ruling_of _ = None

-- what entries rule, in their order
abbrev pub rulings_of : List Entry → List Ruling
rulings_of entries = filter_map ruling_of entries

-- what a record rules of its own event ----

-- an event that has a reason is declined with it, and an event that has none is done
abbrev pub done_unless : Option Reason → Verdict
done_unless (Some why) = verdict.Declined why
done_unless None = verdict.Done

-- what the sets come to: approval by a set, or a decline for the limit of a set, or else for the gateway's failure
abbrev pub verdict_of_sets : Stand → Failure → Verdict
verdict_of_sets (allowed s) why = verdict.Approved
verdict_of_sets (over_limit s) why = verdict.Declined (reason.StandInLimit s.name)
verdict_of_sets uncovered why = verdict.Declined (failure_reason why)

-- An ask that nothing declines is approved if the user's own balance pays. Else the gateway is asked; while the product's switch is on
-- the sets decide.
abbrev pub funding_ruling : Facts → Ask → Ruling
funding_ruling f ask =
    if is_account_funded ask.txn.funding then decided_as ask.event verdict.Approved
    else
    (if is_named_in f.switched ask.txn.product then decided_as ask.event (verdict_of_sets (stand f ask failure.Switch ask.at) failure.Switch)
    else asked_about ask.event)

-- an authorisation or increment is declined with its reason; without one its ask seeks its funding
abbrev pub ask_rulings : Facts → List ℕ → Option Reason → Option Ask → List Ruling
ask_rulings f token (Some why) ask = decided_as token (verdict.Declined why) ∷ []
ask_rulings f token None ask = cons_option (option_map (funding_ruling f) ask) []

-- Why an event is declined, at its stamp and on the facts of its turn, if it is. An answer, an acknowledgement and a time have no reason.
abbrev pub event_reason : Input → ℕ → Facts → Option Reason
event_reason (input.User token user) at f = user_reason f user
event_reason (input.Card token card user product active) at f = card_reason f card user product
event_reason (input.Move token who) at f = move_reason f who
event_reason (input.Product token product currency funding timeout_ms hold_ms) at f = product_reason f product
event_reason (input.Group token group mccs) at f = group_reason f group
event_reason (input.Control token control currency window amount_limit usage_limit association scope offset active) at f =
    control_reason f control currency window association scope offset
event_reason (input.Set token set product currency connection timeout application max day_limit active) at f =
    set_reason f set product currency
event_reason (input.Switch token product on) at f = switch_reason f product
event_reason (input.Load token user currency amount) at f = load_reason f user
event_reason (input.Authorization token card currency amount mcc mid partial) at f =
    authorization_reason f card currency (authorization_ask f token card currency amount mcc mid partial at)
event_reason (input.Increment token txn currency amount) at f =
    increment_reason f (txn_in f txn) currency (increment_ask f token txn amount at)
event_reason (input.Reversal token txn currency amount) at f = reversal_reason (txn_in f txn) currency
event_reason (input.Clearing token txn currency amount last) at f = clearing_reason (txn_in f txn) currency
event_reason (input.Refund token txn currency amount) at f = refund_reason f (txn_in f txn) currency amount
event_reason (input.Answer call outcome) at f = None
event_reason (input.Ack notice) at f = None
event_reason input.Time at f = None

-- An event with this token is declined with its reason, and done if it has none. Without a token there is no event to rule.
abbrev pub event_rulings : Option (List ℕ) → Option Reason → List Ruling
event_rulings (Some token) why = decided_as token (done_unless why) ∷ []
event_rulings None why = []

-- what a record with this input rules of its own event, at its stamp and on the facts of its turn
abbrev pub own_rulings : Input → ℕ → Facts → List Ruling
own_rulings (input.Authorization token card currency amount mcc mid partial) at f =
    ask_rulings f token (event_reason (input.Authorization token card currency amount mcc mid partial) at f)
    (authorization_ask f token card currency amount mcc mid partial at)
own_rulings (input.Increment token txn currency amount) at f =
    ask_rulings f token (event_reason (input.Increment token txn currency amount) at f) (increment_ask f token txn amount at)
own_rulings i at f = event_rulings (event_token i) (event_reason i at f)

-- what a record rules of an event whose call it closes ----

-- the call of a number, as it was opened
abbrev pub opened_in : Facts → ℕ → Option Opened
opened_in f number = option_map (λ c. c.opened) (call_in f number)

-- the transaction of a token, as it began
abbrev pub begun_in : Facts → List ℕ → Option Txn
begun_in f token = option_map (λ now. now.txn) (txn_in f token)

-- an input is this answer to this call
abbrev pub is_answer : ℕ → Outcome → Input → Bool
is_answer number outcome (input.Answer call other) = call.0 == number && outcome_number other == outcome_number outcome
is_answer number outcome _ = false

-- an input answers this call with a part of this amount, which counts
abbrev pub is_part_answer : Opened → ℕ → Input → Bool
is_part_answer o amount (input.Answer call (outcome.Partial currency part)) =
    call.0 == o.call.0 && part == amount && counts_as_part o currency part
is_part_answer o amount _ = false

-- an input answers this call with a part that doesn't count
abbrev pub is_uncounted_part : Opened → Input → Bool
is_uncounted_part o (input.Answer call (outcome.Partial currency part)) = call.0 == o.call.0 && not (counts_as_part o currency part)
is_uncounted_part o _ = false

-- How a record lets a call fail: by its deadline, which has come, or by the answer that the record is. A part that doesn't count is no
-- answer. A switch that is on closes no call.
abbrev pub may_fail : Record → Opened → Failure → Bool
may_fail r o failure.Timeout = nat_le o.deadline r.at
may_fail r o failure.Connection = is_answer o.call.0 outcome.Connection r.input
may_fail r o failure.Application = is_answer o.call.0 outcome.Application r.input || is_uncounted_part o r.input
may_fail r o failure.Switch = false

-- an input that abandons what is asked of a transaction: its reversal, or its clearing
abbrev pub abandoned_by : List ℕ → Input → Option Reason
abandoned_by token (input.Reversal event txn currency amount) = if bytes_eq txn token then Some reason.Reversed else None
abandoned_by token (input.Clearing event txn currency amount last) = if bytes_eq txn token then Some reason.Cleared else None
abandoned_by token _ = None

-- why a record abandons what is asked of a transaction: its expiry, which has come, or the record's input
abbrev pub abandonment_reason : Record → Txn → Option Reason
abandonment_reason r t = if nat_le t.expires r.at then Some reason.Expired else abandoned_by t.token r.input

-- a verdict if a test holds
abbrev pub only_if : Bool → Verdict → Option Verdict
only_if b v = if b then Some v else None

-- The verdict on the event of a call that a record closes, on the facts of that moment. There is none if the record has no cause for it.
abbrev pub closing_verdict : Record → Facts → Opened → Txn → How → Option Verdict
closing_verdict r f o t how.Funded = only_if (is_answer o.call.0 outcome.Funded r.input) verdict.Approved
closing_verdict r f o t (how.Partial amount) = only_if (is_part_answer o amount r.input) (verdict.Partial t.currency amount)
closing_verdict r f o t how.Refused = only_if (is_answer o.call.0 outcome.Refused r.input) (verdict.Declined reason.GatewayDeclined)
closing_verdict r f o t (how.Failed why) = only_if (may_fail r o why) (verdict_of_sets (stand f (call_ask o t) why r.at) why)
closing_verdict r f o t how.Abandoned = option_map (λ why. verdict.Declined why) (abandonment_reason r t)

-- the ruling on the event of a call that a record closes
abbrev pub call_ruling : Record → Facts → How → Opened → Option Ruling
call_ruling r f how o =
    option_and_then (λ t. option_map (decided_as o.event) (closing_verdict r f o t how)) (begun_in f o.txn)

-- the ruling that goes with an entry of a record, if that closes a call
abbrev pub closing_ruling : Record → Facts → Entry → Option Ruling
closing_ruling r f (entry.Closed call how) = option_and_then (call_ruling r f how) (opened_in f call.0)
closing_ruling r f _ = None

-- a book with more entries of its last record
abbrev pub with_entries : History → List Entry → History
with_entries h entries = history_keeper.add h entries

-- the rulings that go with a record's entries, each on the book as it stands before the entry
abbrev pub closing_rulings : Record → History → List Entry → List Ruling
closing_rulings r h [] = []
closing_rulings r h (e ∷ es) = cons_option (closing_ruling r (history_facts h) e) (closing_rulings r (with_entries h (e ∷ [])) es)

-- What the rules have a record rule that makes these entries on this book. First comes the event of each call that it closes, in their
-- order. Then comes its own event, on what stands when all that is due at its stamp is settled.
abbrev pub rulings_due : History → Record → List Entry → List Ruling
rulings_due before r entries =
    let up = history_keeper.take_up before r in
    closing_rulings r up entries ++ own_rulings r.input r.at (history_facts (after_due history_keeper up r.at).world)

-- a further record on the book of these rules as the rules have it
abbrev pub RulesAsDue : List Record → Record → Type 0
RulesAsDue rs r = rulings_of (book_entries rs r) ≡ rulings_due (history_of rs) r (book_entries rs r)
