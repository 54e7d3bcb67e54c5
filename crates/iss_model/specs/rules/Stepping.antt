-- What a record does: the acts of what is due at its stamp, and then those of its input.
use Rattle.std.specs.Prelude.{ℕ, Bool, List, [], ◌∷◌, Option, Some, None, if◌then◌else◌, fold, option_map}
use Rattle.iss_model.specs.declared.currency.Currency.{Currency}
use Rattle.iss_model.specs.declared.decision.Reason.{Reason}
use Rattle.iss_model.specs.declared.entry.Entry.{Entry}
use Rattle.iss_model.specs.declared.input.Input.TheVariants as input
use Rattle.iss_model.specs.declared.input.Input.{Input}
use Rattle.iss_model.specs.declared.input.Record.{Record}
use Rattle.iss_model.specs.rules.Acts.{Act, Declines, Sets, Loads, Acknowledges, entries_of_acts}
use Rattle.iss_model.specs.rules.Asks.{Ask}
use Rattle.iss_model.specs.rules.CardActs.{answer_acts, authorization_acts, increment_acts, reversal_acts, clearing_acts, refund_acts}
use Rattle.iss_model.specs.rules.CardReasons.{txn_asked, first_ask, further_ask, authorization_reason, increment_reason, reversal_reason, clearing_reason, refund_reason}
use Rattle.iss_model.specs.rules.Due.{DueItem, due_items, thing_entries}
use Rattle.iss_model.specs.rules.Facts.{Facts, txn_in, is_notice}
use Rattle.iss_model.specs.rules.Keeper.{Keeper, Growth, grow}
use Rattle.iss_model.specs.rules.Reasons.{user_reason, card_reason, move_reason, product_reason, group_reason, control_reason, set_reason, switch_reason, load_reason}

-- an authorisation as an ask, if its card and product are known
abbrev pub authorization_ask : Facts → List ℕ → List ℕ → Currency → ℕ → ℕ → List ℕ → Bool → ℕ → Option Ask
authorization_ask f token card currency amount mcc mid partial at =
    option_map (first_ask token amount partial at) (txn_asked f token card currency mcc mid at)

-- an increment as an ask, if its transaction is known
abbrev pub increment_ask : Facts → List ℕ → List ℕ → ℕ → ℕ → Option Ask
increment_ask f token txn amount at = option_map (λ now. further_ask token amount at now.txn) (txn_in f txn)

-- an event is declined if there is a reason, and else makes these acts
abbrev pub acts_unless : Option Reason → List ℕ → List Act → List Act
acts_unless (Some why) token acts = Declines token why ∷ []
acts_unless None token acts = acts

-- a notice is acknowledged; a notice that was never made isn't
abbrev pub acknowledgement_acts : Facts → ℕ → List Act
acknowledgement_acts f notice = if is_notice f notice then Acknowledges notice ∷ [] else []

-- the acts of an input at a moment
abbrev pub acts_of : Input → ℕ → Facts → List Act
acts_of (input.User token user) at f = acts_unless (user_reason f user) token (Sets (input.User token user) token ∷ [])
acts_of (input.Card token card user product active) at f =
    acts_unless (card_reason f card user product) token (Sets (input.Card token card user product active) token ∷ [])
acts_of (input.Move token who) at f = acts_unless (move_reason f who) token (Sets (input.Move token who) token ∷ [])
acts_of (input.Product token product currency funding timeout_ms hold_ms) at f =
    acts_unless (product_reason f product) token (Sets (input.Product token product currency funding timeout_ms hold_ms) token ∷ [])
acts_of (input.Group token group mccs) at f = acts_unless (group_reason f group) token (Sets (input.Group token group mccs) token ∷ [])
acts_of (input.Control token control currency window amount_limit usage_limit association scope offset active) at f =
    acts_unless (control_reason f control currency window association scope offset) token
    (Sets (input.Control token control currency window amount_limit usage_limit association scope offset active) token ∷ [])
acts_of (input.Set token set product currency connection timeout application max day_limit active) at f =
    acts_unless (set_reason f set product currency) token
    (Sets (input.Set token set product currency connection timeout application max day_limit active) token ∷ [])
acts_of (input.Switch token product on) at f = acts_unless (switch_reason f product) token (Sets (input.Switch token product on) token ∷ [])
acts_of (input.Load token user currency amount) at f = acts_unless (load_reason f user) token (Loads token user currency amount ∷ [])
acts_of (input.Authorization token card currency amount mcc mid partial) at f =
    let ask = authorization_ask f token card currency amount mcc mid partial at in
    acts_unless (authorization_reason f card currency ask) token (authorization_acts f ask)
acts_of (input.Increment token txn currency amount) at f =
    let ask = increment_ask f token txn amount at in
    acts_unless (increment_reason f (txn_in f txn) currency ask) token (increment_acts f ask)
acts_of (input.Reversal token txn currency amount) at f =
    acts_unless (reversal_reason (txn_in f txn) currency) token (reversal_acts f token amount (txn_in f txn))
acts_of (input.Clearing token txn currency amount last) at f =
    acts_unless (clearing_reason (txn_in f txn) currency) token (clearing_acts f token amount last at (txn_in f txn))
acts_of (input.Refund token txn currency amount) at f =
    acts_unless (refund_reason f (txn_in f txn) currency amount) token (refund_acts f token amount (txn_in f txn))
acts_of (input.Answer call what) at f = answer_acts call what at f
acts_of (input.Ack notice) at f = acknowledgement_acts f notice
acts_of input.Time at f = []

-- the entries of an input at a moment
abbrev pub entries_of : Input → ℕ → Facts → List Entry
entries_of i at f = entries_of_acts (acts_of i at f)

-- a record's own entries
abbrev pub own_entries : Record → Facts → List Entry
own_entries r f = entries_of r.input r.at f

-- a due item is settled at a moment
abbrev pub settle : {W : Type 0} → Keeper W → ℕ → Growth W → DueItem → Growth W
settle k at g item = grow k g (thing_entries item.thing at)

-- what stands when all that is due at a moment is settled
abbrev pub after_due : {W : Type 0} → Keeper W → W → ℕ → Growth W
after_due k w at = fold (settle k at) (record { world = w; entries = [] }) (due_items (k.facts w) at)

-- A record is taken up, settles what is due at its stamp, and then makes its own entries.
unfoldable pub step : {W : Type 0} → Keeper W → W → Record → Growth W
step k w r = grow k (after_due k (k.take_up w r) r.at) (own_entries r)
