-- Words for what asks, and what follows them, cost beyond what was at stake.
use Rattle.std.specs.Prelude.{◌≡◌, ℕ, ◌*◌, Bool, List, ◌∷◌, length, Option, Some}
use Rattle.iss_model.specs.declared.entry.Entry.TheVariants as entry
use Rattle.iss_model.specs.rules.Activity.{TxnNow}
use Rattle.iss_model.specs.rules.Acts.{Act, entries_of_acts}
use Rattle.iss_model.specs.rules.Asks.{Ask, ask_usage}
use Rattle.iss_model.specs.rules.CardActs.{clearing_acts, funding_acts, refund_acts, reversal_acts}
use Rattle.iss_model.specs.rules.Facts.{Facts}
use Rattle.iss_model.specs.state.Cores.{CoreState, core_facts}
use Rattle.iss_state.specs.Effects.{Paid}
use Rattle.iss_state.specs.Needs.{Stands}
use Rattle.iss_state.specs.Stakes.{at_least_one, IsOrderlyState}

-- an ask costs four times its amount in money and in use, on facts that know how many calls there are
abbrev pub AskIsPaid : CoreState → Facts → Ask → Type 0
AskIsPaid s f ask =
    length f.calls ≡ length s.calls
    → Paid (4 * at_least_one ask.amount) (4 * at_least_one ask.amount) s (entry.Usage (ask_usage ask) ∷ entries_of_acts (funding_acts f ask))

-- acts cost what a closed call takes from what was at stake: four times what was asked in money, and twice in use
abbrev pub ArePaidByAsk : Ask → CoreState → List Act → Type 0
ArePaidByAsk ask s acts = Paid (4 * at_least_one ask.amount) (2 * at_least_one ask.amount) s (entries_of_acts acts)

-- what holds if a state is orderly, and a transaction stands in it if it is known
abbrev pub IfKnownStands : CoreState → Option TxnNow → Type 0 → Type 0
IfKnownStands s o Holds = IsOrderlyState s → ((now : TxnNow) → o ≡ Some now → Stands s now.txn) → Holds

-- a reversal costs nothing
abbrev pub ReversalIsPaid : CoreState → List ℕ → ℕ → Option TxnNow → Type 0
ReversalIsPaid s token amount o = Paid 0 0 s (entries_of_acts (reversal_acts (core_facts s) token amount o))

-- a clearing costs twice its amount in money, and once in use
abbrev pub ClearingIsPaid : CoreState → List ℕ → ℕ → Bool → ℕ → Option TxnNow → Type 0
ClearingIsPaid s token amount last at o = Paid (2 * amount) amount s (entries_of_acts (clearing_acts (core_facts s) token amount last at o))

-- a refund costs twice its amount in money, on any facts
abbrev pub RefundIsPaid : CoreState → Facts → List ℕ → ℕ → Option TxnNow → Type 0
RefundIsPaid s f token amount o = Paid (2 * amount) 0 s (entries_of_acts (refund_acts f token amount o))
