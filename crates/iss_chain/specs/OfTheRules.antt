-- What a chain has of the core's state, and what its entries are of those that the rules make.
use Rattle.std.specs.Prelude.{◌≡◌, ℕ, Bool, List, [], Some, fold}
use Rattle.iss_model.specs.declared.account.Part.TheVariants as part
use Rattle.iss_model.specs.declared.call.Opened.{Opened}
use Rattle.iss_model.specs.declared.decision.Reason.{Reason}
use Rattle.iss_model.specs.declared.entry.Entry.{Entry}
use Rattle.iss_model.specs.declared.setting.Set.{Set}
use Rattle.iss_model.specs.declared.txn.Txn.{Txn}
use Rattle.iss_model.specs.rules.Activity.{TxnNow}
use Rattle.iss_model.specs.rules.Acts.{FundsPart, StandsIn, act_entries, entries_of_acts}
use Rattle.iss_model.specs.rules.Asks.{Ask}
use Rattle.iss_model.specs.rules.CardActs.{clearing_acts, end_acts, refund_acts, reversal_acts}
use Rattle.iss_model.specs.rules.Facts.{Facts}
use Rattle.iss_model.specs.rules.Pieces.{Parts, clearing_money_entries, owed_to_programme, parts_held, taken_to_clear}
use Rattle.iss_model.specs.state.Cores.{CoreState, after_entry}
use Rattle.iss_chain.specs.Among.{AreMadeOf}
use Rattle.iss_chain.specs.Calls.{clearing_end_entries, end_money_entries, fund_money_entries, refund_money_entries, reversal_money_entries}
use Rattle.iss_chain.specs.Values.{chain_after_entry, chain_part}

-- what entries do to a core's state, they do to the part of it that a chain keeps
abbrev pub FollowsTheCore : CoreState → List Entry → Type 0
FollowsTheCore s entries = chain_part (fold after_entry s entries) ≡ fold chain_after_entry (chain_part s) entries

-- a call that is funded for a part of its amount is funded by the gateway, for that part
abbrev pub IsPartlyFunded : Opened → Txn → ℕ → Type 0
IsPartlyFunded o t amount = AreMadeOf [] (fund_money_entries t part.G amount) (act_entries (FundsPart o t amount))

-- an ask that a set stands in for is funded by the programme
abbrev pub IsStoodIn : ℕ → Ask → ℕ → Set → Type 0
IsStoodIn number ask at s = AreMadeOf [] (fund_money_entries ask.txn part.P ask.amount) (act_entries (StandsIn number ask at s))

-- a reversal lets go of what the transaction holds
abbrev pub IsReversed : Facts → List ℕ → ℕ → TxnNow → Type 0
IsReversed f token amount now =
    AreMadeOf [] (reversal_money_entries now.txn (parts_held f now.txn) amount) (entries_of_acts (reversal_acts f token amount (Some now)))

-- a clearing takes and pays its amount, and may end its transaction
abbrev pub IsCleared : Facts → List ℕ → ℕ → Bool → ℕ → TxnNow → Type 0
IsCleared f token amount last at now =
    AreMadeOf (clearing_money_entries now.txn (taken_to_clear (parts_held f now.txn) amount) amount at)
    (clearing_end_entries now (parts_held f now.txn) amount last) (entries_of_acts (clearing_acts f token amount last at (Some now)))

-- a refund pays back to the programme what it is owed, and the rest to the gateway
abbrev pub IsRefunded : Facts → List ℕ → ℕ → TxnNow → Type 0
IsRefunded f token amount now =
    AreMadeOf (refund_money_entries now.txn (owed_to_programme f now.txn) amount) [] (entries_of_acts (refund_acts f token amount (Some now)))

-- an end lets go of all that the transaction holds
abbrev pub IsEnded : ℕ → Facts → Txn → Parts → Reason → Type 0
IsEnded number f t parts why = AreMadeOf [] (end_money_entries t parts) (entries_of_acts (end_acts number f t parts why))
