-- The entries of each call: those of the rules, without notices, calls to the gateway and decisions.
use Rattle.std.specs.Prelude.{ℕ, pos, ◌-◌, min, ◌==◌, Bool, ◌&&◌, ◌||◌, List, [], ◌∷◌, ◌++◌, Option, Some, None, if◌then◌else◌}
use Rattle.iss_model.specs.declared.account.Account.TheVariants as account
use Rattle.iss_model.specs.declared.account.Part.{Part}
use Rattle.iss_model.specs.declared.account.Part.TheVariants as part
use Rattle.iss_model.specs.declared.currency.Currency.{Currency}
use Rattle.iss_model.specs.declared.txn.Txn.{Txn}
use Rattle.iss_model.specs.declared.entry.Entry.{Entry}
use Rattle.iss_model.specs.declared.entry.Entry.TheVariants as entry
use Rattle.iss_model.specs.rules.Activity.{TxnNow, txn_named}
use Rattle.iss_model.specs.rules.Asks.{usage_of}
use Rattle.iss_model.specs.rules.Pieces.{only_where, only_gateway, post_entries, hold_entries, user_account, Parts, parts_held, in_all, left_of, taken_to_clear, release_entries, clearing_money_entries, owed_to_programme}
use Rattle.iss_chain.specs.Values.{ChainNow, chain_facts}

-- money comes in from the programme
abbrev pub load_money_entries : List ℕ → Currency → ℕ → List Entry
load_money_entries user currency amount =
    only_where amount (entry.Post (account.Programme currency) (account.User user currency) amount None ∷ [])

-- a part of a transaction's money comes and is held: the gateway or the programme pays it in, or the user's own balance has it
abbrev pub fund_money_entries : Txn → Part → ℕ → List Entry
fund_money_entries t part.G amount = post_entries t (account.Gateway t.currency) (user_account t) amount ++ hold_entries t part.G amount
fund_money_entries t part.P amount = post_entries t (account.Programme t.currency) (user_account t) amount ++ hold_entries t part.P amount
fund_money_entries t part.S amount = hold_entries t part.S amount

-- at most an amount of what is held is let go, and a transaction that then holds nothing ends
abbrev pub reversal_money_entries : Txn → Parts → ℕ → List Entry
reversal_money_entries t parts amount =
    let freed = min amount (in_all parts) in
    release_entries t parts freed ++ (if freed == in_all parts then entry.Ended t.token ∷ [] else [])

-- a transaction ends, and all that it still holds is let go
abbrev pub end_money_entries : Txn → Parts → List Entry
end_money_entries t parts = release_entries t parts (in_all parts) ++ entry.Ended t.token ∷ []

-- a clearing ends a live transaction if it is the last one, or nothing is held after it
abbrev pub clearing_end_entries : TxnNow → Parts → ℕ → Bool → List Entry
clearing_end_entries now parts amount last =
    let rest = left_of parts (taken_to_clear parts amount) in
    if now.live && (last || in_all rest == 0) then end_money_entries now.txn rest else []

-- a transaction uses a further amount
abbrev pub more_use_entries : Txn → ℕ → ℕ → List Entry
more_use_entries t amount at = only_where amount (entry.Usage (usage_of t (pos amount) (pos 0) at) ∷ [])

-- for a gateway product the programme pays what the hold of a clearing doesn't cover
abbrev pub excess_entries : Txn → ℕ → List Entry
excess_entries t excess = only_gateway t (post_entries t (account.Programme t.currency) (user_account t) excess)

-- a clearing takes amounts from the parts of a hold, and pays them to the network
abbrev pub cleared_hold_entries : Txn → Parts → ℕ → ℕ → List Entry
cleared_hold_entries t parts amount at = clearing_money_entries t (taken_to_clear parts amount) amount at

-- an amount is paid back: one part of it to the programme, and the rest to the gateway
abbrev pub paid_back_entries : Txn → ℕ → ℕ → List Entry
paid_back_entries t programme amount =
    post_entries t (user_account t) (account.Programme t.currency) programme
    ++ post_entries t (user_account t) (account.Gateway t.currency) (amount - programme)

-- a refund comes back from the network; for a gateway product the programme first receives what it is owed, and the gateway the rest
abbrev pub refund_money_entries : Txn → ℕ → ℕ → List Entry
refund_money_entries t owed amount =
    let programme = min amount owed in
    post_entries t (account.Network t.currency) (user_account t) amount
    ++ only_gateway t (
    post_entries t (user_account t) (account.Programme t.currency) programme
    ++ post_entries t (user_account t) (account.Gateway t.currency) (amount - programme)
    )

-- the entries that are made of a transaction and the parts that it holds, if it is known
abbrev pub entries_for : ChainNow → Option TxnNow → (TxnNow → Parts → List Entry) → List Entry
entries_for c None make = []
entries_for c (Some now) make = make now (parts_held (chain_facts c) now.txn)

-- the entries of each call on a transaction
abbrev pub entries_of_fund : ChainNow → List ℕ → Part → ℕ → List Entry
entries_of_fund c txn part amount = entries_for c (txn_named txn c.holdings.txns) (λ now parts. fund_money_entries now.txn part amount)

abbrev pub entries_of_reverse : ChainNow → List ℕ → ℕ → List Entry
entries_of_reverse c txn amount = entries_for c (txn_named txn c.holdings.txns) (λ now parts. reversal_money_entries now.txn parts amount)

abbrev pub entries_of_end : ChainNow → List ℕ → List Entry
entries_of_end c txn = entries_for c (txn_named txn c.holdings.txns) (λ now parts. end_money_entries now.txn parts)

-- the entries in which a clearing takes, pays and counts use
abbrev pub entries_before_end : ChainNow → List ℕ → ℕ → ℕ → List Entry
entries_before_end c txn amount at =
    entries_for c (txn_named txn c.holdings.txns) (λ now parts. clearing_money_entries now.txn (taken_to_clear parts amount) amount at)

abbrev pub entries_of_clear : ChainNow → List ℕ → ℕ → Bool → ℕ → List Entry
entries_of_clear c txn amount last at =
    entries_for c (txn_named txn c.holdings.txns)
    (λ now parts. clearing_money_entries now.txn (taken_to_clear parts amount) amount at ++ clearing_end_entries now parts amount last)

abbrev pub entries_of_refund : ChainNow → List ℕ → ℕ → List Entry
entries_of_refund c txn amount =
    entries_for c (txn_named txn c.holdings.txns)
    (λ now parts. refund_money_entries now.txn (owed_to_programme (chain_facts c) now.txn) amount)
