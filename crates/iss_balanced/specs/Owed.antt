-- What each account of a state is owed by the state's transactions and loads.
use Rattle.std.specs.Prelude.{◌≡◌, ℕ, ℤ, pos, neg_ℤ, ◌+ℤ◌, ◌-ℤ◌, Bool, true, ◌&&◌, List, [], ◌∷◌, find, option_map, unwrap_or, if◌then◌else◌}
use Rattle.std.specs.List.{list_all}
use Rattle.std.specs.Cmp.Lexicographic.{slice_cmp}
use Rattle.std.specs.Ordering.{is_lt, nat_cmp}
use Rattle.std.specs.Str.{bytes_eq}
use Rattle.iss_model.specs.declared.account.Account.{Account}
use Rattle.iss_model.specs.declared.account.Account.TheVariants as account
use Rattle.iss_model.specs.declared.currency.Currency.{Currency}
use Rattle.iss_model.specs.declared.input.Input.{Input}
use Rattle.iss_model.specs.declared.input.Input.TheVariants as input
use Rattle.iss_model.specs.declared.state.Carried.{Carried}
use Rattle.iss_model.specs.declared.state.Saldo.{Saldo}
use Rattle.iss_model.specs.declared.state.Seen.{Seen}
use Rattle.iss_model.specs.declared.state.State.{State}
use Rattle.iss_model.specs.declared.state.TxnSums.{TxnSums}
use Rattle.iss_model.specs.declared.txn.Txn.{Txn}
use Rattle.iss_model.specs.Currencies.{same_currency}
use Rattle.iss_model.specs.Sums.{account_currency, account_key}
use Rattle.iss_model.specs.rules.Activity.{TxnNow, txn_named}
use Rattle.iss_model.specs.rules.CardReasons.{is_account_funded}
use Rattle.iss_states.specs.Keys.{is_named_by_token}
use Rattle.iss_states.specs.Rebuilding.{rebuilt}
use Rattle.iss_well_formed.specs.Txns.{done_total}

-- an amount counts if a test holds
abbrev pub amount_if : Bool → ℤ → ℤ
amount_if test amount = if test then amount else pos 0

-- what the network has received for a transaction: what was cleared less what was refunded
abbrev pub network_received : TxnSums → ℤ
network_received x = pos x.cleared -ℤ pos x.refunded

-- what a transaction leaves on its user's balance: if that pays, refunds less clearings, and else what is held of others' money
abbrev pub left_to_user : Txn → TxnSums → ℤ
left_to_user t x = if is_account_funded t.funding then pos x.refunded -ℤ pos x.cleared else pos x.g +ℤ pos x.p

-- What a transaction gives to an account in its currency. The network has what it received, the programme is less what it has paid, and the
-- transaction's user has what is left. The gateway has what makes these four add up to 0.
abbrev pub share_of : Account → Txn → TxnSums → ℤ
share_of (account.Network c) t x = amount_if (same_currency t.currency c) (network_received x)
share_of (account.Programme c) t x = amount_if (same_currency t.currency c) (neg_ℤ (pos x.paid))
share_of (account.User user c) t x = amount_if (bytes_eq t.user user && same_currency t.currency c) (left_to_user t x)
share_of (account.Gateway c) t x =
    amount_if (same_currency t.currency c) (neg_ℤ (network_received x +ℤ (neg_ℤ (pos x.paid) +ℤ left_to_user t x)))

-- what listed transactions come to, each by what it began as and by its sums
abbrev pub txns_total : (Txn → TxnSums → ℤ) → List TxnNow → List Carried → ℤ
txns_total worth txns [] = pos 0
txns_total worth txns (t ∷ ts) =
    unwrap_or (option_map (λ now. worth now.txn t.sums) (txn_named t.txn txns)) (pos 0) +ℤ txns_total worth txns ts

-- what a load in this currency loads
abbrev pub loaded_in : Currency → Input → ℕ
loaded_in c (input.Load token user currency amount) = if same_currency currency c then amount else 0
loaded_in c _ = 0

-- what a load of this user in this currency loads
abbrev pub loaded_to : List ℕ → Currency → Input → ℕ
loaded_to name c (input.Load token user currency amount) = if bytes_eq user name && same_currency currency c then amount else 0
loaded_to name c _ = 0

-- what the loads that are done give to an account: they take it from the programme and give it to users
abbrev pub loads_give : List Seen → Account → ℤ
loads_give es (account.Programme c) = neg_ℤ (pos (done_total (loaded_in c) es))
loads_give es (account.User user c) = pos (done_total (loaded_to user c) es)
loads_give es _ = pos 0

-- what an account is owed: what done loads and listed transactions give to it
abbrev pub owed_balance : State → Account → ℤ
owed_balance s a = loads_give s.events a +ℤ txns_total (share_of a) (rebuilt s).holdings.txns s.txns

-- the balance that is listed for an account, and 0 if none is
abbrev pub listed_balance : List Saldo → Account → ℤ
listed_balance bs a = unwrap_or (option_map (λ b. b.amount) (find (λ b. bytes_eq (account_key b.account) (account_key a)) bs)) (pos 0)

-- accounts are listed in the order of their keys, each once
abbrev pub are_in_key_order : List Saldo → Bool
are_in_key_order [] = true
are_in_key_order (b ∷ bs) =
    list_all (λ x. is_lt (slice_cmp nat_cmp (account_key b.account) (account_key x.account))) bs && are_in_key_order bs

-- what the balances that are listed in a currency add up to
abbrev pub balances_in : Currency → List Saldo → ℤ
balances_in c [] = pos 0
balances_in c (b ∷ bs) = amount_if (same_currency (account_currency b.account) c) b.amount +ℤ balances_in c bs

-- Each account has the balance that it is owed, so one that isn't listed is owed 0. In each currency the listed balances add up to 0. The
-- users of listed accounts have tokens for names. Accounts are listed in the order of their keys, each once.
pub record AreOwed (s : State) : Type 0 where
  pub each : (a : Account) → listed_balance s.balances a ≡ owed_balance s a
  pub sums : (c : Currency) → balances_in c s.balances ≡ pos 0
  pub named : list_all (λ b. is_named_by_token b.account) s.balances ≡ true
  pub order : are_in_key_order s.balances ≡ true

-- what a transaction gives to all accounts of its currency adds up to 0
abbrev pub GivesNothing : Txn → TxnSums → Type 0
GivesNothing t x =
    (share_of (account.Network t.currency) t x +ℤ share_of (account.Programme t.currency) t x)
    +ℤ (share_of (account.User t.user t.currency) t x +ℤ share_of (account.Gateway t.currency) t x)
    ≡ pos 0
