-- What entries need of the chain that they are entered into.
use Rattle.std.specs.Prelude.{◌≡◌, ℕ, ℤ, false, ◌==◌, List, [], ◌∷◌, Option, Some, None, IsSome}
use Rattle.std.specs.Option.{option_map}
use Rattle.std.specs.List.{list_any}
use Rattle.iss_model.specs.declared.account.Part.{Part}
use Rattle.iss_model.specs.declared.currency.Currency.{Currency}
use Rattle.iss_model.specs.declared.txn.Txn.{Txn}
use Rattle.iss_model.specs.declared.entry.Entry.{Entry}
use Rattle.iss_model.specs.declared.entry.Entry.TheVariants as entry
use Rattle.iss_model.specs.Sums.{part_key}
use Rattle.iss_model.specs.state.Kept.{kept_at, AreSmall}
use Rattle.iss_model.specs.rules.Activity.{txn_named}
use Rattle.iss_model.specs.rules.Facts.{not_below}
use Rattle.iss_model.specs.state.Cores.{Holdings, SumsByTxn}
use Rattle.iss_hold.specs.Entries.{IsHoldCovered}
use Rattle.iss_chain.specs.Values.{ChainNow, chain_after_entry}

-- what was cleared, refunded and paid of each transaction lies strictly between -2^62 and 2^62
pub record AreSumsSmall (sums : SumsByTxn) : Type 0 where
  pub cleared : AreSmall sums.cleared
  pub refunded : AreSmall sums.refunded
  pub paid : AreSmall sums.paid

-- each sum that a chain keeps lies in that range too
pub record IsChainSmall (c : ChainNow) : Type 0 where
  pub balances : AreSmall c.balances
  pub held : AreSmall c.holdings.held
  pub txn_sums : AreSumsSmall c.txn_sums

-- each sum lies in that range after each of these entries
abbrev pub StaysSmall : ChainNow → List Entry → Type 0
StaysSmall c [] = Unit {0}
StaysSmall c (e ∷ es) = IsChainSmall (chain_after_entry c e) × StaysSmall (chain_after_entry c e) es

-- a transaction is unknown, and no known one began with its record
pub record IsNewTxn (h : Holdings) (t : Txn) : Type 0 where
  pub unknown : txn_named t.token h.txns ≡ None
  pub origin : list_any (λ x. t.origin == x.txn.origin) h.txns ≡ false

-- a transaction is found by its token
abbrev pub IsTxn : Holdings → Txn → Type 0
IsTxn h t = option_map (λ now. now.txn) (txn_named t.token h.txns) ≡ Some t

-- a hold names a known transaction with its user and currency, and lets go no more than that holds
pub record HoldFits (h : Holdings) (txn user : List ℕ) (currency : Currency) (p : Part) (amount : ℤ) : Type 0 where
  pub its : Txn
  pub stands : IsTxn h its
  pub of_txn : txn ≡ its.token
  pub of_user : user ≡ its.user
  pub of_currency : currency ≡ its.currency
  pub covered : IsHoldCovered amount (not_below (kept_at h.parts (part_key txn p)))

-- a post for a transaction is for a known one
abbrev pub PostFits : Holdings → Option (List ℕ) → Type 0
PostFits h None = Unit {0}
PostFits h (Some txn) = IsSome (txn_named txn h.txns)

-- what an entry needs of the chain that it is entered into, except for the range of sums
abbrev pub Fits : ChainNow → Entry → Type 0
Fits c (entry.Began t) = IsNewTxn c.holdings t
Fits c (entry.Post from to amount txn) = PostFits c.holdings txn
Fits c (entry.Hold txn user currency p amount) = HoldFits c.holdings txn user currency p amount
Fits c (entry.Ended txn) = IsSome (txn_named txn c.holdings.txns)
Fits c _ = Unit {0}

-- each of these entries has what it needs, if they are entered one after the other
abbrev pub AreFit : ChainNow → List Entry → Type 0
AreFit c [] = Unit {0}
AreFit c (e ∷ es) = Fits c e × AreFit (chain_after_entry c e) es

-- an entry fits the chain that it is entered into, and leaves small sums
pub record IsChainEnterable (c : ChainNow) (e : Entry) : Type 0 where
  pub fits : Fits c e
  pub small : IsChainSmall (chain_after_entry c e)
