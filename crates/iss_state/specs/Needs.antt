-- What an entry needs of the state that it is entered into.
use Rattle.std.specs.Prelude.{List, None, Option, Some, [], false, find, length, map, nat_lt, negsuc, pos, suc, true, ℕ, ℤ, ◌+◌, ◌∷◌, ◌≡◌, ◌≤◌}
use Rattle.std.specs.List.{list_all}
use Rattle.std.specs.Str.{bytes_eq}
use Rattle.iss_model.specs.declared.account.Part.{Part}
use Rattle.iss_model.specs.declared.currency.Currency.{Currency}
use Rattle.iss_model.specs.declared.entry.Entry.{Entry}
use Rattle.iss_model.specs.declared.entry.Entry.TheVariants as entry
use Rattle.iss_model.specs.declared.txn.Txn.{Txn}
use Rattle.iss_model.specs.declared.txn.UsageRow.{UsageRow}
use Rattle.iss_model.specs.rules.Settings.{is_named_in}
use Rattle.iss_model.specs.state.Cores.{CoreState, after_entry, core_facts}
pub use Rattle.iss_acts.specs.Sources.{setting_reason}
use Rattle.iss_state.specs.Stakes.{part_held, txn_tokens}

-- the transactions of a state as they began, in their order
abbrev pub begun_txns : CoreState → List Txn
begun_txns s = map (λ t. t.txn) s.holdings.txns

-- a transaction stands under its token
abbrev pub Stands : CoreState → Txn → Type 0
Stands s t = find (λ x. bytes_eq x.token t.token) (begun_txns s) ≡ Some t

-- what is let go is there; what is held more needs nothing
abbrev pub IsCovered : ℤ → ℕ → Type 0
IsCovered (pos n) held = Unit {0}
IsCovered (negsuc n) held = suc n ≤ held

-- A hold is of a transaction that stands, of its user and currency, and lets go what is there.
pub record HoldNeeds (s : CoreState) (txn user : List ℕ) (currency : Currency) (p : Part) (amount : ℤ) : Type 0 where
  pub its : Txn
  pub stands : Stands s its
  pub of_txn : txn ≡ its.token
  pub of_user : user ≡ its.user
  pub of_currency : currency ≡ its.currency
  pub covered : IsCovered amount (part_held s.holdings.parts txn p)

-- Use is of a transaction that stands, of its origin, user, product and currency.
pub record UsageNeeds (s : CoreState) (row : UsageRow) : Type 0 where
  pub its : Txn
  pub stands : Stands s its
  pub of_txn : row.txn ≡ its.token
  pub of_origin : row.origin ≡ its.origin
  pub of_user : row.user ≡ its.user
  pub of_product : row.product ≡ its.product
  pub of_currency : row.currency ≡ its.currency

-- a post for a transaction is for one that stands
abbrev pub PostNeeds : CoreState → Option (List ℕ) → Type 0
PostNeeds s None = Unit {0}
PostNeeds s (Some token) = is_named_in (txn_tokens s.holdings.txns) token ≡ true

-- a transaction that begins has a new token, and comes of a later record than those that stand
pub record BeginNeeds (s : CoreState) (t : Txn) : Type 0 where
  pub unknown : is_named_in (txn_tokens s.holdings.txns) t.token ≡ false
  pub later : list_all (λ x. nat_lt x.origin t.origin) (begun_txns s) ≡ true

-- What an entry needs of the state that it is entered into, but for how far sums reach and for the number of a notice.
abbrev pub Fits : CoreState → Entry → Type 0
Fits s (entry.Conf i) = setting_reason (core_facts s) i ≡ None
Fits s (entry.Began t) = BeginNeeds s t
Fits s (entry.Opened o) = o.call.0 ≡ length s.calls + 1
Fits s (entry.Post from to amount txn) = PostNeeds s txn
Fits s (entry.Hold txn user currency p amount) = HoldNeeds s txn user currency p amount
Fits s (entry.Usage row) = UsageNeeds s row
Fits s (entry.Ended txn) = is_named_in (txn_tokens s.holdings.txns) txn ≡ true
Fits s _ = Unit {0}

-- each entry fits the state after those before it
abbrev pub AllFit : CoreState → List Entry → Type 0
AllFit s [] = Unit {0}
AllFit s (e ∷ es) = Fits s e × AllFit (after_entry s e) es
