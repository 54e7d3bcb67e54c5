-- What accounts are owed, as amounts that go from one account to another.
use Rattle.std.specs.Prelude.{ℕ, Bool, ◌&&◌, ◌==◌, List, [], ◌∷◌, fold, option_map, unwrap_or, if◌then◌else◌}
use Rattle.iss_model.specs.declared.account.Account.{Account}
use Rattle.iss_model.specs.declared.account.Account.TheVariants as account
use Rattle.iss_model.specs.declared.input.Input.{Input}
use Rattle.iss_model.specs.declared.input.Input.TheVariants as input
use Rattle.iss_model.specs.declared.state.Carried.{Carried}
use Rattle.iss_model.specs.declared.state.Seen.{Seen}
use Rattle.iss_model.specs.declared.state.State.{State}
use Rattle.iss_model.specs.declared.state.TxnSums.{TxnSums}
use Rattle.iss_model.specs.declared.txn.Txn.{Txn}
use Rattle.iss_model.specs.rules.Activity.{TxnNow, txn_named}
use Rattle.iss_model.specs.rules.CardReasons.{is_account_funded}
use Rattle.iss_model.specs.rules.Pieces.{user_account}
use Rattle.iss_model.specs.state.Kept.{AreSmall, Kept, nothing_kept}
use Rattle.iss_ledger.specs.Posts.{after_post}
use Rattle.iss_states.specs.Rebuilding.{is_done}

-- An amount goes from one account to another.
pub record Move : Type 0 where
  pub from : Account
  pub to : Account
  pub amount : ℕ

-- an amount that goes from one account to another
abbrev pub move : Account → Account → ℕ → Move
move from to amount = record { from = from; to = to; amount = amount }

-- the balances after a move, which stay as they are if nothing goes
abbrev pub after_move : Kept → Move → Kept
after_move sums x = if x.amount == 0 then sums else after_post sums x.from x.to x.amount

-- the balances after these moves
abbrev pub after_moves : Kept → List Move → Kept
after_moves sums xs = fold after_move sums xs

-- each balance stays small at each of these moves
abbrev pub StaySmall : Kept → List Move → Type 0
StaySmall sums [] = Unit {0}
StaySmall sums (x ∷ xs) = AreSmall (after_move sums x) × StaySmall (after_move sums x) xs

-- what a load moves: its amount goes from the programme to its user
abbrev pub input_moves : Input → List Move
input_moves (input.Load token user currency amount) = move (account.Programme currency) (account.User user currency) amount ∷ []
input_moves _ = []

-- what an event moves, if it is done
abbrev pub load_moves : Seen → List Move
load_moves e = if is_done e.verdict then input_moves e.body.input else []

-- the account that pays a transaction: its user's own balance, or else the gateway
abbrev pub payer_by : Bool → Txn → Account
payer_by own t = if own then user_account t else account.Gateway t.currency

-- what is held for a transaction of others' money came from the gateway to its user
abbrev pub held_moves_by : Bool → Txn → TxnSums → List Move
held_moves_by own t x =
    if own then []
    else move (account.Gateway t.currency) (user_account t) x.g ∷ move (account.Gateway t.currency) (user_account t) x.p ∷ []

-- What a transaction moves. What is cleared goes from who pays to the network, and what is refunded comes back. What the programme has paid
-- goes to the gateway, and what is held of both comes from there to the user.
abbrev pub txn_moves_by : Bool → Txn → TxnSums → List Move
txn_moves_by own t x =
    move (payer_by own t) (account.Network t.currency) x.cleared
    ∷ move (account.Network t.currency) (payer_by own t) x.refunded
    ∷ move (account.Programme t.currency) (account.Gateway t.currency) x.paid
    ∷ held_moves_by own t x

-- so by the funding of the transaction
abbrev pub txn_moves : Txn → TxnSums → List Move
txn_moves t x = txn_moves_by (is_account_funded t.funding) t x

-- sums of a transaction move nothing, whoever pays it
abbrev pub move_nothing : TxnSums → Bool
move_nothing x = x.cleared == 0 && x.refunded == 0 && x.paid == 0 && x.g == 0 && x.p == 0

-- what a listed transaction moves, if it is among these
abbrev pub listed_moves : List TxnNow → Carried → List Move
listed_moves txns t = unwrap_or (option_map (λ now. txn_moves now.txn t.sums) (txn_named t.txn txns)) []

-- the balances after what each of these moves
abbrev pub after_all : {A : Type 0} → (A → List Move) → Kept → List A → Kept
after_all moves sums xs = fold (λ m x. after_moves m (moves x)) sums xs

-- each balance stays small at what each of these moves
abbrev pub AllStaySmall : {A : Type 0} → (A → List Move) → Kept → List A → Type 0
AllStaySmall moves sums [] = Unit {0}
AllStaySmall moves sums (x ∷ xs) = StaySmall sums (moves x) × AllStaySmall moves (after_moves sums (moves x)) xs

-- the balances after the loads of a state
abbrev pub after_loads : State → Kept
after_loads s = after_all load_moves nothing_kept s.events

-- what accounts are owed: the balances after the loads of a state, and then its transactions
abbrev pub owed_kept : List TxnNow → State → Kept
owed_kept txns s = after_all (listed_moves txns) (after_loads s) s.txns

-- Each balance stays small while loads and transactions of a state are made.
pub record OwedStaySmall (txns : List TxnNow) (s : State) : Type 0 where
  pub loads : AllStaySmall load_moves nothing_kept s.events
  pub txns_too : AllStaySmall (listed_moves txns) (after_loads s) s.txns
