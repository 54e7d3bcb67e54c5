-- What is said of a state's transactions.
use Rattle.std.specs.Prelude.{◌≡◌, ℕ, ◌+◌, Bool, true, not, ◌&&◌, ◌||◌, ◌==◌, nat_le, List, [], ◌∷◌, None, if◌then◌else◌}
use Rattle.std.specs.List.{list_all, list_any}
use Rattle.std.specs.Str.{bytes_eq}
use Rattle.iss_model.specs.declared.input.Input.{Input}
use Rattle.iss_model.specs.declared.input.Input.TheVariants as input
use Rattle.iss_model.specs.declared.state.Carried.{Carried}
use Rattle.iss_model.specs.declared.state.Seen.{Seen}
use Rattle.iss_model.specs.declared.state.State.{State}
use Rattle.iss_model.specs.rules.Activity.{CallNow, TxnNow, is_asked, txn_named}
use Rattle.iss_model.specs.rules.Asks.{is_authorization}
use Rattle.iss_model.specs.rules.CardReasons.{is_account_funded}
use Rattle.iss_model.specs.rules.Reasons.{is_some_with}
use Rattle.iss_states.specs.Rebuilding.{carried_named, is_done, rebuilt}

-- a transaction holds nothing
abbrev pub holds_nothing : Carried → Bool
holds_nothing t = t.sums.g == 0 && t.sums.p == 0 && t.sums.s == 0

-- one that has ended holds nothing
abbrev pub is_bare_if_ended : Carried → Bool
is_bare_if_ended t = t.sums.live || holds_nothing t

-- what is refunded of a transaction is at most what was cleared, and the programme's part is at most what the programme has paid
abbrev pub is_fair : Carried → Bool
is_fair t = nat_le t.sums.refunded t.sums.cleared && nat_le t.sums.p t.sums.paid

-- so it is of each listed transaction
abbrev pub AreFair : State → Type 0
AreFair s = list_all is_fair s.txns ≡ true

-- what a clearing clears of this transaction
abbrev pub cleared_amount : List ℕ → Input → ℕ
cleared_amount token (input.Clearing event txn currency amount last) = if bytes_eq txn token then amount else 0
cleared_amount token _ = 0

-- what a refund refunds of this transaction
abbrev pub refunded_amount : List ℕ → Input → ℕ
refunded_amount token (input.Refund event txn currency amount) = if bytes_eq txn token then amount else 0
refunded_amount token _ = 0

-- what the events that are done come to
abbrev pub done_total : (Input → ℕ) → List Seen → ℕ
done_total worth [] = 0
done_total worth (e ∷ es) = (if is_done e.verdict then worth e.body.input else 0) + done_total worth es

-- What is cleared of a transaction is what its done clearings come to, and what is refunded is what its done refunds come to.
pub record IsWhatWasDone (es : List Seen) (t : Carried) : Type 0 where
  pub cleared : t.sums.cleared ≡ done_total (cleared_amount t.txn) es
  pub refunded : t.sums.refunded ≡ done_total (refunded_amount t.txn) es

-- so it is of each of these transactions
abbrev pub AreWhatWasDone : List Seen → List Carried → Type 0
AreWhatWasDone es [] = Unit {0}
AreWhatWasDone es (t ∷ ts) = IsWhatWasDone es t × AreWhatWasDone es ts

-- No clearing and no refund of this token is done.
pub record HasNothingDone (es : List Seen) (token : List ℕ) : Type 0 where
  pub cleared : done_total (cleared_amount token) es ≡ 0
  pub refunded : done_total (refunded_amount token) es ≡ 0

-- The sums of each listed transaction are what was done, and nothing is done of one that isn't listed.
pub record AreSumsDone (s : State) : Type 0 where
  pub listed : AreWhatWasDone s.events s.txns
  pub others : (token : List ℕ) → carried_named token s.txns ≡ None → HasNothingDone s.events token

-- a purchase from the user's own balance has no part of the gateway's or the programme's, and any other one has none of the user's
abbrev pub has_parts_of_funding : List TxnNow → Carried → Bool
has_parts_of_funding txns t =
    is_some_with (λ now. if is_account_funded now.txn.funding then t.sums.g == 0 && t.sums.p == 0 else t.sums.s == 0) (txn_named t.txn txns)

-- so it is of each listed transaction
abbrev pub HavePartsOfFunding : State → Type 0
HavePartsOfFunding s = list_all (has_parts_of_funding (rebuilt s).holdings.txns) s.txns ≡ true

-- if a call is asked, the gateway pays its transaction
abbrev pub is_asked_of_gateway : List TxnNow → CallNow → Bool
is_asked_of_gateway txns x = not (is_asked x) || is_some_with (λ t. not (is_account_funded t.txn.funding)) (txn_named x.opened.txn txns)

-- the call of a transaction's authorisation is asked
abbrev pub has_authorization_asked : List CallNow → List ℕ → Bool
has_authorization_asked calls token = list_any (λ x. is_asked x && is_authorization x.opened.method && bytes_eq x.opened.txn token) calls

-- while its authorisation is asked, a transaction holds nothing
abbrev pub is_bare_if_asked : List CallNow → Carried → Bool
is_bare_if_asked calls t = not (has_authorization_asked calls t.txn) || holds_nothing t

-- Transactions hold well: one that has ended holds nothing, parts are by funding, the gateway is asked for its own transactions alone, and
-- one whose authorisation is asked holds nothing.
pub record HoldWell (s : State) : Type 0 where
  pub ended : list_all is_bare_if_ended s.txns ≡ true
  pub funded : HavePartsOfFunding s
  pub gateway : list_all (is_asked_of_gateway (rebuilt s).holdings.txns) (rebuilt s).calls ≡ true
  pub bare : list_all (is_bare_if_asked (rebuilt s).calls) s.txns ≡ true
