-- What a test says of the sums of a state's transactions.
use Rattle.std.specs.Prelude.{◌≡◌, ℕ, ◌+◌, Bool, true, ◌&&◌, ◌||◌, ◌==◌, nat_le, List, Option, Some, None, is_none, is_some, if◌then◌else◌}
use Rattle.std.specs.List.{list_all}
use Rattle.std.specs.Str.{bytes_eq}
use Rattle.iss_model.specs.declared.decision.Verdict.{Verdict}
use Rattle.iss_model.specs.declared.input.Input.{Input}
use Rattle.iss_model.specs.declared.input.Input.TheVariants as input
use Rattle.iss_model.specs.declared.state.Carried.{Carried}
use Rattle.iss_model.specs.declared.state.Seen.{Seen}
use Rattle.iss_model.specs.declared.state.State.{State}
use Rattle.iss_model.specs.declared.state.TxnSums.{TxnSums}
use Rattle.iss_index.specs.Places.{place_of}
use Rattle.iss_states.specs.Rebuilding.{carried_named, is_done}
use Rattle.iss_well_formed.specs.Txns.{AreFair, AreSumsDone, cleared_amount, done_total, is_fair, refunded_amount}
use Rattle.iss_decided.specs.Approved.{AreApproved, approved_total}
use Rattle.iss_sound_events.specs.declared.totals.Total.{Total}
use Rattle.iss_sound_events.specs.Totals.{total_of}

-- The sums of transactions are what the events did, are fair, and reach no further than what was approved.
pub record HasSumsDone (s : State) : Type 0 where
  pub done : AreSumsDone s
  pub fair : AreFair s
  pub approved : AreApproved s

-- what is held, of each part, is at most what was approved, and what is paid at most that and what was cleared
abbrev pub is_within_approved : ℕ → TxnSums → Bool
is_within_approved approved sums =
    nat_le (sums.g + sums.p + sums.s) approved && nat_le sums.paid (approved + sums.cleared)

-- the sums of a transaction are what the total says, fair and within what was approved
abbrev pub is_as_total : Total → Carried → Bool
is_as_total total t =
    t.sums.cleared == total.cleared && t.sums.refunded == total.refunded && is_fair t && is_within_approved total.approved t.sums

-- so it is with the transaction's own total
abbrev pub is_as_totalled : List Total → Carried → Bool
is_as_totalled totals t = is_as_total (total_of t.txn totals) t

-- what these events come to for a transaction
abbrev pub done_in : List Seen → List ℕ → Total
done_in es token =
    record {
      txn = token;
      approved = approved_total token es;
      cleared = done_total (cleared_amount token) es;
      refunded = done_total (refunded_amount token) es;
    }

-- the sums of a transaction are what these events come to, fair and within what was approved
abbrev pub is_as_done : List Seen → Carried → Bool
is_as_done es t = is_as_total (done_in es t.txn) t

-- the transaction of a clearing or a refund
abbrev pub settled_txn : Input → Option (List ℕ)
settled_txn (input.Clearing token txn currency amount last) = Some txn
settled_txn (input.Refund token txn currency amount) = Some txn
settled_txn _ = None

-- the transaction of a clearing or a refund, if it was done
abbrev pub done_txn : Option Verdict → Input → Option (List ℕ)
done_txn v i = if is_done v then settled_txn i else None

-- an event is no done clearing or refund
abbrev pub settles_nothing : Seen → Bool
settles_nothing e = is_none (done_txn e.verdict e.body.input)

-- there is no name, or it passes this test
abbrev pub is_none_or_passes : (List ℕ → Bool) → Option (List ℕ) → Bool
is_none_or_passes test None = true
is_none_or_passes test (Some token) = test token

-- if an event is a done clearing or refund, its transaction is among these names
abbrev pub is_among_if_done : List (List ℕ) → Seen → Bool
is_among_if_done names e = is_none_or_passes (λ token. is_some (place_of token names)) (done_txn e.verdict e.body.input)

-- if an event is a done clearing or refund, its transaction is listed
abbrev pub is_listed_if_done : List Carried → Seen → Bool
is_listed_if_done ts e = is_none_or_passes (λ token. is_some (carried_named token ts)) (done_txn e.verdict e.body.input)

-- a name is among these names now, as each that was before
abbrev pub AddsName : List ℕ → List (List ℕ) → List (List ℕ) → Type 0
AddsName name before after =
    (token : List ℕ) → is_some (place_of token after) ≡ (is_some (place_of token before) || bytes_eq name token)

-- names are those of these transactions
abbrev pub AreNamesOf : List (List ℕ) → List Carried → Type 0
AreNamesOf names ts = (token : List ℕ) → is_some (place_of token names) ≡ is_some (carried_named token ts)

-- Each done clearing and refund is of a listed transaction. The sums of each listed one are what was done, are fair, and are within what
-- was approved.
abbrev pub are_sums_done : List Seen → List Carried → Bool
are_sums_done es ts = list_all (is_listed_if_done ts) es && list_all (is_as_done es) ts
