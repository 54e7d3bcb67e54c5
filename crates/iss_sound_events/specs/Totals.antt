-- What events come to for each transaction: what it is approved for, and what is cleared and refunded of it.
use Rattle.std.specs.Prelude.{◌≡◌, ◌≤◌, ℕ, ◌+◌, ◌*◌, Bool, true, ◌&&◌, nat_le, List, [], ◌∷◌, ◌++◌, find, Option, Some, None, is_some, option_map, unwrap_or, if◌then◌else◌}
use Rattle.std.specs.Str.{bytes_eq}
use Rattle.iss_model.specs.declared.decision.Verdict.{Verdict}
use Rattle.iss_model.specs.declared.decision.Verdict.TheVariants as verdict
use Rattle.iss_model.specs.declared.input.Input.{Input}
use Rattle.iss_model.specs.declared.input.Input.TheVariants as input
use Rattle.iss_model.specs.declared.limits.TheConstants.{GREATEST_AMOUNT, MOST_RECORDS}
use Rattle.iss_model.specs.declared.state.Seen.{Seen}
use Rattle.iss_index.specs.Places.{changed_at}
use Rattle.iss_states.specs.Rebuilding.{is_done}
use Rattle.iss_well_formed.specs.Txns.{cleared_amount, done_total, refunded_amount}
use Rattle.iss_decided.specs.Approved.{approved_total}
use Rattle.iss_sound_events.specs.declared.totals.Total.{Total}

-- what an ask for this amount was approved for: all of it, a part, or nothing
abbrev pub approved_of : Option Verdict → ℕ → ℕ
approved_of (Some verdict.Approved) asked = asked
approved_of (Some (verdict.Partial currency amount)) asked = amount
approved_of _ asked = 0

-- an amount, if it was done
abbrev pub done_of : Option Verdict → ℕ → ℕ
done_of v amount = if is_done v then amount else 0

-- what an ask of this transaction comes to
abbrev pub asked_total : List ℕ → Option Verdict → ℕ → Total
asked_total txn v asked = record { txn = txn; approved = approved_of v asked; cleared = 0; refunded = 0 }

-- what an event with this verdict comes to for its transaction, if it is an ask, a clearing or a refund
abbrev pub worth_with : Option Verdict → Input → Option Total
worth_with v (input.Authorization token card currency amount mcc mid partial) = Some (asked_total token v amount)
worth_with v (input.Increment token txn currency amount) = Some (asked_total txn v amount)
worth_with v (input.Clearing token txn currency amount last) =
    Some (record { txn = txn; approved = 0; cleared = done_of v amount; refunded = 0 })
worth_with v (input.Refund token txn currency amount) =
    Some (record { txn = txn; approved = 0; cleared = 0; refunded = done_of v amount })
worth_with v _ = None

-- what an event comes to
abbrev pub worth_of : Seen → Option Total
worth_of e = worth_with e.verdict e.body.input

-- what this transaction comes to before any event
abbrev pub no_total : List ℕ → Total
no_total token = record { txn = token; approved = 0; cleared = 0; refunded = 0 }

-- what this transaction comes to
abbrev pub total_of : List ℕ → List Total → Total
total_of token totals = unwrap_or (find (λ t. bytes_eq t.txn token) totals) (no_total token)

-- a total with what an event comes to
abbrev pub plus : Total → Total → Total
plus worth t =
    record t {
      approved = t.approved + worth.approved;
      cleared = t.cleared + worth.cleared;
      refunded = t.refunded + worth.refunded;
    }

-- totals with what an event comes to
abbrev pub with_worth : Total → List Total → List Total
with_worth worth totals =
    if is_some (find (λ t. bytes_eq t.txn worth.txn) totals) then changed_at (λ t. t.txn) worth.txn (plus worth) totals
    else totals ++ worth ∷ []

-- totals with an event
abbrev pub with_seen_total : Seen → List Total → List Total
with_seen_total e totals = unwrap_or (option_map (λ worth. with_worth worth totals) (worth_of e)) totals

-- Totals are what these events come to, for each transaction.
pub record AreTotalsOf (totals : List Total) (es : List Seen) : Type 0 where
  pub approved : (token : List ℕ) → (total_of token totals).approved ≡ approved_total token es
  pub cleared : (token : List ℕ) → (total_of token totals).cleared ≡ done_total (cleared_amount token) es
  pub refunded : (token : List ℕ) → (total_of token totals).refunded ≡ done_total (refunded_amount token) es

-- no amount of a total is above this one
pub record IsWithin (most : ℕ) (t : Total) : Type 0 where
  pub approved : t.approved ≤ most
  pub cleared : t.cleared ≤ most
  pub refunded : t.refunded ≤ most

-- what an event comes to is at most the greatest amount
abbrev pub is_small : Option Total → Bool
is_small None = true
is_small (Some t) = nat_le t.approved GREATEST_AMOUNT && nat_le t.cleared GREATEST_AMOUNT && nat_le t.refunded GREATEST_AMOUNT

-- so it is of this event
abbrev pub is_small_seen : Seen → Bool
is_small_seen e = is_small (worth_of e)

-- each transaction has come to no more than as many records as there may be can say
abbrev pub HaveRoom : List Total → Type 0
HaveRoom totals = (token : List ℕ) → IsWithin (MOST_RECORDS * GREATEST_AMOUNT) (total_of token totals)
