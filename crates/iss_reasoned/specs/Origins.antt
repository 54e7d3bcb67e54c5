-- What the transactions and the increments of a state go back to.
use Rattle.std.specs.Prelude.{◌≡◌, ℕ, Bool, true, false, not, ◌&&◌, ◌||◌, nat_lt, List, find, Option, Some, is_some}
use Rattle.std.specs.List.{list_all}
use Rattle.iss_model.specs.declared.decision.Verdict.{Verdict}
use Rattle.iss_model.specs.declared.decision.Verdict.TheVariants as verdict
use Rattle.iss_model.specs.declared.input.Input.{Input}
use Rattle.iss_model.specs.declared.input.Input.TheVariants as input
use Rattle.iss_model.specs.declared.state.Carried.{Carried}
use Rattle.iss_model.specs.declared.state.Seen.{Seen}
use Rattle.iss_model.specs.declared.state.State.{State}
use Rattle.iss_model.specs.rules.CardReasons.{is_in_currency}
use Rattle.iss_model.specs.rules.Facts.{Facts}
use Rattle.iss_model.specs.rules.Reasons.{is_some_with}
use Rattle.iss_model.specs.rules.Settings.{card_named}
use Rattle.iss_model.specs.state.Cores.{core_facts}
use Rattle.iss_states.specs.Order.{has_event_token}
use Rattle.iss_states.specs.Rebuilding.{carried_named, rebuilt}
use Rattle.iss_well_formed.specs.Txns.{has_authorization_asked}

-- an input is an authorisation with a known card, in the currency of the card's product
abbrev pub is_purchase : Facts → Input → Bool
is_purchase f (input.Authorization token card currency amount mcc mid partial) =
    is_some_with (is_in_currency f currency) (card_named card f.cards)
is_purchase f _ = false

-- a transaction has the token of such an event
abbrev pub is_of_purchase : Facts → List Seen → Carried → Bool
is_of_purchase f es t = is_some_with (λ e. is_purchase f e.body.input) (find (has_event_token t.txn) es)

-- each listed transaction has
abbrev pub ArePurchases : State → Type 0
ArePurchases s = list_all (is_of_purchase (core_facts (rebuilt s)) s.events) s.txns ≡ true

-- an event is approved, whole or in part
abbrev pub was_approved : Option Verdict → Bool
was_approved (Some verdict.Approved) = true
was_approved (Some (verdict.Partial currency amount)) = true
was_approved _ = false

-- the event of this token has a number below this one
abbrev pub came_before : List Seen → ℕ → List ℕ → Bool
came_before es number token = is_some_with (λ e. nat_lt e.number number) (find (has_event_token token) es)

-- an increment comes after its transaction's authorisation, whose call isn't asked; no other input needs to
abbrev pub comes_in_turn : State → ℕ → Input → Bool
comes_in_turn s number (input.Increment token txn currency amount) =
    is_some (carried_named txn s.txns) && came_before s.events number txn && not (has_authorization_asked (rebuilt s).calls txn)
comes_in_turn s number _ = true

-- an event that is approved or has a mark comes so
abbrev pub is_taken_in_turn : State → Seen → Bool
is_taken_in_turn s e = not (was_approved e.verdict || is_some e.mark) || comes_in_turn s e.number e.body.input

-- each event of a state does
abbrev pub ComeInTurn : State → Type 0
ComeInTurn s = list_all (is_taken_in_turn s) s.events ≡ true
