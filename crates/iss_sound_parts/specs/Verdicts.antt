-- What is tested of the verdicts of events and of transactions, by what is known of them.
use Rattle.std.specs.Prelude.{ℕ, Bool, true, not, ◌&&◌, ◌||◌, nat_lt, List, find, Option, Some, is_some}
use Rattle.std.specs.List.{list_all}
use Rattle.std.specs.Str.{bytes_eq}
use Rattle.iss_model.specs.declared.decision.Reason.{Reason}
use Rattle.iss_model.specs.declared.decision.Reason.TheVariants as reason
use Rattle.iss_model.specs.declared.decision.Verdict.{Verdict}
use Rattle.iss_model.specs.declared.decision.Verdict.TheVariants as verdict
use Rattle.iss_model.specs.declared.input.Input.{Input}
use Rattle.iss_model.specs.declared.input.Input.TheVariants as input
use Rattle.iss_model.specs.declared.setting.Product.{Product}
use Rattle.iss_model.specs.declared.state.Seen.{Seen}
use Rattle.iss_model.specs.Currencies.{same_currency}
use Rattle.iss_model.specs.rules.Activity.{CallNow, TxnNow, txn_named}
use Rattle.iss_model.specs.rules.Reasons.{is_some_with}
use Rattle.iss_model.specs.rules.Settings.{product_named}
use Rattle.iss_index.specs.Places.{place_of}
use Rattle.iss_well_formed.specs.Txns.{has_authorization_asked}
use Rattle.iss_decided.specs.Verdicts.{is_marked_in_its_txn, takes_effect_in_its_txn}
use Rattle.iss_reasoned.specs.Origins.{was_approved}
use Rattle.iss_reasoned.specs.Reasons.{is_move}
use Rattle.iss_known.specs.Known.{KnownNow}

-- an increment's transaction began before this number, and its authorisation isn't asked; any other input is in turn
abbrev pub is_in_turn : List TxnNow → List CallNow → ℕ → Input → Bool
is_in_turn txns calls number (input.Increment token txn currency amount) =
    is_some_with (λ t. nat_lt t.txn.origin number) (txn_named txn txns) && not (has_authorization_asked calls txn)
is_in_turn txns calls number _ = true

-- an event that is approved or has a mark is in turn
abbrev pub is_in_turn_if_taken : List TxnNow → List CallNow → Seen → Bool
is_in_turn_if_taken txns calls e = not (was_approved e.verdict || is_some e.mark) || is_in_turn txns calls e.number e.body.input

-- a transaction is in the currency of its product
abbrev pub is_in_its_currency : List Product → TxnNow → Bool
is_in_its_currency products t = is_some_with (λ p. same_currency p.currency t.txn.currency) (product_named t.txn.product products)

-- an input may have this reason: only a move may be refused as one, and a control or set that the reason names is known
abbrev pub may_have_reason : KnownNow → Input → Reason → Bool
may_have_reason k i (reason.MoveCard from to) = is_move i
may_have_reason k i (reason.MoveUser from to) = is_move i
may_have_reason k i (reason.Control name) = is_some (find (λ c. bytes_eq c.name name) k.controls)
may_have_reason k i (reason.StandInLimit name) = is_some (place_of name k.sets)
may_have_reason k i _ = true

-- a verdict on an input declines it only for a reason that the input may have
abbrev pub declines_well : KnownNow → Input → Option Verdict → Bool
declines_well k i (Some (verdict.Declined why)) = may_have_reason k i why
declines_well k i _ = true

-- A card event that takes effect is of its transaction, an event with a mark may have one, a decline has its reason, and what is approved or
-- called is in turn.
abbrev pub is_decided_well : KnownNow → Seen → Bool
is_decided_well k e =
    takes_effect_in_its_txn k.txns e
    && (is_marked_in_its_txn k.txns e && (declines_well k e.body.input e.verdict && is_in_turn_if_taken k.txns k.calls e))

-- each of these events is decided well, and each transaction is in the currency of its product
abbrev pub are_verdicts_well : KnownNow → List Seen → Bool
are_verdicts_well k es = list_all (is_decided_well k) es && list_all (is_in_its_currency k.products) k.txns
