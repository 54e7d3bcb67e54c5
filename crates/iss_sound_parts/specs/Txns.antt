-- When the transactions and the calls of a state may stand together.
use Rattle.std.specs.Prelude.{◌≡◌, Bool, true, not, ◌&&◌, ◌||◌, ◌==◌, List, if◌then◌else◌}
use Rattle.std.specs.List.{list_all}
use Rattle.iss_model.specs.declared.state.Carried.{Carried}
use Rattle.iss_model.specs.declared.setting.Funding.{Funding}
use Rattle.iss_model.specs.declared.state.State.{State}
use Rattle.iss_model.specs.declared.state.TxnSums.{TxnSums}
use Rattle.iss_model.specs.rules.Activity.{CallNow, TxnNow, is_asked, txn_named}
use Rattle.iss_model.specs.rules.CardReasons.{is_account_funded}
use Rattle.iss_model.specs.rules.Reasons.{is_some_with}
use Rattle.iss_states.specs.Rebuilding.{rebuilt}
use Rattle.iss_well_formed.specs.Again.{is_alone, is_of_listed, is_unasked_if_ended}
use Rattle.iss_well_formed.specs.Txns.{HoldWell}
use Rattle.iss_decided.specs.Approved.{OwnAreUnpaid}
use Rattle.iss_known.specs.Known.{KnownNow}
use Rattle.iss_sound_parts.specs.declared.asked.Asked.{Asked}
use Rattle.iss_sound_parts.specs.Asking.{event_in, has_event, is_alone_by}

-- Each call is of a listed transaction, and of none that has ended if it is asked. While an authorisation is asked, no other call of its
-- transaction is. Transactions hold well, and the programme pays nothing for those of a user's own balance.
pub record AreTxnsSound (s : State) : Type 0 where
  pub called : list_all (is_of_listed (rebuilt s).holdings.txns) (rebuilt s).calls ≡ true
  pub ended : list_all (is_unasked_if_ended (rebuilt s).calls) s.txns ≡ true
  pub alone : list_all (is_alone (rebuilt s).calls) (rebuilt s).calls ≡ true
  pub holds : HoldWell s
  pub unpaid : OwnAreUnpaid s

-- a call is of a listed transaction, and if it is asked, of one that the gateway pays, and alone where it must be
abbrev pub is_call_in_order : List TxnNow → Asked → CallNow → Bool
is_call_in_order txns a x =
    is_some_with
    (λ t. (not (is_asked x) || not (is_account_funded t.txn.funding)) && is_alone_by (event_in a.authorizations) x)
    (txn_named x.opened.txn txns)

-- nothing is held
abbrev pub have_nothing : TxnSums → Bool
have_nothing sums = sums.g == 0 && sums.p == 0 && sums.s == 0

-- parts are of who funds their transaction, and the programme has paid nothing for what comes from a user's own balance
abbrev pub are_sums_of : Funding → TxnSums → Bool
are_sums_of funding sums = if is_account_funded funding then sums.g == 0 && sums.p == 0 && sums.paid == 0 else sums.s == 0

-- a transaction that has ended holds nothing and has no asked call, and one whose authorisation is asked holds nothing
abbrev pub holds_as_asked : Asked → Carried → Bool
holds_as_asked a t =
    (t.sums.live || not (has_event a.calls t.txn))
    && (t.sums.live || have_nothing t.sums)
    && (not (has_event a.authorizations t.txn) || have_nothing t.sums)

-- a transaction is listed, its sums are by its funding, and it holds only what it may beside its asked calls
abbrev pub is_carried_in_order : List TxnNow → Asked → Carried → Bool
is_carried_in_order txns a t =
    is_some_with (λ now. are_sums_of now.txn.funding t.sums && holds_as_asked a t) (txn_named t.txn txns)

-- each known call is in order, and so is each of these transactions
abbrev pub are_in_order : KnownNow → Asked → List Carried → Bool
are_in_order k a ts = list_all (is_call_in_order k.txns a) k.calls && list_all (is_carried_in_order k.txns a) ts
