-- The pieces of entries that acts are made of: posts, holds and what is taken of them, notices, declined and funded asks. An entry of
-- amount 0 is left out.
use Rattle.std.specs.Prelude.{ℕ, ◌+◌, ◌-◌, min, ◌==◌, pos, neg_ℤ, List, [], ◌∷◌, ◌++◌, length, Option, Some, None, if◌then◌else◌, ◌-ℤ◌}
use Rattle.iss_model.specs.declared.account.Account.TheVariants as account
use Rattle.iss_model.specs.declared.account.Account.{Account}
use Rattle.iss_model.specs.declared.account.Part.TheVariants as part
use Rattle.iss_model.specs.declared.account.Part.{Part}
use Rattle.iss_model.specs.declared.call.CallId.{CallId}
use Rattle.iss_model.specs.declared.call.Failure.TheVariants as failure
use Rattle.iss_model.specs.declared.call.Failure.{Failure}
use Rattle.iss_model.specs.declared.call.How.TheVariants as how
use Rattle.iss_model.specs.declared.call.Method.TheVariants as method
use Rattle.iss_model.specs.declared.call.Method.{Method}
use Rattle.iss_model.specs.declared.call.Opened.{Opened}
use Rattle.iss_model.specs.declared.currency.Currency.{Currency}
use Rattle.iss_model.specs.declared.decision.Reason.TheVariants as reason
use Rattle.iss_model.specs.declared.decision.Reason.{Reason}
use Rattle.iss_model.specs.declared.decision.Verdict.TheVariants as verdict
use Rattle.iss_model.specs.declared.entry.Entry.TheVariants as entry
use Rattle.iss_model.specs.declared.entry.Entry.{Entry}
use Rattle.iss_model.specs.declared.input.Input.{Input}
use Rattle.iss_model.specs.declared.setting.Product.{Product}
use Rattle.iss_model.specs.declared.setting.Set.{Set}
use Rattle.iss_model.specs.declared.txn.Txn.{Txn}
use Rattle.iss_model.specs.rules.Activity.{CallNow}
use Rattle.iss_model.specs.rules.Asks.{Ask, usage_of, rest_given_back, call_ask, ask_given_back}
use Rattle.iss_model.specs.rules.CardReasons.{is_account_funded}
use Rattle.iss_model.specs.rules.Facts.{Facts, part_in, asked_calls_of, next_call, not_below}

-- entries of an amount, if it isn't 0
abbrev pub only_where : ℕ → List Entry → List Entry
only_where amount entries = if amount == 0 then [] else entries

-- entries for a gateway product: an account product has no notices, and its user's balance bears what is cleared
abbrev pub only_gateway : Txn → List Entry → List Entry
only_gateway t entries = if is_account_funded t.funding then [] else entries

-- an amount goes from one account to another for a transaction
abbrev pub post_entries : Txn → Account → Account → ℕ → List Entry
post_entries t from to amount = only_where amount (entry.Post from to amount (Some t.token) ∷ [])

-- a transaction holds more of its user
abbrev pub hold_entries : Txn → Part → ℕ → List Entry
hold_entries t part amount = only_where amount (entry.Hold t.token t.user t.currency part (pos amount) ∷ [])

-- a transaction holds less of its user
abbrev pub unhold_entries : Txn → Part → ℕ → List Entry
unhold_entries t part amount = only_where amount (entry.Hold t.token t.user t.currency part (neg_ℤ (pos amount)) ∷ [])

-- the account of a transaction's user
abbrev pub user_account : Txn → Account
user_account t = account.User t.user t.currency

-- amounts by who funds them: the gateway, the programme, the user's own balance
pub record Parts : Type 0 where
  pub g : ℕ
  pub p : ℕ
  pub s : ℕ

-- what a transaction holds, by part
abbrev pub parts_held : Facts → Txn → Parts
parts_held f t =
    record { g = part_in f t.token part.G; p = part_in f t.token part.P; s = part_in f t.token part.S }

-- the three parts together
abbrev pub in_all : Parts → ℕ
in_all parts = parts.g + parts.p + parts.s

-- what is left of parts when these are taken
abbrev pub left_of : Parts → Parts → Parts
left_of parts taken = record { g = parts.g - taken.g; p = parts.p - taken.p; s = parts.s - taken.s }

-- a release is taken from the programme's part first, then the gateway's, then the user's own
abbrev pub taken_to_release : Parts → ℕ → Parts
taken_to_release parts amount =
    let p = min amount parts.p in
    let g = min (amount - p) parts.g in
    record { g = g; p = p; s = min (amount - p - g) parts.s }

-- a clearing is taken from the gateway's part first, then the programme's, then the user's own
abbrev pub taken_to_clear : Parts → ℕ → Parts
taken_to_clear parts amount =
    let g = min amount parts.g in
    let p = min (amount - g) parts.p in
    record { g = g; p = p; s = min (amount - g - p) parts.s }

-- less use of a transaction by this amount, at its authorisation's stamp
abbrev pub use_return_entries : Txn → ℕ → List Entry
use_return_entries t amount = only_where amount (entry.Usage (usage_of t (neg_ℤ (pos amount)) (pos 0) t.at) ∷ [])

-- an amount is released: the programme receives its part from the user, then the gateway its own, and the use is returned
abbrev pub release_entries : Txn → Parts → ℕ → List Entry
release_entries t parts amount =
    let taken = taken_to_release parts amount in
    unhold_entries t part.P taken.p ++ post_entries t (user_account t) (account.Programme t.currency) taken.p
    ++ unhold_entries t part.G taken.g ++ post_entries t (user_account t) (account.Gateway t.currency) taken.g
    ++ unhold_entries t part.S taken.s
    ++ use_return_entries t amount

-- the method of a call for an ask
abbrev pub ask_method : Ask → Method
ask_method ask = if ask.is_first then method.Authorization else method.Incremental

-- the call for an ask: the gateway has the product's time to answer
abbrev pub call_for : Facts → Product → Ask → Opened
call_for f product ask =
    record {
      call = record { 0 = next_call f };
      event = ask.event;
      txn = ask.txn.token;
      method = ask_method ask;
      card = ask.txn.card;
      user = ask.txn.user;
      currency = ask.txn.currency;
      mcc = ask.txn.mcc;
      mid = ask.txn.mid;
      amount = ask.amount;
      partial = ask.partial;
      at = ask.at;
      deadline = ask.at + product.timeout_ms;
    }

-- a notice of this number
abbrev pub notice_entry : ℕ → Method → Txn → Option CallId → ℕ → ℕ → Entry
notice_entry number method t call amount gateway =
    entry.Notice (record {
      number = number;
      method = method;
      txn = t.token;
      user = t.user;
      currency = t.currency;
      call = call;
      amount = amount;
      gateway = gateway;
    })

-- the gateway is told that a call has ended: it must undo or refuse it
abbrev pub void_entry : ℕ → Txn → Opened → Entry
void_entry number t o = notice_entry number method.Void t (Some o.call) o.amount 0

-- a call is abandoned: closed, voided, its use returned, and its event declined
abbrev pub abandoned_call_entries : ℕ → Txn → Reason → Opened → List Entry
abandoned_call_entries number t why o =
    entry.Closed o.call how.Abandoned
    ∷ void_entry number t o
    ∷ entry.Usage (ask_given_back (call_ask o t))
    ∷ entry.Decided o.event (verdict.Declined why)
    ∷ []

-- calls are abandoned one by one, with notices from this number on
abbrev pub abandoned_calls_entries : ℕ → Txn → Reason → List CallNow → List Entry
abandoned_calls_entries number t why [] = []
abandoned_calls_entries number t why (c ∷ cs) = abandoned_call_entries number t why c.opened ++ abandoned_calls_entries (number + 1) t why cs

-- the number of the next notice, when the asked calls of a transaction have been abandoned
abbrev pub notice_after_abandonment : ℕ → Facts → Txn → ℕ
notice_after_abandonment number f t = number + length (asked_calls_of f t.token)

-- an ask is declined: its use is returned, and with an authorisation its transaction ends
abbrev pub declined_ask_entries : Ask → Reason → List Entry
declined_ask_entries ask why =
    entry.Usage (ask_given_back ask)
    ∷ (if ask.is_first then entry.Ended ask.txn.token ∷ [] else [])
    ++ entry.Decided ask.event (verdict.Declined why) ∷ []

-- a part of an ask's money is there and held, and the ask approved
abbrev pub funded_ask_entries : Ask → Account → Part → List Entry
funded_ask_entries ask from part =
    post_entries ask.txn from (user_account ask.txn) ask.amount
    ++ hold_entries ask.txn part ask.amount
    ++ entry.Decided ask.event verdict.Approved ∷ []

-- a part of a call's amount is there and held, the use of the rest comes back, and the event is approved for the part
abbrev pub part_funded_entries : Opened → Txn → ℕ → List Entry
part_funded_entries o t amount =
    entry.Usage (rest_given_back o t amount)
    ∷ post_entries t (account.Gateway t.currency) (user_account t) amount
    ++ hold_entries t part.G amount
    ++ entry.Decided o.event (verdict.Partial t.currency amount) ∷ []

-- the reason of an ask that neither the gateway nor a set decides
abbrev pub failure_reason : Failure → Reason
failure_reason failure.Connection = reason.GatewayConnection
failure_reason failure.Timeout = reason.GatewayTimeout
failure_reason failure.Application = reason.GatewayApplication
failure_reason failure.Switch = reason.GatewaySwitch

-- the programme pays in the gateway's place, by a set
abbrev pub set_stand_in_entries : ℕ → Ask → ℕ → Set → List Entry
set_stand_in_entries number ask at s =
    entry.Stood s.name ask.txn.product ask.txn.user ask.amount at
    ∷ post_entries ask.txn (account.Programme ask.txn.currency) (user_account ask.txn) ask.amount
    ++ hold_entries ask.txn part.P ask.amount
    ++ notice_entry number method.StandIn ask.txn None ask.amount 0
    ∷ entry.Decided ask.event verdict.Approved
    ∷ []

-- A clearing takes from the hold, the rest comes from the programme for a gateway product, and the network receives all of it. The rest
-- counts as use at this stamp.
abbrev pub clearing_money_entries : Txn → Parts → ℕ → ℕ → List Entry
clearing_money_entries t taken amount at =
    let excess = amount - in_all taken in
    unhold_entries t part.G taken.g ++ unhold_entries t part.P taken.p ++ unhold_entries t part.S taken.s
    ++ only_gateway t (post_entries t (account.Programme t.currency) (user_account t) excess)
    ++ post_entries t (user_account t) (account.Network t.currency) amount
    ++ only_where excess (entry.Usage (usage_of t (pos excess) (pos 0) at) ∷ [])

-- what the programme has paid for a transaction, less what came back and what it holds
abbrev pub owed_to_programme : Facts → Txn → ℕ
owed_to_programme f t = not_below (f.paid t.token -ℤ pos (parts_held f t).p)

-- a refund's posts
abbrev pub give_back_entries : Txn → ℕ → ℕ → List Entry
give_back_entries t amount programme =
    post_entries t (account.Network t.currency) (user_account t) amount
    ++ only_gateway t (post_entries t (user_account t) (account.Programme t.currency) programme ++ post_entries t (user_account t) (account.Gateway t.currency) (amount - programme))

-- a setting takes effect and is done
abbrev pub setting_entries : Input → List ℕ → List Entry
setting_entries i token = entry.Conf i ∷ entry.Decided token verdict.Done ∷ []

-- a load moves money from the programme to the user
abbrev pub load_entries : List ℕ → List ℕ → Currency → ℕ → List Entry
load_entries token user currency amount =
    entry.Post (account.Programme currency) (account.User user currency) amount None ∷ entry.Decided token verdict.Done ∷ []
