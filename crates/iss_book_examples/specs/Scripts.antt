-- Worked scripts: inputs one after the other, what is said of each, and what stands then. Most are of one user, u1, whose card is c1.
use Rattle.std.specs.Prelude.{◌≡◌, ℕ, ◌+◌, ℤ, pos, neg_ℤ, Bool, true, false, List, [], ◌∷◌, length, filter, map, codes, Option, Some, None}
use Prim.Native.String.{String}
use Rattle.iss_model.specs.declared.currency.Currency.{Currency}
use Rattle.iss_model.specs.declared.currency.Currency.TheVariants.{Usd}
use Rattle.iss_model.specs.declared.account.Account.TheVariants as account
use Rattle.iss_model.specs.declared.setting.Funding.TheVariants as funding
use Rattle.iss_model.specs.declared.setting.Window.{Window}
use Rattle.iss_model.specs.declared.setting.Window.TheVariants as window
use Rattle.iss_model.specs.declared.setting.CardState.{CardState}
use Rattle.iss_model.specs.declared.setting.UserState.{UserState}
use Rattle.iss_model.specs.declared.setting.Moved.TheVariants as moved
use Rattle.iss_model.specs.declared.setting.Association.{Association}
use Rattle.iss_model.specs.declared.setting.Association.TheVariants as association
use Rattle.iss_model.specs.declared.setting.Scope.{Scope}
use Rattle.iss_model.specs.declared.setting.Scope.TheVariants as scope
use Rattle.iss_model.specs.declared.call.CallId.{CallId}
use Rattle.iss_model.specs.declared.call.Method.{Method}
use Rattle.iss_model.specs.declared.call.Method.TheVariants as method
use Rattle.iss_model.specs.declared.call.How.{How}
use Rattle.iss_model.specs.declared.input.Outcome.{Outcome}
use Rattle.iss_model.specs.declared.input.Outcome.TheVariants as outcome
use Rattle.iss_model.specs.declared.input.Input.{Input}
use Rattle.iss_model.specs.declared.input.Input.TheVariants as input
use Rattle.iss_model.specs.declared.decision.Reason.{Reason}
use Rattle.iss_model.specs.declared.decision.Verdict.TheVariants as verdict
use Rattle.iss_model.specs.declared.decision.Reply.{Reply}
use Rattle.iss_model.specs.declared.decision.Answer.TheVariants as answer
use Rattle.iss_model.specs.declared.txn.Used.{Used}
use Rattle.iss_model.specs.rules.Facts.{Facts, balance_in, held_in}
use Rattle.iss_model.specs.rules.Asks.{used_in}
use Rattle.iss_model.specs.rules.Activity.{is_asked}
use Rattle.iss_model.specs.rules.Histories.{History, nothing_yet, history_facts, history_keeper}
use Rattle.iss_model.specs.run.Sayings.{Said, decided, asked, noticed, answered, reaction}

-- an input, the stamp that its line has, or 0, and what is said of it
pub record Step : Type 0 where
  pub input : Input
  pub at : ℕ
  pub said : List Said

-- a step whose line has no stamp
abbrev pub step : Input → List Said → Step
step i said = record { input = i; at = 0; said = said }

-- a step whose line has a stamp
abbrev pub step_at : ℕ → Input → List Said → Step
step_at at i said = record { input = i; at = at; said = said }

-- the balances of the gateway, the network, the programme and user u1 in a currency, and what is held of u1
pub record Sheet : Type 0 where
  pub currency : Currency
  pub gateway : ℤ
  pub network : ℤ
  pub programme : ℤ
  pub user : ℤ
  pub held : ℤ

-- how many calls are open, how many notices aren't acknowledged, and how many records there are
pub record Tally : Type 0 where
  pub calls : ℕ
  pub notices : ℕ
  pub records : ℕ

-- a script: its steps, and what then stands
pub record Script : Type 0 where
  pub steps : List Step
  pub sheets : List Sheet
  pub tally : Tally

-- what is said of each step's input, one after the other
abbrev pub said_of : History → List Step → List (List Said)
said_of h [] = []
said_of h (s ∷ steps) =
    let r = reaction history_keeper h s.input s.at in r.said ∷ said_of r.world steps

-- the history that the steps' inputs make
abbrev pub history_after : History → List Step → History
history_after h [] = h
history_after h (s ∷ steps) = history_after (reaction history_keeper h s.input s.at).world steps

-- the sheet of a currency, as it stands
abbrev pub sheet_of : Facts → Currency → Sheet
sheet_of f c =
    record {
      currency = c;
      gateway = balance_in f (account.Gateway c);
      network = balance_in f (account.Network c);
      programme = balance_in f (account.Programme c);
      user = balance_in f (account.User (codes "u1") c);
      held = held_in f (codes "u1") c;
    }

-- the open calls, the pending notices and the records, counted
abbrev pub tally_of : Facts → Tally
tally_of f =
    record { calls = length (filter is_asked f.calls); notices = length f.pending; records = f.count }

-- what is said is what the script expects, step by step, and then its balances, calls, notices and records stand
abbrev pub Plays : Script → Type 0
Plays s =
    let f = history_facts (history_after nothing_yet s.steps) in
    (said_of nothing_yet s.steps ≡ map (λ step. step.said) s.steps)
    × (map (λ sheet. sheet_of f sheet.currency) s.sheets ≡ s.sheets)
    × (tally_of f ≡ s.tally)

-- what the control of a name has counted of user u1 when a script is over
abbrev pub used_after : Script → List ℕ → Option Used
used_after s control =
    let f = history_facts (history_after nothing_yet s.steps) in used_in f control (codes "u1") f.now

-- an account owes an amount
abbrev pub owes : ℕ → ℤ
owes n = neg_ℤ (pos n)

-- balances in US dollars
abbrev pub dollars : ℤ → ℤ → ℤ → ℤ → ℤ → Sheet
dollars gateway network programme user held =
    record { currency = Usd; gateway = gateway; network = network; programme = programme; user = user; held = held }

-- the numbers of open calls, pending notices and records
abbrev pub tally : ℕ → ℕ → ℕ → Tally
tally calls notices records = record { calls = calls; notices = notices; records = records }

-- user u1
abbrev pub new_user : Input
new_user = input.User (codes "t1") (codes "u1")

-- an active card c1 of user u1 and a product
abbrev pub card_of : String → Input
card_of product = input.Card (codes "t2") (codes "c1") (codes "u1") (codes product) true

-- a product g in US dollars, funded by the gateway, with 3 seconds for an answer and holds of a week
abbrev pub gateway_product : Input
gateway_product = input.Product (codes "p1") (codes "g") Usd funding.Gateway 3000 604800000

-- a load of user u1
abbrev pub load : String → Currency → ℕ → Input
load token currency amount = input.Load (codes token) (codes "u1") currency amount

-- a control v1 of at most 100.00 US dollars or another amount in each window, at all merchants
abbrev pub amount_control : Window → ℕ → Input
amount_control window limit =
    input.Control (codes "t4") (codes "v1") Usd window (Some limit) None association.Anybody scope.All (pos 0) true

-- the same control by a clock at an offset from UTC in minutes
abbrev pub local_control : Window → ℤ → Input
local_control window offset =
    input.Control (codes "t4") (codes "v1") Usd window (Some 10000) None association.Anybody scope.All offset true

-- the set s1 of product g: up to 100.00 a purchase and a day if the gateway can't be reached
abbrev pub connection_set : Input
connection_set = input.Set (codes "t5") (codes "s1") (codes "g") Usd true false false 10000 10000 true

-- the switch of product g is turned on
abbrev pub switch_on : Input
switch_on = input.Switch (codes "t6") (codes "g") true

-- a purchase with card c1 at the merchant m1, of a category
abbrev pub purchase_at : ℕ → String → ℕ → Input
purchase_at mcc token amount = input.Authorization (codes token) (codes "c1") Usd amount mcc (codes "m1") false

-- a purchase with card c1 at the grocer m1
abbrev pub purchase : String → ℕ → Input
purchase token amount = purchase_at 5411 token amount

-- a purchase with card c1 at the grocer m1, of which the gateway may fund a part
abbrev pub partial_purchase : String → ℕ → Input
partial_purchase token amount = input.Authorization (codes token) (codes "c1") Usd amount 5411 (codes "m1") true

-- an increment of a transaction in US dollars
abbrev pub increment : String → String → ℕ → Input
increment token txn amount = input.Increment (codes token) (codes txn) Usd amount

-- a reversal of a transaction in US dollars
abbrev pub reversal : String → String → ℕ → Input
reversal token txn amount = input.Reversal (codes token) (codes txn) Usd amount

-- a clearing of a transaction in US dollars, with more to come
abbrev pub clearing : String → String → ℕ → Input
clearing token txn amount = input.Clearing (codes token) (codes txn) Usd amount false

-- the last clearing of a transaction in US dollars
abbrev pub final_clearing : String → String → ℕ → Input
final_clearing token txn amount = input.Clearing (codes token) (codes txn) Usd amount true

-- a refund of a transaction in US dollars
abbrev pub refund : String → String → ℕ → Input
refund token txn amount = input.Refund (codes token) (codes txn) Usd amount

-- a call by its number
abbrev pub call_number : ℕ → CallId
call_number n = record { 0 = n }

-- the gateway's answer to a call
abbrev pub gateway_answer : ℕ → Outcome → Input
gateway_answer call outcome = input.Answer (call_number call) outcome

-- the gateway funds a part of a call, in a currency
abbrev pub part_answer : ℕ → Currency → ℕ → Input
part_answer call currency amount = gateway_answer call (outcome.Partial currency amount)

-- a user of this name
abbrev pub user_of : String → String → Input
user_of token user = input.User (codes token) (codes user)

-- an active card of a user and a product
abbrev pub card_for : String → String → String → String → Input
card_for token card user product = input.Card (codes token) (codes card) (codes user) (codes product) true

-- a load of a user in US dollars
abbrev pub load_of : String → String → ℕ → Input
load_of token user amount = input.Load (codes token) (codes user) Usd amount

-- a product in US dollars, funded by the gateway, with this many milliseconds for an answer and holds of a week
abbrev pub product_of : String → String → ℕ → Input
product_of token product timeout_ms = input.Product (codes token) (codes product) Usd funding.Gateway timeout_ms 604800000

-- a purchase with a card at the grocer m1
abbrev pub purchase_by : String → String → ℕ → Input
purchase_by card token amount = input.Authorization (codes token) (codes card) Usd amount 5411 (codes "m1") false

-- card c1 is moved to a state
abbrev pub card_move : String → CardState → Input
card_move token to = input.Move (codes token) (moved.Card (codes "c1") to)

-- user u1 is moved to a state
abbrev pub user_move : String → UserState → Input
user_move token to = input.Move (codes token) (moved.User (codes "u1") to)

-- a control in US dollars of each day, with this amount limit, association and scope
abbrev pub control_of : String → String → ℕ → Association → Scope → Input
control_of token control limit association scope =
    input.Control (codes token) (codes control) Usd window.Day (Some limit) None association scope (pos 0) true

-- the event is done
abbrev pub done_reply : String → List Said
done_reply token = decided (codes token) verdict.Done ∷ []

-- the event is approved
abbrev pub approved_reply : String → List Said
approved_reply token = decided (codes token) verdict.Approved ∷ []

-- the event is approved for a part, in US dollars
abbrev pub partial_reply : String → ℕ → List Said
partial_reply token amount = decided (codes token) (verdict.Partial Usd amount) ∷ []

-- the event is declined
abbrev pub declined_reply : String → Reason → List Said
declined_reply token why = decided (codes token) (verdict.Declined why) ∷ []

-- The gateway is asked at a stamp about a purchase of user u1 with a card, and has this many milliseconds to answer. It may fund a part, or
-- it may not.
abbrev pub request_with_partial : Bool → String → ℕ → Method → ℕ → String → String → ℕ → ℕ → List Said
request_with_partial partial card timeout_ms method number event txn amount at =
    asked (record {
      call = call_number number;
      event = codes event;
      txn = codes txn;
      method = method;
      card = codes card;
      user = codes "u1";
      currency = Usd;
      mcc = 5411;
      mid = codes "m1";
      amount = amount;
      partial = partial;
      at = at;
      deadline = at + timeout_ms;
    }) ∷ []

-- the gateway is asked so about all of a purchase
abbrev pub request_by : String → ℕ → Method → ℕ → String → String → ℕ → ℕ → List Said
request_by card timeout_ms method number event txn amount at =
    request_with_partial false card timeout_ms method number event txn amount at

-- the gateway is asked at a stamp about a purchase with card c1, and has 3 seconds to answer
abbrev pub request : Method → ℕ → String → String → ℕ → ℕ → List Said
request method number event txn amount at = request_by "c1" 3000 method number event txn amount at

-- the gateway is asked so about an authorisation, and may fund a part
abbrev pub partial_request : ℕ → String → String → ℕ → ℕ → List Said
partial_request number event txn amount at =
    request_with_partial true "c1" 3000 method.Authorization number event txn amount at

-- the gateway is sent a notice about a user: its amount, and the part that goes back to the gateway
abbrev pub notice_about : String → ℕ → Method → String → Option CallId → ℕ → ℕ → List Said
notice_about user number method txn call amount gateway =
    noticed (record {
      number = number;
      method = method;
      txn = codes txn;
      user = codes user;
      currency = Usd;
      call = call;
      amount = amount;
      gateway = gateway;
    }) ∷ []

-- the gateway is sent a notice about user u1
abbrev pub notice : ℕ → Method → String → Option CallId → ℕ → ℕ → List Said
notice number method txn call amount gateway = notice_about "u1" number method txn call amount gateway

-- the event stands with the same contents, and gets the same reply
abbrev pub repeat_reply : String → Reply → List Said
repeat_reply token reply = answered (answer.Repeat (codes token) reply) ∷ []

-- the event stands with other contents, by this record
abbrev pub conflict_reply : String → ℕ → List Said
conflict_reply token number = answered (answer.Conflict (codes token) number) ∷ []

-- the call was closed before
abbrev pub late_reply : ℕ → How → List Said
late_reply call how = answered (answer.Late (call_number call) how) ∷ []
