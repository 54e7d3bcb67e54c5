-- The acts of the rules. An act makes entries together, and carries all that they are made of.
use Rattle.std.specs.Prelude.{ℕ, List, [], ◌∷◌, ◌++◌, None}
use Rattle.iss_model.specs.declared.account.Account.TheVariants as account
use Rattle.iss_model.specs.declared.account.Part.TheVariants as part
use Rattle.iss_model.specs.declared.call.Failure.{Failure}
use Rattle.iss_model.specs.declared.call.How.TheVariants as how
use Rattle.iss_model.specs.declared.call.Method.TheVariants as method
use Rattle.iss_model.specs.declared.call.Method.{Method}
use Rattle.iss_model.specs.declared.call.Opened.{Opened}
use Rattle.iss_model.specs.declared.currency.Currency.{Currency}
use Rattle.iss_model.specs.declared.decision.Reason.TheVariants as reason
use Rattle.iss_model.specs.declared.decision.Reason.{Reason}
use Rattle.iss_model.specs.declared.decision.Verdict.TheVariants as verdict
use Rattle.iss_model.specs.declared.entry.Entry.TheVariants as entry
use Rattle.iss_model.specs.declared.entry.Entry.{Entry}
use Rattle.iss_model.specs.declared.input.Input.{Input}
use Rattle.iss_model.specs.declared.setting.Product.{Product}
use Rattle.iss_model.specs.declared.setting.Set.{Set}
use Rattle.iss_model.specs.declared.txn.Txn.{Txn}
use Rattle.iss_model.specs.rules.Activity.{CallNow}
use Rattle.iss_model.specs.rules.Asks.{Ask, call_ask, ask_usage}
use Rattle.iss_model.specs.rules.Facts.{Facts}
use Rattle.iss_model.specs.rules.Pieces.{hold_entries, Parts, taken_to_clear, release_entries, notice_entry, void_entry, declined_ask_entries, funded_ask_entries, part_funded_entries, call_for, clearing_money_entries, abandoned_calls_entries, set_stand_in_entries, load_entries, setting_entries, give_back_entries}

-- what a notice tells of a transaction, other than that a call is void or that a set stood in
pub data News : Type 0 where
  reversed : News
  captured : News
  refunded : News
  expired : News

-- news, as a notice's method
abbrev pub news_method : News → Method
news_method reversed = method.Reversal
news_method captured = method.Capture
news_method refunded = method.Refund
news_method expired = method.Expiry

-- An act of the rules.
pub data Act : Type 0 where
  -- an event is declined with its reason
  Declines : List ℕ → Reason → Act
  -- a setting takes effect and is done
  Sets : Input → List ℕ → Act
  -- a load moves money and is done
  Loads : List ℕ → List ℕ → Currency → ℕ → Act
  -- an authorisation begins its transaction and counts as use
  Begins : Ask → Act
  -- an increment counts as use
  Uses : Ask → Act
  -- an ask is paid from the user's own balance
  HoldsOwn : Ask → Act
  -- the gateway is asked
  Asks : Facts → Product → Ask → Act
  -- the gateway funds a call
  Funds : Opened → Txn → Act
  -- the gateway funds this part of a call's amount
  FundsPart : Opened → Txn → ℕ → Act
  -- the gateway refuses a call
  Refuses : Opened → Txn → Act
  -- a call fails, and is voided by the notice of this number
  Fails : ℕ → Opened → Txn → Failure → Act
  -- the programme stands in by a set, at a stamp, with the notice of this number
  StandsIn : ℕ → Ask → ℕ → Set → Act
  -- an ask is declined for a reason
  TurnsDown : Ask → Reason → Act
  -- these calls of a transaction are abandoned, with notices from this number on, while it holds these parts
  Abandons : ℕ → Txn → Reason → List CallNow → Parts → Act
  -- an amount is let go of what a transaction holds
  LetsGo : Txn → Parts → ℕ → Act
  -- a transaction ends
  Ends : Txn → Act
  -- a clearing of an amount at a stamp, of what a transaction holds
  Clears : Txn → Parts → ℕ → ℕ → Act
  -- a refund of an amount, of which this much goes to the programme
  GivesBack : Txn → ℕ → ℕ → Act
  -- the gateway receives the notice of this number, with an amount and the gateway's part of it
  Tells : ℕ → News → Txn → ℕ → ℕ → Act
  -- an event is done
  Does : List ℕ → Act
  -- a notice is acknowledged
  Acknowledges : ℕ → Act

-- the entries of an act
abbrev pub act_entries : Act → List Entry
act_entries (Declines event why) = entry.Decided event (verdict.Declined why) ∷ []
act_entries (Sets i event) = setting_entries i event
act_entries (Loads event user currency amount) = load_entries event user currency amount
act_entries (Begins ask) = entry.Began ask.txn ∷ entry.Usage (ask_usage ask) ∷ []
act_entries (Uses ask) = entry.Usage (ask_usage ask) ∷ []
act_entries (HoldsOwn ask) = hold_entries ask.txn part.S ask.amount ++ entry.Decided ask.event verdict.Approved ∷ []
act_entries (Asks f product ask) = entry.Opened (call_for f product ask) ∷ []
act_entries (Funds o t) = entry.Closed o.call how.Funded ∷ funded_ask_entries (call_ask o t) (account.Gateway t.currency) part.G
act_entries (FundsPart o t amount) = entry.Closed o.call (how.Partial amount) ∷ part_funded_entries o t amount
act_entries (Refuses o t) = entry.Closed o.call how.Refused ∷ declined_ask_entries (call_ask o t) reason.GatewayDeclined
act_entries (Fails number o t why) = entry.Closed o.call (how.Failed why) ∷ void_entry number t o ∷ []
act_entries (StandsIn number ask at set) = set_stand_in_entries number ask at set
act_entries (TurnsDown ask why) = declined_ask_entries ask why
act_entries (Abandons number t why calls parts) = abandoned_calls_entries number t why calls
act_entries (LetsGo t parts amount) = release_entries t parts amount
act_entries (Ends t) = entry.Ended t.token ∷ []
act_entries (Clears t parts amount at) = clearing_money_entries t (taken_to_clear parts amount) amount at
act_entries (GivesBack t amount programme) = give_back_entries t amount programme
act_entries (Tells number news t amount gateway) = notice_entry number (news_method news) t None amount gateway ∷ []
act_entries (Does event) = entry.Decided event verdict.Done ∷ []
act_entries (Acknowledges notice) = entry.Acked notice ∷ []

-- the entries of acts in a row
abbrev pub entries_of_acts : List Act → List Entry
entries_of_acts [] = []
entries_of_acts (a ∷ acts) = act_entries a ++ entries_of_acts acts
