-- Items: the entries of acts, each by what it is made for, and which act may make which.
use Rattle.std.specs.Prelude.{ℕ, ℤ, pos, neg_ℤ, Bool, true, false, List, Some, None}
use Rattle.iss_model.specs.declared.account.Account.{Account}
use Rattle.iss_model.specs.declared.account.Account.TheVariants as account
use Rattle.iss_model.specs.declared.account.Part.{Part}
use Rattle.iss_model.specs.declared.call.CallId.{CallId}
use Rattle.iss_model.specs.declared.call.How.{How}
use Rattle.iss_model.specs.declared.call.How.TheVariants as how
use Rattle.iss_model.specs.declared.call.Method.TheVariants as method
use Rattle.iss_model.specs.declared.call.Opened.{Opened}
use Rattle.iss_model.specs.declared.currency.Currency.{Currency}
use Rattle.iss_model.specs.declared.decision.Verdict.{Verdict}
use Rattle.iss_model.specs.declared.decision.Verdict.TheVariants as verdict
use Rattle.iss_model.specs.declared.entry.Entry.{Entry}
use Rattle.iss_model.specs.declared.entry.Entry.TheVariants as entry
use Rattle.iss_model.specs.declared.input.Input.{Input}
use Rattle.iss_model.specs.declared.txn.Txn.{Txn}
use Rattle.iss_model.specs.rules.Asks.{usage_of}
use Rattle.iss_model.specs.rules.Pieces.{notice_entry, user_account, void_entry}
use Rattle.iss_model.specs.rules.Acts.{Abandons, Act, Asks, Begins, Clears, Declines, Does, Ends, Fails, Funds, FundsPart, GivesBack, HoldsOwn, LetsGo, Loads, News, Refuses, Sets, StandsIn, Tells, TurnsDown, news_method}

-- who pays a transaction's user, or is paid by that user
pub data Payment : Type 0 where
  FromProgramme : Payment
  FromGateway : Payment
  FromNetwork : Payment
  ToProgramme : Payment
  ToGateway : Payment
  ToNetwork : Payment

-- the account that a payment comes from
abbrev pub payer : Payment → Txn → Account
payer FromProgramme t = account.Programme t.currency
payer FromGateway t = account.Gateway t.currency
payer FromNetwork t = account.Network t.currency
payer ToProgramme t = user_account t
payer ToGateway t = user_account t
payer ToNetwork t = user_account t

-- the account that a payment goes to
abbrev pub payee : Payment → Txn → Account
payee FromProgramme t = user_account t
payee FromGateway t = user_account t
payee FromNetwork t = user_account t
payee ToProgramme t = account.Programme t.currency
payee ToGateway t = account.Gateway t.currency
payee ToNetwork t = account.Network t.currency

-- an entry, by what it is made for
pub data Item : Type 0 where
  Setting : Input → Item
  Loading : List ℕ → Currency → ℕ → Item
  Beginning : Txn → Item
  Ending : Txn → Item
  Deciding : List ℕ → Verdict → Item
  Paying : Payment → Txn → ℕ → Item
  Holding : Txn → Part → ℕ → Item
  Freeing : Txn → Part → ℕ → Item
  Using : Txn → ℤ → ℤ → ℕ → Item
  Standing : List ℕ → List ℕ → List ℕ → ℕ → ℕ → Item
  Opening : Opened → Item
  Closing : CallId → How → Item
  Voiding : ℕ → Txn → Opened → Item
  StandTelling : ℕ → Txn → ℕ → Item
  Telling : ℕ → News → Txn → ℕ → ℕ → Item
  Acking : ℕ → Item

-- the entry of an item
abbrev pub item_entry : Item → Entry
item_entry (Setting i) = entry.Conf i
item_entry (Loading user currency amount) = entry.Post (account.Programme currency) (account.User user currency) amount None
item_entry (Beginning t) = entry.Began t
item_entry (Ending t) = entry.Ended t.token
item_entry (Deciding event v) = entry.Decided event v
item_entry (Paying k t amount) = entry.Post (payer k t) (payee k t) amount (Some t.token)
item_entry (Holding t x amount) = entry.Hold t.token t.user t.currency x (pos amount)
item_entry (Freeing t x amount) = entry.Hold t.token t.user t.currency x (neg_ℤ (pos amount))
item_entry (Using t amount count at) = entry.Usage (usage_of t amount count at)
item_entry (Standing set product user amount at) = entry.Stood set product user amount at
item_entry (Opening o) = entry.Opened o
item_entry (Closing call how) = entry.Closed call how
item_entry (Voiding number t o) = void_entry number t o
item_entry (StandTelling number t amount) = notice_entry number method.StandIn t None amount 0
item_entry (Telling number news t amount gateway) = notice_entry number (news_method news) t None amount gateway
item_entry (Acking notice) = entry.Acked notice

-- Which act may make which item. The tables may allow too much, but never too little: that is proved.

-- whom an act pays
abbrev pub may_pay : Act → Payment → Bool
may_pay (Funds o t) FromGateway = true
may_pay (FundsPart o t amount) FromGateway = true
may_pay (StandsIn number ask at set) FromProgramme = true
may_pay (LetsGo t parts amount) ToProgramme = true
may_pay (LetsGo t parts amount) ToGateway = true
may_pay (Clears t parts amount at) FromProgramme = true
may_pay (Clears t parts amount at) ToNetwork = true
may_pay (GivesBack t amount programme) FromNetwork = true
may_pay (GivesBack t amount programme) ToProgramme = true
may_pay (GivesBack t amount programme) ToGateway = true
may_pay a k = false

-- what an act decides
abbrev pub may_decide : Act → Verdict → Bool
may_decide (Sets i event) verdict.Done = true
may_decide (Loads event user currency amount) verdict.Done = true
may_decide (Does event) verdict.Done = true
may_decide (HoldsOwn ask) verdict.Approved = true
may_decide (Funds o t) verdict.Approved = true
may_decide (FundsPart o t amount) (verdict.Partial currency part) = true
may_decide (StandsIn number ask at set) verdict.Approved = true
may_decide (Declines event why) (verdict.Declined reason) = true
may_decide (Refuses o t) (verdict.Declined reason) = true
may_decide (TurnsDown ask why) (verdict.Declined reason) = true
may_decide (Abandons number t why calls parts) (verdict.Declined reason) = true
may_decide a v = false

-- an act may end its transaction
abbrev pub may_end : Act → Bool
may_end (Refuses o t) = true
may_end (TurnsDown ask why) = true
may_end (Ends t) = true
may_end _ = false

-- an act may hold an amount
abbrev pub may_hold : Act → Bool
may_hold (HoldsOwn ask) = true
may_hold (Funds o t) = true
may_hold (FundsPart o t amount) = true
may_hold (StandsIn number ask at set) = true
may_hold _ = false

-- an act may let go of what is held
abbrev pub may_free : Act → Bool
may_free (LetsGo t parts amount) = true
may_free (Clears t parts amount at) = true
may_free _ = false

-- an act may ask the gateway
abbrev pub may_open_call : Act → Bool
may_open_call (Asks f product ask) = true
may_open_call _ = false

-- how an act may close a call
abbrev pub may_close : Act → How → Bool
may_close (Funds o t) how.Funded = true
may_close (FundsPart o t amount) (how.Partial part) = true
may_close (Refuses o t) how.Refused = true
may_close (Fails number o t why) (how.Failed failure) = true
may_close (Abandons number t why calls parts) how.Abandoned = true
may_close a h = false

-- an act may begin a transaction
abbrev pub may_begin : Act → Bool
may_begin (Begins ask) = true
may_begin _ = false

-- an act may void a call by a notice
abbrev pub may_void : Act → Bool
may_void (Fails number o t why) = true
may_void (Abandons number t why calls parts) = true
may_void _ = false

-- an act may tell the gateway that a set stood in
abbrev pub may_tell_stand_in : Act → Bool
may_tell_stand_in (StandsIn number ask at set) = true
may_tell_stand_in _ = false

-- an act may tell the gateway news of a transaction
abbrev pub may_tell : Act → Bool
may_tell (Tells number news t amount gateway) = true
may_tell _ = false

-- an act may load a user
abbrev pub may_load : Act → Bool
may_load (Loads event user currency amount) = true
may_load _ = false

-- an act may have this item
abbrev pub has_item : Act → Item → Bool
has_item a (Beginning t) = may_begin a
has_item a (Loading user currency amount) = may_load a
has_item a (Ending t) = may_end a
has_item a (Deciding event v) = may_decide a v
has_item a (Paying k t amount) = may_pay a k
has_item a (Holding t x amount) = may_hold a
has_item a (Freeing t x amount) = may_free a
has_item a (Opening o) = may_open_call a
has_item a (Closing call how) = may_close a how
has_item a (Voiding number t o) = may_void a
has_item a (StandTelling number t amount) = may_tell_stand_in a
has_item a (Telling number news t amount gateway) = may_tell a
has_item a _ = true
