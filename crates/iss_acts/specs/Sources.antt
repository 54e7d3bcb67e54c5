-- Where each act comes from in the facts that it is made on, and at which stage of its row.
use Rattle.std.specs.Prelude.{◌≡◌, ℕ, Bool, min, ◌≤◌, ◌<◌, true, false, List, [], ◌∷◌, Option, Some, None, ◌⊎◌}
use Rattle.iss_model.specs.declared.call.CallId.{CallId}
use Rattle.iss_model.specs.declared.call.Opened.{Opened}
use Rattle.iss_model.specs.declared.currency.Currency.{Currency}
use Rattle.iss_model.specs.declared.decision.Reason.{Reason}
use Rattle.iss_model.specs.declared.input.Input.{Input}
use Rattle.iss_model.specs.declared.input.Input.TheVariants as input
use Rattle.iss_model.specs.declared.input.Outcome.TheVariants as outcome
use Rattle.iss_model.specs.declared.txn.Txn.{Txn}
use Rattle.iss_model.specs.rules.Activity.{CallNow, TxnNow, is_asked}
use Rattle.iss_model.specs.rules.Asks.{Ask, call_ask}
use Rattle.iss_model.specs.rules.Pieces.{owed_to_programme, Parts, in_all, parts_held}
use Rattle.iss_model.specs.rules.CardActs.{counts_as_part}
use Rattle.iss_model.specs.rules.CardReasons.{authorization_reason, further_ask, increment_reason, is_account_funded}
use Rattle.iss_model.specs.rules.Facts.{Facts, asked_calls_of, call_in, is_notice, txn_in}
use Rattle.iss_model.specs.rules.Reasons.{card_reason, control_reason, group_reason, move_reason, product_reason, set_reason, switch_reason, user_reason}
use Rattle.iss_model.specs.rules.Stepping.{authorization_ask}
use Rattle.iss_model.specs.rules.Acts.{Abandons, Acknowledges, Act, Asks, Begins, Clears, Ends, Fails, Funds, FundsPart, GivesBack, HoldsOwn, LetsGo, Loads, Refuses, Sets, StandsIn, Tells, TurnsDown, Uses}
use Rattle.iss_acts.specs.Causes.{Cause, ComesOf, may_act}
use Rattle.iss_acts.specs.Stages.{Frees, Fresh, Keeps, Leaves, Seeks, Stage, stage_after}

-- a transaction of the facts
pub record IsTxnOf (f : Facts) (t : Txn) : Type 0 where
  pub token : List ℕ
  pub now : TxnNow
  pub stands : txn_in f token ≡ Some now
  pub same : now.txn ≡ t

-- a call that is asked, with its transaction
pub record IsAskedCall (f : Facts) (o : Opened) (t : Txn) : Type 0 where
  pub number : ℕ
  pub its : CallNow
  pub stands : call_in f number ≡ Some its
  pub asked : is_asked its ≡ true
  pub opened : its.opened ≡ o
  pub now : TxnNow
  pub txn_stands : txn_in f its.opened.txn ≡ Some now
  pub same : now.txn ≡ t

-- a cause's answer funds this part of a call, and the part counts
pub record IsFundedPart (by : Cause) (o : Opened) (amount : ℕ) : Type 0 where
  pub call : CallId
  pub currency : Currency
  pub its_input : by ≡ ComesOf (input.Answer call (outcome.Partial currency amount))
  pub counts : counts_as_part o currency amount ≡ true

-- an ask is the one that an asked call was opened for
pub record IsCallAsk (f : Facts) (ask : Ask) : Type 0 where
  pub o : Opened
  pub t : Txn
  pub asked : IsAskedCall f o t
  pub is : ask ≡ call_ask o t

-- an ask is that of a cause's authorisation, and there is no reason to decline it
pub record IsFirstAsk (f : Facts) (by : Cause) (at : ℕ) (ask : Ask) : Type 0 where
  pub token : List ℕ
  pub card : List ℕ
  pub currency : Currency
  pub amount : ℕ
  pub mcc : ℕ
  pub mid : List ℕ
  pub partial : Bool
  pub its_input : by ≡ ComesOf (input.Authorization token card currency amount mcc mid partial)
  pub made : authorization_ask f token card currency amount mcc mid partial at ≡ Some ask
  pub none : authorization_reason f card currency (Some ask) ≡ None

-- an ask is that of a cause's increment, and there is no reason to decline it
pub record IsFurtherAsk (f : Facts) (by : Cause) (at : ℕ) (ask : Ask) : Type 0 where
  pub token : List ℕ
  pub txn : List ℕ
  pub currency : Currency
  pub amount : ℕ
  pub its_input : by ≡ ComesOf (input.Increment token txn currency amount)
  pub now : TxnNow
  pub stands : txn_in f txn ≡ Some now
  pub made : ask ≡ further_ask token amount at now.txn
  pub none : increment_reason f (Some now) currency (Some ask) ≡ None

-- a cause's own ask
abbrev pub IsOwnAsk : Facts → Cause → ℕ → Ask → Type 0
IsOwnAsk f by at ask = IsFirstAsk f by at ask ⊎ IsFurtherAsk f by at ask

-- an ask that is settled without the gateway's answer: its call failed, or it is the cause's own, which isn't put to the gateway
abbrev pub IsSettledAsk : Facts → Cause → ℕ → Ask → Type 0
IsSettledAsk f by at ask = IsCallAsk f ask ⊎ (IsOwnAsk f by at ask × (is_account_funded ask.txn.funding ≡ false))

-- each of the small parts is at most the large one of its kind
pub record AreWithin (small large : Parts) : Type 0 where
  pub of_gateway : small.g ≤ large.g
  pub of_programme : small.p ≤ large.p
  pub of_user : small.s ≤ large.s

-- nothing is left of what a transaction held
pub record HasNoneLeft (g : Stage) (t : Txn) : Type 0 where
  pub parts : Parts
  pub here : g ≡ Leaves t parts
  pub none : in_all parts ≡ 0

-- why a setting is declined; an input that isn't a setting has no such reason
abbrev pub setting_reason : Facts → Input → Option Reason
setting_reason f (input.User token user) = user_reason f user
setting_reason f (input.Card token card user product active) = card_reason f card user product
setting_reason f (input.Move token who) = move_reason f who
setting_reason f (input.Product token product currency funding timeout_ms hold_ms) = product_reason f product
setting_reason f (input.Group token group mccs) = group_reason f group
setting_reason f (input.Control token control currency window amount_limit usage_limit association scope offset active) =
    control_reason f control currency window association scope offset
setting_reason f (input.Set token set product currency connection timeout application max day_limit active) = set_reason f set product currency
setting_reason f (input.Switch token product on) = switch_reason f product
setting_reason f _ = None

-- this number is above those of all notices that were made
abbrev pub IsNewNotice : Facts → ℕ → Type 0
IsNewNotice f number = f.notices_made < number

-- Where an act comes from, at this stage of its row.
abbrev pub IsFrom : Facts → Cause → ℕ → Stage → Act → Type 0
IsFrom f by at g (Sets i event) = (by ≡ ComesOf i) × (setting_reason f i ≡ None) × (g ≡ Fresh)
IsFrom f by at g (Loads event user currency amount) = (g ≡ Fresh) × (by ≡ ComesOf (input.Load event user currency amount))
IsFrom f by at g (Begins ask) = (g ≡ Fresh) × IsFirstAsk f by at ask
IsFrom f by at g (Uses ask) = (g ≡ Fresh) × IsFurtherAsk f by at ask
IsFrom f by at g (HoldsOwn ask) = (g ≡ Seeks ask) × IsOwnAsk f by at ask × (is_account_funded ask.txn.funding ≡ true)
IsFrom f by at g (Asks h product ask) = (g ≡ Seeks ask) × (h ≡ f) × IsOwnAsk f by at ask × (is_account_funded ask.txn.funding ≡ false)
IsFrom f by at g (Funds o t) = (g ≡ Fresh) × IsAskedCall f o t
IsFrom f by at g (FundsPart o t amount) = (g ≡ Fresh) × IsAskedCall f o t × IsFundedPart by o amount
IsFrom f by at g (Refuses o t) = (g ≡ Fresh) × IsAskedCall f o t
IsFrom f by at g (Fails number o t why) = (g ≡ Fresh) × IsAskedCall f o t × IsNewNotice f number
IsFrom f by at g (StandsIn number ask when set) = (g ≡ Seeks ask) × IsSettledAsk f by at ask × (when ≡ at) × IsNewNotice f number
IsFrom f by at g (TurnsDown ask why) = (g ≡ Seeks ask) × IsSettledAsk f by at ask
IsFrom f by at g (Abandons number t why calls parts) = (g ≡ Keeps t parts) × IsTxnOf f t × (calls ≡ asked_calls_of f t.token) × IsNewNotice f number
IsFrom f by at g (LetsGo t parts amount) = (g ≡ Frees t parts) × IsTxnOf f t × AreWithin parts (parts_held f t) × (amount ≤ in_all parts)
IsFrom f by at g (Ends t) = HasNoneLeft g t × IsTxnOf f t
IsFrom f by at g (Clears t parts amount when) = (g ≡ Fresh) × IsTxnOf f t × (parts ≡ parts_held f t) × (when ≡ at)
IsFrom f by at g (GivesBack t amount programme) = IsTxnOf f t × (programme ≡ min amount (owed_to_programme f t)) × (g ≡ Fresh)
IsFrom f by at g (Tells number news t amount gateway) = IsTxnOf f t × (is_account_funded t.funding ≡ false) × IsNewNotice f number
IsFrom f by at g (Acknowledges notice) = is_notice f notice ≡ true
IsFrom f by at g _ = Unit {0}

-- An act has a cause that may act so, and comes from the facts.
pub record IsMade (f : Facts) (by : Cause) (at : ℕ) (g : Stage) (a : Act) : Type 0 where
  pub cause : may_act by a ≡ true
  pub from : IsFrom f by at g a

-- each act of a list is made so, at the stage that those before it leave
abbrev pub AllMade : Facts → Cause → ℕ → Stage → List Act → Type 0
AllMade f by at g [] = Unit {0}
AllMade f by at g (a ∷ acts) = IsMade f by at g a × AllMade f by at (stage_after g a) acts

-- a row begins with nothing made, or with a transaction of the facts and what it holds
abbrev pub IsStart : Facts → Stage → Type 0
IsStart f Fresh = Unit {0}
IsStart f (Keeps t parts) = IsTxnOf f t × (parts ≡ parts_held f t)
IsStart f _ = ⊥

-- A row of acts, from its first stage on.
pub record IsRow (f : Facts) (by : Cause) (at : ℕ) (acts : List Act) : Type 0 where
  pub first : Stage
  pub starts : IsStart f first
  pub made : AllMade f by at first acts
