-- If every product is paid for from its users' balances, no step asks the gateway or tells it anything.
use Rattle.std.proofs.Common.{◌≡◌, refl, sym, ap, subst, ◌∙◌, ℕ, Bool, true, false, List, [], ◌++◌, inl, inr}
use Rattle.std.specs.Prelude.{Some, None, ◌&&◌, bytes_eq, filter}
use Rattle.std.specs.List.{list_all}
use Rattle.std.proofs.lemmas.Bool.{and_parts}
use Rattle.std.proofs.lemmas.List.Folds.{list_all-append}
use Rattle.iss_model.specs.declared.call.Opened.{Opened}
use Rattle.iss_model.specs.declared.input.Input.{Input}
use Rattle.iss_model.specs.declared.txn.Txn.{Txn}
use Rattle.iss_model.specs.declared.entry.Entry.{Entry}
use Rattle.iss_model.specs.rules.Activity.{CallNow, call_numbered, is_asked}
use Rattle.iss_model.specs.rules.Acts.{Abandons, Act, Asks, Begins, Fails, Funds, Refuses, StandsIn, Tells, act_entries}
use Rattle.iss_model.specs.rules.Asks.{Ask}
use Rattle.iss_model.specs.rules.CardReasons.{is_account_funded}
use Rattle.iss_model.specs.rules.Due.{DueThing, thing_entries}
use Rattle.iss_model.specs.rules.Facts.{Facts}
use Rattle.iss_model.specs.rules.Pieces.{abandoned_calls_entries}
use Rattle.iss_model.specs.rules.Stepping.{entries_of}
use Rattle.iss_model.proofs.Lists.{find_passes}
use Rattle.iss_acts.specs.Causes.{Cause, ComesOf, FallsDue}
use Rattle.iss_acts.specs.Items.{Beginning, Item, Opening, StandTelling, Telling, Voiding, has_item, item_entry, may_begin, may_open_call, may_tell, may_tell_stand_in, may_void}
use Rattle.iss_acts.specs.Sources.{IsAskedCall, IsMade, IsOwnAsk, IsSettledAsk, IsTxnOf}
use Rattle.iss_acts.specs.Stages.{Stage}
use Rattle.iss_acts.proofs.Begun.{is_begun}
use Rattle.iss_acts.proofs.Passing.{EachPasses, act_passes, both_pass, none_passes, one_passes, two_pass}
use Rattle.iss_acts.proofs.Walk.{Holds, due_holds, own_holds, txn_of_ask}
use Rattle.iss_session.specs.Accounts.{is_account_entry}

-- each of these entries is an account's
abbrev pub AreAccounts : List Entry → Type 0
AreAccounts entries = EachPasses is_account_entry entries

-- tests of lists

true_both : (a b : Bool) → a ≡ true → b ≡ true → (a && b) ≡ true
true_both true b ea eb = eb
true_both false b ea eb = ea

pub all_both : {A : Type 0} (p : A → Bool) (xs ys : List A) → list_all p xs ≡ true → list_all p ys ≡ true → list_all p (xs ++ ys) ≡ true
all_both p xs ys ex ey = list_all-append p xs ys ∙ true_both (list_all p xs) (list_all p ys) ex ey

pub all_first : {A : Type 0} (p : A → Bool) (xs ys : List A) → list_all p (xs ++ ys) ≡ true → list_all p xs ≡ true
all_first p xs ys e = (and_parts (list_all p xs) (list_all p ys) (sym (list_all-append p xs ys) ∙ e)).0

-- what acts are made of

-- no call is asked, and all transactions and products are accounts'
pub record AccountFacts (f : Facts) : Type 0 where
  pub calls : f.calls ≡ []
  pub txns : list_all (λ t. is_account_funded t.txn.funding) f.txns ≡ true

pub record AccountProducts (f : Facts) : Type 0 where
  pub products : list_all (λ product. is_account_funded product.funding) f.products ≡ true

no_call : {f : Facts} {o : Opened} {t : Txn} → AccountFacts f → IsAskedCall f o t → ⊥
no_call facts asked =
    let none : None ≡ Some asked.its = sym (ap (call_numbered asked.number) facts.calls) ∙ asked.stands in
    cc

its_txn : {f : Facts} {t : Txn} → AccountFacts f → IsTxnOf f t → is_account_funded t.funding ≡ true
its_txn {f} facts its =
    subst (λ (t : Txn). is_account_funded t.funding ≡ true) its.same
    (find_passes (λ t. bytes_eq t.txn.token its.token) (λ t. is_account_funded t.txn.funding) f.txns its.now facts.txns its.stands)

-- asks are of accounts' transactions
abbrev AreOwn : Facts → Cause → ℕ → Type 0
AreOwn f by at = (ask : Ask) → IsOwnAsk f by at ask → is_account_funded ask.txn.funding ≡ true

input_asks : {f : Facts} {i : Input} {at : ℕ} → AccountFacts f → AccountProducts f → AreOwn f (ComesOf i) at
input_asks {f} facts products ask (inl first) =
    let begun = is_begun first in
    ap (λ (ask : Ask). is_account_funded ask.txn.funding) begun.same
    ∙ find_passes (λ product. bytes_eq product.name begun.card.product) (λ product. is_account_funded product.funding) f.products begun.product products.products begun.of_product
input_asks facts products ask (inr more) = its_txn facts (txn_of_ask more)

due_asks : {f : Facts} {at : ℕ} → AreOwn f FallsDue at
due_asks ask (inl first) = let none = first.its_input in cc
due_asks ask (inr more) = let none = more.its_input in cc

-- what asks of accounts' transactions make

-- an act that begins no transaction, asks the gateway nothing and tells it nothing
quiet : (a : Act) → may_begin a ≡ false → may_open_call a ≡ false → may_void a ≡ false → may_tell a ≡ false → may_tell_stand_in a ≡ false → AreAccounts (act_entries a)
quiet a begins asks voids tells stands = act_passes a each
  where
    each : (x : Item) → has_item a x ≡ true → is_account_entry (item_entry x) ≡ true
    each (Beginning t) may = cc
    each (Opening o) may = cc
    each (Voiding number t o) may = cc
    each (StandTelling number t amount) may = cc
    each (Telling number news t amount gateway) may = cc
    each _ may = refl

module _ {f : Facts} {by : Cause} {at : ℕ} (facts : AccountFacts f) (own : AreOwn f by at) where
  no_settled : {ask : Ask} → IsSettledAsk f by at ask → ⊥
  no_settled (inl call) = no_call facts call.asked
  no_settled {ask} (inr asks) = let funded = own ask asks.0 in let gateway = asks.1 in cc

  act_accounts : (g : Stage) (a : Act) → IsMade f by at g a → AreAccounts (act_entries a)
  act_accounts g (Begins ask) made = two_pass (own ask (inl made.from.1)) (one_passes refl)
  act_accounts g (Asks h product ask) made = let funded = own ask made.from.2 in let gateway = made.from.3 in cc
  act_accounts g (Funds o t) made = absurd (no_call facts made.from.1)
  act_accounts g (Refuses o t) made = absurd (no_call facts made.from.1)
  act_accounts g (Fails number o t why) made = absurd (no_call facts made.from.1)
  act_accounts g (StandsIn number ask when s) made = absurd (no_settled made.from.1)
  act_accounts g (Abandons number t why calls parts) made =
      subst (λ (calls : List CallNow). AreAccounts (abandoned_calls_entries number t why calls))
      (sym (made.from.2 ∙ ap (filter (λ c. is_asked c && bytes_eq c.opened.txn t.token)) facts.calls)) none_passes
  act_accounts g (Tells number news t amount gateway) made = let funded = its_txn facts made.from.0 in let none = made.from.1 in cc
  act_accounts g a made = quiet a refl refl refl refl refl

  accounts_hold : Holds f by at (EachPasses is_account_entry)
  accounts_hold = record { none = none_passes; then = both_pass; act = act_accounts }

pub own_all : (f : Facts) (i : Input) (at : ℕ) → AccountFacts f → AccountProducts f → AreAccounts (entries_of i at f)
own_all f i at facts products = own_holds f i at (accounts_hold facts (input_asks facts products))

pub due_all : (f : Facts) (thing : DueThing) (at : ℕ) → AccountFacts f → AreAccounts (thing_entries thing at f)
due_all f thing at facts = due_holds f thing at (accounts_hold facts due_asks)
