-- What acts make is of transactions that are listed, and money goes to and from users that are known or have such a transaction.
use Rattle.std.proofs.Common.{◌≡◌, ◌∙◌, ◌+◌, ◌||◌, ◌==◌, ◌-◌, ◌++◌, ◌∷◌, ◌&&◌, ap, ap₂, Bool, false, fold, inl, inr, List, [], map, not, refl, subst, sym, true, ℕ}
use Rattle.std.specs.Prelude.{Option, Some, None, is_none, is_some}
use Rattle.std.specs.List.{list_all, list_any}
use Rattle.std.specs.Str.{bytes_eq}
use Rattle.std.proofs.lemmas.Bool.{and_parts}
use Rattle.iss_model.specs.declared.account.Account.{Account}
use Rattle.iss_model.specs.declared.account.Account.TheVariants as account
use Rattle.iss_model.specs.declared.currency.Currency.{Currency}
use Rattle.iss_model.specs.declared.decision.Reason.{Reason}
use Rattle.iss_model.specs.declared.decision.Reason.TheVariants as reason
use Rattle.iss_model.specs.declared.entry.Entry.{Entry}
use Rattle.iss_model.specs.declared.entry.Entry.TheVariants as entry
use Rattle.iss_model.specs.declared.input.Input.{Input}
use Rattle.iss_model.specs.declared.input.Input.TheVariants as input
use Rattle.iss_model.specs.declared.setting.Moved.TheVariants as moved
use Rattle.iss_model.specs.declared.setting.User.{User}
use Rattle.iss_model.specs.declared.txn.Txn.{Txn}
use Rattle.iss_model.specs.declared.txn.UsageRow.{UsageRow}
use Rattle.iss_model.specs.rules.Activity.{CallNow, TxnNow}
use Rattle.iss_model.specs.rules.Acts.{Abandons, Act, Begins, Clears, Funds, FundsPart, GivesBack, HoldsOwn, LetsGo, Loads, Refuses, StandsIn, TurnsDown, Uses, act_entries, entries_of_acts}
use Rattle.iss_model.specs.rules.Asks.{Ask, ask_usage, call_ask}
use Rattle.iss_model.specs.rules.CardActs.{authorization_acts, funding_acts}
use Rattle.iss_model.specs.rules.CardReasons.{authorization_reason, is_account_funded}
use Rattle.iss_model.specs.rules.Due.{DueThing, thing_entries}
use Rattle.iss_model.specs.rules.Facts.{Facts}
use Rattle.iss_model.specs.rules.Pieces.{abandoned_calls_entries, declined_ask_entries, in_all, taken_to_clear, taken_to_release}
use Rattle.iss_model.specs.rules.Reasons.{first_reason, load_reason, user_is}
use Rattle.iss_model.specs.rules.Settings.{is_closed_user, user_named}
use Rattle.iss_model.specs.rules.Stepping.{acts_unless, entries_of}
use Rattle.iss_model.specs.state.Cores.{CoreState, after_entry, after_setting, core_facts, is_live, txn_after_end}
use Rattle.iss_model.proofs.Lists.{any_grows}
use Rattle.iss_model.proofs.Names.{its_name}
use Rattle.iss_acts.specs.Causes.{Cause, ComesOf, FallsDue}
use Rattle.iss_acts.specs.Sources.{IsFirstAsk, IsMade, IsOwnAsk, IsSettledAsk, IsTxnOf}
use Rattle.iss_acts.specs.Stages.{Stage}
use Rattle.iss_acts.proofs.Passing.{EachPasses, both_pass, either_passes, gateway_passes, none_passes, one_passes, passing, two_pass, where_passes}
use Rattle.iss_acts.proofs.Walk.{Holds, due_holds, own_holds, txn_of_ask, txn_of_call}
use Rattle.iss_state.specs.Holdings.{IsHeldWell}
use Rattle.iss_state.proofs.docket.Entering.{same_txn}
use Rattle.iss_state.proofs.docket.Lists.{both_so, found_any, or_true}
use Rattle.iss_state.proofs.effects.Finds.{same_number}
use Rattle.iss_state.proofs.held.Acts.{ask_of_gateway}
use Rattle.iss_states.proofs.Found.{entry_keeps}
use Rattle.iss_named.specs.Known.{is_known_user}
use Rattle.iss_named.specs.Stood.{is_gateway_product}
use Rattle.iss_named.proofs.SetNames.{gateway_stays, setting_knows}

-- tests ----

-- a transaction that passes is listed
abbrev pub is_listed : (Txn → Bool) → CoreState → Bool
is_listed p c = list_any (λ t. p t.txn) c.holdings.txns

-- a user is known, or has a transaction
abbrev pub is_holder : CoreState → List ℕ → Bool
is_holder c user = is_known_user c.cardholders.users user || is_listed (λ t. bytes_eq t.user user) c

-- so is the user of an account, if it is one's
abbrev pub is_of_holder : CoreState → Account → Bool
is_of_holder c (account.User user currency) = is_holder c user
is_of_holder c _ = true

-- use is of a transaction, by its user and its origin
abbrev pub is_use_of : UsageRow → Txn → Bool
is_use_of row t = bytes_eq t.user row.user && t.origin == row.origin

-- the programme may stand in for a transaction of this product and user
abbrev pub is_stand_in_of : List ℕ → List ℕ → Txn → Bool
is_stand_in_of product user t = bytes_eq t.product product && (bytes_eq t.user user && not (is_account_funded t.funding))

-- Money goes to and from holders, use and stand-ins are of listed transactions, and the programme stands in at this stamp.
abbrev pub is_of_listed : CoreState → ℕ → Entry → Bool
is_of_listed c at (entry.Post from to amount txn) = is_of_holder c from && is_of_holder c to
is_of_listed c at (entry.Usage row) = is_listed (is_use_of row) c
is_of_listed c at (entry.Stood set product user amount when) = is_listed (is_stand_in_of product user) c && when == at
is_of_listed c at _ = true

-- what stays ----

-- What is known or listed in one core is in another one.
pub record ListMore (c d : CoreState) : Type 0 where
  pub users : (name : List ℕ) → is_known_user c.cardholders.users name ≡ true → is_known_user d.cardholders.users name ≡ true
  pub products : (name : List ℕ) → is_gateway_product c.products name ≡ true → is_gateway_product d.products name ≡ true
  pub txns : (p : Txn → Bool) → is_listed p c ≡ true → is_listed p d ≡ true

pub lists_itself : (c : CoreState) → ListMore c c
lists_itself c = record { users = λ name h. h; products = λ name h. h; txns = λ p h. h }

pub list_then : {c d e : CoreState} → ListMore c d → ListMore d e → ListMore c e
list_then first then = record { users = λ name h. then.users name (first.users name h); products = λ name h. then.products name (first.products name h); txns = λ p h. then.txns p (first.txns p h) }

setting_txns : (c : CoreState) (i : Input) → (after_setting c i).holdings.txns ≡ c.holdings.txns
setting_txns c (input.Move token (moved.Card card to)) = refl
setting_txns c (input.Move token (moved.User user to)) = refl
setting_txns c _ = refl

ended_listed : (p : Txn → Bool) (token : List ℕ) (ts : List TxnNow) → list_any (λ t. p t.txn) (map (txn_after_end token) ts) ≡ list_any (λ t. p t.txn) ts
ended_listed p token [] = refl
ended_listed p token (t ∷ ts) = ap₂ (λ (a b : Bool). a || b) (ap p (same_txn token t)) (ended_listed p token ts)

txns_stay : (c : CoreState) (e : Entry) (p : Txn → Bool) → is_listed p c ≡ true → is_listed p (after_entry c e) ≡ true
txns_stay c (entry.Conf i) p h = ap (λ (ts : List TxnNow). list_any (λ t. p t.txn) ts) (setting_txns c i) ∙ h
txns_stay c (entry.Began t) p h = any_grows (λ (x : TxnNow). p x.txn) c.holdings.txns (record { txn = t; live = is_live c.holdings.txns t.token } ∷ []) h
txns_stay c (entry.Ended txn) p h = ended_listed p txn c.holdings.txns ∙ h
txns_stay c _ p h = h

users_stay : (c : CoreState) (e : Entry) (name : List ℕ) → is_known_user c.cardholders.users name ≡ true → is_known_user (after_entry c e).cardholders.users name ≡ true
users_stay c (entry.Conf i) name h = (setting_knows c i).users name h
users_stay c _ name h = h

entry_lists : (c : CoreState) (e : Entry) → ListMore c (after_entry c e)
entry_lists c e = record { users = users_stay c e; products = gateway_stays (entry_keeps c e); txns = txns_stay c e }

pub entries_list : (c : CoreState) (es : List Entry) → ListMore c (fold after_entry c es)
entries_list c [] = lists_itself c
entries_list c (e ∷ es) = list_then (entry_lists c e) (entries_list (after_entry c e) es)

-- more that is listed makes no entry worse
holder_later : (c d : CoreState) → ListMore c d → (user : List ℕ) → is_holder c user ≡ true → is_holder d user ≡ true
holder_later c d more user h = by (is_known_user c.cardholders.users user) refl h
  where
    by : (b : Bool) → is_known_user c.cardholders.users user ≡ b → (b || is_listed (λ t. bytes_eq t.user user) c) ≡ true → is_holder d user ≡ true
    by true e k = ap (λ (b : Bool). b || is_listed (λ t. bytes_eq t.user user) d) (more.users user e)
    by false e k = or_true (is_known_user d.cardholders.users user) (is_listed (λ t. bytes_eq t.user user) d) (more.txns (λ t. bytes_eq t.user user) k)

account_later : (c d : CoreState) → ListMore c d → (a : Account) → is_of_holder c a ≡ true → is_of_holder d a ≡ true
account_later c d more (account.User user currency) h = holder_later c d more user h
account_later c d more _ h = refl

pub listed_later : (c d : CoreState) (at : ℕ) → ListMore c d → (e : Entry) → is_of_listed c at e ≡ true → is_of_listed d at e ≡ true
listed_later c d at more (entry.Post from to amount txn) h =
    let both = and_parts (is_of_holder c from) (is_of_holder c to) h in
    both_so (is_of_holder d from) (is_of_holder d to) (account_later c d more from both.0) (account_later c d more to both.1)
listed_later c d at more (entry.Usage row) h = more.txns (is_use_of row) h
listed_later c d at more (entry.Stood set product user amount when) h =
    let both = and_parts (is_listed (is_stand_in_of product user) c) (when == at) h in
    both_so (is_listed (is_stand_in_of product user) d) (when == at) (more.txns (is_stand_in_of product user) both.0) both.1
listed_later c d at more _ h = refl

-- acts ----

-- a transaction is listed in this core
record IsListed (all : CoreState) (t : Txn) : Type 0 where
  its : (p : Txn → Bool) → p t ≡ true → is_listed p all ≡ true

module _ (all : CoreState) (now : ℕ) where
  -- each of these entries is of what is listed
  abbrev AreOfListed : List Entry → Type 0
  AreOfListed es = EachPasses (is_of_listed all now) es

  to_user : (t : Txn) → IsListed all t → is_holder all t.user ≡ true
  to_user t listed = or_true (is_known_user all.cardholders.users t.user) (is_listed (λ x. bytes_eq x.user t.user) all) (listed.its (λ x. bytes_eq x.user t.user) (its_name t.user))

  from_user : (t : Txn) → IsListed all t → (is_holder all t.user && true) ≡ true
  from_user t listed = ap (λ (b : Bool). b && true) (to_user t listed)

  used : (t : Txn) → IsListed all t → is_listed (λ x. bytes_eq x.user t.user && x.origin == t.origin) all ≡ true
  used t listed = listed.its (λ x. bytes_eq x.user t.user && x.origin == t.origin) (ap₂ (λ (a b : Bool). a && b) (its_name t.user) (same_number t.origin))

  stood : (t : Txn) → IsListed all t → is_account_funded t.funding ≡ false → (when : ℕ) → when ≡ now → (is_listed (is_stand_in_of t.product t.user) all && when == now) ≡ true
  stood t listed gateway when e =
      ap₂ (λ (a b : Bool). a && b)
      (listed.its (is_stand_in_of t.product t.user) (λ i. its_name t.product i && (its_name t.user i && not (gateway i))))
      (ap (λ (n : ℕ). n == now) e ∙ same_number now)

  declined_listed : (ask : Ask) (why : Reason) → IsListed all ask.txn → AreOfListed (declined_ask_entries ask why)
  declined_listed ask why listed = two_pass (used ask.txn listed) (both_pass (either_passes ask.is_first (one_passes refl) none_passes) (one_passes refl))

  abandoned_listed : (n : ℕ) (t : Txn) (why : Reason) (cs : List CallNow) → IsListed all t → AreOfListed (abandoned_calls_entries n t why cs)
  abandoned_listed n t why [] listed = none_passes
  abandoned_listed n t why (c ∷ cs) listed = two_pass refl (two_pass refl (two_pass (used t listed) (two_pass refl (abandoned_listed (n + 1) t why cs listed))))

-- What is known of the facts that acts are made on. Their transactions are listed, and so is one that begins; a load is for a holder, and
-- the gateway pays for what the programme stands in.
record AreTold (all : CoreState) (f : Facts) (by : Cause) (at : ℕ) : Type 0 where
  stay : (p : Txn → Bool) → list_any (λ t. p t.txn) f.txns ≡ true → is_listed p all ≡ true
  begin : (ask : Ask) → IsFirstAsk f by at ask → IsListed all ask.txn
  load : (event user : List ℕ) (currency : Currency) (amount : ℕ) → by ≡ ComesOf (input.Load event user currency amount) → is_holder all user ≡ true
  gateway : (ask : Ask) → IsSettledAsk f by at ask → is_account_funded ask.txn.funding ≡ false

module _ (all : CoreState) (f : Facts) (by : Cause) (at : ℕ) (told : AreTold all f by at) where
  known : (t : Txn) → IsTxnOf f t → IsListed all t
  known t its =
      record {
        its = λ p h.
            told.stay p
            (found_any (λ (x : TxnNow). bytes_eq x.txn.token its.token) (λ (x : TxnNow). p x.txn) f.txns its.now its.stands (ap p its.same ∙ h));
      }

  own_known : (ask : Ask) → IsOwnAsk f by at ask → IsListed all ask.txn
  own_known ask (inl first) = told.begin ask first
  own_known ask (inr more) = known ask.txn (txn_of_ask more)

  settled_known : (ask : Ask) → IsSettledAsk f by at ask → IsListed all ask.txn
  settled_known ask (inl call) = subst (λ (x : Ask). IsListed all x.txn) (sym call.is) (known call.t (txn_of_call call.asked))
  settled_known ask (inr own) = own_known ask own.0

  act_listed : (g : Stage) (a : Act) → IsMade f by at g a → AreOfListed all at (act_entries a)
  act_listed g (Loads event user currency amount) made = two_pass (told.load event user currency amount made.from.1) (one_passes refl)
  act_listed g (Begins ask) made = two_pass refl (one_passes (used all at ask.txn (own_known ask (inl made.from.1))))
  act_listed g (Uses ask) made = one_passes (used all at ask.txn (own_known ask (inr made.from.1)))
  act_listed g (HoldsOwn ask) made = both_pass (where_passes ask.amount (one_passes refl)) (one_passes refl)
  act_listed g (Funds o t) made =
      let its = known t (txn_of_call made.from.1) in
      two_pass refl (both_pass (both_pass (where_passes o.amount (one_passes (to_user all at t its))) (where_passes o.amount (one_passes refl))) (one_passes refl))
  act_listed g (FundsPart o t amount) made =
      let its = known t (txn_of_call made.from.1) in
      two_pass refl
      (two_pass (used all at t its) (both_pass (both_pass (where_passes amount (one_passes (to_user all at t its))) (where_passes amount (one_passes refl))) (one_passes refl)))
  act_listed g (Refuses o t) made = two_pass refl (declined_listed all at (call_ask o t) reason.GatewayDeclined (known t (txn_of_call made.from.1)))
  act_listed g (StandsIn number ask when set) made =
      let its = settled_known ask made.from.1 in
      two_pass (stood all at ask.txn its (told.gateway ask made.from.1) when made.from.2)
      (both_pass (both_pass (where_passes ask.amount (one_passes (to_user all at ask.txn its))) (where_passes ask.amount (one_passes refl))) (passing refl))
  act_listed g (TurnsDown ask why) made = declined_listed all at ask why (settled_known ask made.from.1)
  act_listed g (Abandons number t why calls parts) made = abandoned_listed all at number t why calls (known t made.from.1)
  act_listed g (LetsGo t parts amount) made =
      let its = known t made.from.1 in
      let taken = taken_to_release parts amount in
      both_pass (both_pass (both_pass (both_pass (both_pass (where_passes taken.p (one_passes refl)) (where_passes taken.p (one_passes (from_user all at t its))))
      (where_passes taken.g (one_passes refl))) (where_passes taken.g (one_passes (from_user all at t its)))) (where_passes taken.s (one_passes refl)))
      (where_passes amount (one_passes (used all at t its)))
  act_listed g (Clears t parts amount when) made =
      let its = known t made.from.1 in
      let taken = taken_to_clear parts amount in
      let excess = amount - in_all taken in
      both_pass (both_pass (both_pass (both_pass (both_pass (where_passes taken.g (one_passes refl)) (where_passes taken.p (one_passes refl)))
      (where_passes taken.s (one_passes refl))) (gateway_passes t (where_passes excess (one_passes (to_user all at t its))))) (where_passes amount (one_passes (from_user all at t its))))
      (where_passes excess (one_passes (used all at t its)))
  act_listed g (GivesBack t amount programme) made =
      let its = known t made.from.0 in
      both_pass (where_passes amount (one_passes (to_user all at t its)))
      (gateway_passes t (both_pass (where_passes programme (one_passes (from_user all at t its))) (where_passes (amount - programme) (one_passes (from_user all at t its)))))
  act_listed g _ made = passing refl

  all_listed : Holds f by at (AreOfListed all at)
  all_listed = record { none = none_passes; then = both_pass; act = act_listed }

-- what is due, and what an input makes ----

-- the core when these entries are entered
abbrev entered : CoreState → List Entry → CoreState
entered c es = fold after_entry c es

pub due_listed : (c : CoreState) (thing : DueThing) (at : ℕ) → IsHeldWell c
    → list_all (is_of_listed (entered c (thing_entries thing at (core_facts c))) at) (thing_entries thing at (core_facts c)) ≡ true
due_listed c thing at held =
    let f : Facts = core_facts c in
    let es : List Entry = thing_entries thing at f in
    (due_holds f thing at (all_listed (entered c es) f FallsDue at (told es))).all
  where
    never : {P : Type 0} {i : Input} → FallsDue ≡ ComesOf i → P
    never e = cc

    told : (es : List Entry) → AreTold (entered c es) (core_facts c) FallsDue at
    told es = record { stay = (entries_list c es).txns; begin = λ ask first. never first.its_input; load = λ event user currency amount e. never e; gateway = λ ask settled. ask_of_gateway c held settled }

-- the transaction of an authorisation that begins is listed after its entries
module _ (c : CoreState) (at : ℕ) where
  begins_listed : (i : Input) (ask : Ask) → IsFirstAsk (core_facts c) (ComesOf i) at ask → IsListed (entered c (entries_of i at (core_facts c))) ask.txn
  begins_listed i ask first =
      record {
        its = λ p h.
            subst (λ (j : Input). is_listed p (entered c (entries_of j at f)) ≡ true) (sym its)
            (ap (λ (es : List Entry). is_listed p (entered c es)) makes ∙ there p h);
      }
    where
      f : Facts
      f = core_facts c

      same_input : {i j : Input} → ComesOf i ≡ ComesOf j → i ≡ j
      same_input e = cc

      its : i ≡ input.Authorization first.token first.card first.currency first.amount first.mcc first.mid first.partial
      its = same_input first.its_input

      makes : entries_of (input.Authorization first.token first.card first.currency first.amount first.mcc first.mid first.partial) at f ≡ entries_of_acts (authorization_acts f (Some ask))
      makes =
          ap (λ (o : Option Ask). entries_of_acts (acts_unless (authorization_reason f first.card first.currency o) first.token (authorization_acts f o))) first.made
          ∙ ap (λ (why : Option Reason). entries_of_acts (acts_unless why first.token (authorization_acts f (Some ask)))) first.none

      stands : (p : Txn → Bool) (x : TxnNow) (xs : List TxnNow) → p x.txn ≡ true → list_any (λ t. p t.txn) (xs ++ x ∷ []) ≡ true
      stands p x [] h = ap (λ (b : Bool). b || false) h
      stands p x (y ∷ ys) h = or_true (p y.txn) (list_any (λ t. p t.txn) (ys ++ x ∷ [])) (stands p x ys h)

      there : (p : Txn → Bool) → p ask.txn ≡ true → is_listed p (entered c (entries_of_acts (authorization_acts f (Some ask)))) ≡ true
      there p h =
          (entries_list (after_entry c (entry.Began ask.txn)) (entry.Usage (ask_usage ask) ∷ entries_of_acts (funding_acts f ask))).txns p
          (stands p (record { txn = ask.txn; live = is_live c.holdings.txns ask.txn.token }) c.holdings.txns h)

-- an input that isn't a load
abbrev is_load : Input → Bool
is_load (input.Load token user currency amount) = true
is_load _ = false

other_listed : (c : CoreState) (i : Input) (at : ℕ) → IsHeldWell c → is_load i ≡ false
    → list_all (is_of_listed (entered c (entries_of i at (core_facts c))) at) (entries_of i at (core_facts c)) ≡ true
other_listed c i at held other =
    let f : Facts = core_facts c in
    let es : List Entry = entries_of i at f in
    (own_holds f i at (all_listed (entered c es) f (ComesOf i) at
    (record { stay = (entries_list c es).txns; begin = begins_listed c at i; load = λ event user currency amount e. no_load event user currency amount e; gateway = λ ask settled. ask_of_gateway c held settled }))).all
  where
    same_input : {i j : Input} → ComesOf i ≡ ComesOf j → i ≡ j
    same_input e = cc

    no_load : {P : Type 0} (event user : List ℕ) (currency : Currency) (amount : ℕ) → ComesOf i ≡ ComesOf (input.Load event user currency amount) → P
    no_load event user currency amount e = let never : true ≡ false = sym (ap is_load (same_input e)) ∙ other in cc

-- a load that isn't declined is for a known user
load_listed : (c all : CoreState) (at : ℕ) (token user : List ℕ) (currency : Currency) (amount : ℕ) → ListMore c all
    → list_all (is_of_listed all at) (entries_of (input.Load token user currency amount) at (core_facts c)) ≡ true
load_listed c all at token user currency amount more = by (load_reason (core_facts c) user) refl
  where
    holder : (o : Option User) → user_named user c.cardholders.users ≡ o → first_reason ((is_none o, reason.UserUnknown) ∷ (user_is is_closed_user (core_facts c) user, reason.UserState) ∷ []) ≡ None → is_holder all user ≡ true
    holder None e h = cc
    holder (Some u) e h = ap (λ (b : Bool). b || is_listed (λ t. bytes_eq t.user user) all) (more.users user (ap is_some e))

    by : (why : Option Reason) → load_reason (core_facts c) user ≡ why → list_all (is_of_listed all at) (entries_of_acts (acts_unless why token (Loads token user currency amount ∷ []))) ≡ true
    by (Some why) e = refl
    by None e = ap (λ (b : Bool). b && true) (holder (user_named user c.cardholders.users) refl e)

pub own_listed : (c : CoreState) (i : Input) (at : ℕ) → IsHeldWell c
    → list_all (is_of_listed (entered c (entries_of i at (core_facts c))) at) (entries_of i at (core_facts c)) ≡ true
own_listed c (input.Load token user currency amount) at held =
    load_listed c (entered c (entries_of (input.Load token user currency amount) at (core_facts c))) at token user currency amount (entries_list c (entries_of (input.Load token user currency amount) at (core_facts c)))
own_listed c i at held = other_listed c i at held refl
