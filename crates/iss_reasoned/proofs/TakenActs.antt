-- Which events acts approve, and for which they ask the gateway: their own, if it comes in turn, or that of an asked call.
use Rattle.std.proofs.Common.{◌≡◌, ◌∙◌, ◌++◌, ◌∷◌, ◌&&◌, ◌||◌, ◌==◌, ℕ, ap, ap₂, Bool, false, find, inl, inr, List, [], nat_lt, not, refl, subst, sym, true}
use Rattle.std.specs.Prelude.{Option, Some, None, is_some, option_and_then}
use Rattle.std.specs.List.{list_any}
use Rattle.std.specs.Str.{bytes_eq}
use Rattle.iss_model.specs.declared.account.Account.{Account}
use Rattle.iss_model.specs.declared.account.Account.TheVariants as account
use Rattle.iss_model.specs.declared.account.Part.{Part}
use Rattle.iss_model.specs.declared.account.Part.TheVariants as part
use Rattle.iss_model.specs.declared.call.Opened.{Opened}
use Rattle.iss_model.specs.declared.currency.Currency.{Currency}
use Rattle.iss_model.specs.declared.decision.Reason.TheVariants as reason
use Rattle.iss_model.specs.declared.decision.Verdict.{Verdict}
use Rattle.iss_model.specs.declared.decision.Verdict.TheVariants as verdict
use Rattle.iss_model.specs.declared.entry.Entry.{Entry}
use Rattle.iss_model.specs.declared.entry.Entry.TheVariants as entry
use Rattle.iss_model.specs.declared.input.Input.{Input}
use Rattle.iss_model.specs.declared.input.Input.TheVariants as input
use Rattle.iss_model.specs.declared.txn.Txn.{Txn}
use Rattle.iss_model.specs.Currencies.{same_currency}
use Rattle.iss_model.specs.Inputs.{is_event}
use Rattle.iss_model.specs.rules.Activity.{CallNow, TxnNow, is_asked, txn_named}
use Rattle.iss_model.specs.rules.Acts.{Act, Asks, Funds, FundsPart, HoldsOwn, StandsIn, act_entries}
use Rattle.iss_model.specs.rules.Asks.{Ask, breach, is_authorization}
use Rattle.iss_model.specs.rules.CardReasons.{control_breach, increment_reason, is_pending, lacks_funds}
use Rattle.iss_model.specs.rules.Facts.{Accepted, Facts}
use Rattle.iss_model.specs.rules.Pieces.{ask_method, hold_entries, post_entries, user_account}
use Rattle.iss_model.specs.rules.Reasons.{first_reason, is_some_with, user_is}
use Rattle.iss_model.specs.rules.Settings.{card_named, is_active_card, is_active_user}
use Rattle.iss_model.proofs.Names.{its_name, one_name, same_name}
use Rattle.iss_acts.specs.Causes.{Cause, ComesOf, FallsDue, is_of_event}
use Rattle.iss_acts.specs.Items.{Deciding, Item, Opening, has_item, item_entry}
use Rattle.iss_acts.specs.Sources.{IsAskedCall, IsMade, IsOwnAsk, IsSettledAsk}
use Rattle.iss_acts.specs.Stages.{Stage}
use Rattle.iss_acts.proofs.Begun.{is_begun}
use Rattle.iss_acts.proofs.Passing.{EachPasses, act_passes, both_pass, hold_passes, none_passes, one_passes, passing, two_pass, where_passes}
use Rattle.iss_acts.proofs.Walk.{Holds}
use Rattle.iss_state.proofs.docket.Lists.{any_filtered, both_so, found_any, or_true}
use Rattle.iss_state.proofs.effects.Finds.{found_passes}
use Rattle.iss_well_formed.specs.Txns.{has_authorization_asked}
use Rattle.iss_reasoned.specs.Origins.{was_approved}

-- a call is for this event
abbrev pub has_call_for : List CallNow → List ℕ → Bool
has_call_for calls event = list_any (λ x. bytes_eq x.opened.event event) calls

-- an increment among accepted events comes after its transaction's authorisation, whose call isn't asked
abbrev pub is_in_turn : List Accepted → List TxnNow → List CallNow → ℕ → Input → Bool
is_in_turn xs ts calls number (input.Increment token txn currency amount) =
    is_some (txn_named txn ts) && is_some_with (λ a. nat_lt a.number number) (find (λ a. is_event txn a.input) xs) && not (has_authorization_asked calls txn)
is_in_turn xs ts calls number _ = true

-- the event of a cause, of this number, comes in turn
abbrev pub may_take : List Accepted → ℕ → Facts → Cause → Bool
may_take xs number f FallsDue = false
may_take xs number f (ComesOf i) = is_in_turn xs f.txns f.calls number i

-- an entry approves an event with a call, or its cause's own; it opens a call for its cause's own, of which an authorisation's is of its own
-- transaction
abbrev pub takes_well : List CallNow → Cause → Bool → Entry → Bool
takes_well calls by may (entry.Decided event v) = not (was_approved (Some v)) || has_call_for calls event || is_of_event by event && may
takes_well calls by may (entry.Opened o) = is_of_event by o.event && may && (not (is_authorization o.method) || is_of_event by o.txn)
takes_well calls by may _ = true

-- an act approves something, or asks the gateway
abbrev takes_something : Act → Bool
takes_something (HoldsOwn ask) = true
takes_something (Asks h product ask) = true
takes_something (Funds o t) = true
takes_something (FundsPart o t amount) = true
takes_something (StandsIn number ask at set) = true
takes_something _ = false

other_item : (calls : List CallNow) (by : Cause) (may : Bool) (a : Act) → takes_something a ≡ false → (x : Item) → has_item a x ≡ true → takes_well calls by may (item_entry x) ≡ true
other_item calls by may (HoldsOwn ask) plain x has = cc
other_item calls by may (Asks h product ask) plain x has = cc
other_item calls by may (Funds o t) plain x has = cc
other_item calls by may (FundsPart o t amount) plain x has = cc
other_item calls by may (StandsIn number ask at set) plain x has = cc
other_item calls by may a plain (Deciding event verdict.Approved) has = cc
other_item calls by may a plain (Deciding event (verdict.Partial currency amount)) has = cc
other_item calls by may a plain (Opening o) has = cc
other_item calls by may a plain _ has = refl

-- an increment that there is no reason to decline is of a transaction that isn't pending
not_pending : (f : Facts) (now : TxnNow) (currency : Currency) (ask : Option Ask) → increment_reason f (Some now) currency ask ≡ None → is_pending f now.txn ≡ false
not_pending f now currency ask none = by (not now.live) (is_pending f now.txn) none
  where
    by : (b c : Bool)
        → first_reason (
        (false, reason.TxnUnknown) ∷ (b, reason.TxnClosed) ∷ (c, reason.TxnPending)
        ∷ (not (is_some_with (λ c. is_active_card c.state) (card_named now.txn.card f.cards)), reason.CardState)
        ∷ (not (user_is is_active_user f now.txn.user), reason.UserState) ∷ (not (same_currency now.txn.currency currency), reason.Currency)
        ∷ control_breach (option_and_then (breach f) ask) ∷ (is_some_with (lacks_funds f) ask, reason.InsufficientFunds) ∷ []
        ) ≡ None
        → c ≡ false
    by true c h = cc
    by false true h = cc
    by false false h = refl

pub left_true : (a b : Bool) → a ≡ true → (a || b) ≡ true
left_true true b h = refl
left_true false b h = cc

pub alike_any : {A : Type 0} (p q : A → Bool) → ((x : A) → p x ≡ q x) → (xs : List A) → list_any p xs ≡ list_any q xs
alike_any p q same [] = refl
alike_any p q same (x ∷ xs) = ap₂ (λ (a b : Bool). a || b) (same x) (alike_any p q same xs)

-- a transaction that isn't pending has no authorisation asked
unasked : (f : Facts) (t : Txn) → is_pending f t ≡ false → has_authorization_asked f.calls t.token ≡ false
unasked f t h =
    alike_any (λ (x : CallNow). is_asked x && is_authorization x.opened.method && bytes_eq x.opened.txn t.token) (λ (x : CallNow). is_asked x && bytes_eq x.opened.txn t.token && is_authorization x.opened.method)
    (λ x. swap (is_asked x) (is_authorization x.opened.method) (bytes_eq x.opened.txn t.token)) f.calls
    ∙ sym (any_filtered (λ (x : CallNow). is_authorization x.opened.method) (λ (x : CallNow). is_asked x && bytes_eq x.opened.txn t.token) f.calls)
    ∙ h
  where
    swap : (a b c : Bool) → (a && b && c) ≡ (a && c && b)
    swap false b c = refl
    swap true true true = refl
    swap true true false = refl
    swap true false true = refl
    swap true false false = refl

module _ (f : Facts) (by : Cause) (at : ℕ) (xs : List Accepted) (number : ℕ)
    (earlier : (token : List ℕ) → is_some (txn_named token f.txns) ≡ true → is_some_with (λ a. nat_lt a.number number) (find (λ a. is_event token a.input) xs) ≡ true) where
  abbrev may : Cause → Bool
  may = may_take xs number f

  -- a cause's own ask ----

  its_turn : (ask : Ask) → IsOwnAsk f by at ask → (is_of_event by ask.event && may by) ≡ true
  its_turn ask (inl first) =
      subst (λ (b : Cause). (is_of_event b ask.event && may b) ≡ true) (sym first.its_input)
      (both_so (bytes_eq first.token ask.event) true (same_name first.token ask.event (ap (λ (a : Ask). a.event) (sym (is_begun first).same))) refl)
  its_turn ask (inr more) =
      let t : Txn = more.now.txn in
      let token : t.token ≡ more.txn = one_name t.token more.txn (found_passes (λ (t : TxnNow). bytes_eq t.txn.token more.txn) f.txns more.now more.stands) in
      let known : is_some (txn_named more.txn f.txns) ≡ true = ap is_some more.stands in
      let none : has_authorization_asked f.calls more.txn ≡ false =
      ap (has_authorization_asked f.calls) (sym token) ∙ unasked f t (not_pending f more.now more.currency (Some ask) more.none)
      in
      subst (λ (b : Cause). (is_of_event b ask.event && may b) ≡ true) (sym more.its_input)
      (both_so (bytes_eq more.token ask.event) (may (ComesOf (input.Increment more.token more.txn more.currency more.amount))) (same_name more.token ask.event (ap (λ (a : Ask). a.event) (sym more.made)))
      (both_so (is_some (txn_named more.txn f.txns) && is_some_with (λ a. nat_lt a.number number) (find (λ a. is_event more.txn a.input) xs)) (not (has_authorization_asked f.calls more.txn))
      (both_so (is_some (txn_named more.txn f.txns)) (is_some_with (λ a. nat_lt a.number number) (find (λ a. is_event more.txn a.input) xs)) known (earlier more.txn known)) (ap not none)))

  its_call : (ask : Ask) → IsOwnAsk f by at ask → (not (is_authorization (ask_method ask)) || is_of_event by ask.txn.token) ≡ true
  its_call ask (inl first) =
      or_true (not (is_authorization (ask_method ask))) (is_of_event by ask.txn.token)
      (subst (λ (b : Cause). is_of_event b ask.txn.token ≡ true) (sym first.its_input) (same_name first.token ask.txn.token (ap (λ (a : Ask). a.txn.token) (sym (is_begun first).same))))
  its_call ask (inr more) = left_true (not (is_authorization (ask_method ask))) (is_of_event by ask.txn.token) (ap (λ (a : Ask). not (is_authorization (ask_method a))) more.made)

  own_approved : (ask : Ask) → IsOwnAsk f by at ask → takes_well f.calls by (may by) (entry.Decided ask.event verdict.Approved) ≡ true
  own_approved ask own = or_true (has_call_for f.calls ask.event) (is_of_event by ask.event && may by) (its_turn ask own)

  -- an asked call ----

  called : (o : Opened) (t : Txn) → IsAskedCall f o t → has_call_for f.calls o.event ≡ true
  called o t asked =
      ap (λ (o : Opened). has_call_for f.calls o.event) (sym asked.opened)
      ∙ found_any (λ (x : CallNow). x.opened.call.0 == asked.number) (λ (x : CallNow). bytes_eq x.opened.event asked.its.opened.event) f.calls asked.its asked.stands (its_name asked.its.opened.event)

  call_approved : (event : List ℕ) (v : Verdict) → has_call_for f.calls event ≡ true → takes_well f.calls by (may by) (entry.Decided event v) ≡ true
  call_approved event v h = by_approval (was_approved (Some v))
    where
      by_approval : (b : Bool) → (not b || has_call_for f.calls event || is_of_event by event && may by) ≡ true
      by_approval true = left_true (has_call_for f.calls event) (is_of_event by event && may by) h
      by_approval false = refl

  settled : (ask : Ask) → IsSettledAsk f by at ask → takes_well f.calls by (may by) (entry.Decided ask.event verdict.Approved) ≡ true
  settled ask (inl call) = call_approved ask.event verdict.Approved (ap (λ (a : Ask). has_call_for f.calls a.event) call.is ∙ called call.o call.t call.asked)
  settled ask (inr own) = own_approved ask own.0

  -- acts ----

  held : (t : Txn) (from : Account) (p : Part) (n : ℕ) {es : List Entry} → EachPasses (takes_well f.calls by (may by)) es
      → EachPasses (takes_well f.calls by (may by)) (post_entries t from (user_account t) n ++ hold_entries t p n ++ es)
  held t from p n h = both_pass (both_pass (where_passes n (passing refl)) (hold_passes t p n refl)) h

  act_takes : (g : Stage) (a : Act) → IsMade f by at g a → EachPasses (takes_well f.calls by (may by)) (act_entries a)
  act_takes g (HoldsOwn ask) made = both_pass (hold_passes ask.txn part.S ask.amount refl) (one_passes (own_approved ask made.from.1))
  act_takes g (Asks h product ask) made =
      one_passes
      (both_so (is_of_event by ask.event && may by) (not (is_authorization (ask_method ask)) || is_of_event by ask.txn.token) (its_turn ask made.from.2) (its_call ask made.from.2))
  act_takes g (Funds o t) made = two_pass refl (held t (account.Gateway t.currency) part.G o.amount (one_passes (call_approved o.event verdict.Approved (called o t made.from.1))))
  act_takes g (FundsPart o t amount) made =
      two_pass refl (two_pass refl (held t (account.Gateway t.currency) part.G amount (one_passes (call_approved o.event (verdict.Partial t.currency amount) (called o t made.from.1)))))
  act_takes g (StandsIn number ask when set) made =
      two_pass refl (held ask.txn (account.Programme ask.txn.currency) part.P ask.amount (two_pass refl (one_passes (settled ask made.from.1))))
  act_takes g a made = act_passes a (other_item f.calls by (may by) a refl)

  pub all_take : Holds f by at (EachPasses (takes_well f.calls by (may by)))
  all_take = record { none = none_passes; then = both_pass; act = act_takes }
