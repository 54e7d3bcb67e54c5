-- What acts put on a docket.
use Rattle.std.proofs.Common.{◌≡◌, ℕ, ◌+◌, ◌-◌, Bool, true, false, cond, nat_eq, List, [], ◌∷◌, ◌++◌, filter, refl, ap, ap₂, ◌∙◌}
use Rattle.std.specs.Prelude.{pos, None, flat_map}
use Rattle.std.proofs.lemmas.Grind.{flat_map-append}
use Rattle.std.proofs.lemmas.List.Elements.{filter-append}
use Rattle.iss_model.specs.declared.account.Account.{Account}
use Rattle.iss_model.specs.declared.account.Account.TheVariants as account
use Rattle.iss_model.specs.declared.account.Part.{Part}
use Rattle.iss_model.specs.declared.account.Part.TheVariants as part
use Rattle.iss_model.specs.declared.call.How.TheVariants as how
use Rattle.iss_model.specs.declared.call.Method.TheVariants as method
use Rattle.iss_model.specs.declared.call.Opened.{Opened}
use Rattle.iss_model.specs.declared.decision.Reason.{Reason}
use Rattle.iss_model.specs.declared.decision.Reason.TheVariants as reason
use Rattle.iss_model.specs.declared.decision.Verdict.TheVariants as verdict
use Rattle.iss_model.specs.declared.entry.Entry.{Entry}
use Rattle.iss_model.specs.declared.entry.Entry.TheVariants as entry
use Rattle.iss_model.specs.declared.txn.Txn.{Txn}
use Rattle.iss_model.specs.rules.Activity.{CallNow}
use Rattle.iss_model.specs.rules.Acts.{Abandons, Act, Asks, Begins, Clears, Declines, Does, Ends, Fails, Funds, FundsPart, GivesBack, HoldsOwn, LetsGo, Loads, Refuses, Sets, StandsIn, TurnsDown, act_entries, entries_of_acts}
use Rattle.iss_model.specs.rules.CardActs.{acts_for_gateway, acts_where}
use Rattle.iss_model.specs.rules.Asks.{Ask, call_ask, usage_of}
use Rattle.iss_model.specs.rules.Pieces.{clearing_money_entries, only_where, only_gateway, post_entries, hold_entries, unhold_entries, user_account, Parts, in_all, taken_to_clear, taken_to_release, call_for, use_return_entries, release_entries, notice_entry, abandoned_calls_entries, declined_ask_entries, funded_ask_entries, part_funded_entries}
use Rattle.iss_model.specs.rules.CardReasons.{is_account_funded}
use Rattle.iss_state.specs.Dockets.{is_docketed}

-- entries of which nothing is docketed ----

pub record AreSilent (es : List Entry) : Type 0 where
  pub none : filter is_docketed es ≡ []

pub silent : {es : List Entry} → filter is_docketed es ≡ [] → AreSilent es
silent h = record { none = h }

pub both_silent : {xs ys : List Entry} → AreSilent xs → AreSilent ys → AreSilent (xs ++ ys)
both_silent {xs = xs} {ys = ys} h k = record { none = filter-append is_docketed xs ys ∙ rw (h.none, k.none) refl }

if_silent : (b : Bool) {xs ys : List Entry} → AreSilent xs → AreSilent ys → AreSilent (cond b xs ys)
if_silent true h k = h
if_silent false h k = k

pub where_silent : (n : ℕ) {es : List Entry} → AreSilent es → AreSilent (only_where n es)
where_silent n h = if_silent (nat_eq n 0) (silent refl) h

pub gateway_silent : (t : Txn) {es : List Entry} → AreSilent es → AreSilent (only_gateway t es)
gateway_silent t h = if_silent (is_account_funded t.funding) (silent refl) h

pub post_silent : (t : Txn) (from to : Account) (n : ℕ) → AreSilent (post_entries t from to n)
post_silent t from to n = where_silent n (silent refl)

pub hold_silent : (t : Txn) (part : Part) (n : ℕ) → AreSilent (hold_entries t part n)
hold_silent t part n = where_silent n (silent refl)

unhold_silent : (t : Txn) (part : Part) (n : ℕ) → AreSilent (unhold_entries t part n)
unhold_silent t part n = where_silent n (silent refl)

use_silent : (t : Txn) (n : ℕ) → AreSilent (use_return_entries t n)
use_silent t n = where_silent n (silent refl)

pub release_silent : (t : Txn) (parts : Parts) (n : ℕ) → AreSilent (release_entries t parts n)
release_silent t parts n =
    let taken = taken_to_release parts n in
    both_silent (both_silent (both_silent (both_silent (both_silent (unhold_silent t part.P taken.p) (post_silent t (user_account t) (account.Programme t.currency) taken.p))
    (unhold_silent t part.G taken.g)) (post_silent t (user_account t) (account.Gateway t.currency) taken.g))
    (unhold_silent t part.S taken.s)) (use_silent t n)

pub clearing_silent : (t : Txn) (taken : Parts) (n at : ℕ) → AreSilent (clearing_money_entries t taken n at)
clearing_silent t taken n at =
    let excess = n - in_all taken in
    both_silent (both_silent (both_silent (both_silent (both_silent (unhold_silent t part.G taken.g) (unhold_silent t part.P taken.p)) (unhold_silent t part.S taken.s))
    (gateway_silent t (post_silent t (account.Programme t.currency) (user_account t) excess)))
    (post_silent t (user_account t) (account.Network t.currency) n))
    (where_silent excess {es = entry.Usage (usage_of t (pos excess) (pos 0) at) ∷ []} (silent refl))

-- what is silent before others
pub silent_first : (xs ys : List Entry) → AreSilent xs → filter is_docketed (xs ++ ys) ≡ filter is_docketed ys
silent_first xs ys h = filter-append is_docketed xs ys ∙ ap (λ (zs : List Entry). zs ++ filter is_docketed ys) h.none

-- calls that are abandoned ----

-- what is docketed when these calls are abandoned
abbrev pub closings : Reason → List CallNow → List Entry
closings why [] = []
closings why (c ∷ cs) = entry.Closed c.opened.call how.Abandoned ∷ entry.Decided c.opened.event (verdict.Declined why) ∷ closings why cs

pub abandoned_docketed : (number : ℕ) (t : Txn) (why : Reason) (cs : List CallNow) → filter is_docketed (abandoned_calls_entries number t why cs) ≡ closings why cs
abandoned_docketed number t why [] = refl
abandoned_docketed number t why (c ∷ cs) =
    ap (λ (es : List Entry). entry.Closed c.opened.call how.Abandoned ∷ entry.Decided c.opened.event (verdict.Declined why) ∷ es) (abandoned_docketed (number + 1) t why cs)

-- acts ----

-- an ask is declined, and with an authorisation its transaction ends
abbrev pub turned_down : Ask → Reason → List Entry
turned_down ask why = cond ask.is_first (entry.Ended ask.txn.token ∷ []) [] ++ entry.Decided ask.event (verdict.Declined why) ∷ []

-- what an act puts on a docket
abbrev pub docketed : Act → List Entry
docketed (Declines event why) = entry.Decided event (verdict.Declined why) ∷ []
docketed (Sets i event) = entry.Decided event verdict.Done ∷ []
docketed (Loads event user currency amount) = entry.Decided event verdict.Done ∷ []
docketed (Begins ask) = entry.Began ask.txn ∷ []
docketed (HoldsOwn ask) = entry.Decided ask.event verdict.Approved ∷ []
docketed (Asks f product ask) = entry.Opened (call_for f product ask) ∷ []
docketed (Funds o t) = entry.Closed o.call how.Funded ∷ entry.Decided o.event verdict.Approved ∷ []
docketed (FundsPart o t amount) = entry.Closed o.call (how.Partial amount) ∷ entry.Decided o.event (verdict.Partial t.currency amount) ∷ []
docketed (Refuses o t) = entry.Closed o.call how.Refused ∷ turned_down (call_ask o t) reason.GatewayDeclined
docketed (Fails number o t why) = entry.Closed o.call (how.Failed why) ∷ []
docketed (StandsIn number ask at set) = entry.Decided ask.event verdict.Approved ∷ []
docketed (TurnsDown ask why) = turned_down ask why
docketed (Abandons number t why calls parts) = closings why calls
docketed (Ends t) = entry.Ended t.token ∷ []
docketed (Does event) = entry.Decided event verdict.Done ∷ []
docketed _ = []

-- what acts in a row put there
abbrev pub docketed_by : List Act → List Entry
docketed_by acts = flat_map docketed acts

funded_docketed : (ask : Ask) (from : Account) (p : Part) → filter is_docketed (funded_ask_entries ask from p) ≡ entry.Decided ask.event verdict.Approved ∷ []
funded_docketed ask from p =
    silent_first (post_entries ask.txn from (user_account ask.txn) ask.amount ++ hold_entries ask.txn p ask.amount) (entry.Decided ask.event verdict.Approved ∷ [])
    (both_silent (post_silent ask.txn from (user_account ask.txn) ask.amount) (hold_silent ask.txn p ask.amount))

part_docketed : (o : Opened) (t : Txn) (amount : ℕ) → filter is_docketed (part_funded_entries o t amount) ≡ entry.Decided o.event (verdict.Partial t.currency amount) ∷ []
part_docketed o t amount =
    silent_first (post_entries t (account.Gateway t.currency) (user_account t) amount ++ hold_entries t part.G amount) (entry.Decided o.event (verdict.Partial t.currency amount) ∷ [])
    (both_silent (post_silent t (account.Gateway t.currency) (user_account t) amount) (hold_silent t part.G amount))

turned_docketed : (ask : Ask) (why : Reason) → filter is_docketed (declined_ask_entries ask why) ≡ turned_down ask why
turned_docketed ask why = by ask.is_first
  where
    by : (b : Bool) → filter is_docketed (cond b (entry.Ended ask.txn.token ∷ []) [] ++ entry.Decided ask.event (verdict.Declined why) ∷ [])
        ≡ cond b (entry.Ended ask.txn.token ∷ []) [] ++ entry.Decided ask.event (verdict.Declined why) ∷ []
    by true = refl
    by false = refl

act_docketed : (a : Act) → filter is_docketed (act_entries a) ≡ docketed a
act_docketed (HoldsOwn ask) = silent_first (hold_entries ask.txn part.S ask.amount) (entry.Decided ask.event verdict.Approved ∷ []) (hold_silent ask.txn part.S ask.amount)
act_docketed (Funds o t) = ap (λ (es : List Entry). entry.Closed o.call how.Funded ∷ es) (funded_docketed (call_ask o t) (account.Gateway t.currency) part.G)
act_docketed (FundsPart o t amount) = ap (λ (es : List Entry). entry.Closed o.call (how.Partial amount) ∷ es) (part_docketed o t amount)
act_docketed (Refuses o t) = ap (λ (es : List Entry). entry.Closed o.call how.Refused ∷ es) (turned_docketed (call_ask o t) reason.GatewayDeclined)
act_docketed (StandsIn number ask at set) =
    silent_first (post_entries ask.txn (account.Programme ask.txn.currency) (user_account ask.txn) ask.amount ++ hold_entries ask.txn part.P ask.amount)
    (notice_entry number method.StandIn ask.txn None ask.amount 0 ∷ entry.Decided ask.event verdict.Approved ∷ [])
    (both_silent (post_silent ask.txn (account.Programme ask.txn.currency) (user_account ask.txn) ask.amount) (hold_silent ask.txn part.P ask.amount))
act_docketed (TurnsDown ask why) = turned_docketed ask why
act_docketed (Abandons number t why calls parts) = abandoned_docketed number t why calls
act_docketed (LetsGo t parts amount) = (release_silent t parts amount).none
act_docketed (Clears t parts amount at) = (clearing_silent t (taken_to_clear parts amount) amount at).none
act_docketed (GivesBack t amount programme) =
    (both_silent (post_silent t (account.Network t.currency) (user_account t) amount)
    (gateway_silent t (both_silent (post_silent t (user_account t) (account.Programme t.currency) programme) (post_silent t (user_account t) (account.Gateway t.currency) (amount - programme))))).none
act_docketed _ = refl

-- what is docketed of acts in a row
pub acts_docketed : (acts : List Act) → filter is_docketed (entries_of_acts acts) ≡ docketed_by acts
acts_docketed [] = refl
acts_docketed (a ∷ acts) = filter-append is_docketed (act_entries a) (entries_of_acts acts) ∙ ap₂ (λ (xs ys : List Entry). xs ++ ys) (act_docketed a) (acts_docketed acts)

-- what the gateway is told puts nothing there
pub told_docketed : (t : Txn) (acts : List Act) → docketed_by acts ≡ [] → docketed_by (acts_for_gateway t acts) ≡ []
told_docketed t acts h = by (is_account_funded t.funding)
  where
    by : (b : Bool) → docketed_by (cond b [] acts) ≡ []
    by true = refl
    by false = h

pub some_docketed : (n : ℕ) (acts : List Act) → docketed_by acts ≡ [] → docketed_by (acts_where n acts) ≡ []
some_docketed n acts h = by (nat_eq n 0)
  where
    by : (b : Bool) → docketed_by (cond b [] acts) ≡ []
    by true = refl
    by false = h

-- an event is done after that
pub done_docketed : (event : List ℕ) (news : List Act) → docketed_by news ≡ [] → docketed_by (news ++ Does event ∷ []) ≡ entry.Decided event verdict.Done ∷ []
done_docketed event news h = flat_map-append docketed news (Does event ∷ []) ∙ ap (λ (es : List Entry). es ++ entry.Decided event verdict.Done ∷ []) h
