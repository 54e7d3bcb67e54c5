-- Each act but a refund refunds no more than it clears, and holds no more of the programme's than it pays.
use Rattle.std.proofs.Common.{◌≡◌, ℕ, ◌+◌, ◌-◌, ℤ, pos, neg_ℤ, ◌+ℤ◌, ◌≤ℤ◌, Bool, true, false, cond, nat_eq, List, [], ◌∷◌, ◌++◌, refl, arith}
use Rattle.std.proofs.lemmas.Int.{ints}
use Rattle.std.proofs.lemmas.Bool.{and_parts}
use Rattle.std.specs.Prelude.{Some, None}
use Rattle.std.specs.Str.{bytes_eq}
use Rattle.std.specs.List.{list_all}
use Rattle.iss_model.specs.declared.account.Account.{Account}
use Rattle.iss_model.specs.declared.account.Account.TheVariants as account
use Rattle.iss_model.specs.declared.account.Part.{Part}
use Rattle.iss_model.specs.declared.account.Part.TheVariants as part
use Rattle.iss_model.specs.declared.decision.Reason.{Reason}
use Rattle.iss_model.specs.declared.entry.Entry.{Entry}
use Rattle.iss_model.specs.declared.entry.Entry.TheVariants as entry
use Rattle.iss_model.specs.declared.txn.Txn.{Txn}
use Rattle.iss_model.specs.Sums.{cleared_by, refunded_by, paid_by}
use Rattle.iss_model.specs.rules.Activity.{CallNow}
use Rattle.iss_model.specs.rules.Acts.{Abandons, Act, Clears, FundsPart, Funds, GivesBack, HoldsOwn, LetsGo, Refuses, StandsIn, TurnsDown, act_entries}
use Rattle.iss_model.specs.rules.Asks.{Ask, call_ask}
use Rattle.iss_model.specs.rules.Due.{DueThing, thing_entries}
use Rattle.iss_model.specs.rules.Facts.{Facts}
use Rattle.iss_model.specs.rules.Pieces.{Parts, abandoned_calls_entries, clearing_money_entries, declined_ask_entries, hold_entries, in_all, post_entries, release_entries, taken_to_clear, taken_to_release, unhold_entries, use_return_entries, user_account}
use Rattle.iss_acts.specs.Causes.{Cause, may_act, refunds}
use Rattle.iss_acts.proofs.Passing.{EachPasses, both_pass, either_passes, gateway_passes, none_passes, one_passes, passing, two_pass, where_passes}
use Rattle.iss_acts.proofs.Walk.{Holds, due_holds}
use Rattle.iss_state.proofs.docket.Lists.{not_both}
use Rattle.iss_states.specs.Fairness.{AreFair}
use Rattle.iss_states.proofs.FairSums.{both_fair}

-- single entries ----

-- a post that neither refunds nor gives back to the programme
abbrev pub is_even_post : Account → Account → Bool
is_even_post (account.Network c) (account.User user d) = false
is_even_post (account.User user c) (account.Programme d) = false
is_even_post _ _ = true

-- a part that isn't the programme's
abbrev pub is_other_part : Part → Bool
is_other_part part.P = false
is_other_part part.G = true
is_other_part part.S = true

-- an entry that is fair by itself
abbrev pub is_even : Entry → Bool
is_even (entry.Post from to amount txn) = is_even_post from to
is_even (entry.Hold txn user currency p amount) = is_other_part p
is_even _ = true

-- what a change comes to by itself
alone : (b : Bool) (x y : ℤ) → x ≤ℤ y → ((cond b x (pos 0) +ℤ pos 0) +ℤ pos 0) ≤ℤ ((cond b y (pos 0) +ℤ pos 0) +ℤ pos 0)
alone true x y h = omega (arith, ints, h)
alone false x y h = omega (arith, ints)

not_less : (b : Bool) (y : ℤ) → pos 0 ≤ℤ y → (pos 0 +ℤ pos 0) ≤ℤ ((cond b y (pos 0) +ℤ pos 0) +ℤ pos 0)
not_less true y h = omega (arith, ints, h)
not_less false y h = omega (arith, ints)

least : (n : ℕ) → pos 0 ≤ℤ pos n
least n = omega (arith, ints)

record IsEvenPost (from to : Account) (n : ℕ) : Type 0 where
  refunds : refunded_by from to n ≤ℤ cleared_by from to n
  pays : pos 0 ≤ℤ paid_by from to n

even_post : (from to : Account) (n : ℕ) → is_even_post from to ≡ true → IsEvenPost from to n
even_post (account.Network c) (account.User user d) n h = cc
even_post (account.User user c) (account.Programme d) n h = cc
even_post (account.User user c) (account.Network d) n h = record { refunds = least n; pays = least 0 }
even_post (account.Programme c) (account.User user d) n h = record { refunds = least 0; pays = least n }
even_post _ _ n h = record { refunds = least 0; pays = least 0 }

-- an even entry is fair
even_entry : (token : List ℕ) (e : Entry) → is_even e ≡ true → AreFair token (e ∷ [])
even_entry token (entry.Post from to amount (Some txn)) h =
    let even = even_post from to amount h in
    record { refunds = alone (bytes_eq txn token) (refunded_by from to amount) (cleared_by from to amount) even.refunds; holds = not_less (bytes_eq txn token) (paid_by from to amount) even.pays }
even_entry token (entry.Post from to amount None) h = record { refunds = least 0; holds = least 0 }
even_entry token (entry.Hold txn user currency part.G amount) h = record { refunds = least 0; holds = least 0 }
even_entry token (entry.Hold txn user currency part.S amount) h = record { refunds = least 0; holds = least 0 }
even_entry token (entry.Hold txn user currency part.P amount) h = cc
even_entry token _ h = record { refunds = least 0; holds = least 0 }

even_list : (token : List ℕ) (es : List Entry) → list_all is_even es ≡ true → AreFair token es
even_list token [] h = record { refunds = least 0; holds = least 0 }
even_list token (e ∷ es) h =
    let parts = and_parts (is_even e) (list_all is_even es) h in
    both_fair (even_entry token e parts.0) (even_list token es parts.1)

pub even_fair : {token : List ℕ} {es : List Entry} → EachPasses is_even es → AreFair token es
even_fair {token} {es} h = even_list token es h.all

pub even : {token : List ℕ} {es : List Entry} → list_all is_even es ≡ true → AreFair token es
even {token} {es} h = even_list token es h

-- what the programme's part holds and the programme pays ----

-- the programme pays into a part of its own, gets back what the part lets go, or the part is let go alone
stood_fair : (token : List ℕ) (t : Txn) (n : ℕ) → AreFair token (post_entries t (account.Programme t.currency) (user_account t) n ++ hold_entries t part.P n)
stood_fair token t n = by (nat_eq n 0)
  where
    same : (b : Bool) → (pos 0 +ℤ ((cond b (pos n) (pos 0) +ℤ pos 0) +ℤ pos 0)) ≤ℤ ((cond b (pos n) (pos 0) +ℤ pos 0) +ℤ (pos 0 +ℤ pos 0))
    same true = omega (arith, ints)
    same false = omega (arith, ints)

    none : (b : Bool) → ((cond b (pos 0) (pos 0) +ℤ pos 0) +ℤ (pos 0 +ℤ pos 0)) ≤ℤ ((cond b (pos 0) (pos 0) +ℤ pos 0) +ℤ (pos 0 +ℤ pos 0))
    none true = least 0
    none false = least 0

    by : (z : Bool)
        → AreFair token (cond z [] (entry.Post (account.Programme t.currency) (user_account t) n (Some t.token) ∷ []) ++ cond z [] (entry.Hold t.token t.user t.currency part.P (pos n) ∷ []))
    by true = record { refunds = least 0; holds = least 0 }
    by false = record { refunds = none (bytes_eq t.token token); holds = same (bytes_eq t.token token) }

back_fair : (token : List ℕ) (t : Txn) (n : ℕ) → AreFair token (unhold_entries t part.P n ++ post_entries t (user_account t) (account.Programme t.currency) n)
back_fair token t n = by (nat_eq n 0)
  where
    same : (b : Bool) → ((cond b (neg_ℤ (pos n)) (pos 0) +ℤ pos 0) +ℤ (pos 0 +ℤ pos 0)) ≤ℤ (pos 0 +ℤ ((cond b (neg_ℤ (pos n)) (pos 0) +ℤ pos 0) +ℤ pos 0))
    same true = omega (arith, ints)
    same false = omega (arith, ints)

    none : (b : Bool) → (pos 0 +ℤ ((cond b (pos 0) (pos 0) +ℤ pos 0) +ℤ pos 0)) ≤ℤ (pos 0 +ℤ ((cond b (pos 0) (pos 0) +ℤ pos 0) +ℤ pos 0))
    none true = least 0
    none false = least 0

    by : (z : Bool)
        → AreFair token (cond z [] (entry.Hold t.token t.user t.currency part.P (neg_ℤ (pos n)) ∷ []) ++ cond z [] (entry.Post (user_account t) (account.Programme t.currency) n (Some t.token) ∷ []))
    by true = record { refunds = least 0; holds = least 0 }
    by false = record { refunds = none (bytes_eq t.token token); holds = same (bytes_eq t.token token) }

let_go_fair : (token : List ℕ) (t : Txn) (n : ℕ) → AreFair token (unhold_entries t part.P n)
let_go_fair token t n = by (nat_eq n 0)
  where
    less : (b : Bool) → ((cond b (neg_ℤ (pos n)) (pos 0) +ℤ pos 0) +ℤ pos 0) ≤ℤ (pos 0 +ℤ pos 0)
    less true = omega (arith, ints)
    less false = omega (arith, ints)

    by : (z : Bool) → AreFair token (cond z [] (entry.Hold t.token t.user t.currency part.P (neg_ℤ (pos n)) ∷ []))
    by true = record { refunds = least 0; holds = least 0 }
    by false = record { refunds = least 0; holds = less (bytes_eq t.token token) }

-- pieces ----

pub post_even : (t : Txn) (from to : Account) (amount : ℕ) → is_even_post from to ≡ true → EachPasses is_even (post_entries t from to amount)
post_even t from to amount h = where_passes amount (one_passes h)

hold_even : (t : Txn) (p : Part) (amount : ℕ) → is_other_part p ≡ true → EachPasses is_even (hold_entries t p amount)
hold_even t p amount h = where_passes amount (one_passes h)

unhold_even : (t : Txn) (p : Part) (amount : ℕ) → is_other_part p ≡ true → EachPasses is_even (unhold_entries t p amount)
unhold_even t p amount h = where_passes amount (one_passes h)

release_fair : (token : List ℕ) (t : Txn) (parts : Parts) (amount : ℕ) → AreFair token (release_entries t parts amount)
release_fair token t parts amount =
    let taken = taken_to_release parts amount in
    let returned : AreFair token (use_return_entries t amount) = even_fair (where_passes amount (passing refl)) in
    both_fair (both_fair (both_fair (both_fair (back_fair token t taken.p) (even_fair (unhold_even t part.G taken.g refl)))
    (even_fair (post_even t (user_account t) (account.Gateway t.currency) taken.g refl))) (even_fair (unhold_even t part.S taken.s refl))) returned

clearing_fair : (token : List ℕ) (t : Txn) (taken : Parts) (amount at : ℕ) → AreFair token (clearing_money_entries t taken amount at)
clearing_fair token t taken amount at =
    let excess = amount - in_all taken in
    both_fair (both_fair (both_fair (both_fair (both_fair (even_fair (unhold_even t part.G taken.g refl)) (let_go_fair token t taken.p)) (even_fair (unhold_even t part.S taken.s refl)))
    (even_fair (gateway_passes t (post_even t (account.Programme t.currency) (user_account t) excess refl))))
    (even_fair (post_even t (user_account t) (account.Network t.currency) amount refl)))
    (even_fair (where_passes excess (passing refl)))

declined_even : (ask : Ask) (why : Reason) → EachPasses is_even (declined_ask_entries ask why)
declined_even ask why = two_pass refl (both_pass (either_passes ask.is_first (passing refl) none_passes) (passing refl))

-- the gateway funds an amount
funded_even : (t : Txn) (amount : ℕ) {es : List Entry} → EachPasses is_even es → EachPasses is_even (post_entries t (account.Gateway t.currency) (user_account t) amount ++ hold_entries t part.G amount ++ es)
funded_even t amount h = both_pass (both_pass (post_even t (account.Gateway t.currency) (user_account t) amount refl) (hold_even t part.G amount refl)) h

abandoned_even : (number : ℕ) (t : Txn) (why : Reason) (cs : List CallNow) → EachPasses is_even (abandoned_calls_entries number t why cs)
abandoned_even number t why [] = none_passes
abandoned_even number t why (c ∷ cs) = two_pass refl (two_pass refl (two_pass refl (two_pass refl (abandoned_even (number + 1) t why cs))))

-- acts ----

-- an act that gives nothing back
abbrev pub gives_back : Act → Bool
gives_back (GivesBack t amount programme) = true
gives_back _ = false

pub act_fair : (token : List ℕ) (a : Act) → gives_back a ≡ false → AreFair token (act_entries a)
act_fair token (GivesBack t amount programme) h = cc
act_fair token (HoldsOwn ask) h = even_fair (both_pass (hold_even ask.txn part.S ask.amount refl) (passing refl))
act_fair token (Funds o t) h = even_fair (two_pass refl (funded_even t o.amount (passing refl)))
act_fair token (FundsPart o t amount) h = even_fair (two_pass refl (two_pass refl (funded_even t amount (passing refl))))
act_fair token (Refuses o t) h = even_fair (two_pass refl (declined_even (call_ask o t) _))
act_fair token (StandsIn number ask at set) h =
    let first : AreFair token (entry.Stood set.name ask.txn.product ask.txn.user ask.amount at ∷ []) = even refl in
    both_fair first (both_fair (stood_fair token ask.txn ask.amount) (even refl))
act_fair token (TurnsDown ask why) h = even_fair (declined_even ask why)
act_fair token (Abandons number t why calls parts) h = even_fair (abandoned_even number t why calls)
act_fair token (LetsGo t parts amount) h = release_fair token t parts amount
act_fair token (Clears t parts amount at) h = clearing_fair token t (taken_to_clear parts amount) amount at
act_fair token _ h = even refl

-- whatever a cause makes that refunds nothing
pub fair_acts : {f : Facts} {by : Cause} {at : ℕ} (token : List ℕ) → ((t : Txn) (amount : ℕ) → refunds by t.token amount ≡ false) → Holds f by at (AreFair token)
fair_acts {by = by} token none = record { none = even refl; then = both_fair; act = λ g a made. act_fair token a (plain a made.cause) }
  where
    plain : (a : Act) → may_act by a ≡ true → gives_back a ≡ false
    plain (GivesBack t amount programme) may = not_both (refunds by t.token amount) may (none t amount)
    plain _ may = refl

pub thing_fair : (token : List ℕ) (f : Facts) (thing : DueThing) (at : ℕ) → AreFair token (thing_entries thing at f)
thing_fair token f thing at = due_holds f thing at (fair_acts token (λ t amount. refl))
