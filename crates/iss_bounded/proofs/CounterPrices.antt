-- What entries of rows cost in counters of a control, asked calls and live transactions.
use Rattle.std.proofs.Common.{◌≡◌, ◌++◌, ◌+◌, ◌+ℤ◌, ◌-◌, ◌∷◌, ℕ, ℤ, pos, neg_ℤ, arith, Bool, cond, false, List, [], nat_eq, refl, true}
use Rattle.std.specs.Prelude.{None, ◌≤ℤ◌}
use Rattle.std.proofs.lemmas.Int.{ints}
use Rattle.iss_model.specs.declared.account.Account.{Account}
use Rattle.iss_model.specs.declared.account.Account.TheVariants as account
use Rattle.iss_model.specs.declared.account.Part.{Part}
use Rattle.iss_model.specs.declared.account.Part.TheVariants as part
use Rattle.iss_model.specs.declared.call.Method.TheVariants as method
use Rattle.iss_model.specs.declared.decision.Reason.{Reason}
use Rattle.iss_model.specs.declared.decision.Reason.TheVariants as reason
use Rattle.iss_model.specs.declared.decision.Verdict.TheVariants as verdict
use Rattle.iss_model.specs.declared.entry.Entry.{Entry}
use Rattle.iss_model.specs.declared.entry.Entry.TheVariants as entry
use Rattle.iss_model.specs.declared.txn.Txn.{Txn}
use Rattle.iss_model.specs.declared.txn.UsageRow.{UsageRow}
use Rattle.iss_model.specs.rules.Activity.{CallNow}
use Rattle.iss_model.specs.rules.Acts.{Abandons, Act, Asks, Begins, Clears, Ends, Fails, Funds, FundsPart, GivesBack, HoldsOwn, LetsGo, Loads, Refuses, StandsIn, TurnsDown, Uses, act_entries, entries_of_acts}
use Rattle.iss_model.specs.rules.Asks.{Ask, ask_given_back, call_ask, usage_of}
use Rattle.iss_model.specs.rules.Pieces.{Parts, abandoned_calls_entries, clearing_money_entries, declined_ask_entries, give_back_entries, hold_entries, in_all, notice_entry, only_gateway, only_where, post_entries, release_entries, taken_to_clear, taken_to_release, unhold_entries, user_account}
use Rattle.iss_acts.proofs.Passing.{EachPasses, both_pass, gateway_passes, one_passes, two_pass, where_passes}
use Rattle.iss_bounded.proofs.CounterRows.{RowCosts, adds, lets_off, row_costs, total_cost}
use Rattle.iss_bounded.proofs.Prices.{no_price, price_append, total_price}

-- what an entry adds at most
abbrev pub number_price : Entry → ℤ
number_price (entry.Usage row) = pos 1
number_price (entry.Began t) = pos 1
number_price (entry.Opened o) = pos 1
number_price (entry.Closed call how) = neg_ℤ (pos 1)
number_price (entry.Ended txn) = neg_ℤ (pos 1)
number_price _ = pos 0

abbrev total : List Entry → ℤ
total es = total_price number_price es

-- an entry neither uses, begins, asks, closes nor ends
abbrev is_light : Entry → Bool
is_light (entry.Usage row) = false
is_light (entry.Began t) = false
is_light (entry.Opened o) = false
is_light (entry.Closed call how) = false
is_light (entry.Ended txn) = false
is_light _ = true

light_entry : (e : Entry) → is_light e ≡ true → number_price e ≡ pos 0
light_entry (entry.Usage row) h = cc
light_entry (entry.Began t) h = cc
light_entry (entry.Opened o) h = cc
light_entry (entry.Closed call how) h = cc
light_entry (entry.Ended txn) h = cc
light_entry _ h = refl

abbrev Light : List Entry → Type 0
Light = EachPasses is_light

light : {es : List Entry} → Light es → total es ≡ pos 0
light {es} h = no_price number_price is_light light_entry es h.all

posts_light : (t : Txn) (from to : Account) (n : ℕ) → Light (post_entries t from to n)
posts_light t from to n = where_passes n (one_passes refl)

holds_light : (t : Txn) (p : Part) (n : ℕ) → Light (hold_entries t p n)
holds_light t p n = where_passes n (one_passes refl)

freed_light : (t : Txn) (p : Part) (n : ℕ) → Light (unhold_entries t p n)
freed_light t p n = where_passes n (one_passes refl)

used_where : (n : ℕ) (row : UsageRow) → total (only_where n (entry.Usage row ∷ [])) ≤ℤ pos 1
used_where n row = by (nat_eq n 0)
  where
    by : (b : Bool) → total (cond b [] (entry.Usage row ∷ [])) ≤ℤ pos 1
    by true = omega (arith, ints)
    by false = omega (arith, ints)

-- light entries and then use
then_used : (xs : List Entry) (n : ℕ) (row : UsageRow) → Light xs → total (xs ++ only_where n (entry.Usage row ∷ [])) ≤ℤ pos 1
then_used xs n row h = sum (total xs) (total (only_where n (entry.Usage row ∷ []))) (total (xs ++ only_where n (entry.Usage row ∷ []))) (price_append number_price xs (only_where n (entry.Usage row ∷ []))) (light h) (used_where n row)
  where
    sum : (a b c : ℤ) → c ≡ a +ℤ b → a ≡ pos 0 → b ≤ℤ pos 1 → c ≤ℤ pos 1
    sum a b c e f h = omega (arith, ints, e, f, h)

declined : (ask : Ask) (why : Reason) → total (declined_ask_entries ask why) ≤ℤ pos 1
declined ask why = by ask.is_first
  where
    by : (b : Bool) → total (entry.Usage (ask_given_back ask) ∷ cond b (entry.Ended ask.txn.token ∷ []) [] ++ entry.Decided ask.event (verdict.Declined why) ∷ []) ≤ℤ pos 1
    by true = omega (arith, ints)
    by false = omega (arith, ints)

money_light : (t : Txn) (from : Account) (p : Part) (n : ℕ) (more : List Entry) → Light more → Light (post_entries t from (user_account t) n ++ hold_entries t p n ++ more)
money_light t from p n more h = both_pass (both_pass (posts_light t from (user_account t) n) (holds_light t p n)) h

abandoned : (number : ℕ) (t : Txn) (why : Reason) (calls : List CallNow) → total (abandoned_calls_entries number t why calls) ≤ℤ pos 0
abandoned number t why [] = omega (arith, ints)
abandoned number t why (c ∷ calls) = less (total (abandoned_calls_entries (number + 1) t why calls)) (abandoned (number + 1) t why calls)
  where
    less : (z : ℤ) → z ≤ℤ pos 0 → (neg_ℤ (pos 1) +ℤ (pos 0 +ℤ (pos 1 +ℤ (pos 0 +ℤ z)))) ≤ℤ pos 0
    less z h = omega (arith, ints, h)

-- a list comes to no more than is added, with what is let off
Within : List Entry → ℕ → ℕ → Type 0
Within es up down = (total es +ℤ pos down) ≤ℤ pos up

nothing : (z : ℤ) → z ≡ pos 0 → (z +ℤ pos 0) ≤ℤ pos 0
nothing z e = omega (arith, ints, e)

one : (z : ℤ) → z ≤ℤ pos 1 → (z +ℤ pos 0) ≤ℤ pos 1
one z h = omega (arith, ints, h)

closed_light : (z : ℤ) → z ≡ pos 0 → ((neg_ℤ (pos 1) +ℤ z) +ℤ pos 1) ≤ℤ pos 1
closed_light z e = omega (arith, ints, e)

closed_used : (z : ℤ) → z ≡ pos 0 → ((neg_ℤ (pos 1) +ℤ (pos 1 +ℤ z)) +ℤ pos 1) ≤ℤ pos 1
closed_used z e = omega (arith, ints, e)

closed_one : (z : ℤ) → z ≤ℤ pos 1 → ((neg_ℤ (pos 1) +ℤ z) +ℤ pos 1) ≤ℤ pos 1
closed_one z h = omega (arith, ints, h)

none : (z : ℤ) → z ≤ℤ pos 0 → (z +ℤ pos 0) ≤ℤ pos 0
none z h = omega (arith, ints, h)

stood : (z : ℤ) → z ≡ pos 0 → ((pos 0 +ℤ z) +ℤ pos 0) ≤ℤ pos 1
stood z e = omega (arith, ints, e)

some : (z : ℤ) → z ≡ pos 0 → (z +ℤ pos 0) ≤ℤ pos 1
some z e = omega (arith, ints, e)

act_within : (a : Act) → (total (act_entries a) +ℤ pos (lets_off a)) ≤ℤ pos (adds a)
act_within (Loads event user currency amount) = omega (arith, ints)
act_within (Begins ask) = omega (arith, ints)
act_within (Uses ask) = omega (arith, ints)
act_within (Asks f product ask) = omega (arith, ints)
act_within (HoldsOwn ask) = nothing (total (act_entries (HoldsOwn ask))) (light (both_pass (holds_light ask.txn part.S ask.amount) (one_passes refl)))
act_within (Funds o t) = closed_light _ (light (money_light t (account.Gateway t.currency) part.G o.amount (entry.Decided o.event verdict.Approved ∷ []) (one_passes refl)))
act_within (FundsPart o t amount) = closed_used _ (light (money_light t (account.Gateway t.currency) part.G amount (entry.Decided o.event (verdict.Partial t.currency amount) ∷ []) (one_passes refl)))
act_within (Refuses o t) = closed_one (total (declined_ask_entries (call_ask o t) reason.GatewayDeclined)) (declined (call_ask o t) reason.GatewayDeclined)
act_within (Fails number o t why) = omega (arith, ints)
act_within (StandsIn number ask at set) =
    stood _
    (light (money_light ask.txn (account.Programme ask.txn.currency) part.P ask.amount (notice_entry number method.StandIn ask.txn None ask.amount 0 ∷ entry.Decided ask.event verdict.Approved ∷ []) (two_pass refl (one_passes refl))))
act_within (TurnsDown ask why) = one (total (declined_ask_entries ask why)) (declined ask why)
act_within (Abandons number t why calls parts) = none (total (abandoned_calls_entries number t why calls)) (abandoned number t why calls)
act_within (LetsGo t x amount) =
    let taken : Parts = taken_to_release x amount in
    one (total (release_entries t x amount))
    (then_used (unhold_entries t part.P taken.p ++ post_entries t (user_account t) (account.Programme t.currency) taken.p ++ unhold_entries t part.G taken.g ++ post_entries t (user_account t) (account.Gateway t.currency) taken.g ++ unhold_entries t part.S taken.s)
    amount (usage_of t (neg_ℤ (pos amount)) (pos 0) t.at)
    (both_pass (both_pass (both_pass (both_pass (freed_light t part.P taken.p) (posts_light t (user_account t) (account.Programme t.currency) taken.p)) (freed_light t part.G taken.g)) (posts_light t (user_account t) (account.Gateway t.currency) taken.g)) (freed_light t part.S taken.s)))
act_within (Clears t parts amount at) =
    let taken : Parts = taken_to_clear parts amount in
    let excess : ℕ = amount - in_all taken in
    one (total (clearing_money_entries t taken amount at))
    (then_used (unhold_entries t part.G taken.g ++ unhold_entries t part.P taken.p ++ unhold_entries t part.S taken.s ++ only_gateway t (post_entries t (account.Programme t.currency) (user_account t) excess) ++ post_entries t (user_account t) (account.Network t.currency) amount)
    excess (usage_of t (pos excess) (pos 0) at)
    (both_pass (both_pass (both_pass (both_pass (freed_light t part.G taken.g) (freed_light t part.P taken.p)) (freed_light t part.S taken.s)) (gateway_passes t (posts_light t (account.Programme t.currency) (user_account t) excess))) (posts_light t (user_account t) (account.Network t.currency) amount)))
act_within (GivesBack t amount programme) =
    some (total (give_back_entries t amount programme))
    (light (both_pass (posts_light t (account.Network t.currency) (user_account t) amount)
    (gateway_passes t (both_pass (posts_light t (user_account t) (account.Programme t.currency) programme) (posts_light t (user_account t) (account.Gateway t.currency) (amount - programme))))))
act_within (Ends t) = omega (arith, ints)
act_within a = nothing (total (act_entries a)) refl

-- a row of these costs
pub row_within : (acts : List Act) {up down : ℕ} → RowCosts acts up down → (total (entries_of_acts acts) +ℤ pos down) ≤ℤ pos up
row_within acts {up} {down} h = priced (total (entries_of_acts acts)) (total_cost (λ a. total (act_entries a)) acts) up down (act_by_act acts) (row_costs (λ a. total (act_entries a)) act_within acts h)
  where
    act_by_act : (acts : List Act) → total (entries_of_acts acts) ≡ total_cost (λ a. total (act_entries a)) acts
    act_by_act [] = refl
    act_by_act (a ∷ acts) = omega (arith, ints, price_append number_price (act_entries a) (entries_of_acts acts), act_by_act acts)

    priced : (x y : ℤ) (up down : ℕ) → x ≡ y → (y +ℤ pos down) ≤ℤ pos up → (x +ℤ pos down) ≤ℤ pos up
    priced x y up down e h = omega (arith, ints, e, h)
