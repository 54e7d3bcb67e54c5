-- What acts open, close and stand in with, each by a size of its amount: a row comes to no more than its ask brings.
use Rattle.std.proofs.Common.{◌≡◌, ◌∙◌, ◌++◌, ◌+ℤ◌, ◌-◌, ◌∷◌, ◌+◌, ◌≤◌, ℕ, ℤ, pos, neg_ℤ, ap, arith, Bool, List, [], refl, subst, sym, true, false, inl, inr}
use Rattle.std.specs.Prelude.{None, ◌≤ℤ◌}
use Rattle.std.proofs.lemmas.Int.{ints}
use Rattle.iss_model.specs.declared.account.Account.{Account}
use Rattle.iss_model.specs.declared.account.Account.TheVariants as account
use Rattle.iss_model.specs.declared.account.Part.{Part}
use Rattle.iss_model.specs.declared.account.Part.TheVariants as part
use Rattle.iss_model.specs.declared.call.Method.TheVariants as method
use Rattle.iss_model.specs.declared.call.Opened.{Opened}
use Rattle.iss_model.specs.declared.decision.Reason.{Reason}
use Rattle.iss_model.specs.declared.decision.Reason.TheVariants as reason
use Rattle.iss_model.specs.declared.decision.Verdict.TheVariants as verdict
use Rattle.iss_model.specs.declared.entry.Entry.{Entry}
use Rattle.iss_model.specs.declared.entry.Entry.TheVariants as entry
use Rattle.iss_model.specs.declared.txn.Txn.{Txn}
use Rattle.iss_model.specs.rules.Activity.{CallNow}
use Rattle.iss_model.specs.rules.Acts.{Abandons, Act, Asks, Begins, Clears, Fails, Funds, FundsPart, GivesBack, HoldsOwn, LetsGo, Refuses, StandsIn, TurnsDown, Uses, act_entries}
use Rattle.iss_model.specs.rules.Asks.{Ask, call_ask}
use Rattle.iss_model.specs.rules.Pieces.{Parts, abandoned_calls_entries, declined_ask_entries, funded_ask_entries, give_back_entries, hold_entries, in_all, notice_entry, part_funded_entries, post_entries, release_entries, clearing_money_entries, taken_to_clear, taken_to_release, unhold_entries, user_account}
use Rattle.iss_model.specs.state.Cores.{CoreState, core_facts}
use Rattle.iss_acts.specs.Causes.{Cause}
use Rattle.iss_acts.specs.Sources.{IsAskedCall, IsMade, IsOwnAsk}
use Rattle.iss_acts.specs.Stages.{Stage, stage_after}
use Rattle.iss_acts.proofs.Passing.{EachPasses, both_pass, either_passes, gateway_passes, none_passes, one_passes, two_pass, where_passes}
use Rattle.iss_state.proofs.docket.Closing.{its_number}
use Rattle.iss_bounded.proofs.AskedWorth.{Knows}
use Rattle.iss_bounded.proofs.Prices.{ArePaid, left_at, no_price, total_price}

-- an entry opens no call, closes none, and stands in with nothing
abbrev pub is_quiet_entry : Entry → Bool
is_quiet_entry (entry.Opened o) = false
is_quiet_entry (entry.Closed call how) = false
is_quiet_entry (entry.Stood set product user amount at) = false
is_quiet_entry _ = true

abbrev Quiet : List Entry → Type 0
Quiet = EachPasses is_quiet_entry

posts_quiet : (t : Txn) (from to : Account) (n : ℕ) → Quiet (post_entries t from to n)
posts_quiet t from to n = where_passes n (one_passes refl)

declined_quiet : (ask : Ask) (why : Reason) → Quiet (declined_ask_entries ask why)
declined_quiet ask why = two_pass refl (both_pass (either_passes ask.is_first (one_passes refl) none_passes) (one_passes refl))

funded_quiet : (ask : Ask) (from : Account) → Quiet (funded_ask_entries ask from part.G)
funded_quiet ask from = both_pass (both_pass (posts_quiet ask.txn from (user_account ask.txn) ask.amount) (where_passes ask.amount (one_passes refl))) (one_passes refl)

part_quiet : (o : Opened) (t : Txn) (amount : ℕ) → Quiet (part_funded_entries o t amount)
part_quiet o t amount = two_pass refl (both_pass (both_pass (posts_quiet t (account.Gateway t.currency) (user_account t) amount) (where_passes amount (one_passes refl))) (one_passes refl))

freed_quiet : (t : Txn) (p : Part) (n : ℕ) → Quiet (unhold_entries t p n)
freed_quiet t p n = where_passes n (one_passes refl)

release_quiet : (t : Txn) (parts : Parts) (amount : ℕ) → Quiet (release_entries t parts amount)
release_quiet t parts amount =
    let taken : Parts = taken_to_release parts amount in
    both_pass (both_pass (both_pass (both_pass (both_pass (freed_quiet t part.P taken.p) (posts_quiet t (user_account t) (account.Programme t.currency) taken.p)) (freed_quiet t part.G taken.g))
    (posts_quiet t (user_account t) (account.Gateway t.currency) taken.g)) (freed_quiet t part.S taken.s))
    (where_passes amount (one_passes refl))

clearing_quiet : (t : Txn) (taken : Parts) (amount at : ℕ) → Quiet (clearing_money_entries t taken amount at)
clearing_quiet t taken amount at =
    let excess : ℕ = amount - in_all taken in
    both_pass (both_pass (both_pass (both_pass (both_pass (freed_quiet t part.G taken.g) (freed_quiet t part.P taken.p)) (freed_quiet t part.S taken.s))
    (gateway_passes t (posts_quiet t (account.Programme t.currency) (user_account t) excess))) (posts_quiet t (user_account t) (account.Network t.currency) amount))
    (where_passes excess (one_passes refl))

back_quiet : (t : Txn) (amount programme : ℕ) → Quiet (give_back_entries t amount programme)
back_quiet t amount programme = both_pass (where_passes amount (one_passes refl)) (gateway_passes t (both_pass (where_passes programme (one_passes refl)) (where_passes (amount - programme) (one_passes refl))))

-- what a set stands in with, after the sum
abbrev after_stood : ℕ → Ask → List Entry
after_stood number ask =
    post_entries ask.txn (account.Programme ask.txn.currency) (user_account ask.txn) ask.amount ++ hold_entries ask.txn part.P ask.amount
    ++ notice_entry number method.StandIn ask.txn None ask.amount 0 ∷ entry.Decided ask.event verdict.Approved ∷ []

stood_quiet : (number : ℕ) (ask : Ask) → Quiet (after_stood number ask)
stood_quiet number ask =
    both_pass (both_pass (posts_quiet ask.txn (account.Programme ask.txn.currency) (user_account ask.txn) ask.amount) (where_passes ask.amount (one_passes refl))) (two_pass refl (one_passes refl))

module _ (size : ℕ → ℕ) (closed : ℕ → ℕ) where
  -- what an entry brings to what is asked and stood in with
  abbrev pub stand_in_price : Entry → ℤ
  stand_in_price (entry.Opened o) = pos (size o.amount)
  stand_in_price (entry.Closed call how) = neg_ℤ (pos (closed call.0))
  stand_in_price (entry.Stood set product user amount at) = pos (size amount)
  stand_in_price _ = pos 0

  free_entry : (e : Entry) → is_quiet_entry e ≡ true → stand_in_price e ≡ pos 0
  free_entry (entry.Opened o) h = cc
  free_entry (entry.Closed call how) h = cc
  free_entry (entry.Stood set product user amount at) h = cc
  free_entry _ h = refl

  free : {es : List Entry} → Quiet es → total_price stand_in_price es ≡ pos 0
  free {es} h = no_price stand_in_price is_quiet_entry free_entry es h.all

  abandoned_within : (number : ℕ) (t : Txn) (why : Reason) (calls : List CallNow) → total_price stand_in_price (abandoned_calls_entries number t why calls) ≤ℤ pos 0
  abandoned_within number t why [] = omega (arith, ints)
  abandoned_within number t why (c ∷ calls) = omega (arith, ints, abandoned_within (number + 1) t why calls)

  module _ (s : CoreState) (by : Cause) (at : ℕ) (brought : ℕ) (known : Knows (λ o. size o.amount) closed s) (enough : (ask : Ask) → IsOwnAsk (core_facts s) by at ask → size ask.amount ≤ brought) where
    abbrev needs : Ask → ℕ
    needs ask = size ask.amount

    abbrev left : Stage → ℕ
    left g = left_at brought needs g

    at_stage : (z : ℤ) {g k : Stage} → g ≡ k → z ≤ℤ pos (left k) → z ≤ℤ pos (left g)
    at_stage z e h = subst (λ (g : Stage). z ≤ℤ pos (left g)) (sym e) h

    -- sums of prices ----

    nothing : (z : ℤ) (n : ℕ) → z ≡ pos 0 → (z +ℤ pos 0) ≤ℤ pos n
    nothing z n e = omega (arith, ints, e)

    below : (z : ℤ) (n : ℕ) → z ≤ℤ pos 0 → (z +ℤ pos 0) ≤ℤ pos n
    below z n e = omega (arith, ints, e)

    one_closed : (c n : ℕ) (z : ℤ) → z ≡ pos 0 → ((neg_ℤ (pos c) +ℤ z) +ℤ pos 0) ≤ℤ pos n
    one_closed c n z e = omega (arith, ints, e)

    one_failed : (c m n : ℕ) → c ≡ m → ((neg_ℤ (pos c) +ℤ (pos 0 +ℤ pos 0)) +ℤ pos m) ≤ℤ pos n
    one_failed c m n e = omega (arith, ints, e)

    one_brought : (z : ℤ) (m n : ℕ) → z ≡ pos 0 → m ≤ n → (z +ℤ pos m) ≤ℤ pos n
    one_brought z m n e h = omega (arith, ints, e, h)

    one_asked : (m : ℕ) → ((pos m +ℤ pos 0) +ℤ pos 0) ≤ℤ pos m
    one_asked m = omega (arith, ints)

    one_stood : (m : ℕ) (z : ℤ) → z ≡ pos 0 → ((pos m +ℤ z) +ℤ pos 0) ≤ℤ pos m
    one_stood m z e = omega (arith, ints, e)

    -- an asked call's price
    its_price : (o : Opened) (t : Txn) → IsAskedCall (core_facts s) o t → closed o.call.0 ≡ size o.amount
    its_price o t asked =
        subst (λ (x : Opened). closed x.call.0 ≡ size x.amount) asked.opened
        (ap closed (its_number s.calls asked.number asked.its asked.stands) ∙ known.its asked.number asked.its asked.stands)

    act_paid : (g : Stage) (a : Act) → IsMade (core_facts s) by at g a → (total_price stand_in_price (act_entries a) +ℤ pos (left (stage_after g a))) ≤ℤ pos (left g)
    act_paid g (Begins ask) made = at_stage _ made.from.0 (one_brought (total_price stand_in_price (act_entries (Begins ask))) (needs ask) brought refl (enough ask (inl made.from.1)))
    act_paid g (Uses ask) made = at_stage _ made.from.0 (one_brought (total_price stand_in_price (act_entries (Uses ask))) (needs ask) brought refl (enough ask (inr made.from.1)))
    act_paid g (HoldsOwn ask) made = nothing (total_price stand_in_price (act_entries (HoldsOwn ask))) (left g) (free (both_pass (where_passes ask.amount (one_passes refl)) (one_passes refl)))
    act_paid g (Asks f product ask) made = at_stage _ made.from.0 (one_asked (needs ask))
    act_paid g (Funds o t) made = one_closed (closed o.call.0) (left g) (total_price stand_in_price (funded_ask_entries (call_ask o t) (account.Gateway t.currency) part.G)) (free (funded_quiet (call_ask o t) (account.Gateway t.currency)))
    act_paid g (FundsPart o t amount) made = one_closed (closed o.call.0) (left g) (total_price stand_in_price (part_funded_entries o t amount)) (free (part_quiet o t amount))
    act_paid g (Refuses o t) made = one_closed (closed o.call.0) (left g) (total_price stand_in_price (declined_ask_entries (call_ask o t) reason.GatewayDeclined)) (free (declined_quiet (call_ask o t) reason.GatewayDeclined))
    act_paid g (Fails number o t why) made = one_failed (closed o.call.0) (size o.amount) (left g) (its_price o t made.from.1)
    act_paid g (StandsIn number ask when set) made = at_stage _ made.from.0 (one_stood (needs ask) _ (free (stood_quiet number ask)))
    act_paid g (TurnsDown ask why) made = nothing (total_price stand_in_price (declined_ask_entries ask why)) (left g) (free (declined_quiet ask why))
    act_paid g (Abandons number t why calls parts) made = below (total_price stand_in_price (abandoned_calls_entries number t why calls)) (left g) (abandoned_within number t why calls)
    act_paid g (LetsGo t parts amount) made = nothing (total_price stand_in_price (release_entries t parts amount)) (left g) (free (release_quiet t parts amount))
    act_paid g (Clears t parts amount when) made =
        nothing (total_price stand_in_price (clearing_money_entries t (taken_to_clear parts amount) amount when)) (left g) (free (clearing_quiet t (taken_to_clear parts amount) amount when))
    act_paid g (GivesBack t amount programme) made = nothing (total_price stand_in_price (give_back_entries t amount programme)) (left g) (free (back_quiet t amount programme))
    act_paid g a made = nothing (total_price stand_in_price (act_entries a)) (left g) refl

    pub stand_ins_paid : ArePaid (core_facts s) by at stand_in_price brought needs
    stand_ins_paid = record { each = act_paid }
