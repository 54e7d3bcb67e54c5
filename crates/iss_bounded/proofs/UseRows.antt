-- What acts use, hold, open and close, each by a weight: a row comes to no more than its cause brings.
use Rattle.std.proofs.Common.{◌≡◌, ◌∙◌, ◌++◌, ◌+ℤ◌, ◌-◌, ◌∷◌, ◌+◌, ◌≤◌, ◌&&◌, ℕ, ℤ, pos, neg_ℤ, ap, arith, Bool, cond, List, [], min, nat_eq, nat_lt, refl, subst, sym, true, false, inl, inr}
use Rattle.std.specs.Prelude.{None, Some, ◌≤ℤ◌}
use Rattle.std.proofs.lemmas.Bool.{and_parts}
use Rattle.std.proofs.lemmas.Bool.Decides.{nat_tests}
use Rattle.std.proofs.lemmas.Int.{ints}
use Rattle.iss_model.specs.declared.account.Account.{Account}
use Rattle.iss_model.specs.declared.account.Account.TheVariants as account
use Rattle.iss_model.specs.declared.account.Part.{Part}
use Rattle.iss_model.specs.declared.account.Part.TheVariants as part
use Rattle.iss_model.specs.declared.call.Method.TheVariants as method
use Rattle.iss_model.specs.declared.call.Opened.{Opened}
use Rattle.iss_model.specs.declared.decision.Reason.{Reason}
use Rattle.iss_model.specs.declared.decision.Reason.TheVariants as reason
use Rattle.iss_model.specs.declared.decision.Verdict.TheVariants as verdict
use Rattle.iss_model.specs.declared.entry.Entry.{Entry}
use Rattle.iss_model.specs.declared.entry.Entry.TheVariants as entry
use Rattle.iss_model.specs.declared.txn.Txn.{Txn}
use Rattle.iss_model.specs.declared.txn.UsageRow.{UsageRow}
use Rattle.iss_model.specs.Currencies.{same_currency}
use Rattle.iss_model.specs.rules.Activity.{CallNow}
use Rattle.iss_model.specs.rules.Acts.{Abandons, Act, Asks, Begins, Clears, Fails, Funds, FundsPart, GivesBack, HoldsOwn, LetsGo, Refuses, StandsIn, TurnsDown, Uses, act_entries}
use Rattle.iss_model.specs.rules.Asks.{Ask, ask_given_back, ask_usage, call_ask, rest_given_back, usage_of}
use Rattle.iss_model.specs.rules.CardReasons.{is_account_funded}
use Rattle.iss_model.specs.rules.Facts.{Facts, asked_calls_of}
use Rattle.iss_model.specs.rules.Pieces.{Parts, abandoned_calls_entries, clearing_money_entries, declined_ask_entries, funded_ask_entries, give_back_entries, hold_entries, in_all, notice_entry, only_gateway, only_where, part_funded_entries, post_entries, release_entries, taken_to_clear, taken_to_release, unhold_entries, use_return_entries, user_account}
use Rattle.iss_acts.specs.Causes.{Cause, clears}
use Rattle.iss_acts.specs.Sources.{IsAskedCall, IsFundedPart, IsMade, IsOwnAsk}
use Rattle.iss_acts.specs.Stages.{Stage, stage_after}
use Rattle.iss_state.proofs.docket.Lists.{Each}
use Rattle.iss_state.proofs.effects.Finds.{number_is}
use Rattle.iss_bounded.proofs.Prices.{ArePaid, left_at, price_append, total_price}

-- weights of entries: the size of an amount that is asked, a closing by its call's number, a change of what is held, and use
pub record Weights : Type 0 where
  pub size : ℕ → ℕ
  pub closed : ℕ → ℕ
  pub hold : ℤ → ℤ
  pub over : UsageRow → ℕ

-- what an entry weighs
abbrev pub use_price : Weights → Entry → ℤ
use_price w (entry.Opened o) = pos (w.size o.amount)
use_price w (entry.Closed call how) = neg_ℤ (pos (w.closed call.0))
use_price w (entry.Hold txn user currency p amount) = w.hold amount
use_price w (entry.Usage row) = pos (w.over row)
use_price w _ = pos 0

-- What weights need, so that acts are paid: what is held is no more than what was asked, what comes back is no more use than that, and
-- what is let go is as much as the use that comes back.
pub record AreFairWeights (w : Weights) : Type 0 where
  pub none : w.hold (pos 0) ≡ pos 0
  pub more : (n : ℕ) → w.hold (pos n) ≤ℤ pos (w.size n)
  pub less : (n : ℕ) → w.hold (neg_ℤ (pos n)) ≤ℤ pos 0
  pub back : (ask : Ask) → w.over (ask_given_back ask) ≤ w.size ask.amount
  pub rest : (o : Opened) (t : Txn) (n : ℕ) → n ≤ o.amount → (pos (w.over (rest_given_back o t n)) +ℤ w.hold (pos n)) ≤ℤ pos (w.size o.amount)
  pub gone : (t : Txn) (p g s amount : ℕ) → p + g + s ≡ amount
      → (w.hold (neg_ℤ (pos p)) +ℤ (w.hold (neg_ℤ (pos g)) +ℤ (w.hold (neg_ℤ (pos s)) +ℤ pos (w.over (usage_of t (neg_ℤ (pos amount)) (pos 0) t.at))))) ≤ℤ pos 0

module _ (w : Weights) (fair : AreFairWeights w) where
  abbrev total : List Entry → ℤ
  total es = total_price (use_price w) es

  joined : (xs ys : List Entry) {x y : ℤ} → total xs ≤ℤ x → total ys ≤ℤ y → total (xs ++ ys) ≤ℤ (x +ℤ y)
  joined xs ys {x} {y} h k = sum (total xs) (total ys) (total (xs ++ ys)) x y (price_append (use_price w) xs ys) h k
    where
      sum : (a b c x y : ℤ) → c ≡ a +ℤ b → a ≤ℤ x → b ≤ℤ y → c ≤ℤ (x +ℤ y)
      sum a b c x y e h k = omega (arith, ints, e, h, k)

  -- pieces ----

  posted : (t : Txn) (from to : Account) (n : ℕ) → total (post_entries t from to n) ≤ℤ pos 0
  posted t from to n = by (nat_eq n 0)
    where
      by : (b : Bool) → total (cond b [] (entry.Post from to n (Some t.token) ∷ [])) ≤ℤ pos 0
      by true = omega (arith, ints)
      by false = omega (arith, ints)

  gateway_only : (t : Txn) (es : List Entry) → total es ≤ℤ pos 0 → total (only_gateway t es) ≤ℤ pos 0
  gateway_only t es h = by (is_account_funded t.funding)
    where
      by : (b : Bool) → total (cond b [] es) ≤ℤ pos 0
      by true = omega (arith, ints)
      by false = h

  nothing_held : (z : ℤ) → z ≡ pos 0 → pos 0 ≤ℤ z
  nothing_held z e = omega (arith, ints, e)

  one : (z : ℤ) → (z +ℤ pos 0) ≤ℤ z
  one z = omega (arith, ints)

  held : (t : Txn) (p : Part) (n : ℕ) → total (hold_entries t p n) ≤ℤ w.hold (pos n)
  held t p n = by (nat_eq n 0) refl
    where
      by : (b : Bool) → nat_eq n 0 ≡ b → total (cond b [] (entry.Hold t.token t.user t.currency p (pos n) ∷ [])) ≤ℤ w.hold (pos n)
      by true e = nothing_held (w.hold (pos n)) (ap (λ (k : ℕ). w.hold (pos k)) (number_is n 0 e) ∙ fair.none)
      by false e = one (w.hold (pos n))

  freed : (t : Txn) (p : Part) (n : ℕ) → total (unhold_entries t p n) ≤ℤ w.hold (neg_ℤ (pos n))
  freed t p n = by (nat_eq n 0) refl
    where
      by : (b : Bool) → nat_eq n 0 ≡ b → total (cond b [] (entry.Hold t.token t.user t.currency p (neg_ℤ (pos n)) ∷ [])) ≤ℤ w.hold (neg_ℤ (pos n))
      by true e = nothing_held (w.hold (neg_ℤ (pos n))) (ap (λ (k : ℕ). w.hold (neg_ℤ (pos k))) (number_is n 0 e) ∙ fair.none)
      by false e = one (w.hold (neg_ℤ (pos n)))

  used_where : (n : ℕ) (row : UsageRow) → total (only_where n (entry.Usage row ∷ [])) ≤ℤ pos (w.over row)
  used_where n row = by (nat_eq n 0)
    where
      some : (m : ℕ) → pos 0 ≤ℤ pos m
      some m = omega (arith, ints)

      by : (b : Bool) → total (cond b [] (entry.Usage row ∷ [])) ≤ℤ pos (w.over row)
      by true = some (w.over row)
      by false = one (pos (w.over row))

  declined : (ask : Ask) (why : Reason) → total (declined_ask_entries ask why) ≤ℤ pos (w.size ask.amount)
  declined ask why = by ask.is_first
    where
      used : (m n : ℕ) → m ≤ n → (pos m +ℤ (pos 0 +ℤ (pos 0 +ℤ pos 0))) ≤ℤ pos n
      used m n h = omega (arith, ints, h)

      also : (m n : ℕ) → m ≤ n → (pos m +ℤ (pos 0 +ℤ pos 0)) ≤ℤ pos n
      also m n h = omega (arith, ints, h)

      by : (b : Bool) → total (entry.Usage (ask_given_back ask) ∷ cond b (entry.Ended ask.txn.token ∷ []) [] ++ entry.Decided ask.event (verdict.Declined why) ∷ []) ≤ℤ pos (w.size ask.amount)
      by true = used (w.over (ask_given_back ask)) (w.size ask.amount) (fair.back ask)
      by false = also (w.over (ask_given_back ask)) (w.size ask.amount) (fair.back ask)

  -- what is posted and held, and then two more entries at most
  money : (t : Txn) (from : Account) (p : Part) (n : ℕ) (more : List Entry) → total more ≤ℤ pos 0 → total (post_entries t from (user_account t) n ++ hold_entries t p n ++ more) ≤ℤ w.hold (pos n)
  money t from p n more h =
      all (total (post_entries t from (user_account t) n ++ hold_entries t p n ++ more)) (w.hold (pos n))
      (joined (post_entries t from (user_account t) n ++ hold_entries t p n) more (joined (post_entries t from (user_account t) n) (hold_entries t p n) (posted t from (user_account t) n) (held t p n)) h)
    where
      all : (z x : ℤ) → z ≤ℤ ((pos 0 +ℤ x) +ℤ pos 0) → z ≤ℤ x
      all z x h = omega (arith, ints, h)

  none_one : total (entry.Decided [] verdict.Approved ∷ []) ≤ℤ pos 0
  none_one = omega (arith, ints)

  zero_least : pos 0 ≤ℤ pos 0
  zero_least = omega (arith, ints)

  released : (t : Txn) (x : Parts) (amount : ℕ) → amount ≤ in_all x → total (release_entries t x amount) ≤ℤ pos 0
  released t x amount le =
      let taken : Parts = taken_to_release x amount in
      let a : List Entry = unhold_entries t part.P taken.p in
      let b : List Entry = post_entries t (user_account t) (account.Programme t.currency) taken.p in
      let c : List Entry = unhold_entries t part.G taken.g in
      let d : List Entry = post_entries t (user_account t) (account.Gateway t.currency) taken.g in
      let e : List Entry = unhold_entries t part.S taken.s in
      all (w.hold (neg_ℤ (pos taken.p))) (w.hold (neg_ℤ (pos taken.g))) (w.hold (neg_ℤ (pos taken.s))) (w.over (usage_of t (neg_ℤ (pos amount)) (pos 0) t.at))
      (joined (a ++ b ++ c ++ d ++ e) (use_return_entries t amount)
      (joined (a ++ b ++ c ++ d) e
      (joined (a ++ b ++ c) d (joined (a ++ b) c (joined a b (freed t part.P taken.p) (posted t (user_account t) (account.Programme t.currency) taken.p)) (freed t part.G taken.g)) (posted t (user_account t) (account.Gateway t.currency) taken.g))
      (freed t part.S taken.s))
      (used_where amount (usage_of t (neg_ℤ (pos amount)) (pos 0) t.at)))
      (fair.gone t taken.p taken.g taken.s amount (taken_all amount x.p x.g x.s (omega (arith, le))))
    where
      taken_all : (a p g s : ℕ) → a ≤ p + g + s → min a p + min (a - min a p) g + min (a - min a p - min (a - min a p) g) s ≡ a
      taken_all a p g s le = omega (arith, le)

      all : {z : ℤ} (p g s : ℤ) (u : ℕ) → z ≤ℤ (((((p +ℤ pos 0) +ℤ g) +ℤ pos 0) +ℤ s) +ℤ pos u) → (p +ℤ (g +ℤ (s +ℤ pos u))) ≤ℤ pos 0 → z ≤ℤ pos 0
      all p g s u h k = omega (arith, ints, h, k)

  cleared : (t : Txn) (taken : Parts) (amount at : ℕ) → total (clearing_money_entries t taken amount at) ≤ℤ pos (w.over (usage_of t (pos (amount - in_all taken)) (pos 0) at))
  cleared t taken amount at =
      let excess : ℕ = amount - in_all taken in
      let a : List Entry = unhold_entries t part.G taken.g in
      let b : List Entry = unhold_entries t part.P taken.p in
      let c : List Entry = unhold_entries t part.S taken.s in
      let paid : List Entry = post_entries t (account.Programme t.currency) (user_account t) excess in
      let d : List Entry = only_gateway t paid in
      let e : List Entry = post_entries t (user_account t) (account.Network t.currency) amount in
      all (w.hold (neg_ℤ (pos taken.g))) (w.hold (neg_ℤ (pos taken.p))) (w.hold (neg_ℤ (pos taken.s))) (w.over (usage_of t (pos excess) (pos 0) at))
      (joined (a ++ b ++ c ++ d ++ e) (only_where excess (entry.Usage (usage_of t (pos excess) (pos 0) at) ∷ []))
      (joined (a ++ b ++ c ++ d) e
      (joined (a ++ b ++ c) d (joined (a ++ b) c (joined a b (freed t part.G taken.g) (freed t part.P taken.p)) (freed t part.S taken.s)) (gateway_only t paid (posted t (account.Programme t.currency) (user_account t) excess)))
      (posted t (user_account t) (account.Network t.currency) amount))
      (used_where excess (usage_of t (pos excess) (pos 0) at)))
      (fair.less taken.g) (fair.less taken.p) (fair.less taken.s)
    where
      all : {z : ℤ} (g p s : ℤ) (u : ℕ) → z ≤ℤ (((((g +ℤ p) +ℤ s) +ℤ pos 0) +ℤ pos 0) +ℤ pos u) → g ≤ℤ pos 0 → p ≤ℤ pos 0 → s ≤ℤ pos 0 → z ≤ℤ pos u
      all g p s u h i j k = omega (arith, ints, h, i, j, k)

  given_back : (t : Txn) (amount programme : ℕ) → total (give_back_entries t amount programme) ≤ℤ pos 0
  given_back t amount programme =
      let a : List Entry = post_entries t (account.Network t.currency) (user_account t) amount in
      let b : List Entry = post_entries t (user_account t) (account.Programme t.currency) programme in
      let c : List Entry = post_entries t (user_account t) (account.Gateway t.currency) (amount - programme) in
      none (joined a (only_gateway t (b ++ c)) (posted t (account.Network t.currency) (user_account t) amount)
      (gateway_only t (b ++ c) (none (joined b c (posted t (user_account t) (account.Programme t.currency) programme) (posted t (user_account t) (account.Gateway t.currency) (amount - programme))))))
    where
      none : {z : ℤ} → z ≤ℤ (pos 0 +ℤ pos 0) → z ≤ℤ pos 0
      none h = omega (arith, ints, h)

  abandoned : (number : ℕ) (t : Txn) (why : Reason) (calls : List CallNow) → Each (λ c. w.closed c.opened.call.0 ≡ w.size c.opened.amount) calls → total (abandoned_calls_entries number t why calls) ≤ℤ pos 0
  abandoned number t why [] known = omega (arith, ints)
  abandoned number t why (c ∷ calls) known =
      less (w.closed c.opened.call.0) (w.size c.opened.amount) (w.over (ask_given_back (call_ask c.opened t))) (total (abandoned_calls_entries (number + 1) t why calls)) known.0 (fair.back (call_ask c.opened t))
      (abandoned (number + 1) t why calls known.1)
    where
      less : (c n u : ℕ) (z : ℤ) → c ≡ n → u ≤ n → z ≤ℤ pos 0 → (neg_ℤ (pos c) +ℤ (pos 0 +ℤ (pos u +ℤ (pos 0 +ℤ z)))) ≤ℤ pos 0
      less c n u z e h k = omega (arith, ints, e, h, k)

  -- acts ----

  module _ (f : Facts) (by : Cause) (at : ℕ) (brought : ℕ) (its_price : (o : Opened) (t : Txn) → IsAskedCall f o t → w.closed o.call.0 ≡ w.size o.amount)
      (all_prices : (token : List ℕ) → Each (λ c. w.closed c.opened.call.0 ≡ w.size c.opened.amount) (asked_calls_of f token))
      (asks : (ask : Ask) → IsOwnAsk f by at ask → w.over (ask_usage ask) + w.size ask.amount ≤ brought)
      (clearing : (t : Txn) (n m when : ℕ) → clears by t.token n ≡ true → m ≤ n → w.over (usage_of t (pos m) (pos 0) when) ≤ brought) where
    abbrev needs : Ask → ℕ
    needs ask = w.size ask.amount

    abbrev left : Stage → ℕ
    left g = left_at brought needs g

    at_stage : (z : ℤ) {g k : Stage} → g ≡ k → z ≤ℤ pos (left k) → z ≤ℤ pos (left g)
    at_stage z e h = subst (λ (g : Stage). z ≤ℤ pos (left g)) (sym e) h

    begun : (u m n : ℕ) → u + m ≤ n → ((pos 0 +ℤ (pos u +ℤ pos 0)) +ℤ pos m) ≤ℤ pos n
    begun u m n h = omega (arith, ints, h)

    more_used : (u m n : ℕ) → u + m ≤ n → ((pos u +ℤ pos 0) +ℤ pos m) ≤ℤ pos n
    more_used u m n h = omega (arith, ints, h)

    below : (z : ℤ) (m n : ℕ) → z ≤ℤ pos m → m ≤ n → (z +ℤ pos 0) ≤ℤ pos n
    below z m n h le = omega (arith, ints, h, le)

    no_more : (z : ℤ) (n : ℕ) → z ≤ℤ pos 0 → (z +ℤ pos 0) ≤ℤ pos n
    no_more z n h = omega (arith, ints, h)

    of_ask : (z x : ℤ) (m : ℕ) → z ≤ℤ x → x ≤ℤ pos m → (z +ℤ pos 0) ≤ℤ pos m
    of_ask z x m h k = omega (arith, ints, h, k)

    one_asked : (m : ℕ) → ((pos m +ℤ pos 0) +ℤ pos 0) ≤ℤ pos m
    one_asked m = omega (arith, ints)

    closed_then : (c m n : ℕ) (z : ℤ) → c ≡ m → z ≤ℤ pos m → ((neg_ℤ (pos c) +ℤ z) +ℤ pos 0) ≤ℤ pos n
    closed_then c m n z e h = omega (arith, ints, e, h)

    failed : (c m n : ℕ) → c ≡ m → ((neg_ℤ (pos c) +ℤ (pos 0 +ℤ pos 0)) +ℤ pos m) ≤ℤ pos n
    failed c m n e = omega (arith, ints, e)

    through : (x y z : ℤ) → x ≤ℤ y → y ≤ℤ z → x ≤ℤ z
    through x y z h k = omega (arith, ints, h, k)

    after_part : (u : ℕ) (x y z : ℤ) → x ≤ℤ y → (pos u +ℤ y) ≤ℤ z → (pos u +ℤ x) ≤ℤ z
    after_part u x y z h k = omega (arith, ints, h, k)

    part_within : (o : Opened) (n : ℕ) → IsFundedPart by o n → n ≤ o.amount
    part_within o n its = less n o.amount (and_parts (o.partial && same_currency its.currency o.currency) (nat_lt n o.amount) its.counts).1
      where
        less : (n m : ℕ) → nat_lt n m ≡ true → n ≤ m
        less n m h = grind (arith, nat_tests)

    excess_within : (n m : ℕ) → n - m ≤ n
    excess_within n m = omega arith

    quiet : (z : ℤ) (n : ℕ) → z ≡ pos 0 → (z +ℤ pos 0) ≤ℤ pos n
    quiet z n e = omega (arith, ints, e)

    act_paid : (g : Stage) (a : Act) → IsMade f by at g a → (total (act_entries a) +ℤ pos (left (stage_after g a))) ≤ℤ pos (left g)
    act_paid g (Begins ask) made = at_stage _ made.from.0 (begun (w.over (ask_usage ask)) (needs ask) brought (asks ask (inl made.from.1)))
    act_paid g (Uses ask) made = at_stage _ made.from.0 (more_used (w.over (ask_usage ask)) (needs ask) brought (asks ask (inr made.from.1)))
    act_paid g (HoldsOwn ask) made =
        at_stage _ made.from.0
        (of_ask (total (act_entries (HoldsOwn ask))) (w.hold (pos ask.amount) +ℤ pos 0) (needs ask) (joined (hold_entries ask.txn part.S ask.amount) (entry.Decided ask.event verdict.Approved ∷ []) (held ask.txn part.S ask.amount) zero_least)
        (through _ _ _ (one (w.hold (pos ask.amount))) (fair.more ask.amount)))
    act_paid g (Asks h product ask) made = at_stage _ made.from.0 (one_asked (needs ask))
    act_paid g (Funds o t) made =
        closed_then (w.closed o.call.0) (w.size o.amount) (left g) (total (funded_ask_entries (call_ask o t) (account.Gateway t.currency) part.G)) (its_price o t made.from.1)
        (through _ _ _ (money t (account.Gateway t.currency) part.G o.amount (entry.Decided o.event verdict.Approved ∷ []) zero_least) (fair.more o.amount))
    act_paid g (FundsPart o t amount) made =
        closed_then (w.closed o.call.0) (w.size o.amount) (left g) (total (part_funded_entries o t amount)) (its_price o t made.from.1)
        (after_part (w.over (rest_given_back o t amount)) _ (w.hold (pos amount)) (pos (w.size o.amount))
        (money t (account.Gateway t.currency) part.G amount (entry.Decided o.event (verdict.Partial t.currency amount) ∷ []) zero_least) (fair.rest o t amount (part_within o amount made.from.2)))
    act_paid g (Refuses o t) made =
        closed_then (w.closed o.call.0) (w.size o.amount) (left g) (total (declined_ask_entries (call_ask o t) reason.GatewayDeclined)) (its_price o t made.from.1) (declined (call_ask o t) reason.GatewayDeclined)
    act_paid g (Fails number o t why) made = failed (w.closed o.call.0) (w.size o.amount) (left g) (its_price o t made.from.1)
    act_paid g (StandsIn number ask when set) made =
        at_stage _ made.from.0
        (stood (total (post_entries ask.txn (account.Programme ask.txn.currency) (user_account ask.txn) ask.amount ++ hold_entries ask.txn part.P ask.amount ++ notice_entry number method.StandIn ask.txn None ask.amount 0 ∷ entry.Decided ask.event verdict.Approved ∷ []))
        (w.hold (pos ask.amount)) (needs ask)
        (money ask.txn (account.Programme ask.txn.currency) part.P ask.amount (notice_entry number method.StandIn ask.txn None ask.amount 0 ∷ entry.Decided ask.event verdict.Approved ∷ []) zero_least) (fair.more ask.amount))
      where
        stood : (z x : ℤ) (m : ℕ) → z ≤ℤ x → x ≤ℤ pos m → ((pos 0 +ℤ z) +ℤ pos 0) ≤ℤ pos m
        stood z x m h k = omega (arith, ints, h, k)
    act_paid g (TurnsDown ask why) made = at_stage _ made.from.0 (of_ask (total (declined_ask_entries ask why)) (pos (needs ask)) (needs ask) (declined ask why) (itself (needs ask)))
      where
        itself : (m : ℕ) → pos m ≤ℤ pos m
        itself m = omega (arith, ints)
    act_paid g (Abandons number t why calls parts) made =
        no_more (total (abandoned_calls_entries number t why calls)) (left g) (abandoned number t why calls (subst (Each (λ c. w.closed c.opened.call.0 ≡ w.size c.opened.amount)) (sym made.from.2) (all_prices t.token)))
    act_paid g (LetsGo t parts amount) made = no_more (total (release_entries t parts amount)) (left g) (released t parts amount made.from.3)
    act_paid g (Clears t parts amount when) made =
        at_stage _ made.from.0
        (below (total (clearing_money_entries t (taken_to_clear parts amount) amount when)) (w.over (usage_of t (pos (amount - in_all (taken_to_clear parts amount))) (pos 0) when)) brought
        (cleared t (taken_to_clear parts amount) amount when) (clearing t amount (amount - in_all (taken_to_clear parts amount)) when made.cause (excess_within amount (in_all (taken_to_clear parts amount)))))
    act_paid g (GivesBack t amount programme) made = no_more (total (give_back_entries t amount programme)) (left g) (given_back t amount programme)
    act_paid g a made = quiet (total (act_entries a)) (left g) refl

    pub uses_paid : ArePaid f by at (use_price w) brought needs
    uses_paid = record { each = act_paid }
