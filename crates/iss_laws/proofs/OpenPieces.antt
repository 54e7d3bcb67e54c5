-- The pieces of a step open no more use than they count.
use Rattle.std.proofs.Common.{◌≡◌, ℕ, ℤ, pos, neg_ℤ, ◌+ℤ◌, ◌+◌, ◌-◌, ◌≤◌, min, Bool, true, false, cond, ◌&&◌, ◌||◌, nat_eq, List, [], ◌∷◌, ◌++◌, map, fold, refl, sym, ap, subst, ◌∙◌, arith}
use Rattle.std.proofs.lemmas.Int.{ints}
use Rattle.std.proofs.lemmas.Bool.Decides.{nat_tests}
use Rattle.std.specs.Prelude.{◌≤ℤ◌}
use Rattle.std.specs.Str.{bytes_eq}
use Rattle.iss_model.specs.declared.account.Account.{Account}
use Rattle.iss_model.specs.declared.account.Account.TheVariants as account
use Rattle.iss_model.specs.declared.account.Part.{Part}
use Rattle.iss_model.specs.declared.account.Part.TheVariants as part
use Rattle.iss_model.specs.declared.call.How.{How}
use Rattle.iss_model.specs.declared.call.Opened.{Opened}
use Rattle.iss_model.specs.declared.call.How.TheVariants as how
use Rattle.iss_model.specs.declared.call.Method.TheVariants as method
use Rattle.iss_model.specs.declared.decision.Reason.{Reason}
use Rattle.iss_model.specs.declared.decision.Verdict.TheVariants as verdict
use Rattle.iss_model.specs.declared.entry.Entry.{Entry}
use Rattle.iss_model.specs.declared.entry.Entry.TheVariants as entry
use Rattle.iss_model.specs.declared.setting.Product.{Product}
use Rattle.iss_model.specs.declared.txn.Txn.{Txn}
use Rattle.iss_model.specs.rules.Activity.{TxnNow, CallNow, is_asked}
use Rattle.iss_model.specs.rules.Asks.{Ask, ask_given_back, ask_usage, call_ask, is_authorization, rest_given_back, usage_of}
use Rattle.iss_model.specs.rules.Pieces.{call_for, clearing_money_entries, Parts, abandoned_call_entries, abandoned_calls_entries, declined_ask_entries, funded_ask_entries, hold_entries, in_all, only_gateway, only_where, part_funded_entries, post_entries, release_entries, taken_to_clear, taken_to_release, unhold_entries, use_return_entries, user_account, void_entry}
use Rattle.iss_model.specs.rules.Facts.{Facts, not_below}
use Rattle.iss_model.specs.state.Cores.{CoreState, after_entry, call_after_close}
use Rattle.iss_model.proofs.Names.{one_name}
use Rattle.iss_state.specs.Stakes.{part_held}
use Rattle.iss_state.specs.Numbers.{CallsNumberedFrom}
use Rattle.iss_acts.proofs.Passing.{EachPasses, both_pass, either_passes, gateway_passes, one_passes, passing, where_passes}
use Rattle.iss_state.specs.Dockets.{Docket, docket_of}
use Rattle.iss_state.specs.Well.{IsAsked}
use Rattle.iss_state.proofs.docket.Abandoning.{asked_in, closings_txns}
use Rattle.iss_state.proofs.docket.Closing.{NumbersGrowFrom, StandsItself, all_stand, asked_after, filtered_grow}
use Rattle.iss_state.proofs.docket.Docketed.{AreSilent, abandoned_docketed, both_silent, post_silent, silent, where_silent}
use Rattle.iss_state.proofs.docket.Lists.{Each}
use Rattle.iss_state.proofs.calls.Staying.{comes_to}
use Rattle.iss_state.proofs.held.Pieces.{HoldsJust, Leaves, amount_of, calm_leaves, its_amount, let_go, post_calm, then_leaves, without}
use Rattle.iss_laws.proofs.OpenUse.{Pays, Within, both_pay, both_within, close_within, free_pays, hold_within, is_free, unhold_within, usage_within, weaker}
use Rattle.iss_laws.proofs.OpenCalls.{Counting, IsCounting, Knows, holds_there, opens}

-- entries without anything to count ----

pub post_free : (t : Txn) (from to : Account) (n : ℕ) → EachPasses is_free (post_entries t from to n)
post_free t from to n = where_passes n (one_passes refl)

-- a transaction is known if the docket is the same
pub knows_after : (s : CoreState) (es : List Entry) (t : Txn) → (fold after_entry s es).holdings.txns ≡ s.holdings.txns → Knows s.holdings.txns t → Knows (fold after_entry s es).holdings.txns t
knows_after s es t same knows = subst (λ (txns : List TxnNow). Knows txns t) (sym same) knows

pub silent_txns : (s : CoreState) (es : List Entry) → AreSilent es → (fold after_entry s es).holdings.txns ≡ s.holdings.txns
silent_txns s es h = ap (λ (d : Docket). d.txns) (comes_to s es [] h.none)

pub silent_calls : (s : CoreState) (es : List Entry) → AreSilent es → (fold after_entry s es).calls ≡ s.calls
silent_calls s es h = ap (λ (d : Docket). d.calls) (comes_to s es [] h.none)

-- letting go ----

min_low : (a b : ℕ) → min a b ≤ b
min_low a b = omega arith

module _ (k : Counting) (counting : IsCounting k) (s : CoreState) (t : Txn) (knows : Knows s.holdings.txns t) where
  -- entries that leave a transaction these parts, within a budget, and put nothing on the docket
  record Frees (es : List Entry) (x : Parts) (more : ℤ) : Type 0 where
    leaves : Leaves s es t.token x
    within : Within k s es more
    quiet : AreSilent es

  nothing_freed : (x : Parts) → HoldsJust s.holdings.parts t.token x → Frees [] x (pos 0)
  nothing_freed x just = record { leaves = record { keeps = tt; just = just }; within = free_pays k counting s [] (passing refl); quiet = silent refl }

  -- a part is let go after others
  frees_part : (xs : List Entry) (p : Part) (n : ℕ) (x : Parts) (a : ℤ) → Frees xs x a → n ≤ amount_of p x
      → Frees (xs ++ unhold_entries t p n) (without p n x) (a +ℤ neg_ℤ (pos (cond (holds_there k t) n 0)))
  frees_part xs p n x a first le =
      let q : CoreState = fold after_entry s xs in
      let there : n ≤ part_held q.holdings.parts t.token p = subst (λ (m : ℕ). n ≤ m) (sym (ap not_below (its_amount q.holdings.parts t.token p x first.leaves.just))) le in
      record {
        leaves = then_leaves s xs (unhold_entries t p n) t.token x (without p n x) first.leaves (let_go q t p n x le first.leaves.just);
        within = both_within k s xs (unhold_entries t p n) a (neg_ℤ (pos (cond (holds_there k t) n 0))) first.within
            (unhold_within k counting q t p n (knows_after s xs t (silent_txns s xs first.quiet) knows) there);
        quiet = both_silent first.quiet (where_silent n (silent refl));
      }

  -- and a post follows
  frees_post : (xs : List Entry) (from to : Account) (n : ℕ) (x : Parts) (a : ℤ) → Frees xs x a → Frees (xs ++ post_entries t from to n) x (a +ℤ pos 0)
  frees_post xs from to n x a first =
      let post : List Entry = post_entries t from to n in
      record {
        leaves = then_leaves s xs post t.token x x first.leaves (calm_leaves (fold after_entry s xs) post t.token x (post_calm t from to n) first.leaves.just);
        within = both_within k s xs post a (pos 0) first.within (free_pays k counting (fold after_entry s xs) post (post_free t from to n));
        quiet = both_silent first.quiet (post_silent t from to n);
      }

  -- use of an amount, if there is any
  some_use : (q : CoreState) (n at : ℕ) (z more : ℤ) → pos 0 ≤ℤ more → neg_ℤ (cond (k.counts_at t at) (cond k.by_amount z (pos 0)) (pos 0)) ≤ℤ more
      → Within k q (only_where n (entry.Usage (usage_of t z (pos 0) at) ∷ [])) more
  some_use q n at z more low counted = by (nat_eq n 0)
    where
      by : (b : Bool) → Within k q (cond b [] (entry.Usage (usage_of t z (pos 0) at) ∷ [])) more
      by true = weaker k q [] (pos 0) more low (free_pays k counting q [] (passing refl))
      by false =
          weaker k q (entry.Usage (usage_of t z (pos 0) at) ∷ []) (neg_ℤ (cond (k.counts_at t at) (cond k.by_amount z (pos 0)) (pos 0))) more counted (usage_within k counting q t z (pos 0) at)

  pub release_pays : (x : Parts) (amount : ℕ) → amount ≤ in_all x → HoldsJust s.holdings.parts t.token x → Pays k s (release_entries t x amount)
  release_pays x amount le just =
      let taken : Parts = taken_to_release x amount in
      let one : Parts = without part.P taken.p x in
      let two : Parts = without part.G taken.g one in
      let n : ℕ = cond (holds_there k t) amount 0 in
      let first = frees_post _ (user_account t) (account.Programme t.currency) taken.p one _ (frees_part [] part.P taken.p x (pos 0) (nothing_freed x just) (min_low amount x.p)) in
      let second = frees_post _ (user_account t) (account.Gateway t.currency) taken.g two _ (frees_part _ part.G taken.g one _ first (min_low (amount - taken.p) x.g)) in
      let third = frees_part _ part.S taken.s two _ second (min_low (amount - taken.p - taken.g) x.s) in
      weaker k s (release_entries t x amount) (neg_ℤ (pos n) +ℤ pos n) (pos 0) (omega (arith, ints))
      (both_within k s _ (use_return_entries t amount) (neg_ℤ (pos n)) (pos n)
      (weaker k s _ _ (neg_ℤ (pos n)) (freed_in_all (holds_there k t) taken.p taken.g taken.s amount (omega (arith, le))) third.within)
      (some_use _ amount t.at (neg_ℤ (pos amount)) (pos n) (omega (arith, ints)) (given k.by_amount (k.counts_at t t.at) amount)))
    where
      freed_in_all : (b : Bool) (x y z n : ℕ) → x + y + z ≡ n
          → (((((pos 0 +ℤ neg_ℤ (pos (cond b x 0))) +ℤ pos 0) +ℤ neg_ℤ (pos (cond b y 0))) +ℤ pos 0) +ℤ neg_ℤ (pos (cond b z 0))) ≤ℤ neg_ℤ (pos (cond b n 0))
      freed_in_all true x y z n e = omega (arith, ints, e)
      freed_in_all false x y z n e = omega (arith, ints)

      given : (m c : Bool) (n : ℕ) → neg_ℤ (cond c (cond m (neg_ℤ (pos n)) (pos 0)) (pos 0)) ≤ℤ pos (cond (m && c) n 0)
      given true true n = omega (arith, ints)
      given true false n = omega (arith, ints)
      given false true n = omega (arith, ints)
      given false false n = omega (arith, ints)

  pub clearing_pays : (x : Parts) (amount at : ℕ) → HoldsJust s.holdings.parts t.token x → Pays k s (clearing_money_entries t (taken_to_clear x amount) amount at)
  clearing_pays x amount at just =
      let taken : Parts = taken_to_clear x amount in
      let excess : ℕ = amount - in_all taken in
      let one : Parts = without part.G taken.g x in
      let two : Parts = without part.P taken.p one in
      let abc : List Entry = unhold_entries t part.G taken.g ++ unhold_entries t part.P taken.p ++ unhold_entries t part.S taken.s in
      let paid : List Entry = only_gateway t (post_entries t (account.Programme t.currency) (user_account t) excess) in
      let network : List Entry = post_entries t (user_account t) (account.Network t.currency) amount in
      let first = frees_part [] part.G taken.g x (pos 0) (nothing_freed x just) (min_low amount x.g) in
      let second = frees_part _ part.P taken.p one _ first (min_low (amount - taken.g) x.p) in
      let third = frees_part _ part.S taken.s two _ second (min_low (amount - taken.g - taken.p) x.s) in
      both_pay k s (abc ++ paid ++ network) (only_where excess (entry.Usage (usage_of t (pos excess) (pos 0) at) ∷ []))
      (both_pay k s (abc ++ paid) network
      (both_pay k s abc paid
      (weaker k s abc _ (pos 0) (omega (arith, ints)) third.within)
      (free_pays k counting _ paid (gateway_passes t (post_free t (account.Programme t.currency) (user_account t) excess))))
      (free_pays k counting _ network (post_free t (user_account t) (account.Network t.currency) amount)))
      (some_use _ excess at (pos excess) (pos 0) none (counted (k.counts_at t at) k.by_amount excess))
    where
      none : pos 0 ≤ℤ pos 0
      none = omega (arith, ints)

      counted : (c m : Bool) (n : ℕ) → neg_ℤ (cond c (cond m (pos n) (pos 0)) (pos 0)) ≤ℤ pos 0
      counted true true n = omega (arith, ints)
      counted true false n = omega (arith, ints)
      counted false m n = omega (arith, ints)

-- calls are abandoned ----

-- a call that is asked, by its own number
abbrev pub AsksItself : List CallNow → CallNow → Type 0
AsksItself calls c = IsAsked calls c.opened.call.0 c

later_asked : (n : ℕ) (how : How) (calls : List CallNow) (m : ℕ) (cs : List CallNow) → n + 1 ≤ m → NumbersGrowFrom m cs → Each (AsksItself calls) cs
    → Each (AsksItself (map (call_after_close n how) calls)) cs
later_asked n how calls m [] less grow asked = tt
later_asked n how calls m (c ∷ cs) less grow asked = (
  asked_after calls n how c.opened.call.0 c asked.0 (differ n c.opened.call.0 m less grow.0),
  later_asked n how calls (c.opened.call.0 + 1) cs (omega (arith, less, grow.0)) grow.1 asked.1,
)
  where
    differ : (a b n : ℕ) → a + 1 ≤ n → n ≤ b → nat_eq a b ≡ false
    differ a b n h k = grind (arith, nat_tests)

-- what is returned with a call or an ask is what it may open
given_back : (c y m f : Bool) (n : ℕ) → neg_ℤ (cond c (cond m (neg_ℤ (pos n)) (neg_ℤ (cond f (pos 1) (pos 0)))) (pos 0)) ≤ℤ pos (cond (c || y) (cond m n (cond f 1 0)) 0)
given_back true y true f n = omega (arith, ints)
given_back true y false true n = omega (arith, ints)
given_back true y false false n = omega (arith, ints)
given_back false y m f n = omega (arith, ints)

pub given_back_within : (k : Counting) → IsCounting k → (s : CoreState) (ask : Ask) → Within k s (entry.Usage (ask_given_back ask) ∷ []) (pos (opens k ask))
given_back_within k counting s ask =
    weaker k s (entry.Usage (ask_given_back ask) ∷ []) (neg_ℤ (cond (k.counts_at ask.txn ask.at) (cond k.by_amount (neg_ℤ (pos ask.amount)) (neg_ℤ (cond ask.is_first (pos 1) (pos 0)))) (pos 0))) (pos (opens k ask))
    (given_back (k.counts_at ask.txn ask.at) (k.counts_at ask.txn ask.txn.at) k.by_amount ask.is_first ask.amount)
    (usage_within k counting s ask.txn (neg_ℤ (pos ask.amount)) (neg_ℤ (cond ask.is_first (pos 1) (pos 0))) ask.at)

pub abandoned_pays : (k : Counting) → IsCounting k → (s : CoreState) (number : ℕ) (t : Txn) (why : Reason) (cs : List CallNow) (n : ℕ) → NumbersGrowFrom n cs → Each (AsksItself s.calls) cs
    → Each (λ c. c.opened.txn ≡ t.token) cs → Knows s.holdings.txns t → Pays k s (abandoned_calls_entries number t why cs)
abandoned_pays k counting s number t why [] n grow asked its knows = free_pays k counting s [] (passing refl)
abandoned_pays k counting s number t why (c ∷ cs) n grow asked its knows =
    let closed : List Entry = entry.Closed c.opened.call how.Abandoned ∷ [] in
    let told : List Entry = void_entry number t c.opened ∷ [] in
    let back : List Entry = entry.Usage (ask_given_back (call_ask c.opened t)) ∷ [] in
    let decided : List Entry = entry.Decided c.opened.event (verdict.Declined why) ∷ [] in
    let amount : ℕ = opens k (call_ask c.opened t) in
    let first = close_within k counting s c.opened.call.0 c t how.Abandoned knows its.0 asked.0 in
    let second = both_within k s closed told (neg_ℤ (pos amount)) (pos 0) first (free_pays k counting (fold after_entry s closed) told (one_passes refl)) in
    let third = both_within k s (closed ++ told) back (neg_ℤ (pos amount) +ℤ pos 0) (pos amount) second (given_back_within k counting (fold after_entry s (closed ++ told)) (call_ask c.opened t)) in
    let fourth = both_within k s (closed ++ told ++ back) decided ((neg_ℤ (pos amount) +ℤ pos 0) +ℤ pos amount) (pos 0) third (free_pays k counting (fold after_entry s (closed ++ told ++ back)) decided (one_passes refl)) in
    both_pay k s (abandoned_call_entries number t why c.opened) (abandoned_calls_entries (number + 1) t why cs)
    (weaker k s (abandoned_call_entries number t why c.opened) _ (pos 0) (omega (arith, ints)) fourth)
    (abandoned_pays k counting (fold after_entry s (abandoned_call_entries number t why c.opened)) (number + 1) t why cs (c.opened.call.0 + 1) grow.1
    (later_asked c.opened.call.0 how.Abandoned s.calls (c.opened.call.0 + 1) cs (omega arith) grow.1 asked.1) its.1 knows)

pub abandoned_txns : (s : CoreState) (number : ℕ) (t : Txn) (why : Reason) (cs : List CallNow) → (fold after_entry s (abandoned_calls_entries number t why cs)).holdings.txns ≡ s.holdings.txns
abandoned_txns s number t why cs = ap (λ (d : Docket). d.txns) (comes_to s (abandoned_calls_entries number t why cs) _ (abandoned_docketed number t why cs)) ∙ closings_txns why cs (docket_of s)

-- the asked calls of a transaction ask, and are its own
filtered_asked : (calls : List CallNow) (token : List ℕ) (xs : List CallNow) → Each (StandsItself calls) xs → Each (AsksItself calls) (asked_in xs token)
filtered_asked calls token [] h = tt
filtered_asked calls token (x ∷ xs) h = by (is_asked x) (bytes_eq x.opened.txn token) refl h.0 (filtered_asked calls token xs h.1)
  where
    by : (a b : Bool) → is_asked x ≡ a → StandsItself calls x → Each (AsksItself calls) (asked_in xs token) → Each (AsksItself calls) (cond (a && b) (x ∷ asked_in xs token) (asked_in xs token))
    by true true e stands rest = (record { stands = stands; asked = e }, rest)
    by true false e stands rest = rest
    by false b e stands rest = rest

filtered_its : (token : List ℕ) (xs : List CallNow) → Each (λ c. c.opened.txn ≡ token) (asked_in xs token)
filtered_its token [] = tt
filtered_its token (x ∷ xs) = by (is_asked x) (bytes_eq x.opened.txn token) refl (filtered_its token xs)
  where
    by : (a b : Bool) → bytes_eq x.opened.txn token ≡ b → Each (λ c. c.opened.txn ≡ token) (asked_in xs token) → Each (λ c. c.opened.txn ≡ token) (cond (a && b) (x ∷ asked_in xs token) (asked_in xs token))
    by true true e rest = (one_name x.opened.txn token e, rest)
    by true false e rest = rest
    by false b e rest = rest

-- the calls of a transaction that are asked at a moment are abandoned in a state with those calls
pub abandonment_pays : (k : Counting) → IsCounting k → (s : CoreState) (number : ℕ) (t : Txn) (why : Reason) (calls : List CallNow) → s.calls ≡ calls → CallsNumberedFrom 1 calls → Knows s.holdings.txns t
    → Pays k s (abandoned_calls_entries number t why (asked_in calls t.token))
abandonment_pays k counting s number t why calls same numbers knows =
    abandoned_pays k counting s number t why (asked_in calls t.token) 1 (filtered_grow (λ (c : CallNow). is_asked c && bytes_eq c.opened.txn t.token) 1 calls numbers)
    (subst (λ (xs : List CallNow). Each (AsksItself xs) (asked_in calls t.token)) (sym same) (filtered_asked calls t.token calls (all_stand calls numbers)))
    (filtered_its t.token calls) knows

-- asks ----

-- money that is held is within what the ask may open
held_for : (k : Counting) (ask : Ask) → pos (cond (holds_there k ask.txn) ask.amount 0) ≤ℤ pos (opens k ask)
held_for k ask = by k.by_amount (k.counts_at ask.txn ask.txn.at) (k.counts_at ask.txn ask.at) ask.amount (cond ask.is_first 1 0)
  where
    by : (m y x : Bool) (n z : ℕ) → pos (cond (m && y) n 0) ≤ℤ pos (cond (x || y) (cond m n z) 0)
    by true true true n z = omega (arith, ints)
    by true true false n z = omega (arith, ints)
    by true false x n z = omega (arith, ints)
    by false y x n z = omega (arith, ints)

pub hold_for : (k : Counting) → IsCounting k → (s : CoreState) (ask : Ask) (p : Part) → Knows s.holdings.txns ask.txn → Within k s (hold_entries ask.txn p ask.amount) (pos (opens k ask))
hold_for k counting s ask p knows =
    weaker k s (hold_entries ask.txn p ask.amount) (pos (cond (holds_there k ask.txn) ask.amount 0)) (pos (opens k ask)) (held_for k ask) (hold_within k counting s ask.txn p ask.amount knows)

-- free entries before, and after
pub free_first : (k : Counting) → IsCounting k → (s : CoreState) (xs ys : List Entry) (n : ℕ) → EachPasses is_free xs → Within k (fold after_entry s xs) ys (pos n) → Within k s (xs ++ ys) (pos n)
free_first k counting s xs ys n free h = weaker k s (xs ++ ys) (pos 0 +ℤ pos n) (pos n) (omega (arith, ints)) (both_within k s xs ys (pos 0) (pos n) (free_pays k counting s xs free) h)

pub free_last : (k : Counting) → IsCounting k → (s : CoreState) (xs ys : List Entry) (n : ℕ) → Within k s xs (pos n) → EachPasses is_free ys → Within k s (xs ++ ys) (pos n)
free_last k counting s xs ys n h free =
    weaker k s (xs ++ ys) (pos n +ℤ pos 0) (pos n) (omega (arith, ints)) (both_within k s xs ys (pos n) (pos 0) h (free_pays k counting (fold after_entry s xs) ys free))

pub paid_within : (k : Counting) → IsCounting k → (s : CoreState) (ask : Ask) (from : Account) (p : Part) → Knows s.holdings.txns ask.txn
    → Within k s (post_entries ask.txn from (user_account ask.txn) ask.amount ++ hold_entries ask.txn p ask.amount) (pos (opens k ask))
paid_within k counting s ask from p knows =
    let post : List Entry = post_entries ask.txn from (user_account ask.txn) ask.amount in
    free_first k counting s post (hold_entries ask.txn p ask.amount) (opens k ask) (post_free ask.txn from (user_account ask.txn) ask.amount)
    (hold_for k counting (fold after_entry s post) ask p (knows_after s post ask.txn (silent_txns s post (post_silent ask.txn from (user_account ask.txn) ask.amount)) knows))

pub funded_within : (k : Counting) → IsCounting k → (s : CoreState) (ask : Ask) (from : Account) (p : Part) → Knows s.holdings.txns ask.txn → Within k s (funded_ask_entries ask from p) (pos (opens k ask))
funded_within k counting s ask from p knows =
    free_last k counting s (post_entries ask.txn from (user_account ask.txn) ask.amount ++ hold_entries ask.txn p ask.amount) (entry.Decided ask.event verdict.Approved ∷ []) (opens k ask)
    (paid_within k counting s ask from p knows) (one_passes refl)

-- the use of the rest comes back, and the part is held: together no more than the call might open
part_enough : (x y m f : Bool) (n funded : ℕ) → funded ≤ n
    → (neg_ℤ (cond x (cond m (neg_ℤ (pos (n - funded))) (pos 0)) (pos 0)) +ℤ pos (cond (m && y) funded 0)) ≤ℤ pos (cond (x || y) (cond m n (cond f 1 0)) 0)
part_enough true true true f n funded h = omega (arith, ints, h)
part_enough true false true f n funded h = omega (arith, ints, h)
part_enough false true true f n funded h = omega (arith, ints, h)
part_enough false false true f n funded h = omega (arith, ints)
part_enough true y false true n funded h = omega (arith, ints)
part_enough true y false false n funded h = omega (arith, ints)
part_enough false true false true n funded h = omega (arith, ints)
part_enough false true false false n funded h = omega (arith, ints)
part_enough false false false f n funded h = omega (arith, ints)

pub part_funded_within : (k : Counting) → IsCounting k → (s : CoreState) (o : Opened) (t : Txn) (funded : ℕ) → funded ≤ o.amount → Knows s.holdings.txns t
    → Within k s (part_funded_entries o t funded) (pos (opens k (call_ask o t)))
part_funded_within k counting s o t funded le knows =
    let back : List Entry = entry.Usage (rest_given_back o t funded) ∷ [] in
    let post : List Entry = post_entries t (account.Gateway t.currency) (user_account t) funded in
    let hold : List Entry = hold_entries t part.G funded in
    let decided : List Entry = entry.Decided o.event (verdict.Partial t.currency funded) ∷ [] in
    let later : CoreState = fold after_entry s back in
    let returned : ℤ = neg_ℤ (cond (k.counts_at t o.at) (cond k.by_amount (neg_ℤ (pos (o.amount - funded))) (pos 0)) (pos 0)) in
    let held : ℕ = cond (holds_there k t) funded 0 in
    weaker k s (part_funded_entries o t funded) (returned +ℤ pos held) (pos (opens k (call_ask o t)))
    (part_enough (k.counts_at t o.at) (k.counts_at t t.at) k.by_amount (is_authorization o.method) o.amount funded le)
    (both_within k s back (post ++ hold ++ decided) returned (pos held)
    (usage_within k counting s t (neg_ℤ (pos (o.amount - funded))) (pos 0) o.at)
    (free_last k counting later (post ++ hold) decided held
    (free_first k counting later post hold held (post_free t (account.Gateway t.currency) (user_account t) funded)
    (hold_within k counting (fold after_entry later post) t part.G funded (knows_after later post t (silent_txns later post (post_silent t (account.Gateway t.currency) (user_account t) funded)) knows)))
    (one_passes refl)))

pub declined_within : (k : Counting) → IsCounting k → (s : CoreState) (ask : Ask) (why : Reason) → Within k s (declined_ask_entries ask why) (pos (opens k ask))
declined_within k counting s ask why =
    free_last k counting s (entry.Usage (ask_given_back ask) ∷ []) (cond ask.is_first (entry.Ended ask.txn.token ∷ []) [] ++ entry.Decided ask.event (verdict.Declined why) ∷ []) (opens k ask)
    (given_back_within k counting s ask) (both_pass (either_passes ask.is_first (one_passes refl) (passing refl)) (one_passes refl))

-- funding is sought ----

pub asked_again : (product : Product) (f : Facts) (ask : Ask) → call_ask (call_for f product ask) ask.txn ≡ ask
asked_again product f ask = ap (λ (b : Bool). record { event = ask.event; txn = ask.txn; amount = ask.amount; is_first = b; partial = ask.partial; at = ask.at }) (by ask.is_first)
  where
    by : (b : Bool) → is_authorization (cond b method.Authorization method.Incremental) ≡ b
    by true = refl
    by false = refl

-- use is counted with an ask, if its stamp counts whenever its transaction's does
asked_enough : (x y m f : Bool) (n : ℕ) → (y ≡ true → x ≡ true) → (neg_ℤ (cond x (cond m (pos n) (cond f (pos 1) (pos 0))) (pos 0)) +ℤ pos (cond (x || y) (cond m n (cond f 1 0)) 0)) ≤ℤ pos 0
asked_enough true y true f n h = omega (arith, ints)
asked_enough true y false true n h = omega (arith, ints)
asked_enough true y false false n h = omega (arith, ints)
asked_enough false true m f n h = let bad : false ≡ true = h refl in cc
asked_enough false false m f n h = omega (arith, ints)

-- an ask is counted with what it may open
pub ask_within : (k : Counting) → IsCounting k → (s : CoreState) (ask : Ask) → (k.counts_at ask.txn ask.txn.at ≡ true → k.counts_at ask.txn ask.at ≡ true)
    → Within k s (entry.Usage (ask_usage ask) ∷ []) (neg_ℤ (pos (opens k ask)))
ask_within k counting s ask later =
    let counted : ℤ = cond (k.counts_at ask.txn ask.at) (cond k.by_amount (pos ask.amount) (cond ask.is_first (pos 1) (pos 0))) (pos 0) in
    weaker k s (entry.Usage (ask_usage ask) ∷ []) (neg_ℤ counted) (neg_ℤ (pos (opens k ask)))
    (omega (arith, ints, asked_enough (k.counts_at ask.txn ask.at) (k.counts_at ask.txn ask.txn.at) k.by_amount ask.is_first ask.amount later))
    (usage_within k counting s ask.txn (pos ask.amount) (cond ask.is_first (pos 1) (pos 0)) ask.at)
