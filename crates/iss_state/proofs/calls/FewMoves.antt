-- What entries that may come in their turn do to the calls and to the notices in sight.
use Rattle.std.proofs.Common.{◌≡◌, ℕ, ◌+◌, ◌*◌, ◌≤◌, Bool, true, false, cond, nat_eq, List, [], ◌∷◌, ◌++◌, length, map, filter, fold, refl, sym, ap, ◌∙◌, arith}
use Rattle.std.specs.Prelude.{Option, Some, None, find}
use Rattle.std.specs.List.{sum_by}
use Rattle.std.specs.Str.{bytes_eq}
use Rattle.std.proofs.lemmas.List.{length-append, length-map}
use Rattle.std.proofs.lemmas.List.Sums.{length-filter, sum_by-cons}
use Rattle.iss_model.specs.declared.call.How.{How}
use Rattle.iss_model.specs.declared.entry.Entry.{Entry}
use Rattle.iss_model.specs.declared.entry.Entry.TheVariants as entry
use Rattle.iss_model.specs.declared.input.Input.{Input}
use Rattle.iss_model.specs.declared.input.Input.TheVariants as input
use Rattle.iss_model.specs.declared.setting.Moved.TheVariants as who
use Rattle.iss_model.specs.rules.Activity.{TxnNow, CallNow, txn_named, is_asked}
use Rattle.iss_model.specs.rules.Reasons.{is_some_with}
use Rattle.iss_model.specs.state.Cores.{CoreState, is_live, txn_after_end, call_after_close, after_setting, after_entry}
use Rattle.iss_model.proofs.Names.{same_name}
use Rattle.iss_state.proofs.effects.Effects.{setting_calls}
use Rattle.iss_state.proofs.effects.Finds.{same_number}
use Rattle.iss_state.specs.Allowed.{IsAllowed}
use Rattle.iss_state.specs.Dockets.{docket_of}
use Rattle.iss_state.specs.Well.{IsAsked, has_live}
use Rattle.iss_state.proofs.docket.Closing.{its_number, own_closed, stays_closed}
use Rattle.iss_state.specs.Few.{HasFewNumbers, HasNoFewer, notices_in_sight}
use Rattle.iss_state.specs.Pending.{AreAllowed}
use Rattle.iss_state.proofs.calls.Due.{its_token}

-- counts ----

with_first : {A : Type 0} (p : A → Bool) (x : A) (xs : List A) → length (filter p (x ∷ xs)) ≡ cond (p x) 1 0 + length (filter p xs)
with_first {A} p x xs = omega (arith, length-filter p (x ∷ xs), length-filter p xs, sum_by-cons (λ (y : A). cond (p y) 1 0) x xs)

-- one more element counts at most once
count_more : {A : Type 0} (p : A → Bool) (xs : List A) (x : A) → length (filter p (xs ++ x ∷ [])) ≤ length (filter p xs) + 1
count_more p [] x = omega (arith, with_first p x [], at_most_one (p x))
  where
    at_most_one : (b : Bool) → cond b 1 0 ≤ 1
    at_most_one true = omega arith
    at_most_one false = omega arith
count_more p (y ∷ ys) x = omega (arith, with_first p y ys, with_first p y (ys ++ x ∷ []), count_more p ys x)

-- a test that passes only if another does
ones : (a b : Bool) → (a ≡ false → b ≡ false) → cond b 1 0 ≤ cond a 1 0
ones true true h = omega arith
ones true false h = omega arith
ones false true h = let bad : true ≡ false = h refl in cc
ones false false h = omega arith

one_less : (a b : Bool) → a ≡ true → b ≡ false → cond b 1 0 + 1 ≤ cond a 1 0
one_less true false h k = omega arith
one_less true true h k = cc
one_less false b h k = cc

-- what passes after a change passed before it
count_lower : {A : Type 0} (p : A → Bool) (f : A → A) → ((x : A) → p x ≡ false → p (f x) ≡ false) → (xs : List A) → length (filter p (map f xs)) ≤ length (filter p xs)
count_lower p f stays [] = omega arith
count_lower p f stays (x ∷ xs) = omega (arith, with_first p x xs, with_first p (f x) (map f xs), ones (p x) (p (f x)) (stays x), count_lower p f stays xs)

-- what is found passed and doesn't any more
count_gone : {A : Type 0} (p q : A → Bool) (f : A → A) → ((x : A) → p x ≡ false → p (f x) ≡ false) → (xs : List A) (c : A) → find q xs ≡ Some c → p c ≡ true
    → p (f c) ≡ false → length (filter p (map f xs)) + 1 ≤ length (filter p xs)
count_gone p q f stays [] c e passes gone = cc
count_gone {A} p q f stays (x ∷ xs) c e passes gone = by (q x) e (λ later. count_gone p q f stays xs c later passes gone)
  where
    by : (b : Bool) → cond b (Some x) (find q xs) ≡ Some c → (find q xs ≡ Some c → length (filter p (map f xs)) + 1 ≤ length (filter p xs))
        → length (filter p (map f (x ∷ xs))) + 1 ≤ length (filter p (x ∷ xs))
    by true e later =
        let same : x ≡ c = cc in
        let less : cond (p (f x)) 1 0 + 1 ≤ cond (p x) 1 0 = one_less (p x) (p (f x)) (ap p same ∙ passes) (ap (λ (y : A). p (f y)) same ∙ gone) in
        omega (arith, with_first p x xs, with_first p (f x) (map f xs), less, count_lower p f stays xs)
    by false e later = omega (arith, with_first p x xs, with_first p (f x) (map f xs), ones (p x) (p (f x)) (stays x), later e)

-- an asked call is closed, and a live transaction ends ----

one_asked_less : (calls : List CallNow) (n : ℕ) (how : How) (c : CallNow) → IsAsked calls n c
    → length (filter is_asked (map (call_after_close n how) calls)) + 1 ≤ length (filter is_asked calls)
one_asked_less calls n how c now =
    count_gone is_asked (λ (c : CallNow). nat_eq c.opened.call.0 n) (call_after_close n how) (λ c closed. ap is_asked (stays_closed n how c closed) ∙ closed) calls c now.stands now.asked
    (own_closed n how c (ap (nat_eq n) (its_number calls n c now.stands) ∙ same_number n))

ended_stays : (token : List ℕ) (t : TxnNow) → t.live ≡ false → (txn_after_end token t).live ≡ false
ended_stays token t ended = by (bytes_eq token t.txn.token)
  where
    by : (b : Bool) → (cond b (record t { live = false }) t).live ≡ false
    by true = refl
    by false = ended

one_live_less : (txns : List TxnNow) (token : List ℕ) → has_live txns token ≡ true
    → length (filter (λ t. t.live) (map (txn_after_end token) txns)) + 1 ≤ length (filter (λ t. t.live) txns)
one_live_less txns token live = by (txn_named token txns) refl live
  where
    ended : (t : TxnNow) → t.txn.token ≡ token → (txn_after_end token t).live ≡ false
    ended t e = ap (λ (b : Bool). (cond b (record t { live = false }) t).live) (same_name token t.txn.token (sym e))

    by : (o : Option TxnNow) → txn_named token txns ≡ o → is_some_with (λ t. t.live) o ≡ true
        → length (filter (λ t. t.live) (map (txn_after_end token) txns)) + 1 ≤ length (filter (λ t. t.live) txns)
    by None e h = cc
    by (Some t) e h =
        count_gone (λ (t : TxnNow). t.live) (λ (t : TxnNow). bytes_eq t.txn.token token) (txn_after_end token) (ended_stays token) txns t e h (ended t (its_token txns token t e))

-- one entry ----

-- the calls that an entry opens
abbrev pub opened_by : Entry → ℕ
opened_by (entry.Opened o) = 1
opened_by _ = 0

-- the notices that an entry brings in sight
abbrev pub brought_by : Entry → ℕ
brought_by (entry.Began t) = 1
brought_by (entry.Opened o) = 2
brought_by (entry.Notice notice) = 1
brought_by _ = 0

-- the notices that an entry takes from sight
abbrev pub taken_by : Entry → ℕ
taken_by (entry.Closed call how) = 2
taken_by (entry.Ended txn) = 1
taken_by _ = 0

-- what an entry that may come does
record Moves (s : CoreState) (e : Entry) : Type 0 where
  calls : length (after_entry s e).calls ≡ length s.calls + opened_by e
  notices : notices_in_sight (after_entry s e) + taken_by e ≤ notices_in_sight s + brought_by e

setting_in_sight : (s : CoreState) (i : Input) → notices_in_sight (after_setting s i) ≡ notices_in_sight s
setting_in_sight s (input.Move token (who.Card card to)) = refl
setting_in_sight s (input.Move token (who.User user to)) = refl
setting_in_sight s _ = refl

entry_moves : (s : CoreState) (e : Entry) → IsAllowed (docket_of s) e → Moves s e
entry_moves s (entry.Conf i) allowed = record { calls = omega (arith, ap length (setting_calls s i)); notices = omega (arith, setting_in_sight s i) }
entry_moves s (entry.Began t) allowed =
    record {
      calls = omega arith;
      notices = omega (arith, count_more (λ (t : TxnNow). t.live) s.holdings.txns (record { txn = t; live = is_live s.holdings.txns t.token }));
    }
entry_moves s (entry.Opened o) allowed =
    record {
      calls = omega (arith, length-append s.calls (record { opened = o; how = None } ∷ []));
      notices = omega (arith, count_more is_asked s.calls (record { opened = o; how = None }));
    }
entry_moves s (entry.Closed call how) allowed =
    record {
      calls = omega (arith, length-map s.calls (call_after_close call.0 how));
      notices = omega (arith, one_asked_less s.calls call.0 how allowed.its allowed.asked);
    }
entry_moves s (entry.Ended txn) allowed = record { calls = omega arith; notices = omega (arith, one_live_less s.holdings.txns txn allowed.its_live) }
entry_moves s (entry.Notice notice) allowed = record { calls = omega arith; notices = omega arith }
entry_moves s (entry.Decided event verdict) allowed = record { calls = omega arith; notices = omega arith }
entry_moves s _ allowed = record { calls = omega arith; notices = omega arith }

-- all entries ----

-- what entries that may come in their turn do
record AllMove (s : CoreState) (es : List Entry) : Type 0 where
  calls : length (fold after_entry s es).calls ≡ length s.calls + sum_by opened_by es
  notices : notices_in_sight (fold after_entry s es) + sum_by taken_by es ≤ notices_in_sight s + sum_by brought_by es

all_move : (s : CoreState) (es : List Entry) → AreAllowed s es → AllMove s es
all_move s [] allowed = record { calls = omega arith; notices = omega arith }
all_move s (e ∷ es) allowed =
    let first = entry_moves s e allowed.0 in
    let rest = all_move (after_entry s e) es allowed.1 in
    record {
      calls = omega (arith, sum_by-cons opened_by e es, first.calls, rest.calls);
      notices = omega (arith, sum_by-cons brought_by e es, sum_by-cons taken_by e es, first.notices, rest.notices);
    }

-- What a list costs. It opens at most this many calls, brings this many notices in sight, and takes that many more from it than it brings.
pub record CostsBy {A : Type 0} (opened brought taken : A → ℕ) (xs : List A) (most up down : ℕ) : Type 0 where
  pub calls : sum_by opened xs ≤ most
  pub notices : sum_by brought xs + down ≤ sum_by taken xs + up

-- what entries cost
abbrev pub Costs : List Entry → ℕ → ℕ → ℕ → Type 0
Costs es most up down = CostsBy opened_by brought_by taken_by es most up down

-- after entries of these costs, records have made few enough numbers
pub few_after : (n m most up : ℕ) (s : CoreState) (es : List Entry) → n + most ≤ m → 4 * n + up ≤ 4 * m → AreAllowed s es → Costs es most up 0 → HasFewNumbers n s
    → HasFewNumbers m (fold after_entry s es)
few_after n m most up s es calls notices allowed costs few =
    let move = all_move s es allowed in
    record { calls = omega (arith, move.calls, costs.calls, few.calls, calls); notices = omega (arith, move.notices, costs.notices, few.notices, notices) }

-- no number is lost ----

none_fewer : (s : CoreState) (i : Input) → HasNoFewer s (after_setting s i)
none_fewer s (input.Move token (who.Card card to)) = record { calls = omega arith; notices = omega arith }
none_fewer s (input.Move token (who.User user to)) = record { calls = omega arith; notices = omega arith }
none_fewer s _ = record { calls = omega arith; notices = omega arith }

entry_no_fewer : (s : CoreState) (e : Entry) → HasNoFewer s (after_entry s e)
entry_no_fewer s (entry.Conf i) = none_fewer s i
entry_no_fewer s (entry.Opened o) = record { calls = omega (arith, length-append s.calls (record { opened = o; how = None } ∷ [])); notices = omega arith }
entry_no_fewer s (entry.Closed call how) = record { calls = omega (arith, length-map s.calls (call_after_close call.0 how)); notices = omega arith }
entry_no_fewer s (entry.Notice notice) = record { calls = omega arith; notices = omega arith }
entry_no_fewer s _ = record { calls = omega arith; notices = omega arith }

pub no_fewer : (s : CoreState) (es : List Entry) → HasNoFewer s (fold after_entry s es)
no_fewer s [] = record { calls = omega arith; notices = omega arith }
no_fewer s (e ∷ es) =
    let first = entry_no_fewer s e in
    let rest = no_fewer (after_entry s e) es in
    record { calls = omega (arith, first.calls, rest.calls); notices = omega (arith, first.notices, rest.notices) }
