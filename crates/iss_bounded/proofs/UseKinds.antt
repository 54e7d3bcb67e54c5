-- What is counted of amounts and of times, upwards and downwards, and what it weighs.
use Rattle.std.proofs.Common.{◌≡◌, ◌+◌, ◌+ℤ◌, ◌-◌, ◌∷◌, ◌≤◌, ℕ, ℤ, pos, negsuc, neg_ℤ, ap, arith, Bool, cond, List, [], nat_eq, refl, subst, suc, sym, true, false, zero}
use Rattle.std.specs.Prelude.{◌≤ℤ◌}
use Rattle.std.specs.List.{list_all}
use Rattle.std.specs.Str.{bytes_eq}
use Rattle.std.proofs.lemmas.Bool.{and_parts}
use Rattle.std.proofs.lemmas.Int.{ints}
use Rattle.iss_model.specs.declared.entry.Entry.{Entry}
use Rattle.iss_model.specs.declared.entry.Entry.TheVariants as entry
use Rattle.iss_model.specs.declared.input.Input.{Input}
use Rattle.iss_model.specs.declared.input.Input.TheVariants as input
use Rattle.iss_model.specs.declared.input.Record.{Record}
use Rattle.iss_model.specs.declared.limits.TheConstants.{GREATEST_AMOUNT}
use Rattle.iss_model.specs.declared.txn.UsageRow.{UsageRow}
use Rattle.iss_model.specs.Forms.{is_in_form, is_stamp}
use Rattle.iss_model.specs.Sums.{changed_at}
use Rattle.iss_model.specs.Tokens.{is_token}
use Rattle.iss_model.specs.rules.Controls.{ControlPut, Group, counted_changes, counts, span_key}
use Rattle.iss_model.specs.rules.Facts.{not_below}
use Rattle.iss_model.specs.state.Cores.{CoreState, after_entry, after_setting}
use Rattle.iss_model.specs.state.Kept.{Kept, after_changes, kept_at, nothing_kept}
use Rattle.iss_model.specs.texts.Spelling.{has_spelling, is_record, tokens_of}
use Rattle.iss_model.proofs.KeptSums.{kept_at-after_changes}
use Rattle.iss_acts.specs.Causes.{ComesOf, clears}
use Rattle.iss_state.specs.Pending.{HasTakenUp}
use Rattle.iss_state.proofs.calls.Steps.{due_allowed, own_allowed, ready_settled}
use Rattle.iss_state.proofs.effects.Effects.{setting_calls}
use Rattle.iss_state.proofs.effects.Finds.{number_is}
use Rattle.iss_state.proofs.invariants.OwnEntries.{most_amount}
use Rattle.iss_rebuilt.proofs.HeldKeys.{nothing_at}
use Rattle.iss_bounded.specs.Bounds.{asked_worth}
use Rattle.iss_bounded.proofs.AskSizes.{ask_small}
use Rattle.iss_bounded.proofs.AskedWorth.{Knows, worth_after_close, worth_with_opened}
use Rattle.iss_bounded.proofs.Prices.{MayCome, all_may}
use Rattle.iss_bounded.proofs.UseBounds.{Bears, BringsAtMost, Reads, Runs, load_price}
use Rattle.iss_bounded.proofs.UseRows.{AreFairWeights, Weights}

-- signs ----

none_below : (n : ℕ) → not_below (neg_ℤ (pos n)) ≡ 0
none_below zero = refl
none_below (suc n) = refl

twice_turned : (n : ℕ) → not_below (neg_ℤ (neg_ℤ (pos n))) ≡ n
twice_turned zero = refl
twice_turned (suc n) = refl

within_up : (x v : ℤ) → (x +ℤ v) ≤ℤ (x +ℤ pos (not_below v))
within_up x (pos n) = omega (arith, ints)
within_up x (negsuc n) = omega (arith, ints)

-- what is read of counters ----

module _ (worth : UsageRow → ℤ) where
  -- use moves a count by its worth, or not at all
  moved : (P : ℤ → Type 0) (k : Kept) (groups : List Group) (put : ControlPut) (row : UsageRow) (key : List ℕ) → P (kept_at k key +ℤ pos 0) → P (kept_at k key +ℤ (worth row +ℤ pos 0)) → P (kept_at k key +ℤ (pos 0 +ℤ pos 0))
      → P (kept_at (after_changes k (counted_changes worth groups put (entry.Usage row))) key)
  moved P k groups put row key none here other =
      subst P (sym (kept_at-after_changes k (counted_changes worth groups put (entry.Usage row)) key)) (by (counts groups put row) (bytes_eq (span_key put.control put.control.window row) key) refl)
    where
      by : (b c : Bool) → bytes_eq (span_key put.control put.control.window row) key ≡ c
          → P (kept_at k key +ℤ changed_at key (cond b (record { key = span_key put.control put.control.window row; by = worth row } ∷ []) []))
      by false c e = none
      by true true e = subst (λ (c : Bool). P (kept_at k key +ℤ (cond c (worth row) (pos 0) +ℤ pos 0))) (sym e) here
      by true false e = subst (λ (c : Bool). P (kept_at k key +ℤ (cond c (worth row) (pos 0) +ℤ pos 0))) (sym e) other

  up_moved : (k : Kept) (groups : List Group) (put : ControlPut) (row : UsageRow) (key : List ℕ)
      → kept_at (after_changes k (counted_changes worth groups put (entry.Usage row))) key ≤ℤ (kept_at k key +ℤ pos (not_below (worth row)))
  up_moved k groups put row key =
      moved (λ (z : ℤ). z ≤ℤ (kept_at k key +ℤ pos (not_below (worth row)))) k groups put row key (none (kept_at k key) (not_below (worth row))) (here (kept_at k key) (worth row)) (other (kept_at k key) (not_below (worth row)))
    where
      none : (x : ℤ) (n : ℕ) → (x +ℤ pos 0) ≤ℤ (x +ℤ pos n)
      none x n = omega (arith, ints)

      other : (x : ℤ) (n : ℕ) → (x +ℤ (pos 0 +ℤ pos 0)) ≤ℤ (x +ℤ pos n)
      other x n = omega (arith, ints)

      here : (x v : ℤ) → (x +ℤ (v +ℤ pos 0)) ≤ℤ (x +ℤ pos (not_below v))
      here x v = omega (arith, ints, within_up x v)

  down_moved : (k : Kept) (groups : List Group) (put : ControlPut) (row : UsageRow) (key : List ℕ)
      → neg_ℤ (kept_at (after_changes k (counted_changes worth groups put (entry.Usage row))) key) ≤ℤ (neg_ℤ (kept_at k key) +ℤ pos (not_below (neg_ℤ (worth row))))
  down_moved k groups put row key =
      moved (λ (z : ℤ). neg_ℤ z ≤ℤ (neg_ℤ (kept_at k key) +ℤ pos (not_below (neg_ℤ (worth row))))) k groups put row key (none (kept_at k key) (not_below (neg_ℤ (worth row)))) (here (kept_at k key) (worth row))
      (other (kept_at k key) (not_below (neg_ℤ (worth row))))
    where
      none : (x : ℤ) (n : ℕ) → neg_ℤ (x +ℤ pos 0) ≤ℤ (neg_ℤ x +ℤ pos n)
      none x n = omega (arith, ints)

      other : (x : ℤ) (n : ℕ) → neg_ℤ (x +ℤ (pos 0 +ℤ pos 0)) ≤ℤ (neg_ℤ x +ℤ pos n)
      other x n = omega (arith, ints)

      here : (x v : ℤ) → neg_ℤ (x +ℤ (v +ℤ pos 0)) ≤ℤ (neg_ℤ x +ℤ pos (not_below (neg_ℤ v)))
      here x v = omega (arith, ints, within_up (neg_ℤ x) (neg_ℤ v))

no_turned : (key : List ℕ) → neg_ℤ (kept_at nothing_kept key) ≡ pos 0
no_turned key = ap neg_ℤ (nothing_at key)

pub amounts_up : Reads (λ k key. kept_at k.amounts key) (λ row. not_below row.amount)
amounts_up =
    record {
      put = λ k c key. refl;
      none = λ n c key. nothing_at key;
      used = λ groups row k key. up_moved (λ (row : UsageRow). row.amount) k.amounts groups (record { number = k.first; control = k.control }) row key;
    }

pub times_up : Reads (λ k key. kept_at k.times key) (λ row. not_below row.count)
times_up =
    record {
      put = λ k c key. refl;
      none = λ n c key. nothing_at key;
      used = λ groups row k key. up_moved (λ (row : UsageRow). row.count) k.times groups (record { number = k.first; control = k.control }) row key;
    }

pub amounts_down : Reads (λ k key. neg_ℤ (kept_at k.amounts key)) (λ row. not_below (neg_ℤ row.amount))
amounts_down =
    record {
      put = λ k c key. refl;
      none = λ n c key. no_turned key;
      used = λ groups row k key. down_moved (λ (row : UsageRow). row.amount) k.amounts groups (record { number = k.first; control = k.control }) row key;
    }

pub times_down : Reads (λ k key. neg_ℤ (kept_at k.times key)) (λ row. not_below (neg_ℤ row.count))
times_down =
    record {
      put = λ k c key. refl;
      none = λ n c key. no_turned key;
      used = λ groups row k key. down_moved (λ (row : UsageRow). row.count) k.times groups (record { number = k.first; control = k.control }) row key;
    }

-- weights ----

abbrev pub weights_up : (UsageRow → ℤ) → (ℕ → ℕ) → Weights
weights_up worth closed = record { size = λ n. 0; closed = closed; hold = λ z. pos 0; over = λ row. not_below (worth row) }

abbrev pub weights_down : (UsageRow → ℤ) → (ℕ → ℕ) → (ℤ → ℤ) → (ℕ → ℕ) → Weights
weights_down worth size hold closed = record { size = size; closed = closed; hold = hold; over = λ row. not_below (neg_ℤ (worth row)) }

zeros : (n : ℕ) → n ≡ 0 → (pos n +ℤ pos 0) ≤ℤ pos 0
zeros n e = omega (arith, ints, e)

all_zeros : (n : ℕ) → n ≡ 0 → (pos 0 +ℤ (pos 0 +ℤ (pos 0 +ℤ pos n))) ≤ℤ pos 0
all_zeros n e = omega (arith, ints, e)

itself : pos 0 ≤ℤ pos 0
itself = omega (arith, ints)

at_most_none : (n : ℕ) → n ≡ 0 → n ≤ 0
at_most_none n e = omega (arith, e)

pub amounts_up_fair : (closed : ℕ → ℕ) → AreFairWeights (weights_up (λ row. row.amount) closed)
amounts_up_fair closed =
    record {
      none = refl;
      more = λ n. itself;
      less = λ n. itself;
      back = λ ask. at_most_none (not_below (neg_ℤ (pos ask.amount))) (none_below ask.amount);
      rest = λ o t n le. zeros (not_below (neg_ℤ (pos (o.amount - n)))) (none_below (o.amount - n));
      gone = λ t p g s amount e. all_zeros (not_below (neg_ℤ (pos amount))) (none_below amount);
    }

pub times_up_fair : (closed : ℕ → ℕ) → AreFairWeights (weights_up (λ row. row.count) closed)
times_up_fair closed =
    record {
      none = refl;
      more = λ n. itself;
      less = λ n. itself;
      back = λ ask. by ask.is_first;
      rest = λ o t n le. zeros 0 refl;
      gone = λ t p g s amount e. all_zeros 0 refl;
    }
  where
    by : (b : Bool) → not_below (neg_ℤ (cond b (pos 1) (pos 0))) ≤ 0
    by true = omega arith
    by false = omega arith

pub times_down_fair : (closed : ℕ → ℕ) → AreFairWeights (weights_down (λ row. row.count) (λ n. 1) (λ z. pos 0) closed)
times_down_fair closed =
    record {
      none = refl;
      more = λ n. one;
      less = λ n. itself;
      back = λ ask. by ask.is_first;
      rest = λ o t n le. also;
      gone = λ t p g s amount e. all_zeros 0 refl;
    }
  where
    one : pos 0 ≤ℤ pos 1
    one = omega (arith, ints)

    also : (pos 0 +ℤ pos 0) ≤ℤ pos 1
    also = omega (arith, ints)

    by : (b : Bool) → not_below (neg_ℤ (neg_ℤ (cond b (pos 1) (pos 0)))) ≤ 1
    by true = omega arith
    by false = omega arith

pub amounts_down_fair : (closed : ℕ → ℕ) → AreFairWeights (weights_down (λ row. row.amount) (λ n. n) (λ z. z) closed)
amounts_down_fair closed =
    record {
      none = refl;
      more = λ n. same n;
      less = λ n. below n;
      back = λ ask. whole (not_below (neg_ℤ (neg_ℤ (pos ask.amount)))) ask.amount (twice_turned ask.amount);
      rest = λ o t n le. parts (not_below (neg_ℤ (neg_ℤ (pos (o.amount - n))))) n o.amount (twice_turned (o.amount - n)) le;
      gone = λ t p g s amount e. all (not_below (neg_ℤ (neg_ℤ (pos amount)))) p g s amount (twice_turned amount) e;
    }
  where
    same : (n : ℕ) → pos n ≤ℤ pos n
    same n = omega (arith, ints)

    below : (n : ℕ) → neg_ℤ (pos n) ≤ℤ pos 0
    below n = omega (arith, ints)

    whole : (u n : ℕ) → u ≡ n → u ≤ n
    whole u n e = omega (arith, e)

    parts : (u n m : ℕ) → u ≡ m - n → n ≤ m → (pos u +ℤ pos n) ≤ℤ pos m
    parts u n m e le = omega (arith, ints, e, le)

    all : (u p g s m : ℕ) → u ≡ m → p + g + s ≡ m → (neg_ℤ (pos p) +ℤ (neg_ℤ (pos g) +ℤ (neg_ℤ (pos s) +ℤ pos u))) ≤ℤ pos 0
    all u p g s m e f = omega (arith, ints, e, f)

-- what calls ask, as a load ----

-- what the calls of a core ask
abbrev pub asked_load : (ℕ → ℕ) → CoreState → ℕ
asked_load size s = asked_worth (λ o. size o.amount) s.calls

pub asked_bears : (size : ℕ → ℕ) (over : UsageRow → ℕ) (closed : ℕ → ℕ) → Bears (asked_load size) MayCome (record { size = size; closed = closed; hold = λ z. pos 0; over = over })
asked_bears size over closed = record { lighter = lighter }
  where
    same : (a b : ℕ) → b ≡ a → pos b ≤ℤ (pos a +ℤ pos 0)
    same a b e = omega (arith, ints, e)

    opens : (a b w : ℕ) → b ≡ a + w → pos b ≤ℤ (pos a +ℤ pos w)
    opens a b w e = omega (arith, ints, e)

    closes : (a b c w : ℕ) → c ≡ w → b + w ≤ a → pos b ≤ℤ (pos a +ℤ neg_ℤ (pos c))
    closes a b c w e h = omega (arith, ints, e, h)

    lighter : (s : CoreState) (e : Entry) → MayCome s e → Knows (λ o. size o.amount) closed s → pos (asked_load size (after_entry s e)) ≤ℤ (pos (asked_load size s) +ℤ load_price (record { size = size; closed = closed; hold = λ z. pos 0; over = over }) e)
    lighter s (entry.Conf i) fit known = same (asked_load size s) (asked_load size (after_setting s i)) (ap (asked_worth (λ o. size o.amount)) (setting_calls s i))
    lighter s (entry.Opened o) fit known = opens (asked_load size s) (asked_load size (after_entry s (entry.Opened o))) (size o.amount) (worth_with_opened (λ o. size o.amount) s.calls o)
    lighter s (entry.Closed call how) fit known =
        closes (asked_load size s) (asked_load size (after_entry s (entry.Closed call how))) (closed call.0) (size fit.its.opened.amount) (known.its call.0 fit.its fit.asked.stands)
        (worth_after_close (λ o. size o.amount) call.0 how s.calls fit.its fit.asked.stands fit.asked.asked)
    lighter s e fit known = same (asked_load size s) (asked_load size s) refl

pub plain_runs : Runs (λ i at s. HasTakenUp s i) MayCome
plain_runs =
    record {
      taken = λ i at s h. h;
      due = λ i at s thing h. all_may s _ (due_allowed s i thing at h);
      own = λ i at s h. all_may s _ (own_allowed s i at h);
      stays = λ i at s thing h. ready_settled s i thing at h;
    }

-- what a record brings ----

cleared_small : (i : Input) → is_in_form i ≡ true → (token : List ℕ) (n : ℕ) → clears (ComesOf i) token n ≡ true → n ≤ GREATEST_AMOUNT
cleared_small (input.Clearing event txn currency amount last) form token n h =
    subst (λ (m : ℕ). m ≤ GREATEST_AMOUNT) (sym (number_is n amount (and_parts (bytes_eq token txn) (nat_eq n amount) h).1)) (most_amount amount form)
cleared_small _ form token n h = cc

input_form : (r : Record) → is_record r ≡ true → is_in_form r.input ≡ true
input_form r form = (and_parts (is_in_form r.input) (list_all is_token (tokens_of r.input)) (and_parts (is_stamp r.at) (has_spelling r.input) form).1).0

pub amounts_up_brings : (r : Record) → is_record r ≡ true → BringsAtMost (λ n. 0) (λ row. not_below row.amount) GREATEST_AMOUNT r.input r.at
amounts_up_brings r form =
    record {
      asks = λ f ask own. plus (ask.amount) (ask_small r form f ask own);
      clearing = λ t n m when h le. through m n (cleared_small r.input (input_form r form) t.token n h) le;
    }
  where
    plus : (n : ℕ) → n ≤ GREATEST_AMOUNT → n + 0 ≤ GREATEST_AMOUNT
    plus n h = omega (arith, h)

    through : (m n : ℕ) → n ≤ GREATEST_AMOUNT → m ≤ n → m ≤ GREATEST_AMOUNT
    through m n h le = omega (arith, h, le)

pub amounts_down_brings : (r : Record) → is_record r ≡ true → BringsAtMost (λ n. n) (λ row. not_below (neg_ℤ row.amount)) GREATEST_AMOUNT r.input r.at
amounts_down_brings r form =
    record {
      asks = λ f ask own. plus (not_below (neg_ℤ (pos ask.amount))) ask.amount (none_below ask.amount) (ask_small r form f ask own);
      clearing = λ t n m when h le. none (not_below (neg_ℤ (pos m))) (none_below m);
    }
  where
    plus : (u n : ℕ) → u ≡ 0 → n ≤ GREATEST_AMOUNT → u + n ≤ GREATEST_AMOUNT
    plus u n e h = omega (arith, e, h)

    none : (u : ℕ) → u ≡ 0 → u ≤ GREATEST_AMOUNT
    none u e = omega (arith, e)

pub times_up_brings : (i : Input) (at : ℕ) → BringsAtMost (λ n. 0) (λ row. not_below row.count) 1 i at
times_up_brings i at = record { asks = λ f ask own. by ask.is_first; clearing = λ t n m when h le. omega arith }
  where
    by : (b : Bool) → not_below (cond b (pos 1) (pos 0)) + 0 ≤ 1
    by true = omega arith
    by false = omega arith

pub times_down_brings : (i : Input) (at : ℕ) → BringsAtMost (λ n. 1) (λ row. not_below (neg_ℤ row.count)) 1 i at
times_down_brings i at = record { asks = λ f ask own. by ask.is_first; clearing = λ t n m when h le. omega arith }
  where
    by : (b : Bool) → not_below (neg_ℤ (cond b (pos 1) (pos 0))) + 1 ≤ 1
    by true = omega arith
    by false = omega arith
