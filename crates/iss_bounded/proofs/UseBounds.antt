-- What controls have counted stays within what a load leaves of a bound, and the bound grows by what a record brings.
use Rattle.std.proofs.Common.{◌≡◌, ◌∙◌, ◌++◌, ◌+◌, ◌+ℤ◌, ◌∷◌, ◌&&◌, ◌≤◌, ℕ, ℤ, pos, neg_ℤ, ap, arith, Bool, cond, filter, fold, List, [], map, subst, sym, true, false}
use Rattle.std.specs.Prelude.{Option, Some, None, ◌≤ℤ◌}
use Rattle.std.specs.List.{list_any}
use Rattle.std.specs.Str.{bytes_eq}
use Rattle.std.proofs.lemmas.Int.{ints}
use Rattle.iss_model.specs.declared.call.Opened.{Opened}
use Rattle.iss_model.specs.declared.entry.Entry.{Entry}
use Rattle.iss_model.specs.declared.entry.Entry.TheVariants as entry
use Rattle.iss_model.specs.declared.input.Input.{Input}
use Rattle.iss_model.specs.declared.input.Input.TheVariants as input
use Rattle.iss_model.specs.declared.input.Record.{Record}
use Rattle.iss_model.specs.declared.setting.Control.{Control}
use Rattle.iss_model.specs.declared.setting.Moved.TheVariants as moved
use Rattle.iss_model.specs.declared.txn.Txn.{Txn}
use Rattle.iss_model.specs.declared.txn.UsageRow.{UsageRow}
use Rattle.iss_model.specs.rules.Activity.{CallNow, is_asked}
use Rattle.iss_model.specs.rules.Asks.{Ask, ask_usage, usage_of}
use Rattle.iss_model.specs.rules.Controls.{ControlPut, Group, control_put, control_replaced}
use Rattle.iss_model.specs.rules.Due.{DueThing, thing_acts, thing_entries}
use Rattle.iss_model.specs.rules.Facts.{Facts, asked_calls_of}
use Rattle.iss_model.specs.rules.Stepping.{acts_of, after_due, entries_of, step}
use Rattle.iss_model.specs.state.Cores.{ControlKept, CoreState, after_entry, after_setting, control_after_put, control_after_use, core_facts, core_keeper, with_control, with_made, with_record}
use Rattle.iss_model.specs.state.Kept.{nothing_kept}
use Rattle.iss_acts.specs.Causes.{ComesOf, FallsDue, clears}
use Rattle.iss_acts.specs.Sources.{IsAskedCall, IsOwnAsk}
use Rattle.iss_acts.proofs.Causes.{input_row, thing_row}
use Rattle.iss_acts.proofs.Stepping.{due_stays}
use Rattle.iss_state.specs.Pending.{HasTakenUp}
use Rattle.iss_state.proofs.docket.Closing.{StandsItself, all_stand, its_number}
use Rattle.iss_state.proofs.docket.Lists.{Each, each_weaker}
use Rattle.iss_bounded.proofs.AskedWorth.{Knows, knew, knows_own, worth_at}
use Rattle.iss_bounded.proofs.Prices.{AllFitting, Goes, all_go, all_knew, row_paid, total_price}
use Rattle.iss_bounded.proofs.StandIns.{no_own_ask}
use Rattle.iss_bounded.proofs.UseRows.{AreFairWeights, Weights, use_price, uses_paid}

-- lists ----

pub each_kept : {A : Type 0} (P : A → Type 0) (p : A → Bool) (xs : List A) → Each P xs → Each P (filter p xs)
each_kept P p [] h = tt
each_kept {A} P p (x ∷ xs) h = by (p x) (each_kept P p xs h.1)
  where
    by : (b : Bool) → Each P (filter p xs) → Each P (cond b (x ∷ filter p xs) (filter p xs))
    by true rest = (h.0, rest)
    by false rest = rest

each_last : {A : Type 0} (P : A → Type 0) (xs : List A) (x : A) → Each P xs → P x → Each P (xs ++ x ∷ [])
each_last P [] x h its = (its, tt)
each_last P (y ∷ ys) x h its = (h.0, each_last P ys x h.1 its)

-- an entry that leaves controls, or uses them ----

-- How what a control counts is read, so that it grows no more than use weighs, and settings leave it.
pub record Reads (count : ControlKept → List ℕ → ℤ) (over : UsageRow → ℕ) : Type 0 where
  pub put : (k : ControlKept) (c : Control) (key : List ℕ) → count (record k { control = c }) key ≡ count k key
  pub none : (n : ℕ) (c : Control) (key : List ℕ) → count (record { first = n; control = c; amounts = nothing_kept; times = nothing_kept }) key ≡ pos 0
  pub used : (groups : List Group) (row : UsageRow) (k : ControlKept) (key : List ℕ) → count (control_after_use groups (entry.Usage row) k) key ≤ℤ (count k key +ℤ pos (over row))

-- what is counted is at most this, and so is 0
pub record CountAtMost (count : ControlKept → List ℕ → ℤ) (m : ℤ) (ks : List ControlKept) : Type 0 where
  pub none : pos 0 ≤ℤ m
  pub each : Each (λ k. (key : List ℕ) → count k key ≤ℤ m) ks

module _ {count : ControlKept → List ℕ → ℤ} {over : UsageRow → ℕ} (reads : Reads count over) where
  abbrev Counted : ℤ → ControlKept → Type 0
  Counted m k = (key : List ℕ) → count k key ≤ℤ m

  pub counted_more : (m n : ℤ) → m ≤ℤ n → (ks : List ControlKept) → CountAtMost count m ks → CountAtMost count n ks
  counted_more m n le ks h = record { none = through (pos 0) m n h.none le; each = all ks h.each }
    where
      through : (x m n : ℤ) → x ≤ℤ m → m ≤ℤ n → x ≤ℤ n
      through x m n h le = omega (arith, ints, h, le)

      all : (ks : List ControlKept) → Each (Counted m) ks → Each (Counted n) ks
      all [] h = tt
      all (k ∷ ks) h = (λ key. through (count k key) m n (h.0 key) le, all ks h.1)

  pub after_use : (groups : List Group) (row : UsageRow) (m : ℤ) (ks : List ControlKept) → CountAtMost count m ks → CountAtMost count (m +ℤ pos (over row)) (map (control_after_use groups (entry.Usage row)) ks)
  after_use groups row m ks h = record { none = above m (over row) h.none; each = all ks h.each }
    where
      above : (m : ℤ) (u : ℕ) → pos 0 ≤ℤ m → pos 0 ≤ℤ (m +ℤ pos u)
      above m u h = omega (arith, ints, h)

      moved : {y : ℤ} (x m : ℤ) (u : ℕ) → y ≤ℤ (x +ℤ pos u) → x ≤ℤ m → y ≤ℤ (m +ℤ pos u)
      moved x m u h le = omega (arith, ints, h, le)

      all : (ks : List ControlKept) → Each (Counted m) ks → Each (Counted (m +ℤ pos (over row))) (map (control_after_use groups (entry.Usage row)) ks)
      all [] h = tt
      all (k ∷ ks) h = (λ key. moved (count k key) m (over row) (reads.used groups row k key) (h.0 key), all ks h.1)

  after_put : (put : ControlPut) (m : ℤ) (ks : List ControlKept) → CountAtMost count m ks → CountAtMost count m (with_control ks put)
  after_put put m ks h = record { none = h.none; each = by (list_any (λ (k : ControlKept). bytes_eq k.control.name put.control.name) ks) }
    where
      changed : (ks : List ControlKept) → Each (Counted m) ks → Each (Counted m) (map (control_after_put put) ks)
      changed [] h = tt
      changed (k ∷ ks) h = (one (bytes_eq put.control.name k.control.name), changed ks h.1)
        where
          one : (b : Bool) → Counted m (cond b (record k { control = control_replaced k.control put.control }) k)
          one true key = subst (λ (z : ℤ). z ≤ℤ m) (sym (reads.put k (control_replaced k.control put.control) key)) (h.0 key)
          one false key = h.0 key

      by : (b : Bool) → Each (Counted m) (cond b (map (control_after_put put) ks) (ks ++ record { first = put.number; control = put.control; amounts = nothing_kept; times = nothing_kept } ∷ []))
      by true = changed ks h.each
      by false = each_last (Counted m) ks _ h.each (λ key. subst (λ (z : ℤ). z ≤ℤ m) (sym (reads.none put.number put.control key)) h.none)

  made_put : (put : Option ControlPut) (m : ℤ) (ks : List ControlKept) → CountAtMost count m ks → CountAtMost count m (with_made with_control ks put)
  made_put None m ks h = h
  made_put (Some put) m ks h = after_put put m ks h

  pub after_set : (s : CoreState) (i : Input) (m : ℤ) → CountAtMost count m s.controls → CountAtMost count m (after_setting s i).controls
  after_set s (input.Move token (moved.Card card to)) m h = h
  after_set s (input.Move token (moved.User user to)) m h = h
  after_set s (input.Control token control currency window amount_limit usage_limit association scope offset active) m h =
      made_put (control_put s.count (entry.Conf (input.Control token control currency window amount_limit usage_limit association scope offset active))) m s.controls h
  after_set s _ m h = h

-- a load on a core ----

-- what an entry adds to a load: use adds nothing
abbrev pub load_price : Weights → Entry → ℤ
load_price w (entry.Usage row) = pos 0
load_price w e = use_price w e

-- a load on a core grows no more than entries weigh that fit
pub record Bears (load : CoreState → ℕ) (Fit : CoreState → Entry → Type 0) (w : Weights) : Type 0 where
  pub lighter : (s : CoreState) (e : Entry) → Fit s e → Knows (λ o. w.size o.amount) w.closed s → pos (load (after_entry s e)) ≤ℤ (pos (load s) +ℤ load_price w e)

-- how records are ready, so that their entries fit
pub record Runs (Ready : Input → ℕ → CoreState → Type 0) (Fit : CoreState → Entry → Type 0) : Type 0 where
  pub taken : (i : Input) (at : ℕ) (s : CoreState) → Ready i at s → HasTakenUp s i
  pub due : (i : Input) (at : ℕ) (s : CoreState) (thing : DueThing) → Ready i at s → AllFitting Fit s (thing_entries thing at (core_facts s))
  pub own : (i : Input) (at : ℕ) (s : CoreState) → Ready i at s → AllFitting Fit s (entries_of i at (core_facts s))
  pub stays : (i : Input) (at : ℕ) (s : CoreState) (thing : DueThing) → Ready i at s → Ready i at (fold after_entry s (thing_entries thing at (core_facts s)))

-- what is counted is within what a load leaves of a bound
pub record UseWithin (count : ControlKept → List ℕ → ℤ) (load : CoreState → ℕ) (n : ℤ) (s : CoreState) : Type 0 where
  pub its : CountAtMost count (n +ℤ neg_ℤ (pos (load s))) s.controls

-- a record's own ask and clearing bring no more use than this
pub record BringsAtMost (size : ℕ → ℕ) (over : UsageRow → ℕ) (most : ℕ) (i : Input) (at : ℕ) : Type 0 where
  pub asks : (f : Facts) (ask : Ask) → IsOwnAsk f (ComesOf i) at ask → over (ask_usage ask) + size ask.amount ≤ most
  pub clearing : (t : Txn) (n m when : ℕ) → clears (ComesOf i) t.token n ≡ true → m ≤ n → over (usage_of t (pos m) (pos 0) when) ≤ most

module _ {count : ControlKept → List ℕ → ℤ} {size : ℕ → ℕ} {hold : ℤ → ℤ} {over : UsageRow → ℕ} {load : CoreState → ℕ} {Fit : CoreState → Entry → Type 0} {Ready : Input → ℕ → CoreState → Type 0}
    (reads : Reads count over) (fair : (closed : ℕ → ℕ) → AreFairWeights (record { size = size; closed = closed; hold = hold; over = over }))
    (bears : (closed : ℕ → ℕ) → Bears load Fit (record { size = size; closed = closed; hold = hold; over = over })) (runs : Runs Ready Fit) where
  abbrev weigh : (ℕ → ℕ) → Weights
  weigh closed = record { size = size; closed = closed; hold = hold; over = over }

  abbrev worth : Opened → ℕ
  worth o = size o.amount

  abbrev Within : ℤ → CoreState → Type 0
  Within n s = UseWithin count load n s

  within_more : (m n : ℤ) (s : CoreState) → m ≤ℤ n → Within m s → Within n s
  within_more m n s le h = record { its = counted_more reads (m +ℤ neg_ℤ (pos (load s))) (n +ℤ neg_ℤ (pos (load s))) (both m n (load s) le) s.controls h.its }
    where
      both : (m n : ℤ) (a : ℕ) → m ≤ℤ n → (m +ℤ neg_ℤ (pos a)) ≤ℤ (n +ℤ neg_ℤ (pos a))
      both m n a le = omega (arith, ints, le)

  lower : (n : ℤ) (a b : ℕ) (p : ℤ) → pos b ≤ℤ (pos a +ℤ p) → (n +ℤ neg_ℤ (pos a)) ≤ℤ ((n +ℤ p) +ℤ neg_ℤ (pos b))
  lower n a b p h = omega (arith, ints, h)

  module _ (closed : ℕ → ℕ) where
    entry_moves : (n : ℤ) (s : CoreState) (e : Entry) → Fit s e → Knows worth closed s → Within n s → Within (n +ℤ use_price (weigh closed) e) (after_entry s e)
    entry_moves n s (entry.Conf i) fit known h =
        record { its = counted_more reads (n +ℤ neg_ℤ (pos (load s))) _ (lower n (load s) (load (after_setting s i)) (pos 0) ((bears closed).lighter s (entry.Conf i) fit known)) (after_setting s i).controls (after_set reads s i (n +ℤ neg_ℤ (pos (load s))) h.its) }
    entry_moves n s (entry.Usage row) fit known h =
        record {
          its = counted_more reads ((n +ℤ neg_ℤ (pos (load s))) +ℤ pos (over row)) _ (used n (load s) (load (after_entry s (entry.Usage row))) (over row) ((bears closed).lighter s (entry.Usage row) fit known))
              (map (control_after_use s.groups (entry.Usage row)) s.controls) (after_use reads s.groups row (n +ℤ neg_ℤ (pos (load s))) s.controls h.its);
        }
      where
        used : (n : ℤ) (a b u : ℕ) → pos b ≤ℤ (pos a +ℤ pos 0) → ((n +ℤ neg_ℤ (pos a)) +ℤ pos u) ≤ℤ ((n +ℤ pos u) +ℤ neg_ℤ (pos b))
        used n a b u h = omega (arith, ints, h)
    entry_moves n s e fit known h =
        record { its = counted_more reads (n +ℤ neg_ℤ (pos (load s))) _ (lower n (load s) (load (after_entry s e)) (use_price (weigh closed) e) ((bears closed).lighter s e fit known)) s.controls h.its }

    entries_go : Goes Fit Within (Knows worth closed) (use_price (weigh closed))
    entries_go = record { knew = knew worth closed; moves = entry_moves }

  -- prices of calls ----

  module _ (closed : ℕ → ℕ) (s : CoreState) (i : Input) (ready : HasTakenUp s i) (known : Knows worth closed s) where
    its_price : (o : Opened) (t : Txn) → IsAskedCall (core_facts s) o t → closed o.call.0 ≡ size o.amount
    its_price o t asked =
        subst (λ (x : Opened). closed x.call.0 ≡ size x.amount) asked.opened
        (ap closed (its_number s.calls asked.number asked.its asked.stands) ∙ known.its asked.number asked.its asked.stands)

    all_prices : (token : List ℕ) → Each (λ c. closed c.opened.call.0 ≡ size c.opened.amount) (asked_calls_of (core_facts s) token)
    all_prices token =
        each_kept (λ (c : CallNow). closed c.opened.call.0 ≡ size c.opened.amount) (λ c. is_asked c && bytes_eq c.opened.txn token) s.calls
        (each_weaker (StandsItself s.calls) (λ (c : CallNow). closed c.opened.call.0 ≡ size c.opened.amount) (λ c stands. known.its c.opened.call.0 c stands) s.calls (all_stand s.calls ready.well.calls.numbers))

  -- steps ----

  due_within : (n : ℤ) (i : Input) (at : ℕ) (s : CoreState) (thing : DueThing) → Ready i at s → Within n s → Within n (fold after_entry s (thing_entries thing at (core_facts s)))
  due_within n i at s thing ready h =
      let es : List Entry = thing_entries thing at (core_facts s) in
      let w : CoreState = fold after_entry s es in
      let closed : ℕ → ℕ = worth_at worth w.calls in
      let known : Knows worth closed s = all_knew (entries_go closed) s es (knows_own worth w) in
      let taken : HasTakenUp s i = runs.taken i at s ready in
      within_more (n +ℤ total_price (use_price (weigh closed)) es) n w
      (none n (total_price (use_price (weigh closed)) es)
      (row_paid (uses_paid (weigh closed) (fair closed) (core_facts s) FallsDue at 0 (its_price closed s i taken known) (all_prices closed s i taken known) (λ ask own. no_own_ask ask own) (λ t n m when no le. cc)) (thing_acts thing at (core_facts s)) (thing_row (core_facts s) thing at)))
      (all_go (entries_go closed) n s es (runs.due i at s thing ready) (knows_own worth w) h)
    where
      none : (n z : ℤ) → z ≤ℤ pos 0 → (n +ℤ z) ≤ℤ n
      none n z h = omega (arith, ints, h)

  own_within : (most : ℕ) (n : ℤ) (i : Input) (at : ℕ) (s : CoreState) → Ready i at s → BringsAtMost size over most i at → Within n s → Within (n +ℤ pos most) (fold after_entry s (entries_of i at (core_facts s)))
  own_within most n i at s ready brings h =
      let es : List Entry = entries_of i at (core_facts s) in
      let w : CoreState = fold after_entry s es in
      let closed : ℕ → ℕ = worth_at worth w.calls in
      let known : Knows worth closed s = all_knew (entries_go closed) s es (knows_own worth w) in
      let taken : HasTakenUp s i = runs.taken i at s ready in
      within_more (n +ℤ total_price (use_price (weigh closed)) es) (n +ℤ pos most) w
      (some n (total_price (use_price (weigh closed)) es) most
      (row_paid (uses_paid (weigh closed) (fair closed) (core_facts s) (ComesOf i) at most (its_price closed s i taken known) (all_prices closed s i taken known) (brings.asks (core_facts s)) brings.clearing) (acts_of i at (core_facts s)) (input_row (core_facts s) i at)))
      (all_go (entries_go closed) n s es (runs.own i at s ready) (knows_own worth w) h)
    where
      some : (n z : ℤ) (m : ℕ) → z ≤ℤ pos m → (n +ℤ z) ≤ℤ (n +ℤ pos m)
      some n z m h = omega (arith, ints, h)

  pub step_use : (most : ℕ) (n : ℤ) (s : CoreState) (r : Record) → Ready r.input r.at (with_record s r) → load (with_record s r) ≡ load s → BringsAtMost size over most r.input r.at
      → Within n s → Within (n +ℤ pos most) (step core_keeper s r).world
  unfolding step
  step_use most n s r ready same brings h =
      let up : CoreState = with_record s r in
      let first : Within n up = record { its = subst (λ (a : ℕ). CountAtMost count (n +ℤ neg_ℤ (pos a)) up.controls) (sym same) h.its } in
      let due = due_stays (λ s. Ready r.input r.at s × Within n s) r.at (λ s thing h. (runs.stays r.input r.at s thing h.0, due_within n r.input r.at s thing h.0 h.1)) up (ready, first) in
      own_within most n r.input r.at (after_due core_keeper up r.at).world due.0 brings due.1
