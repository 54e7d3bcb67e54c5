-- How far each entry takes the sums.
use Rattle.std.specs.Prelude.{None, Option, Some, unwrap_or}
use Rattle.std.proofs.Common.{Bool, List, [], ap, arith, cond, false, fold, map, nat_abs, neg_ℤ, negsuc, pos, refl, subst, sym, true, ℕ, ℤ, ◌++◌, ◌+ℤ◌, ◌+◌, ◌∷◌, ◌≡◌, ◌≤◌}
use Rattle.std.specs.Cmp.Lexicographic.{slice_cmp}
use Rattle.std.specs.FinMap as finite
use Rattle.std.specs.FinMap.Entries.{put}
use Rattle.std.specs.List.{list_any}
use Rattle.std.specs.Ordering.{nat_cmp}
use Rattle.std.specs.Str.{bytes_eq}
use Rattle.std.proofs.lemmas.Int.{ints}
use Rattle.iss_model.specs.declared.account.Account.{Account}
use Rattle.iss_model.specs.declared.account.Account.TheVariants as account
use Rattle.iss_model.specs.declared.account.Part.TheVariants as part
use Rattle.iss_model.specs.declared.entry.Entry.{Entry}
use Rattle.iss_model.specs.declared.entry.Entry.TheVariants as entry
use Rattle.iss_model.specs.declared.input.Input.{Input}
use Rattle.iss_model.specs.declared.input.Input.TheVariants as input
use Rattle.iss_model.specs.declared.setting.Moved.TheVariants as moved
use Rattle.iss_model.specs.declared.txn.UsageRow.{UsageRow}
use Rattle.iss_model.specs.Sums.{Change, account_key, balance_changes, changed_at, cleared_by, paid_by, part_key, refunded_by, stood_changes, stood_key, txn_changes, user_key}
use Rattle.iss_model.specs.rules.Controls.{ControlPut, Group, control_put, control_replaced, counted_changes, counts, span_key}
use Rattle.iss_model.specs.state.Cores.{ControlKept, CoreState, after_entry, after_setting, begun_part_changes, control_after_put, control_after_use, with_control, with_made}
use Rattle.iss_model.specs.state.Kept.{Kept, after_changes, kept_at, nothing_kept}
use Rattle.iss_model.proofs.KeptSums.{kept_at-after_changes}
use Rattle.iss_state.specs.Bounds.{AreWithin, HaveCounted, IsWithin, SumsAreWithin, moved_money, moved_use, total_of}

-- ---- sums

within_weaker : (a b : ℕ) (x : ℤ) → a ≤ b → IsWithin a x → IsWithin b x
within_weaker a b x le w = record { low = omega (arith, ints, w.low, le); high = omega (arith, ints, w.high, le) }

-- sums within a bound are within a greater one
pub within_more : (n m : ℕ) (sums : Kept) → n ≤ m → AreWithin n sums → AreWithin m sums
within_more n m sums le within key = within_weaker n m (kept_at sums key) le (within key)

within_sum : (n amount : ℕ) (sum more : ℤ) → IsWithin n sum → IsWithin amount more → IsWithin (n + amount) (sum +ℤ more)
within_sum n amount sum more w v =
    record { low = omega (arith, ints, w.low, v.low); high = omega (arith, ints, w.high, v.high) }

-- if changes come to at most an amount at each key, they take each sum at most that much further
within_changed : (n amount : ℕ) (sums : Kept) (cs : List Change) → AreWithin n sums → ((key : List ℕ) → IsWithin amount (changed_at key cs)) → AreWithin (n + amount) (after_changes sums cs)
within_changed n amount sums cs within each key =
    subst (λ (z : ℤ). IsWithin (n + amount) z) (sym (kept_at-after_changes sums cs key)) (within_sum n amount (kept_at sums key) (changed_at key cs) (within key) (each key))

one_change : (amount : ℕ) (x : ℤ) (b : Bool) → IsWithin amount x → IsWithin amount (cond b x (pos 0) +ℤ pos 0)
one_change amount x true w = record { low = omega (arith, ints, w.low); high = omega (arith, ints, w.high) }
one_change amount x false w = record { low = omega (arith, ints); high = omega (arith, ints) }

one_within : (amount : ℕ) (x : ℤ) (at key : List ℕ) → IsWithin amount x → IsWithin amount (changed_at key (record { key = at; by = x } ∷ []))
one_within amount x at key w = one_change amount x (bytes_eq at key) w

size_within : (x : ℤ) → IsWithin (nat_abs x) x
size_within (pos n) = record { low = omega (arith, ints); high = omega (arith, ints) }
size_within (negsuc n) = record { low = omega (arith, ints); high = omega (arith, ints) }

zero_within : (amount : ℕ) → IsWithin amount (pos 0)
zero_within amount = record { low = omega (arith, ints); high = omega (arith, ints) }

up_within : (amount : ℕ) → IsWithin amount (pos amount)
up_within amount = record { low = omega (arith, ints); high = omega (arith, ints) }

down_within : (amount : ℕ) → IsWithin amount (neg_ℤ (pos amount))
down_within amount = record { low = omega (arith, ints); high = omega (arith, ints) }

two_changes : (amount : ℕ) (b c : Bool) → IsWithin amount (cond b (pos amount) (pos 0) +ℤ (cond c (neg_ℤ (pos amount)) (pos 0) +ℤ pos 0))
two_changes amount true true = record { low = omega (arith, ints); high = omega (arith, ints) }
two_changes amount true false = record { low = omega (arith, ints); high = omega (arith, ints) }
two_changes amount false true = record { low = omega (arith, ints); high = omega (arith, ints) }
two_changes amount false false = record { low = omega (arith, ints); high = omega (arith, ints) }

no_changes : (b c d : Bool) → IsWithin 0 (cond b (pos 0) (pos 0) +ℤ (cond c (pos 0) (pos 0) +ℤ (cond d (pos 0) (pos 0) +ℤ pos 0)))
no_changes b c d =
    let zero_is : (b : Bool) → cond b (pos 0) (pos 0) ≡ pos 0 = both in
    rw (zero_is b, zero_is c, zero_is d) (record { low = omega (arith, ints); high = omega (arith, ints) })
  where
    both : (b : Bool) → cond b (pos 0) (pos 0) ≡ pos 0
    both true = refl
    both false = refl

-- ---- a post for a transaction

cleared_within : (from to : Account) (amount : ℕ) → IsWithin amount (cleared_by from to amount)
cleared_within (account.User user c) (account.Network d) amount = up_within amount
cleared_within _ _ amount = zero_within amount

refunded_within : (from to : Account) (amount : ℕ) → IsWithin amount (refunded_by from to amount)
refunded_within (account.Network c) (account.User user d) amount = up_within amount
refunded_within _ _ amount = zero_within amount

paid_within : (from to : Account) (amount : ℕ) → IsWithin amount (paid_by from to amount)
paid_within (account.Programme c) (account.User user d) amount = up_within amount
paid_within (account.User user c) (account.Programme d) amount = down_within amount
paid_within _ _ amount = zero_within amount

txn_within : (amount_by : Account → Account → ℕ → ℤ) → ((from to : Account) (amount : ℕ) → IsWithin amount (amount_by from to amount))
    → (from to : Account) (amount : ℕ) (txn : Option (List ℕ)) (key : List ℕ) → IsWithin amount (changed_at key (txn_changes amount_by (entry.Post from to amount txn)))
txn_within amount_by each from to amount None key = zero_within amount
txn_within amount_by each from to amount (Some txn) key = one_within amount (amount_by from to amount) txn key (each from to amount)

-- ---- what controls have counted

counted_within : (amount : ℕ) (x : ℤ) (b : Bool) (at key : List ℕ) → IsWithin amount x → IsWithin amount (changed_at key (cond b (record { key = at; by = x } ∷ []) []))
counted_within amount x true at key w = one_within amount x at key w
counted_within amount x false at key w = zero_within amount

use_counted : (n : ℕ) (groups : List Group) (row : UsageRow) (cs : List ControlKept) → HaveCounted n cs
    → HaveCounted (n + (nat_abs row.amount + nat_abs row.count)) (map (control_after_use groups (entry.Usage row)) cs)
use_counted n groups row [] h = tt
use_counted n groups row (c ∷ cs) h =
    let put : ControlPut = record { number = c.first; control = c.control } in
    let size = nat_abs row.amount + nat_abs row.count in (
      within_changed n size c.amounts (counted_changes (λ (r : UsageRow). r.amount) groups put (entry.Usage row)) h.0
          (λ key. counted_within size row.amount (counts groups put row) (span_key put.control put.control.window row) key (within_weaker (nat_abs row.amount) size row.amount (omega arith) (size_within row.amount))),
      (
        within_changed n size c.times (counted_changes (λ (r : UsageRow). r.count) groups put (entry.Usage row)) h.1.0
            (λ key. counted_within size row.count (counts groups put row) (span_key put.control put.control.window row) key (within_weaker (nat_abs row.count) size row.count (omega arith) (size_within row.count))),
        use_counted n groups row cs h.1.1,
      ),
    )

-- what was never changed is 0
pub nothing_within : (n : ℕ) → AreWithin n nothing_kept
nothing_within n key = subst (λ (z : ℤ). IsWithin n z) (sym (ap (λ (o : Option ℤ). unwrap_or o (pos 0)) (finite.get-empty (slice_cmp nat_cmp) key))) (zero_within n)

after_put_counted : (n : ℕ) (put : ControlPut) (cs : List ControlKept) → HaveCounted n cs → HaveCounted n (map (control_after_put put) cs)
after_put_counted n put [] h = tt
after_put_counted n put (c ∷ cs) h = by (bytes_eq put.control.name c.control.name) (after_put_counted n put cs h.1.1)
  where
    by : (b : Bool) → HaveCounted n (map (control_after_put put) cs)
        → HaveCounted n (cond b (record c { control = control_replaced c.control put.control }) c ∷ map (control_after_put put) cs)
    by true rest = (h.0, (h.1.0, rest))
    by false rest = (h.0, (h.1.0, rest))

added_counted : (n : ℕ) (cs : List ControlKept) (c : ControlKept) → HaveCounted n cs → AreWithin n c.amounts → AreWithin n c.times → HaveCounted n (cs ++ c ∷ [])
added_counted n [] c h a t = (a, (t, tt))
added_counted n (d ∷ ds) c h a t = (h.0, (h.1.0, added_counted n ds c h.1.1 a t))

put_counted : (n : ℕ) (cs : List ControlKept) (put : ControlPut) → HaveCounted n cs → HaveCounted n (with_control cs put)
put_counted n cs put h = by (list_any (λ (c : ControlKept). bytes_eq c.control.name put.control.name) cs)
  where
    by : (b : Bool) → HaveCounted n (cond b (map (control_after_put put) cs) (cs ++ record { first = put.number; control = put.control; amounts = nothing_kept; times = nothing_kept } ∷ []))
    by true = after_put_counted n put cs h
    by false = added_counted n cs (record { first = put.number; control = put.control; amounts = nothing_kept; times = nothing_kept }) h (nothing_within n) (nothing_within n)

made_counted : (n : ℕ) (cs : List ControlKept) (put : Option ControlPut) → HaveCounted n cs → HaveCounted n (with_made with_control cs put)
made_counted n cs None h = h
made_counted n cs (Some put) h = put_counted n cs put h

-- ---- all sums of a state

counted_more : (n m : ℕ) (cs : List ControlKept) → n ≤ m → HaveCounted n cs → HaveCounted m cs
counted_more n m [] le h = tt
counted_more n m (c ∷ cs) le h = (within_more n m c.amounts le h.0, (within_more n m c.times le h.1.0, counted_more n m cs le h.1.1))

-- sums within bounds are within greater ones
pub sums_within_more : (m n u v : ℕ) (s : CoreState) → m ≤ n → u ≤ v → SumsAreWithin m u s → SumsAreWithin n v s
sums_within_more m n u v s le also h =
    record {
      balances = within_more m n s.balances le h.balances;
      held = within_more m n s.holdings.held le h.held;
      parts = within_more m n s.holdings.parts le h.parts;
      cleared = within_more m n s.txn_sums.cleared le h.cleared;
      refunded = within_more m n s.txn_sums.refunded le h.refunded;
      paid = within_more m n s.txn_sums.paid le h.paid;
      stood = within_more u v s.stand_ins.stood also h.stood;
      controls = counted_more u v s.controls also h.controls;
    }

-- if an entry leaves the sums alone, they reach no further
same_sums : (m u : ℕ) (s t : CoreState) → t.balances ≡ s.balances → t.holdings.held ≡ s.holdings.held → t.holdings.parts ≡ s.holdings.parts → t.txn_sums ≡ s.txn_sums
    → t.stand_ins.stood ≡ s.stand_ins.stood → HaveCounted u t.controls → SumsAreWithin m u s → SumsAreWithin (m + 0) (u + 0) t
same_sums m u s t balances held parts sums stood controls h =
    let le : m ≤ m + 0 = omega arith in
    let also : u ≤ u + 0 = omega arith in
    record {
      balances = subst (λ (k : Kept). AreWithin (m + 0) k) (sym balances) (within_more m (m + 0) s.balances le h.balances);
      held = subst (λ (k : Kept). AreWithin (m + 0) k) (sym held) (within_more m (m + 0) s.holdings.held le h.held);
      parts = subst (λ (k : Kept). AreWithin (m + 0) k) (sym parts) (within_more m (m + 0) s.holdings.parts le h.parts);
      cleared = subst (λ k. AreWithin (m + 0) k.cleared) (sym sums) (within_more m (m + 0) s.txn_sums.cleared le h.cleared);
      refunded = subst (λ k. AreWithin (m + 0) k.refunded) (sym sums) (within_more m (m + 0) s.txn_sums.refunded le h.refunded);
      paid = subst (λ k. AreWithin (m + 0) k.paid) (sym sums) (within_more m (m + 0) s.txn_sums.paid le h.paid);
      stood = subst (λ (k : Kept). AreWithin (u + 0) k) (sym stood) (within_more u (u + 0) s.stand_ins.stood also h.stood);
      controls = counted_more u (u + 0) t.controls also controls;
    }

setting_within : (m u : ℕ) (s : CoreState) (i : Input) → SumsAreWithin m u s → SumsAreWithin (m + 0) (u + 0) (after_setting s i)
setting_within m u s (input.Move token (moved.Card card to)) h = same_sums m u s _ refl refl refl refl refl h.controls h
setting_within m u s (input.Move token (moved.User user to)) h = same_sums m u s _ refl refl refl refl refl h.controls h
setting_within m u s (input.Control token control currency window amount_limit usage_limit association scope offset active) h =
    same_sums m u s _ refl refl refl refl refl
    (made_counted u s.controls (control_put s.count (entry.Conf (input.Control token control currency window amount_limit usage_limit association scope offset active))) h.controls) h
setting_within m u s _ h = same_sums m u s _ refl refl refl refl refl h.controls h

-- an entry takes the sums of money and of use as far as it moves them
pub entry_within : (m u : ℕ) (s : CoreState) (e : Entry) → SumsAreWithin m u s → SumsAreWithin (m + moved_money e) (u + moved_use e) (after_entry s e)
entry_within m u s (entry.Conf i) h = setting_within m u s i h
entry_within m u s (entry.Began t) h =
    let base = same_sums m u s s refl refl refl refl refl h.controls h in
    record {
      balances = base.balances;
      held = within_changed m 0 s.holdings.held (record { key = user_key t.user t.currency; by = pos 0 } ∷ []) h.held (λ key. one_within 0 (pos 0) (user_key t.user t.currency) key (zero_within 0));
      parts = within_changed m 0 s.holdings.parts (begun_part_changes t) h.parts
          (λ key. no_changes (bytes_eq (part_key t.token part.G) key) (bytes_eq (part_key t.token part.P) key) (bytes_eq (part_key t.token part.S) key));
      cleared = base.cleared;
      refunded = base.refunded;
      paid = base.paid;
      stood = base.stood;
      controls = base.controls;
    }
entry_within m u s (entry.Post from to amount txn) h =
    let base = sums_within_more m (m + amount) u (u + 0) s (omega arith) (omega arith) h in
    record {
      balances = within_changed m amount s.balances (balance_changes (entry.Post from to amount txn)) h.balances (λ key. two_changes amount (bytes_eq (account_key to) key) (bytes_eq (account_key from) key));
      held = base.held;
      parts = base.parts;
      cleared = within_changed m amount s.txn_sums.cleared (txn_changes cleared_by (entry.Post from to amount txn)) h.cleared (λ key. txn_within cleared_by cleared_within from to amount txn key);
      refunded = within_changed m amount s.txn_sums.refunded (txn_changes refunded_by (entry.Post from to amount txn)) h.refunded (λ key. txn_within refunded_by refunded_within from to amount txn key);
      paid = within_changed m amount s.txn_sums.paid (txn_changes paid_by (entry.Post from to amount txn)) h.paid (λ key. txn_within paid_by paid_within from to amount txn key);
      stood = base.stood;
      controls = base.controls;
    }
entry_within m u s (entry.Hold txn user currency p amount) h =
    let base = sums_within_more m (m + nat_abs amount) u (u + 0) s (omega arith) (omega arith) h in
    record {
      balances = base.balances;
      held = within_changed m (nat_abs amount) s.holdings.held (record { key = user_key user currency; by = amount } ∷ []) h.held (λ key. one_within (nat_abs amount) amount (user_key user currency) key (size_within amount));
      parts = within_changed m (nat_abs amount) s.holdings.parts (record { key = part_key txn p; by = amount } ∷ []) h.parts (λ key. one_within (nat_abs amount) amount (part_key txn p) key (size_within amount));
      cleared = base.cleared;
      refunded = base.refunded;
      paid = base.paid;
      stood = base.stood;
      controls = base.controls;
    }
entry_within m u s (entry.Usage row) h =
    let base = sums_within_more m (m + 0) u (u + 0) s (omega arith) (omega arith) h in
    record {
      balances = base.balances;
      held = base.held;
      parts = base.parts;
      cleared = base.cleared;
      refunded = base.refunded;
      paid = base.paid;
      stood = within_more u (u + (nat_abs row.amount + nat_abs row.count)) s.stand_ins.stood (omega arith) h.stood;
      controls = use_counted u s.groups row s.controls h.controls;
    }
entry_within m u s (entry.Stood set product user amount at) h =
    let base = sums_within_more m (m + 0) u (u + amount) s (omega arith) (omega arith) h in
    record {
      balances = base.balances;
      held = base.held;
      parts = base.parts;
      cleared = base.cleared;
      refunded = base.refunded;
      paid = base.paid;
      stood = within_changed u amount s.stand_ins.stood (stood_changes (entry.Stood set product user amount at)) h.stood (λ key. one_within amount (pos amount) (stood_key product user at) key (up_within amount));
      controls = base.controls;
    }
entry_within m u s _ h = same_sums m u s _ refl refl refl refl refl h.controls h

-- entries one after the other move sums no further than they say together
pub entries_within : (m u : ℕ) (s : CoreState) (es : List Entry) → SumsAreWithin m u s → SumsAreWithin (m + total_of moved_money es) (u + total_of moved_use es) (fold after_entry s es)
entries_within m u s [] h = sums_within_more m (m + 0) u (u + 0) s (omega arith) (omega arith) h
entries_within m u s (e ∷ es) h =
    sums_within_more ((m + moved_money e) + total_of moved_money es) (m + (moved_money e + total_of moved_money es))
    ((u + moved_use e) + total_of moved_use es) (u + (moved_use e + total_of moved_use es)) (fold after_entry (after_entry s e) es) (omega arith) (omega arith)
    (entries_within (m + moved_money e) (u + moved_use e) (after_entry s e) es (entry_within m u s e h))
