-- Controls with their sums, as the counters give them.
use Rattle.std.proofs.Common.{◌≡◌, ℕ, zero, suc, ◌+◌, ℤ, pos, ◌+ℤ◌, Bool, true, false, cond, ◌&&◌, ◌||◌, List, [], ◌∷◌, map, drop, slice_get, Option, Some, None, refl, sym, ap, ap₂, ◌∙◌, subst, arith}
use Rattle.std.specs.Prelude.{unwrap_or}
use Rattle.std.specs.Option.{option_map}
use Rattle.std.specs.Str.{bytes_eq}
use Rattle.std.specs.Ordering.{int_eq}
use Rattle.std.specs.Cmp.{signed_Decides, int_eq_equiv}
use Rattle.std.specs.FinMap as finite
use Rattle.iss_model.specs.declared.setting.Control.{Control}
use Rattle.iss_model.specs.declared.setting.Window.{Window}
use Rattle.iss_model.specs.declared.setting.Window.TheVariants as window
use Rattle.iss_model.specs.declared.txn.UsageRow.{UsageRow}
use Rattle.iss_model.specs.declared.txn.Used.{Used}
use Rattle.iss_model.specs.declared.entry.Entry.TheVariants as entry
use Rattle.iss_model.specs.rules.Controls.{Group, counts, counter_key, span_key, counted_changes}
use Rattle.iss_model.specs.rules.Asks.{passes, used_by}
use Rattle.iss_model.specs.texts.Spelling.{is_utc}
use Rattle.iss_model.specs.state.Kept.{kept_at, after_changes, AreSmall, IsSmall}
use Rattle.iss_model.specs.state.Cores.{ControlKept, control_after_use, control_facts}
use Rattle.iss_model.proofs.KeptSums.{kept_at-after_change}
use Rattle.iss_model.proofs.Names.{one_name, its_name}
use Rattle.iss_velocity.specs.declared.standing.Standing.{Standing}
use Rattle.iss_velocity.specs.Spanning.{spans_at, utc_number, number_by, number_in, is_single, span_number}
use Rattle.iss_velocity.specs.Words.{declines_use}
use Rattle.iss_velocity.specs.Counting.{Users, Past, put_of, counters_at, used_at_place, used_at, unused, used_more, used_then, counts_in, passes_with}
use Rattle.iss_velocity.specs.Keeping.{has_no_zero, sums_in, control_at, controls_from, AreKeyed, HaveSmallSums, StaySmall}
use Rattle.iss_velocity.proofs.Lookups.{get_sums}
use Rattle.iss_velocity.proofs.SumsKept.{unchanged_sums, changed_sums}

-- a row's span is that of its number
pub span_is : (control : Control) (w : Window) (row : UsageRow) → span_key control w row ≡ counter_key row.user (number_in w control.offset row.at row.origin)
unfolding number_in
span_is control window.Transaction row = refl
span_is control window.Day row = refl
span_is control window.Week row = refl
span_is control window.Month row = refl
span_is control window.Lifetime row = refl

-- the spans that are made once give each control its own
pub number_so : (at origin : ℕ) (w : Window) (offset : ℤ) → number_by (spans_at at origin) w offset ≡ number_in w offset at origin
unfolding spans_at number_in
number_so at origin w offset = by (is_utc offset) refl
  where
    same : (w : Window) → utc_number (spans_at at origin) w ≡ number_in w (pos 0) at origin
    same window.Transaction = refl
    same window.Day = refl
    same window.Week = refl
    same window.Month = refl
    same window.Lifetime = refl

    by : (b : Bool) → is_utc offset ≡ b → cond b (utc_number (spans_at at origin) w) (number_in w offset at origin) ≡ number_in w offset at origin
    by true e = same w ∙ ap (λ (z : ℤ). number_in w z at origin) (sym ((signed_Decides offset (pos 0)).0 e))
    by false e = refl

-- what a sum is at a user's span
pub sum_is : (worth : Used → ℤ) → worth unused ≡ pos 0 → (users : Users) (past : Past) → AreKeyed users past → (place : ℕ) (user : List ℕ) (number : ℤ) → has_no_zero user ≡ true
    → kept_at (sums_in worth users past place) (counter_key user number) ≡ worth (unwrap_or (used_at users past user place number) unused)
sum_is worth none users past k place user number p =
    ap (λ (o : Option ℤ). unwrap_or o (pos 0)) (get_sums worth place user number p users past k)
    ∙ by (used_at users past user place number)
  where
    by : (o : Option Used) → unwrap_or (option_map worth o) (pos 0) ≡ worth (unwrap_or o unused)
    by None = sym none
    by (Some u) = refl

-- a map of two elements that give the same
pub from_alike : (users after : Users) (past past' : Past) (f : Standing → Standing) (g : ControlKept → ControlKept) (place : ℕ) (ss : List Standing)
    → ((i : ℕ) (s : Standing) → slice_get ss i ≡ Some s → control_at after past' (place + i) (f s) ≡ g (control_at users past (place + i) s))
    → controls_from after past' place (map f ss) ≡ map g (controls_from users past place ss)
from_alike users after past past' f g place [] each = refl
from_alike users after past past' f g place (s ∷ ss) each =
    ap₂ (λ (c : ControlKept) (cs : List ControlKept). c ∷ cs)
    (subst (λ (n : ℕ). control_at after past' n (f s) ≡ g (control_at users past n s)) (last place) (each zero s refl))
    (from_alike users after past past' f g (suc place) ss
    (λ i t e. subst (λ (n : ℕ). control_at after past' n (f t) ≡ g (control_at users past n t)) (next place i) (each (suc i) t e)))
  where
    last : (n : ℕ) → n + zero ≡ n
    last n = omega arith

    next : (n i : ℕ) → n + suc i ≡ suc n + i
    next n i = omega arith

-- the controls at all places are mapped alike, from the first place on
pub from_start : (users after : Users) (past past' : Past) (f : Standing → Standing) (g : ControlKept → ControlKept) (ss : List Standing)
    → ((i : ℕ) (s : Standing) → slice_get ss i ≡ Some s → control_at after past' i (f s) ≡ g (control_at users past i s))
    → controls_from after past' 0 (map f ss) ≡ map g (controls_from users past 0 ss)
from_start users after past past' f g ss each =
    from_alike users after past past' f g 0 ss
    (λ i s e. (let same : i ≡ 0 + i = omega arith in subst (λ (n : ℕ). control_at after past' n (f s) ≡ g (control_at users past n s)) same (each i s e)))

pub mapped_same : (ss : List Standing) → map (λ (s : Standing). s) ss ≡ ss
mapped_same [] = refl
mapped_same (s ∷ ss) = ap (λ (ts : List Standing). s ∷ ts) (mapped_same ss)

mapped_kept : (cs : List ControlKept) → map (λ (c : ControlKept). c) cs ≡ cs
mapped_kept [] = refl
mapped_kept (c ∷ cs) = ap (λ (ds : List ControlKept). c ∷ ds) (mapped_kept cs)

-- the controls stay if nothing was counted
pub controls_stay : (users after : Users) (past past' : Past) (ss : List Standing) → AreKeyed users past → AreKeyed after past'
    → ((user : List ℕ) (place : ℕ) (number : ℤ) → has_no_zero user ≡ true → used_at after past' user place number ≡ used_at users past user place number)
    → controls_from after past' 0 ss ≡ controls_from users past 0 ss
controls_stay users after past past' ss k l same =
    ap (controls_from after past' 0) (sym (mapped_same ss))
    ∙ from_start users after past past' (λ (s : Standing). s) (λ (c : ControlKept). c) ss
    (λ i s e. λ j. record {
      first = s.first;
      control = s.control;
      amounts = unchanged_sums (λ (u : Used). u.amount) i users after past past' k l (λ user number p. same user i number p) j;
      times = unchanged_sums (λ (u : Used). u.count) i users after past past' k l (λ user number p. same user i number p) j;
    })
    ∙ mapped_kept (controls_from users past 0 ss)

-- a user's counters before and after, with those of the others, give what all give
module _ (users after : Users) (past past' : Past) (user : List ℕ)
    (others : (u : List ℕ) → bytes_eq u user ≡ false → counters_at after u ≡ counters_at users u)
    (passed : (u : List ℕ) (place : ℕ) (n : ℤ) → bytes_eq u user ≡ false → used_at_place (counters_at users u) past' u place n ≡ used_at_place (counters_at users u) past u place n) where
  pub other_same : (u : List ℕ) (place : ℕ) (n : ℤ) → bytes_eq u user ≡ false → used_at after past' u place n ≡ used_at users past u place n
  other_same u place n h = ap (λ (cs : List _). used_at_place cs past' u place n) (others u h) ∙ passed u place n h

-- what each control has counted after a row
module _ (controls : List Standing) (groups : List Group) (row : UsageRow) (users after : Users) (past past' : Past) (k : AreKeyed users past) (l : AreKeyed after past')
    (plain : has_no_zero row.user ≡ true)
    (counted : (u : List ℕ) (place : ℕ) (n : ℤ) → used_at after past' u place n
    ≡ cond (bytes_eq u row.user) (used_then controls groups row place n (used_at users past u place n)) (used_at users past u place n)) where
  sums_then : (w : Used → ℤ) (v : UsageRow → ℤ) → w unused ≡ pos 0 → ((o : Option Used) → w (used_more o row) ≡ w (unwrap_or o unused) +ℤ v row)
      → (i : ℕ) (s : Standing) → slice_get controls i ≡ Some s
      → sums_in w after past' i ≡ after_changes (sums_in w users past i) (counted_changes v groups (put_of s) (entry.Usage row))
  sums_then w v none more i s e = at (counts groups (put_of s) row) refl
    where
      number : ℤ
      number = span_number s row

      unwrapped : (o : Option Used) → unwrap_or (option_map w o) (pos 0) ≡ w (unwrap_or o unused)
      unwrapped None = sym none
      unwrapped (Some u) = refl

      then_is : (u : List ℕ) (n : ℤ) → used_then controls groups row i n (used_at users past u i n)
          ≡ cond (counts groups (put_of s) row && int_eq (span_number s row) n) (Some (used_more (used_at users past u i n) row)) (used_at users past u i n)
      then_is u n = ap (λ (o : Option Standing). cond (counts_in groups o row n) (Some (used_more (used_at users past u i n) row)) (used_at users past u i n)) e

      changed_so : (u : List ℕ) (n : ℤ) (a b : Bool) → bytes_eq u row.user ≡ a → int_eq (span_number s row) n ≡ b
          → option_map w (cond a (cond b (Some (used_more (used_at users past u i n) row)) (used_at users past u i n)) (used_at users past u i n))
          ≡ cond (a && b) (Some (unwrap_or (option_map w (used_at users past row.user i (span_number s row))) (pos 0) +ℤ v row)) (option_map w (used_at users past u i n))
      changed_so u n true true f g =
          ap (λ (z : ℤ). Some z) (more (used_at users past u i n) ∙ ap (λ (z : ℤ). z +ℤ v row) (sym (unwrapped (used_at users past u i n))))
          ∙ ap₂ (λ (x : List ℕ) (m : ℤ). Some (unwrap_or (option_map w (used_at users past x i m)) (pos 0) +ℤ v row))
          (one_name u row.user f) (sym ((signed_Decides (span_number s row) n).0 g))
      changed_so u n true false f g = refl
      changed_so u n false b f g = refl

      at : (b : Bool) → counts groups (put_of s) row ≡ b
          → sums_in w after past' i ≡ after_changes (sums_in w users past i) (cond b (record { key = span_key s.control s.control.window row; by = v row } ∷ []) [])
      at true f =
          changed_sums w i users after past past' row.user (span_number s row) (v row) k l plain
          (λ u n p.
          ap (option_map w) (counted u i n
          ∙ ap (λ (o : Option Used). cond (bytes_eq u row.user) o (used_at users past u i n))
          (then_is u n ∙ ap (λ (b : Bool). cond (b && int_eq (span_number s row) n) (Some (used_more (used_at users past u i n) row)) (used_at users past u i n)) f))
          ∙ changed_so u n (bytes_eq u row.user) (int_eq (span_number s row) n) refl refl
          ∙ ap (λ (b : Bool). cond (bytes_eq u row.user && b) (Some (unwrap_or (option_map w (used_at users past row.user i (span_number s row))) (pos 0) +ℤ v row)) (option_map w (used_at users past u i n)))
          (int_eq_equiv.symm (span_number s row) n))
          ∙ ap (λ (key : List ℕ). finite.insert (sums_in w users past i) key (kept_at (sums_in w users past i) key +ℤ v row)) (sym (span_is s.control s.control.window row))
      at false f =
          unchanged_sums w i users after past past' k l
          (λ u n p. counted u i n
          ∙ ap (λ (o : Option Used). cond (bytes_eq u row.user) o (used_at users past u i n))
          (then_is u n ∙ ap (λ (b : Bool). cond (b && int_eq (span_number s row) n) (Some (used_more (used_at users past u i n) row)) (used_at users past u i n)) f)
          ∙ same (bytes_eq u row.user) (used_at users past u i n))
        where
          same : (b : Bool) (o : Option Used) → cond b o o ≡ o
          same true o = refl
          same false o = refl

  pub controls_then : controls_from after past' 0 controls ≡ map (control_after_use groups (entry.Usage row)) (controls_from users past 0 controls)
  controls_then =
      ap (controls_from after past' 0) (sym (mapped_same controls))
      ∙ from_start users after past past' (λ (s : Standing). s) (control_after_use groups (entry.Usage row)) controls
      (λ i s e. λ j. record {
        first = s.first;
        control = s.control;
        amounts = sums_then (λ u. u.amount) (λ r. r.amount) refl (λ o. refl) i s e j;
        times = sums_then (λ u. u.count) (λ r. r.count) refl (λ o. refl) i s e j;
      })

-- the controls from a place on, by their places
pub standing_at : (users : Users) (past : Past) (f : ControlKept → ControlKept) (place : ℕ) (ss : List Standing) (i : ℕ) (s : Standing) → slice_get ss i ≡ Some s
    → slice_get (map f (controls_from users past place ss)) i ≡ Some (f (control_at users past (place + i) s))
standing_at users past f place [] i s e = cc
standing_at users past f place (x ∷ ss) zero s e =
    let one : x ≡ s = cc in
    let same : place ≡ place + 0 = omega arith in
    ap₂ (λ (n : ℕ) (t : Standing). Some (f (control_at users past n t))) same one
standing_at users past f place (x ∷ ss) (suc i) s e =
    let same : suc place + i ≡ place + suc i = omega arith in
    standing_at users past f (suc place) ss i s e ∙ ap (λ (n : ℕ). Some (f (control_at users past n s))) same

zero_plus : (i : ℕ) → 0 + i ≡ i
zero_plus i = omega arith

-- what may be counted of a row fits
pub fits : (controls : List Standing) (groups : List Group) (row : UsageRow) (users : Users) (past : Past) → AreKeyed users past → has_no_zero row.user ≡ true
    → HaveSmallSums (map (control_after_use groups (entry.Usage row)) (controls_from users past 0 controls))
    → StaySmall controls groups row (counters_at users row.user) past
fits controls groups row users past k plain small =
    record {
      small = λ i s e counted.
          let own = small.small i (control_after_use groups (entry.Usage row) (control_at users past i s)) (standing_at users past (control_after_use groups (entry.Usage row)) 0 controls i s e ∙ ap (λ (n : ℕ). Some (control_after_use groups (entry.Usage row) (control_at users past n s))) (zero_plus i)) in
          record {
            amount = each (λ u. u.amount) (λ r. r.amount) refl (λ o. refl) i s counted own.amounts;
            count = each (λ u. u.count) (λ r. r.count) refl (λ o. refl) i s counted own.times;
          };
    }
  where
    each : (w : Used → ℤ) (v : UsageRow → ℤ) → w unused ≡ pos 0 → ((o : Option Used) → w (used_more o row) ≡ w (unwrap_or o unused) +ℤ v row)
        → (i : ℕ) (s : Standing) → counts groups (put_of s) row ≡ true
        → AreSmall (after_changes (sums_in w users past i) (counted_changes v groups (put_of s) (entry.Usage row)))
        → IsSmall (w (used_more (used_at users past row.user i (span_number s row)) row))
    each w v none more i s counted small =
        subst (λ (z : ℤ). IsSmall z)
        (ap (λ (b : Bool). kept_at (after_changes (sums_in w users past i) (cond b (record { key = span_key s.control s.control.window row; by = v row } ∷ []) [])) (span_key s.control s.control.window row)) counted
        ∙ kept_at-after_change (sums_in w users past i) (record { key = span_key s.control s.control.window row; by = v row }) (span_key s.control s.control.window row)
        ∙ ap (λ (b : Bool). kept_at (sums_in w users past i) (span_key s.control s.control.window row) +ℤ cond b (v row) (pos 0)) (its_name (span_key s.control s.control.window row))
        ∙ ap (λ (key : List ℕ). kept_at (sums_in w users past i) key +ℤ v row) (span_is s.control s.control.window row)
        ∙ ap (λ (z : ℤ). z +ℤ v row) (sum_is w none users past k i row.user (span_number s row) plain)
        ∙ sym (more (used_at users past row.user i (span_number s row))))
        (small (span_key s.control s.control.window row))

-- a list from an index on
pub dropped : {A : Type 0} (xs : List A) (i : ℕ) (x : A) → slice_get xs i ≡ Some x → drop i xs ≡ x ∷ drop (i + 1) xs
dropped [] i x e = cc
dropped (y ∷ ys) zero x e = (let one : y ≡ x = cc in ap (λ z. z ∷ ys) one)
dropped (y ∷ ys) (suc i) x e = dropped ys i x e ∙ (let same : suc (i + 1) ≡ suc i + 1 = omega arith in ap (λ n. x ∷ drop n (y ∷ ys)) same)

-- a control that stands declines use by its counter
pub declines_so : (groups : List Group) (row : UsageRow) (first : Bool) (users : Users) (past : Past) (i : ℕ) (s : Standing) → AreKeyed users past → has_no_zero row.user ≡ true
    → declines_use groups row first (control_facts (control_at users past i s))
    ≡ (s.control.active && counts groups (put_of s) row && passes_with s.control (used_at users past row.user i (span_number s row)) row first)
declines_so groups row first users past i s k plain =
    ap (λ (b : Bool). s.control.active && counts groups (put_of s) row && b)
    (ap₂ (λ (a t : ℤ). passes s.control.amount_limit (row.amount +ℤ a) || first && passes s.control.usage_limit (t +ℤ pos 1))
    (sum (λ u. u.amount) refl) (sum (λ u. u.count) refl))
  where
    sum : (w : Used → ℤ) → w unused ≡ pos 0
        → kept_at (sums_in w users past i) (span_key s.control s.control.window row) ≡ w (unwrap_or (used_at users past row.user i (span_number s row)) unused)
    sum w none =
        ap (kept_at (sums_in w users past i)) (span_is s.control s.control.window row)
        ∙ sum_is w none users past k i row.user (span_number s row) plain

-- what a control has counted of a user in the window of a stamp
pub used_so : (users : Users) (past : Past) (i : ℕ) (s : Standing) (user : List ℕ) (at : ℕ) (o : Option Used) → AreKeyed users past → has_no_zero user ≡ true
    → is_single s.control.window ≡ false → o ≡ used_at users past user i (number_in s.control.window s.control.offset at 0)
    → unwrap_or o unused ≡ used_by (control_facts (control_at users past i s)) s.control.window user at
unfolding number_in
used_so users past i s user at o k plain single e = by s.control.window single e
  where
    sums : (number : ℤ) → o ≡ used_at users past user i number
        → unwrap_or o unused ≡ record { amount = kept_at (sums_in (λ u. u.amount) users past i) (counter_key user number); count = kept_at (sums_in (λ u. u.count) users past i) (counter_key user number) }
    sums number f =
        ap (λ (x : Option Used). unwrap_or x unused) f
        ∙ (λ j. record {
          amount = sym (sum_is (λ u. u.amount) refl users past k i user number plain) j;
          count = sym (sum_is (λ u. u.count) refl users past k i user number plain) j;
        })

    by : (w : Window) → is_single w ≡ false → o ≡ used_at users past user i (number_in w s.control.offset at 0)
        → unwrap_or o unused ≡ used_by (control_facts (control_at users past i s)) w user at
    by window.Transaction h f = (let wrong : true ≡ false = h in cc)
    by window.Day h f = sums (number_in window.Day s.control.offset at 0) f
    by window.Week h f = sums (number_in window.Week s.control.offset at 0) f
    by window.Month h f = sums (number_in window.Month s.control.offset at 0) f
    by window.Lifetime h f = sums (number_in window.Lifetime s.control.offset at 0) f

-- a control that isn't active, or doesn't count the row, declines nothing; another one declines if it has counted too much
module _ (groups : List Group) (row : UsageRow) (first : Bool) (users : Users) (past : Past) (i : ℕ) (s : Standing) (k : AreKeyed users past) (plain : has_no_zero row.user ≡ true) where
  pub declines_not : (s.control.active && counts groups (put_of s) row) ≡ false → declines_use groups row first (control_facts (control_at users past i s)) ≡ false
  declines_not h = declines_so groups row first users past i s k plain ∙ neither s.control.active (counts groups (put_of s) row) (passes_with s.control (used_at users past row.user i (span_number s row)) row first) h
    where
      neither : (a b c : Bool) → (a && b) ≡ false → (a && b && c) ≡ false
      neither true true c h = cc
      neither true false c h = refl
      neither false b c h = refl

  pub declines_over : (used : Option Used) (b : Bool) → (s.control.active && counts groups (put_of s) row) ≡ true → used ≡ used_at users past row.user i (span_number s row)
      → passes_with s.control used row first ≡ b → declines_use groups row first (control_facts (control_at users past i s)) ≡ b
  declines_over used b h e f =
      declines_so groups row first users past i s k plain
      ∙ both s.control.active (counts groups (put_of s) row) (passes_with s.control (used_at users past row.user i (span_number s row)) row first) h
      ∙ ap (λ (o : Option Used). passes_with s.control o row first) (sym e) ∙ f
    where
      both : (a b c : Bool) → (a && b) ≡ true → (a && b && c) ≡ c
      both true true c h = refl
      both true false c h = cc
      both false b c h = cc
