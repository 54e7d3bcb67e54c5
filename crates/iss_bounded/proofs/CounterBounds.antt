-- What controls have counted is within what the records may come to, on cores and on states.
use Rattle.std.proofs.Common.{◌≡◌, ◌∙◌, ◌++◌, ◌+◌, ◌+ℤ◌, ◌∷◌, ◌&&◌, ◌≤◌, ℕ, ℤ, pos, neg_ℤ, arith, Bool, cond, false, filter, length, List, [], map, refl, subst, suc, sym, true}
use Rattle.std.specs.Prelude.{Some, unwrap_or, ◌≤ℤ◌, ◌-ℤ◌}
use Rattle.std.specs.List.{flat_map, list_all}
use Rattle.std.specs.Cmp.Lexicographic.{slice_cmp}
use Rattle.std.specs.FinMap as finite
use Rattle.std.specs.FinMap.Entries.{find}
use Rattle.std.specs.Ordering.{is_eq, nat_cmp}
use Rattle.std.specs.Str.{bytes_eq}
use Rattle.std.proofs.lemmas.Bool.{and_parts}
use Rattle.std.proofs.lemmas.Int.{ints}
use Rattle.std.proofs.lemmas.List.{length-append}
use Rattle.std.proofs.lemmas.List.Folds.{list_all-append}
use Rattle.iss_model.specs.declared.counted.Counter.{Counter}
use Rattle.iss_model.specs.declared.input.Record.{Record}
use Rattle.iss_model.specs.declared.limits.TheConstants.{GREATEST_AMOUNT}
use Rattle.iss_model.specs.declared.state.State.{State}
use Rattle.iss_model.specs.declared.txn.Used.{Used}
use Rattle.iss_model.specs.rules.Activity.{CallNow, TxnNow, is_asked}
use Rattle.iss_model.specs.rules.Histories.{IsLegal}
use Rattle.iss_model.specs.rules.Stepping.{step}
use Rattle.iss_model.specs.state.Cores.{ControlKept, CoreState, core_keeper, core_of, no_core}
use Rattle.iss_model.specs.state.Kept.{kept_at}
use Rattle.iss_model.specs.texts.Spelling.{is_record}
use Rattle.iss_state.specs.Holdings.{IsHeldWell}
use Rattle.iss_state.specs.Pending.{IsWell}
use Rattle.iss_state.specs.Sound.{IsNewEvent}
use Rattle.iss_state.proofs.calls.Legal.{nothing_well}
use Rattle.iss_state.proofs.calls.Steps.{ready_taken, step_well}
use Rattle.iss_state.proofs.docket.Lists.{Each, each_weaker}
use Rattle.iss_state.proofs.held.Steps.{nothing_held, step_held}
use Rattle.iss_state.proofs.held.Times.{stamp_by_now}
use Rattle.iss_state.proofs.invariants.Legal.{legal_induction}
use Rattle.iss_states.specs.Rebuilding.{counter_sum, events_again, kept_by, rebuilt, with_counters}
use Rattle.iss_states.specs.Showing.{counter_at, counters_of, shown}
use Rattle.iss_states.proofs.KeptKeys.{entries_at_keys}
use Rattle.iss_well_formed.proofs.FairAgain.{found_at, got}
use Rattle.iss_noticed.specs.Commitments.{most_of_records}
use Rattle.iss_bounded.specs.Bounds.{AreBetween, AreBounded, IsBetween, asked_number, asked_worth, open_amount}
use Rattle.iss_bounded.proofs.OpenLoad.{open_bears, open_load, open_runs}
use Rattle.iss_bounded.proofs.UseBounds.{UseWithin, each_kept, step_use}
use Rattle.iss_bounded.proofs.UseKinds.{amounts_down, amounts_down_brings, amounts_down_fair, amounts_up, amounts_up_brings, amounts_up_fair, asked_bears, asked_load, plain_runs, times_down, times_down_brings, times_down_fair, times_up, times_up_brings, times_up_fair}

-- what is counted ----

abbrev pub amount_up : ControlKept → List ℕ → ℤ
amount_up k key = kept_at k.amounts key

abbrev pub amount_turned : ControlKept → List ℕ → ℤ
amount_turned k key = neg_ℤ (kept_at k.amounts key)

abbrev pub times_read : ControlKept → List ℕ → ℤ
times_read k key = kept_at k.times key

abbrev pub times_turned : ControlKept → List ℕ → ℤ
times_turned k key = neg_ℤ (kept_at k.times key)

-- What this many records leave of counters: amounts and counts are no more than the records may come to. Amounts are no less than what of
-- this is left by what is open, and counts than what is left by asked calls.
pub record HasUseWithin (n : ℕ) (s : CoreState) : Type 0 where
  pub amounts : UseWithin amount_up (asked_load (λ m. 0)) (pos (most_of_records n)) s
  pub opened : UseWithin amount_turned open_load (pos (most_of_records n)) s
  pub times : UseWithin times_read (asked_load (λ m. 0)) (pos n) s
  pub asked : UseWithin times_turned (asked_load (λ m. 1)) (pos n) s

moved_on : {count : ControlKept → List ℕ → ℤ} {load : CoreState → ℕ} (a b c : ℕ) (s : CoreState) → c ≡ a + b → UseWithin count load (pos a +ℤ pos b) s → UseWithin count load (pos c) s
moved_on {count} {load} a b c s e h = subst (λ (z : ℤ). UseWithin count load z s) (sum a b c e) h
  where
    sum : (a b c : ℕ) → c ≡ a + b → pos a +ℤ pos b ≡ pos c
    sum a b c e = omega (arith, ints, e)

pub one_more : (n : ℕ) → most_of_records (n + 1) ≡ most_of_records n + GREATEST_AMOUNT
one_more n = omega arith

pub use_step : (n : ℕ) (s : CoreState) (r : Record) → IsWell s → IsHeldWell s → IsNewEvent s r.input → is_record r ≡ true → HasUseWithin n s → HasUseWithin (n + 1) (step core_keeper s r).world
use_step n s r well held new form h =
    let w : CoreState = (step core_keeper s r).world in
    let taken = ready_taken s r well new in
    record {
      amounts = moved_on (most_of_records n) GREATEST_AMOUNT (most_of_records (n + 1)) w (one_more n)
          (step_use amounts_up amounts_up_fair (asked_bears (λ m. 0) _) plain_runs GREATEST_AMOUNT (pos (most_of_records n)) s r taken refl (amounts_up_brings r form) h.amounts);
      opened = moved_on (most_of_records n) GREATEST_AMOUNT (most_of_records (n + 1)) w (one_more n)
          (step_use amounts_down amounts_down_fair (open_bears _) open_runs GREATEST_AMOUNT (pos (most_of_records n)) s r (record { early = stamp_by_now s r; taken = taken; held = held }) refl (amounts_down_brings r form) h.opened);
      times = moved_on n 1 (n + 1) w refl (step_use times_up times_up_fair (asked_bears (λ m. 0) _) plain_runs 1 (pos n) s r taken refl (times_up_brings r.input r.at) h.times);
      asked = moved_on n 1 (n + 1) w refl (step_use times_down times_down_fair (asked_bears (λ m. 1) _) plain_runs 1 (pos n) s r taken refl (times_down_brings r.input r.at) h.asked);
    }

-- legal records ----

record IsUsedWell (rs : List Record) (s : CoreState) : Type 0 where
  well : IsWell s
  held : IsHeldWell s
  used : list_all is_record rs ≡ true → HasUseWithin (length rs) s

none_used : HasUseWithin 0 no_core
none_used =
    record {
      amounts = record { its = record { none = omega (arith, ints); each = tt } };
      opened = record { its = record { none = omega (arith, ints); each = tt } };
      times = record { its = record { none = omega (arith, ints); each = tt } };
      asked = record { its = record { none = omega (arith, ints); each = tt } };
    }

pub legal_used : (rs : List Record) → IsLegal rs → list_all is_record rs ≡ true → HasUseWithin (length rs) (core_of rs)
legal_used rs legal form = (legal_induction IsUsedWell (record { well = nothing_well; held = nothing_held; used = λ none. none_used })
    (λ rs r new h. record {
      well = step_well (core_of rs) r new h.well;
      held = step_held (core_of rs) r new h.well h.held;
      used = λ forms.
          let both = and_parts (list_all is_record rs) (is_record r && true) (sym (list_all-append is_record rs (r ∷ [])) ∙ forms) in
          subst (λ (n : ℕ). HasUseWithin n (step core_keeper (core_of rs) r).world) (sym (length-append rs (r ∷ [])))
          (use_step (length rs) (core_of rs) r h.well h.held new (and_parts (is_record r) true both.1).0 (h.used both.0));
    }) rs legal).used form

-- counters as a list ----

to_each : (worth : Counter → ℤ) (load bound : ℕ) (ks : List Counter) → AreBetween worth load bound ks → Each (λ k. IsBetween load bound (worth k)) ks
to_each worth load bound [] h = tt
to_each worth load bound (k ∷ ks) h = (h.0, to_each worth load bound ks h.1)

of_each : (worth : Counter → ℤ) (load bound : ℕ) (ks : List Counter) → Each (λ k. IsBetween load bound (worth k)) ks → AreBetween worth load bound ks
of_each worth load bound [] h = tt
of_each worth load bound (k ∷ ks) h = (h.0, of_each worth load bound ks h.1)

-- a core that is made again ----

found_one : (P : ℤ → Type 0) → P (pos 0) → (es : List (List ℕ × ℤ)) (key : List ℕ) → Each (λ e. P (e.1)) es → P (found_at key es)
found_one P none [] key h = none
found_one P none (e ∷ es) key h = by (is_eq (slice_cmp nat_cmp key (e.0))) (found_one P none es key h.1)
  where
    by : (b : Bool) → P (found_at key es) → P (unwrap_or (cond b (Some (e.1)) (find (slice_cmp nat_cmp) key es)) (pos 0))
    by true rest = h.0
    by false rest = rest

each_sum : (P : ℤ → Type 0) (worth : Used → ℤ) (txns : List TxnNow) (ks : List Counter) → Each (λ k. P (worth k.used)) ks → Each (λ (e : List ℕ × ℤ). P (e.1)) (map (counter_sum worth txns) ks)
each_sum P worth txns [] h = tt
each_sum P worth txns (k ∷ ks) h = (h.0, each_sum P worth txns ks h.1)

-- what a control has counted that is made again is one of its counters, or nothing
pub counted_again : (P : ℤ → Type 0) (worth : Used → ℤ) (txns : List TxnNow) (ks : List Counter) (name key : List ℕ) → P (pos 0) → Each (λ k. P (worth k.used)) ks
    → P (kept_at (kept_by (counter_sum worth txns) (filter (λ k. bytes_eq k.control name) ks)) key)
counted_again P worth txns ks name key none h =
    let own : List Counter = filter (λ k. bytes_eq k.control name) ks in
    subst P (sym (got (map (counter_sum worth txns) own) key)) (found_one P none (map (counter_sum worth txns) own) key (each_sum P worth txns own (each_kept (λ (k : Counter). P (worth k.used)) (λ k. bytes_eq k.control name) ks h)))

-- what is shown ----

each_joined : {A B : Type 0} (P : B → Type 0) (f : A → List B) (xs : List A) → Each (λ x. Each P (f x)) xs → Each P (flat_map f xs)
each_joined P f [] h = tt
each_joined {A} {B} P f (x ∷ xs) h = both (f x) h.0 (each_joined P f xs h.1)
  where
    both : (ys : List B) → Each P ys → Each P (flat_map f xs) → Each P (ys ++ flat_map f xs)
    both [] k rest = rest
    both (y ∷ ys) k rest = (k.0, both ys k.1 rest)

counters_pass : (P : Counter → Type 0) (txns : List TxnNow) (k : ControlKept) → ((key : List ℕ) → P (counter_at txns k (key, kept_at k.amounts key))) → Each P (counters_of txns k)
counters_pass P txns k h = subst (λ (es : List (List ℕ × ℤ)). Each P (map (counter_at txns k) es)) (entries_at_keys k.amounts) (all (finite.keys k.amounts))
  where
    all : (keys : List (List ℕ)) → Each P (map (counter_at txns k) (map (λ (key : List ℕ). (key, kept_at k.amounts key)) keys))
    all [] = tt
    all (key ∷ keys) = (h key, all keys)

-- each counter that a core shows passes what each control's counts pass
pub shown_pass : (P : Counter → Type 0) (txns : List TxnNow) (ks : List ControlKept) → Each (λ k. (key : List ℕ) → P (counter_at txns k (key, kept_at k.amounts key))) ks → Each P (flat_map (counters_of txns) ks)
shown_pass P txns ks h = each_joined P (counters_of txns) ks (each_weaker (λ (k : ControlKept). (key : List ℕ) → P (counter_at txns k (key, kept_at k.amounts key))) (λ k. Each P (counters_of txns k)) (λ k h. counters_pass P txns k h) ks h)

-- a state ----

zero_worth : (calls : List CallNow) → asked_worth (λ o. 0) calls ≡ 0
zero_worth [] = refl
zero_worth (c ∷ cs) = by (is_asked c) (zero_worth cs)
  where
    by : (b : Bool) → asked_worth (λ o. 0) cs ≡ 0 → cond b 0 0 + asked_worth (λ o. 0) cs ≡ 0
    by true rest = omega (arith, rest)
    by false rest = omega (arith, rest)

pub number_within : (calls : List CallNow) → asked_number calls ≤ length calls
number_within [] = omega arith
number_within (c ∷ cs) = one (is_asked c) (asked_number cs) (length cs) (number_within cs)
  where
    one : (b : Bool) (m n : ℕ) → m ≤ n → cond b 1 0 + m ≤ suc n
    one true m n h = omega (arith, h)
    one false m n h = omega (arith, h)

pub controls_again : (count : ControlKept → List ℕ → ℤ) (m : ℤ) (txns : List TxnNow) (ks : List Counter) → ((k : ControlKept) (key : List ℕ) → count (with_counters txns ks k) key ≤ℤ m) → (xs : List ControlKept)
    → Each (λ k. (key : List ℕ) → count k key ≤ℤ m) (map (with_counters txns ks) xs)
controls_again count m txns ks one [] = tt
controls_again count m txns ks one (x ∷ xs) = (one x, controls_again count m txns ks one xs)

each_both : {A : Type 0} (P Q : A → Type 0) (xs : List A) → Each P xs → Each Q xs → Each (λ x. P x × Q x) xs
each_both P Q [] h k = tt
each_both P Q (x ∷ xs) h k = ((h.0, k.0), each_both P Q xs h.1 k.1)

module _ (s : State) (few : length (rebuilt s).calls ≤ s.records) where
  abbrev c : CoreState
  c = rebuilt s

  up_again : (worth : Used → ℤ) (count : ControlKept → List ℕ → ℤ) (bound : ℕ)
      → ((k : ControlKept) (key : List ℕ) → count (with_counters c.holdings.txns s.counters k) key ≡ kept_at (kept_by (counter_sum worth c.holdings.txns) (filter (λ x. bytes_eq x.control k.control.name) s.counters)) key)
      → Each (λ k. worth k.used ≤ℤ pos bound) s.counters → UseWithin count (asked_load (λ m. 0)) (pos bound) c
  up_again worth count bound same h =
      let m : ℤ = pos bound +ℤ neg_ℤ (pos (asked_load (λ m. 0) c)) in
      let none : pos 0 ≤ℤ m = least bound (asked_load (λ m. 0) c) (zero_worth c.calls) in
      record {
        its = record {
          none = none;
          each = controls_again count m c.holdings.txns s.counters
              (λ k key. subst (λ (z : ℤ). z ≤ℤ m) (sym (same k key))
              (counted_again (λ (z : ℤ). z ≤ℤ m) worth c.holdings.txns s.counters k.control.name key none
              (each_weaker (λ (k : Counter). worth k.used ≤ℤ pos bound) (λ (k : Counter). worth k.used ≤ℤ m) (λ k h. within (worth k.used) bound (asked_load (λ m. 0) c) (zero_worth c.calls) h) s.counters h)))
              (events_again s).controls;
        };
      }
    where
      least : (b a : ℕ) → a ≡ 0 → pos 0 ≤ℤ (pos b +ℤ neg_ℤ (pos a))
      least b a e = omega (arith, ints, e)

      within : (z : ℤ) (b a : ℕ) → a ≡ 0 → z ≤ℤ pos b → z ≤ℤ (pos b +ℤ neg_ℤ (pos a))
      within z b a e h = omega (arith, ints, e, h)

  down_again : (worth : Used → ℤ) (count : ControlKept → List ℕ → ℤ) (load : CoreState → ℕ) (l bound : ℕ)
      → ((k : ControlKept) (key : List ℕ) → count (with_counters c.holdings.txns s.counters k) key ≡ neg_ℤ (kept_at (kept_by (counter_sum worth c.holdings.txns) (filter (λ x. bytes_eq x.control k.control.name) s.counters)) key))
      → load c ≤ l → l ≤ bound → Each (λ k. IsBetween l bound (worth k.used)) s.counters → UseWithin count load (pos bound) c
  down_again worth count load l bound same le within h =
      let m : ℤ = pos bound +ℤ neg_ℤ (pos (load c)) in
      let none : pos 0 ≤ℤ m = least (load c) l bound le within in
      record {
        its = record {
          none = none;
          each = controls_again count m c.holdings.txns s.counters
              (λ k key. subst (λ (z : ℤ). z ≤ℤ m) (sym (same k key))
              (counted_again (λ (z : ℤ). neg_ℤ z ≤ℤ m) worth c.holdings.txns s.counters k.control.name key none
              (each_weaker (λ (k : Counter). IsBetween l bound (worth k.used)) (λ (k : Counter). neg_ℤ (worth k.used) ≤ℤ m) (λ k h. turned (worth k.used) (load c) l bound le h.low) s.counters h)))
              (events_again s).controls;
        };
      }
    where
      least : (a n r : ℕ) → a ≤ n → n ≤ r → pos 0 ≤ℤ (pos r +ℤ neg_ℤ (pos a))
      least a n r h k = omega (arith, ints, h, k)

      turned : (z : ℤ) (a l r : ℕ) → a ≤ l → (pos l -ℤ pos r) ≤ℤ z → neg_ℤ z ≤ℤ (pos r +ℤ neg_ℤ (pos a))
      turned z a l r le h = omega (arith, ints, le, h)

  high_of : (worth : Counter → ℤ) (load bound : ℕ) → AreBetween worth load bound s.counters → Each (λ k. worth k ≤ℤ pos bound) s.counters
  high_of worth load bound h = each_weaker (λ (k : Counter). IsBetween load bound (worth k)) (λ (k : Counter). worth k ≤ℤ pos bound) (λ k h. h.high) s.counters (to_each worth load bound s.counters h)

  pub use_again : open_load (rebuilt s) ≤ open_amount s → AreBounded s → HasUseWithin s.records (rebuilt s)
  use_again open_within h =
      record {
        amounts = up_again (λ u. u.amount) amount_up (most_of_records s.records) (λ k key. refl) (high_of (λ k. k.used.amount) (open_amount s) (most_of_records s.records) h.amounts);
        opened = down_again (λ u. u.amount) amount_turned open_load (open_amount s) (most_of_records s.records) (λ k key. refl) open_within h.opened (to_each (λ k. k.used.amount) (open_amount s) (most_of_records s.records) s.counters h.amounts);
        times = up_again (λ u. u.count) times_read s.records (λ k key. refl) (high_of (λ k. k.used.count) (asked_number c.calls) s.records h.counts);
        asked = down_again (λ u. u.count) times_turned (asked_load (λ m. 1)) (asked_number c.calls) s.records (λ k key. refl) (itself (asked_number c.calls))
            (through (asked_number c.calls) (length c.calls) s.records (number_within c.calls) few) (to_each (λ k. k.used.count) (asked_number c.calls) s.records s.counters h.counts);
      }
    where
      itself : (n : ℕ) → n ≤ n
      itself n = omega arith

      through : (a b d : ℕ) → a ≤ b → b ≤ d → a ≤ d
      through a b d h k = omega (arith, h, k)

-- what a core shows ----

pub counters_shown : (worth : Used → ℤ) (read : ControlKept → List ℕ → ℤ) (load : CoreState → ℕ) (w : CoreState) (n : ℕ) → ((k : ControlKept) (key : List ℕ) → worth (counter_at w.holdings.txns k (key, kept_at k.amounts key)).used ≡ read k key)
    → UseWithin read (asked_load (λ m. 0)) (pos n) w → UseWithin (λ k key. neg_ℤ (read k key)) load (pos n) w → AreBetween (λ k. worth k.used) (load w) n (shown w).counters
counters_shown worth read load w n same up down =
    of_each (λ k. worth k.used) (load w) n (shown w).counters
    (shown_pass (λ (x : Counter). IsBetween (load w) n (worth x.used)) w.holdings.txns w.controls
    (each_weaker (λ (k : ControlKept). Up k × Down k) (λ (k : ControlKept). (key : List ℕ) → IsBetween (load w) n (worth (counter_at w.holdings.txns k (key, kept_at k.amounts key)).used))
    (λ k h key. subst (IsBetween (load w) n) (sym (same k key)) (between (read k key) (load w) (asked_load (λ m. 0) w) n (zero_worth w.calls) (h.0 key) (h.1 key))) w.controls (each_both Up Down w.controls up.its.each down.its.each)))
  where
    Up : ControlKept → Type 0
    Up k = (key : List ℕ) → read k key ≤ℤ (pos n +ℤ neg_ℤ (pos (asked_load (λ m. 0) w)))

    Down : ControlKept → Type 0
    Down k = (key : List ℕ) → neg_ℤ (read k key) ≤ℤ (pos n +ℤ neg_ℤ (pos (load w)))

    between : (z : ℤ) (a b n : ℕ) → b ≡ 0 → z ≤ℤ (pos n +ℤ neg_ℤ (pos b)) → neg_ℤ z ≤ℤ (pos n +ℤ neg_ℤ (pos a)) → IsBetween a n z
    between z a b n e h k = record { low = omega (arith, ints, k); high = omega (arith, ints, e, h) }

-- what is open is within its bound
pub open_within : (w : CoreState) (n : ℕ) → UseWithin amount_turned open_load (pos n) w → open_load w ≤ n
open_within w n h = some (open_load w) n h.its.none
  where
    some : (a m : ℕ) → pos 0 ≤ℤ (pos m +ℤ neg_ℤ (pos a)) → a ≤ m
    some a m h = omega (arith, ints, h)
