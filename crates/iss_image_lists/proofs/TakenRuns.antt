-- Counters taken run by run onto those before them are the counters of the list of runs, if no two runs next to each other have one control.
use Rattle.std.proofs.Common.{◌≡◌, ℕ, zero, suc, ◌-◌, ◌+◌, ◌<◌, ◌≤◌, Bool, true, false, cond, ◌&&◌, List, [], ◌∷◌, ◌++◌, Option, Some, None, refl, sym, ap, ◌∙◌, append_assoc, arith}
use Rattle.std.proofs.lemmas.Bool.Decides.{nat_tests}
use Rattle.std.proofs.lemmas.Option.{same_Some}
use Rattle.std.proofs.lemmas.List.{append-nil}
use Rattle.std.proofs.lemmas.List.Concat.{flat_map-cons}
use Rattle.iss_model.specs.declared.counted.Counter.{Counter}
use Rattle.iss_model.specs.declared.setting.Window.{Window}
use Rattle.iss_codec.specs.Taking.{◌>>=◌, only, take_number}
use Rattle.iss_codec.proofs.TakenFields.{bind_some}
use Rattle.iss_image_lists.specs.Runs.{Run, counters_of, begins_apart, are_apart, are_some, has_counters}
use Rattle.iss_image_lists.specs.Taking.{take_things, take_list, take_counted, take_run, take_counters}
use Rattle.iss_image_lists.specs.Readers.{with_prefix}
use Rattle.iss_image_lists.specs.Along.{is_other, is_some_number, take_run_onto, runs_onto}
use Rattle.iss_image_lists.proofs.CutRuns.{run_with}

-- there are things if their number isn't 0
some_things : (take_thing : List ℕ → Option (Counter × List ℕ)) (n : ℕ) (bytes : List ℕ) (ks : List Counter × List ℕ) → take_things take_thing n bytes ≡ Some ks → are_some ks.0 ≡ is_some_number n
unfolding take_things
some_things take_thing zero bytes ks e = ap (λ (x : List Counter × List ℕ). are_some x.0) (sym (same_Some ([], bytes) ks e))
some_things take_thing (suc n) bytes ks e =
    let a = bind_some (take_thing bytes) _ ks e in
    let b = bind_some (take_things take_thing n a.0.1) _ ks a.2 in
    let some : is_some_number (suc n) ≡ true = grind (arith, nat_tests) in
    ap (λ (x : List Counter × List ℕ). are_some x.0) (sym (same_Some (a.0.0 ∷ b.0.0, b.0.1) ks b.2)) ∙ sym some

-- a run onto the counters so far, if its control is another one
abbrev pub onto : Option (List ℕ) → List Counter → Run × List ℕ → Option ((List ℕ × List Counter) × List ℕ)
onto before prefix r = cond (is_other before r.0.control) (Some ((r.0.control, prefix ++ r.0.counters), r.1)) None

-- a control and counters with the bytes after them, if a test was passed
abbrev pub run_if : Bool → List ℕ → List Counter → List ℕ → Option ((List ℕ × List Counter) × List ℕ)
run_if b control ks rest = cond b (Some ((control, ks), rest)) None

-- a list of runs onto the counters so far, if no two runs next to each other have one control
abbrev pub begins_other : Option (List ℕ) → List Run → Bool
begins_other before [] = true
begins_other before (run ∷ runs) = is_other before run.control

abbrev pub all_onto : Option (List ℕ) → List Counter → List Run × List ℕ → Option (List Counter × List ℕ)
all_onto before prefix runs = cond (begins_other before runs.0 && are_apart runs.0) (Some (prefix ++ counters_of runs.0, runs.1)) None

-- the counters of a run, and what is made of them
abbrev pub own_onto : List ℕ → List Counter → Option (List Counter × List ℕ) → Option ((List ℕ × List Counter) × List ℕ)
own_onto control prefix t = with_prefix prefix t >>= λ own. Some ((control, own.0), own.1)

abbrev pub own_run : List ℕ → Option (List Counter × List ℕ) → Option (Run × List ℕ)
own_run control t = t >>= λ ks. only has_counters (run_with control ks.0, ks.1)

-- a number with the bytes after it, if a test was passed
abbrev pub number_if : Bool → ℕ → List ℕ → Option (ℕ × List ℕ)
number_if b n rest = cond b (Some (n, rest)) None

by_number : (p : Bool) (before : Option (List ℕ)) (control : List ℕ) (prefix : List Counter) (things : ℕ → List ℕ → Option (List Counter × List ℕ)) (n : ℕ) (rest : List ℕ) (t : Option (List Counter × List ℕ))
    → is_other before control ≡ true → things n rest ≡ t → ((ks : List Counter × List ℕ) → t ≡ Some ks → are_some ks.0 ≡ p)
    → (number_if p n rest >>= λ some. own_onto control prefix (things some.0 some.1)) ≡ (own_run control t >>= onto before prefix)
by_number true before control prefix things n rest None other e some = ap (own_onto control prefix) e
by_number true before control prefix things n rest (Some ks) other e some = ap (own_onto control prefix) e ∙ sym (rw (some ks refl, other) refl)
by_number false before control prefix things n rest None other e some = refl
by_number false before control prefix things n rest (Some ks) other e some = sym (rw (some ks refl) refl)

abbrev pub one_if : Bool → Run → List ℕ → Option (Run × List ℕ)
one_if b run rest = cond b (Some (run, rest)) None

never_by : (b : Bool) (before : Option (List ℕ)) (control : List ℕ) (prefix : List Counter) (ks : List Counter × List ℕ) → is_other before control ≡ false
    → (one_if b (run_with control ks.0) ks.1 >>= onto before prefix) ≡ None
never_by true before control prefix ks other = rw other refl
never_by false before control prefix ks other = refl

-- nothing is made of a run whose control is the one before it
never : (before : Option (List ℕ)) (control : List ℕ) (prefix : List Counter) (t : Option (List Counter × List ℕ)) → is_other before control ≡ false → (own_run control t >>= onto before prefix) ≡ None
never before control prefix None other = refl
never before control prefix (Some ks) other = never_by (are_some ks.0) before control prefix ks other

begins_as : (control : List ℕ) (runs : List Run) → begins_other (Some control) runs ≡ begins_apart control runs
begins_as control [] = refl
begins_as control (run ∷ runs) = refl

-- at the end all runs are tested, and their counters are put together

abbrev pub counters_if : Bool → List Run → List ℕ → Option (List Counter × List ℕ)
counters_if b runs rest = cond b (Some (counters_of runs, rest)) None

abbrev pub runs_if : Bool → List Run → List ℕ → Option (List Run × List ℕ)
runs_if b runs rest = cond b (Some (runs, rest)) None

end_by : (b : Bool) (runs : List Run) (rest : List ℕ) → counters_if b runs rest ≡ (runs_if b runs rest >>= λ apart. Some (counters_of apart.0, apart.1))
end_by true runs rest = refl
end_by false runs rest = refl

end_of : (runs : List Run) (rest : List ℕ) → all_onto None [] (runs, rest) ≡ (only are_apart (runs, rest) >>= λ apart. Some (counters_of apart.0, apart.1))
end_of [] rest = refl
end_of (run ∷ runs) rest = end_by (are_apart (run ∷ runs)) (run ∷ runs) rest

all_end : (t : Option (List Run × List ℕ)) → (t >>= all_onto None []) ≡ (t >>= λ runs. only are_apart runs >>= λ apart. Some (counters_of apart.0, apart.1))
all_end None = refl
all_end (Some runs) = end_of runs.0 runs.1

module _ (take_name : List ℕ → Option (List ℕ × List ℕ)) (window_of : List ℕ → Option Window) where
  -- how many counters a run has, and then the counters
  after_window : (before : Option (List ℕ)) (control : List ℕ) (prefix : List Counter) (w : Window) (m : Option (ℕ × List ℕ)) → is_other before control ≡ true
      → (m >>= λ count. only is_some_number count >>= λ some. own_onto control prefix (take_things (take_counted take_name control w) some.0 some.1))
      ≡ (own_run control (m >>= λ count. take_things (take_counted take_name control w) count.0 count.1) >>= onto before prefix)
  after_window before control prefix w None other = refl
  after_window before control prefix w (Some count) other =
      by_number (is_some_number count.0) before control prefix (take_things (take_counted take_name control w)) count.0 count.1 _ other refl
      (some_things (take_counted take_name control w) count.0 count.1)

  after_control : (before : Option (List ℕ)) (control rest : List ℕ) (prefix : List Counter) (o : Option Window) → is_other before control ≡ true
      → (o >>= λ w. take_number 4 rest >>= λ count. only is_some_number count >>= λ some. own_onto control prefix (take_things (take_counted take_name control w) some.0 some.1))
      ≡ ((o >>= λ w. own_run control (take_list (take_counted take_name control w) rest)) >>= onto before prefix)
  unfolding take_list
  after_control before control rest prefix None other = refl
  after_control before control rest prefix (Some w) other = after_window before control prefix w (take_number 4 rest) other

  never_after : (before : Option (List ℕ)) (control rest : List ℕ) (prefix : List Counter) (o : Option Window) → is_other before control ≡ false
      → ((o >>= λ w. own_run control (take_list (take_counted take_name control w) rest)) >>= onto before prefix) ≡ None
  never_after before control rest prefix None other = refl
  never_after before control rest prefix (Some w) other = never before control prefix (take_list (take_counted take_name control w) rest) other

  named : (b : Bool) (before : Option (List ℕ)) (prefix : List Counter) (control : List ℕ × List ℕ) → is_other before control.0 ≡ b
      → (cond b (Some control) None >>= λ other. window_of other.0 >>= λ w. take_number 4 other.1 >>= λ count. only is_some_number count >>= λ some.
      own_onto other.0 prefix (take_things (take_counted take_name other.0 w) some.0 some.1))
      ≡ ((window_of control.0 >>= λ w. own_run control.0 (take_list (take_counted take_name control.0 w) control.1)) >>= onto before prefix)
  named true before prefix control other = after_control before control.0 control.1 prefix (window_of control.0) other
  named false before prefix control other = sym (never_after before control.0 control.1 prefix (window_of control.0) other)

  from_name : (before : Option (List ℕ)) (prefix : List Counter) (n : Option (List ℕ × List ℕ))
      → (n >>= λ control. only (is_other before) control >>= λ other. window_of other.0 >>= λ w. take_number 4 other.1 >>= λ count. only is_some_number count >>= λ some.
      own_onto other.0 prefix (take_things (take_counted take_name other.0 w) some.0 some.1))
      ≡ ((n >>= λ control. window_of control.0 >>= λ w. own_run control.0 (take_list (take_counted take_name control.0 w) control.1)) >>= onto before prefix)
  from_name before prefix None = refl
  from_name before prefix (Some control) = named (is_other before control.0) before prefix control refl

  run_onto : (before : Option (List ℕ)) (prefix : List Counter) (bytes : List ℕ) → take_run_onto take_name window_of before prefix bytes ≡ (take_run take_name window_of bytes >>= onto before prefix)
  unfolding take_run_onto take_run
  run_onto before prefix bytes = from_name before prefix (take_name bytes)

  -- one run more before others
  more_onto : (before : Option (List ℕ)) (prefix : List Counter) (run : Run) (others : Option (List Run × List ℕ)) → is_other before run.control ≡ true
      → (others >>= all_onto (Some run.control) (prefix ++ run.counters)) ≡ ((others >>= λ rs. Some (run ∷ rs.0, rs.1)) >>= all_onto before prefix)
  more_onto before prefix run None other = refl
  more_onto before prefix run (Some rs) other =
      let joined : (prefix ++ run.counters) ++ counters_of rs.0 ≡ prefix ++ counters_of (run ∷ rs.0) =
      append_assoc prefix run.counters (counters_of rs.0) ∙ ap (λ (l : List Counter). prefix ++ l) (sym (flat_map-cons (λ (r : Run). r.counters) run rs.0)) in
      ap (λ (l : List Counter). cond (begins_other (Some run.control) rs.0 && are_apart rs.0) (Some (l, rs.1)) None) joined
      ∙ ap (λ (b : Bool). cond (b && are_apart rs.0) (Some (prefix ++ counters_of (run ∷ rs.0), rs.1)) None) (begins_as run.control rs.0)
      ∙ ap (λ (b : Bool). cond (b && (begins_apart run.control rs.0 && are_apart rs.0)) (Some (prefix ++ counters_of (run ∷ rs.0), rs.1)) None) (sym other)

  none_onto : (before : Option (List ℕ)) (prefix : List Counter) (run : Run) (others : Option (List Run × List ℕ)) → is_other before run.control ≡ false
      → ((others >>= λ rs. Some (run ∷ rs.0, rs.1)) >>= all_onto before prefix) ≡ None
  none_onto before prefix run None other = refl
  none_onto before prefix run (Some rs) other = ap (λ (b : Bool). cond (b && (begins_apart run.control rs.0 && are_apart rs.0)) (Some (prefix ++ counters_of (run ∷ rs.0), rs.1)) None) other

  -- what the other runs give after the first one
  record GoOn (n : ℕ) (prefix : List Counter) (first : Run × List ℕ) : Type 0 where
    so : runs_onto take_name window_of (Some first.0.control) (prefix ++ first.0.counters) n first.1
        ≡ (take_things (take_run take_name window_of) n first.1 >>= all_onto (Some first.0.control) (prefix ++ first.0.counters))

  first_onto : (n : ℕ) (before : Option (List ℕ)) (prefix : List Counter) (first : Run × List ℕ) (b : Bool) → is_other before first.0.control ≡ b → GoOn n prefix first
      → (run_if b first.0.control (prefix ++ first.0.counters) first.1 >>= λ x. runs_onto take_name window_of (Some x.0.0) x.0.1 n x.1)
      ≡ ((take_things (take_run take_name window_of) n first.1 >>= λ rs. Some (first.0 ∷ rs.0, rs.1)) >>= all_onto before prefix)
  first_onto n before prefix first true other others = others.so ∙ more_onto before prefix first.0 (take_things (take_run take_name window_of) n first.1) other
  first_onto n before prefix first false other others = sym (none_onto before prefix first.0 (take_things (take_run take_name window_of) n first.1) other)

  after_first : (n : ℕ) (before : Option (List ℕ)) (prefix : List Counter) (r : Option (Run × List ℕ)) → ((first : Run × List ℕ) → GoOn n prefix first)
      → ((r >>= onto before prefix) >>= λ x. runs_onto take_name window_of (Some x.0.0) x.0.1 n x.1)
      ≡ ((r >>= λ first. take_things (take_run take_name window_of) n first.1 >>= λ rs. Some (first.0 ∷ rs.0, rs.1)) >>= all_onto before prefix)
  after_first n before prefix None others = refl
  after_first n before prefix (Some first) others = first_onto n before prefix first (is_other before first.0.control) refl (others first)

  -- run by run is the same as all of them, and then their counters
  all_runs : (n : ℕ) (before : Option (List ℕ)) (prefix : List Counter) (bytes : List ℕ) → runs_onto take_name window_of before prefix n bytes ≡ (take_things (take_run take_name window_of) n bytes >>= all_onto before prefix)
  unfolding runs_onto take_things
  all_runs zero before prefix bytes = ap (λ (l : List Counter). Some (l, bytes)) (sym (append-nil prefix))
  all_runs (suc n) before prefix bytes =
      ap (λ r. r >>= λ x. runs_onto take_name window_of (Some x.0.0) x.0.1 n x.1) (run_onto before prefix bytes)
      ∙ after_first n before prefix (take_run take_name window_of bytes) (λ first. record { so = all_runs n (Some first.0.control) (prefix ++ first.0.counters) first.1 })

  -- counters taken run by run after their number
  pub counters_along : (bytes : List ℕ) (count : ℕ × List ℕ) → take_number 4 bytes ≡ Some count → runs_onto take_name window_of None [] count.0 count.1 ≡ take_counters take_name window_of bytes
  unfolding take_counters take_list
  counters_along bytes count e = all_runs count.0 None [] count.1 ∙ all_end (take_things (take_run take_name window_of) count.0 count.1) ∙ sym (rw e refl)

  -- without a number of runs nothing is taken
  pub none_along : (bytes : List ℕ) → take_number 4 bytes ≡ None → None ≡ take_counters take_name window_of bytes
  unfolding take_counters take_list
  none_along bytes e = sym (rw e refl)

  -- a loop over the runs

  pub ends : (before : Option (List ℕ)) (prefix : List Counter) (count i : ℕ) (bytes : List ℕ) (total : Option (List Counter × List ℕ)) → i < count → take_run_onto take_name window_of before prefix bytes ≡ None
      → runs_onto take_name window_of before prefix (count - i) bytes ≡ total → None ≡ total
  unfolding runs_onto
  ends before prefix count i bytes total lt h so_far =
      let k : count - i ≡ suc (count - (i + 1)) = omega arith in
      let one : runs_onto take_name window_of before prefix (count - i) bytes ≡ None = rw (k, h) refl in
      sym one ∙ so_far

  pub goes_on : (before : Option (List ℕ)) (prefix : List Counter) (count i : ℕ) (bytes : List ℕ) (control : List ℕ) (ks : List Counter) (after : List ℕ) (total : Option (List Counter × List ℕ)) → i < count
      → take_run_onto take_name window_of before prefix bytes ≡ Some ((control, ks), after)
      → runs_onto take_name window_of before prefix (count - i) bytes ≡ total → runs_onto take_name window_of (Some control) ks (count - (i + 1)) after ≡ total
  unfolding runs_onto
  goes_on before prefix count i bytes control ks after total lt h so_far =
      let k : count - i ≡ suc (count - (i + 1)) = omega arith in
      let one : runs_onto take_name window_of before prefix (count - i) bytes ≡ runs_onto take_name window_of (Some control) ks (count - (i + 1)) after = rw (k, h) refl in
      sym one ∙ so_far

  pub is_done : (before : Option (List ℕ)) (prefix : List Counter) (count i : ℕ) (bytes : List ℕ) (total : Option (List Counter × List ℕ)) → count ≤ i
      → runs_onto take_name window_of before prefix (count - i) bytes ≡ total → Some (prefix, bytes) ≡ total
  unfolding runs_onto
  is_done before prefix count i bytes total le so_far =
      let k : count - i ≡ 0 = omega arith in
      let one : runs_onto take_name window_of before prefix (count - i) bytes ≡ Some (prefix, bytes) = rw k refl in
      sym one ∙ so_far
