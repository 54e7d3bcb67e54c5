-- How many runs the counters of a state are cut into, and what holds of each run.
use Rattle.std.proofs.Common.{◌≡◌, ◌++◌, ◌&&◌, ◌+◌, ◌<◌, ◌≤◌, ◌∷◌, ap, arith, Bool, cond, false, filter, length, List, [], refl, subst, suc, sym, true, ℕ, ◌∙◌}
use Rattle.std.specs.Prelude.{Option}
use Rattle.std.specs.List.{flat_map, list_all}
use Rattle.std.specs.Str.{bytes_eq}
use Rattle.std.proofs.lemmas.Bool.{and_parts}
use Rattle.std.proofs.lemmas.List.Concat.{flat_map-cons}
use Rattle.std.proofs.lemmas.List.Folds.{list_all-append}
use Rattle.iss_model.specs.declared.counted.Counter.{Counter}
use Rattle.iss_model.specs.declared.setting.Window.{Window}
use Rattle.iss_model.specs.state.Cores.{ControlKept}
use Rattle.iss_model.proofs.Lists.{all_weaker}
use Rattle.iss_model.proofs.Names.{one_name, same_name}
use Rattle.iss_state.proofs.docket.Lists.{both_so}
use Rattle.iss_named.specs.Counters.{counters_of_control}
use Rattle.iss_bounded.specs.Many as many
use Rattle.iss_image_lists.specs.Along.{is_of}
use Rattle.iss_image_lists.specs.Forms.{has_room, is_counter, is_run}
use Rattle.iss_image_lists.specs.Runs.{Run, counters_of, has_counters, run_of, runs_of, with_counter}
use Rattle.iss_image_lists.proofs.CutRuns.{is_whole, joined}
use Rattle.iss_image_forms.proofs.SumsNumbers.{room_of_4}

-- how many runs ----

length_joined : (b : Bool) (k : Counter) (run : Run) (runs : List Run) → b ≡ true → length (joined b k run runs) ≡ length (run ∷ runs)
length_joined true k run runs e = refl
length_joined false k run runs e = cc

at_most_one_more : (k : Counter) (runs : List Run) → length (with_counter k runs) ≤ 1 + length runs
at_most_one_more k [] = omega arith
at_most_one_more k (run ∷ runs) = by (bytes_eq k.control run.control)
  where
    by : (b : Bool) → length (joined b k run runs) ≤ 1 + length (run ∷ runs)
    by true = omega arith
    by false = omega arith

-- a counter of the same control joins the run of the one after it
joins : (k l : Counter) (runs : List Run) → bytes_eq k.control l.control ≡ true → length (with_counter k (with_counter l runs)) ≡ length (with_counter l runs)
joins k l [] same = length_joined (bytes_eq k.control l.control) k (run_of l) [] same
joins k l (run ∷ runs) same = by (bytes_eq l.control run.control) refl
  where
    by : (b : Bool) → bytes_eq l.control run.control ≡ b → length (with_counter k (joined b l run runs)) ≡ length (joined b l run runs)
    by true e =
        length_joined (bytes_eq k.control run.control) k (record { control = run.control; counters = l ∷ run.counters }) runs
        (same_name k.control run.control (one_name k.control l.control same ∙ one_name l.control run.control e))
    by false e = length_joined (bytes_eq k.control l.control) k (run_of l) (run ∷ runs) same

-- counters of one control make at most one run more
runs_of_one : (control : List ℕ) (ks rest : List Counter) → list_all (is_of control) ks ≡ true → length (runs_of (ks ++ rest)) ≤ 1 + length (runs_of rest)
runs_of_one control [] rest h = omega arith
runs_of_one control (k ∷ []) rest h = at_most_one_more k (runs_of rest)
runs_of_one control (k ∷ (l ∷ ks)) rest h =
    let first = and_parts (is_of control k) (list_all (is_of control) (l ∷ ks)) h in
    let second = and_parts (is_of control l) (list_all (is_of control) ks) first.1 in
    let same : bytes_eq k.control l.control ≡ true = same_name k.control l.control (one_name k.control control first.0 ∙ sym (one_name l.control control second.0)) in
    sum (length (runs_of (k ∷ (l ∷ (ks ++ rest))))) (length (runs_of (l ∷ (ks ++ rest)))) (length (runs_of rest)) (joins k l (runs_of (ks ++ rest)) same) (runs_of_one control (l ∷ ks) rest first.1)
  where
    sum : (a b c : ℕ) → a ≡ b → b ≤ 1 + c → a ≤ 1 + c
    sum a b c e h = omega (arith, e, h)

filter_passes : {A : Type 0} (p : A → Bool) (xs : List A) → list_all p (filter p xs) ≡ true
filter_passes p [] = refl
filter_passes {A} p (x ∷ xs) = by (p x) refl (filter_passes p xs)
  where
    by : (b : Bool) → p x ≡ b → list_all p (filter p xs) ≡ true → list_all p (cond b (x ∷ filter p xs) (filter p xs)) ≡ true
    by true e rest = both_so (p x) (list_all p (filter p xs)) e rest
    by false e rest = rest

-- the counters of controls, control after control, are cut into at most as many runs
pub no_more_runs : (ks : List Counter) (cs : List ControlKept) → length (runs_of (flat_map (counters_of_control ks) cs)) ≤ length cs
no_more_runs ks [] = omega arith
no_more_runs ks (c ∷ cs) =
    sum (length (runs_of (flat_map (counters_of_control ks) (c ∷ cs)))) (length (runs_of (counters_of_control ks c ++ flat_map (counters_of_control ks) cs)))
    (length (runs_of (flat_map (counters_of_control ks) cs))) (length cs)
    (ap (λ (l : List Counter). length (runs_of l)) (flat_map-cons (counters_of_control ks) c cs))
    (runs_of_one c.control.name (counters_of_control ks c) (flat_map (counters_of_control ks) cs) (filter_passes (is_of c.control.name) ks)) (no_more_runs ks cs)
  where
    sum : (z y x n : ℕ) → z ≡ y → y ≤ 1 + x → x ≤ n → z ≤ suc n
    sum z y x n e h k = omega (arith, e, h, k)

-- how many counters a run has ----

own_counted : (name : List ℕ) (xs ys : List Counter) → list_all (is_of name) xs ≡ true → length xs ≤ many.counters_of_control name (xs ++ ys)
own_counted name [] ys h = omega arith
own_counted name (x ∷ xs) ys h =
    let both = and_parts (is_of name x) (list_all (is_of name) xs) h in by (is_of name x) both.0 (own_counted name xs ys both.1)
  where
    more : (a b : ℕ) → a ≤ b → suc a ≤ suc b
    more a b h = omega (arith, h)

    by : (b : Bool) → b ≡ true → length xs ≤ many.counters_of_control name (xs ++ ys)
        → length (x ∷ xs) ≤ length (cond b (x ∷ filter (λ (k : Counter). bytes_eq k.control name) (xs ++ ys)) (filter (λ (k : Counter). bytes_eq k.control name) (xs ++ ys)))
    by true e rest = more (length xs) (many.counters_of_control name (xs ++ ys)) rest
    by false e rest = cc

itself : (n : ℕ) → n ≤ n
itself n = omega arith

later_counted : (name : List ℕ) (xs ys : List Counter) → many.counters_of_control name ys ≤ many.counters_of_control name (xs ++ ys)
later_counted name [] ys = itself (many.counters_of_control name ys)
later_counted name (x ∷ xs) ys = by (is_of name x) (later_counted name xs ys)
  where
    more : (a b : ℕ) → a ≤ b → a ≤ suc b
    more a b h = omega (arith, h)

    by : (b : Bool) → many.counters_of_control name ys ≤ many.counters_of_control name (xs ++ ys)
        → many.counters_of_control name ys ≤ length (cond b (x ∷ filter (λ (k : Counter). bytes_eq k.control name) (xs ++ ys)) (filter (λ (k : Counter). bytes_eq k.control name) (xs ++ ys)))
    by true rest = more (many.counters_of_control name ys) (many.counters_of_control name (xs ++ ys)) rest
    by false rest = rest

-- runs ----

module _ (is_name : List ℕ → Bool) (window_of : List ℕ → Option Window) where
  -- a counter's control is a name, and the counter is in image form
  abbrev pub is_counter_named : Counter → Bool
  is_counter_named k = is_name k.control && is_counter is_name window_of k

  control_named : (control : List ℕ) (ks : List Counter) → list_all (is_of control) ks ≡ true → has_counters (record { control = control; counters = ks }) ≡ true → list_all is_counter_named ks ≡ true
      → is_name control ≡ true
  control_named control [] own some all = cc
  control_named control (k ∷ ks) own some all =
      let its = and_parts (is_of control k) (list_all (is_of control) ks) own in
      let form = and_parts (is_counter_named k) (list_all is_counter_named ks) all in
      ap is_name (sym (one_name k.control control its.0)) ∙ (and_parts (is_name k.control) (is_counter is_name window_of k) form.0).0

  -- whole runs are in image form, if their counters are, and there are few of each control
  pub runs_in_form : (n : ℕ) (runs : List Run) → n < 4294967296 → list_all is_whole runs ≡ true → list_all is_counter_named (counters_of runs) ≡ true
      → ((name : List ℕ) → many.counters_of_control name (counters_of runs) ≤ n) → list_all (is_run is_name window_of) runs ≡ true
  runs_in_form n [] few whole all each = refl
  runs_in_form n (run ∷ runs) few whole all each =
      let own = and_parts (is_whole run) (list_all is_whole runs) whole in
      let its = and_parts (list_all (is_of run.control) run.counters) (has_counters run) own.0 in
      let cut : counters_of (run ∷ runs) ≡ run.counters ++ counters_of runs = flat_map-cons (λ (r : Run). r.counters) run runs in
      let forms =
      and_parts (list_all is_counter_named run.counters) (list_all is_counter_named (counters_of runs))
      (sym (list_all-append is_counter_named run.counters (counters_of runs)) ∙ sym (ap (λ (ks : List Counter). list_all is_counter_named ks) cut) ∙ all)
      in
      let counted : (name : List ℕ) → many.counters_of_control name (run.counters ++ counters_of runs) ≤ n =
      λ name. subst (λ (ks : List Counter). many.counters_of_control name ks ≤ n) cut (each name) in
      both_so (is_run is_name window_of run) (list_all (is_run is_name window_of) runs)
      (both_so (is_name run.control) (has_room 4 (length run.counters) && list_all (is_counter is_name window_of) run.counters)
      (control_named run.control run.counters its.0 its.1 forms.0)
      (both_so (has_room 4 (length run.counters)) (list_all (is_counter is_name window_of) run.counters)
      (room_of_4 (length run.counters) (below (length run.counters) (many.counters_of_control run.control (run.counters ++ counters_of runs)) n few (own_counted run.control run.counters (counters_of runs) its.0) (counted run.control)))
      (all_weaker is_counter_named (is_counter is_name window_of) (λ k h. (and_parts (is_name k.control) (is_counter is_name window_of k) h).1) run.counters forms.0)))
      (runs_in_form n runs few own.1 forms.1
      (λ name. through (many.counters_of_control name (counters_of runs)) (many.counters_of_control name (run.counters ++ counters_of runs)) n (later_counted name run.counters (counters_of runs)) (counted name)))
    where
      through : (a b n : ℕ) → a ≤ b → b ≤ n → a ≤ n
      through a b n h k = omega (arith, h, k)

      below : (a b n : ℕ) → n < 4294967296 → a ≤ b → b ≤ n → a < 4294967296
      below a b n few h k = omega (arith, few, h, k)
