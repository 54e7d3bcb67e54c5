-- Counters are cut into runs in one way, and put together again they are as they were.
use Rattle.std.proofs.Common.{◌≡◌, ℕ, suc, ◌+◌, ◌<◌, ◌≤◌, Bool, true, false, cond, ◌&&◌, List, [], ◌∷◌, ◌++◌, length, take, drop, Some, refl, sym, ap, subst, ◌∙◌, append_assoc, arith}
use Rattle.std.specs.Prelude.{not}
use Rattle.std.specs.List.{flat_map, list_all, slice_get}
use Rattle.std.specs.Str.{bytes_eq}
use Rattle.std.proofs.lemmas.Bool.{and_parts}
use Rattle.std.proofs.lemmas.Option.{same_Some}
use Rattle.std.proofs.lemmas.List.{take-append-drop, length-drop}
use Rattle.std.proofs.lemmas.List.Sums.{prefix_len-le-length}
use Rattle.std.proofs.lemmas.List.Concat.{flat_map-cons}
use Rattle.iss_model.specs.declared.counted.Counter.{Counter}
use Rattle.iss_model.proofs.Names.{one_name, its_name, name-sym}
use Rattle.iss_image_lists.specs.Runs.{Run, run_of, with_counter, runs_of, counters_of, begins_apart, are_apart, are_some, has_counters}
use Rattle.iss_image_lists.specs.Along.{is_of, number_first}

-- each counter of a run is its control's, and it has one
abbrev pub is_whole : Run → Bool
is_whole run = list_all (is_of run.control) run.counters && has_counters run

-- runs as a cut makes them
abbrev pub are_cut : List Run → Bool
are_cut runs = list_all is_whole runs && are_apart runs

-- a counter that joins the first run, or not
abbrev pub joined : Bool → Counter → Run → List Run → List Run
joined b k run runs = cond b (record { control = run.control; counters = k ∷ run.counters } ∷ runs) (run_of k ∷ run ∷ runs)

counters_joined : (b : Bool) (k : Counter) (run : Run) (runs : List Run) → counters_of (joined b k run runs) ≡ k ∷ counters_of (run ∷ runs)
counters_joined true k run runs =
    flat_map-cons (λ (r : Run). r.counters) (record { control = run.control; counters = k ∷ run.counters }) runs ∙ ap (λ (ks : List Counter). k ∷ ks) (sym (flat_map-cons (λ (r : Run). r.counters) run runs))
counters_joined false k run runs = flat_map-cons (λ (r : Run). r.counters) (run_of k) (run ∷ runs)

counters_with : (k : Counter) (runs : List Run) → counters_of (with_counter k runs) ≡ k ∷ counters_of runs
counters_with k [] = refl
counters_with k (run ∷ runs) = counters_joined (bytes_eq k.control run.control) k run runs

-- the counters of the runs of counters are those counters
pub counters_of_runs : (ks : List Counter) → counters_of (runs_of ks) ≡ ks
counters_of_runs [] = refl
counters_of_runs (k ∷ ks) = counters_with k (runs_of ks) ∙ ap (λ (l : List Counter). k ∷ l) (counters_of_runs ks)

whole_alone : (k : Counter) → is_whole (run_of k) ≡ true
whole_alone k = rw (its_name k.control) refl

cut_joined : (b : Bool) (k : Counter) (run : Run) (runs : List Run) → bytes_eq k.control run.control ≡ b → are_cut (run ∷ runs) ≡ true → are_cut (joined b k run runs) ≡ true
cut_joined true k run runs e h =
    let p = and_parts (is_whole run && list_all is_whole runs) (begins_apart run.control runs && are_apart runs) h in
    let q = and_parts (is_whole run) (list_all is_whole runs) p.0 in
    let w = and_parts (list_all (is_of run.control) run.counters) (has_counters run) q.0 in
    rw (e, w.0, q.1, p.1) refl
cut_joined false k run runs e h =
    let p = and_parts (is_whole run && list_all is_whole runs) (begins_apart run.control runs && are_apart runs) h in
    rw (its_name k.control, p.0, e, p.1) refl

cut_with : (k : Counter) (runs : List Run) → are_cut runs ≡ true → are_cut (with_counter k runs) ≡ true
cut_with k [] h = rw (its_name k.control) refl
cut_with k (run ∷ runs) h = cut_joined (bytes_eq k.control run.control) k run runs refl h

-- the runs of counters are cut
pub runs_are_cut : (ks : List Counter) → are_cut (runs_of ks) ≡ true
runs_are_cut [] = refl
runs_are_cut (k ∷ ks) = cut_with k (runs_of ks) (runs_are_cut ks)

-- a run of this control with these counters
abbrev pub run_with : List ℕ → List Counter → Run
run_with control ks = record { control = control; counters = ks }

not_same : (b : Bool) → not b ≡ true → b ≡ false
not_same true h = absurd cc
not_same false h = refl

alone_before : (control : List ℕ) (k : Counter) (runs : List Run) → k.control ≡ control → begins_apart control runs ≡ true → with_counter k runs ≡ run_with control (k ∷ []) ∷ runs
alone_before control k [] is h = ap (λ (c : List ℕ). run_with c (k ∷ []) ∷ []) is
alone_before control k (run ∷ runs) is h =
    let other : bytes_eq control run.control ≡ false = not_same (bytes_eq control run.control) h in
    let differs : bytes_eq k.control run.control ≡ false = ap (λ (c : List ℕ). bytes_eq c run.control) is ∙ other in
    ap (λ (b : Bool). joined b k run runs) differs ∙ ap (λ (c : List ℕ). run_with c (k ∷ []) ∷ run ∷ runs) is

joins_before : (control : List ℕ) (k : Counter) (ks : List Counter) (runs : List Run) → bytes_eq k.control control ≡ true → with_counter k (run_with control ks ∷ runs) ≡ run_with control (k ∷ ks) ∷ runs
joins_before control k ks runs is = ap (λ (b : Bool). joined b k (run_with control ks) runs) is

-- the runs of a run's counters and others are that run and the others' runs, if those begin with another control
run_before : (control : List ℕ) (ks rest : List Counter) → list_all (is_of control) ks ≡ true → has_counters (run_with control ks) ≡ true → begins_apart control (runs_of rest) ≡ true
    → runs_of (ks ++ rest) ≡ run_with control ks ∷ runs_of rest
run_before control [] rest all some apart = absurd cc
run_before control (k ∷ []) rest all some apart =
    let p = and_parts (is_of control k) true all in
    alone_before control k (runs_of rest) (one_name k.control control p.0) apart
run_before control (k ∷ (l ∷ ks)) rest all some apart =
    let p = and_parts (is_of control k) (list_all (is_of control) (l ∷ ks)) all in
    ap (with_counter k) (run_before control (l ∷ ks) rest p.1 refl apart) ∙ joins_before control k (l ∷ ks) (runs_of rest) p.0

-- the runs of the counters of runs that are cut are those runs
pub runs_of_counters : (runs : List Run) → are_cut runs ≡ true → runs_of (counters_of runs) ≡ runs
runs_of_counters [] h = refl
runs_of_counters (run ∷ runs) h =
    let p = and_parts (is_whole run && list_all is_whole runs) (begins_apart run.control runs && are_apart runs) h in
    let q = and_parts (is_whole run) (list_all is_whole runs) p.0 in
    let a = and_parts (begins_apart run.control runs) (are_apart runs) p.1 in
    let w = and_parts (list_all (is_of run.control) run.counters) (has_counters run) q.0 in
    let others : runs_of (counters_of runs) ≡ runs = runs_of_counters runs (rw (q.1, a.1) refl) in
    let apart : begins_apart run.control (runs_of (counters_of runs)) ≡ true = ap (begins_apart run.control) others ∙ a.0 in
    ap runs_of (flat_map-cons (λ (r : Run). r.counters) run runs) ∙ run_before run.control run.counters (counters_of runs) w.0 w.1 apart ∙ ap (λ (rs : List Run). run ∷ rs) others

-- runs with one more counter begin with its control
begins_joined : (b : Bool) (control : List ℕ) (k : Counter) (run : Run) (runs : List Run) → bytes_eq k.control run.control ≡ b → begins_apart control (joined b k run runs) ≡ not (bytes_eq control k.control)
begins_joined true control k run runs e = ap (λ (c : List ℕ). not (bytes_eq control c)) (sym (one_name k.control run.control e))
begins_joined false control k run runs e = refl

begins_with : (control : List ℕ) (k : Counter) (runs : List Run) → begins_apart control (with_counter k runs) ≡ not (bytes_eq control k.control)
begins_with control k [] = refl
begins_with control k (run ∷ runs) = begins_joined (bytes_eq k.control run.control) control k run runs refl

-- the counters at the front of one control, and what comes after them
record IsFront (control : List ℕ) (n : ℕ) (ks : List Counter) : Type 0 where
  own : list_all (is_of control) (take n ks) ≡ true
  apart : begins_apart control (runs_of (drop n ks)) ≡ true

front_by : (b : Bool) (control : List ℕ) (m : ℕ) (k : Counter) (ks : List Counter) → is_of control k ≡ b → IsFront control m ks → IsFront control (cond b (1 + m) 0) (k ∷ ks)
front_by true control m k ks e front =
    let next : 1 + m ≡ suc m = omega arith in
    subst (λ (n : ℕ). IsFront control n (k ∷ ks)) (sym next) (record { own = rw (e, front.own) refl; apart = front.apart })
front_by false control m k ks e front =
    let other : bytes_eq control k.control ≡ false = name-sym control k.control ∙ e in
    record { own = refl; apart = begins_with control k (runs_of ks) ∙ ap not other }

front : (control : List ℕ) (ks : List Counter) → IsFront control (number_first control ks) ks
front control [] = record { own = refl; apart = refl }
front control (k ∷ ks) = front_by (is_of control k) control (number_first control ks) k ks refl (front control ks)

-- the first counter is its control's
pub first_passes : (k : Counter) (ks : List Counter) → number_first k.control (k ∷ ks) ≡ suc (number_first k.control ks)
first_passes k ks =
    let one : 1 + number_first k.control ks ≡ suc (number_first k.control ks) = omega arith in
    ap (λ (b : Bool). cond b (1 + number_first k.control ks) 0) (its_name k.control) ∙ one

-- the first run of counters is those at the front of the first one's control
pub cut_front : (k : Counter) (ks : List Counter)
    → runs_of (k ∷ ks) ≡ run_with k.control (take (number_first k.control (k ∷ ks)) (k ∷ ks)) ∷ runs_of (drop (number_first k.control (k ∷ ks)) (k ∷ ks))
cut_front k ks =
    let n = number_first k.control (k ∷ ks) in
    let f = front k.control (k ∷ ks) in
    let some : are_some (take n (k ∷ ks)) ≡ true = ap (λ (m : ℕ). are_some (take m (k ∷ ks))) (first_passes k ks) in
    ap runs_of (sym (take-append-drop n (k ∷ ks))) ∙ run_before k.control (take n (k ∷ ks)) (drop n (k ∷ ks)) f.own some f.apart

regrouped : (o a b r : List ℕ) → ((o ++ a) ++ b) ++ r ≡ o ++ ((a ++ b) ++ r)
regrouped o a b r = simp append_assoc

-- what the loops over runs rest on, whichever counter is the first

pub cut_first : (ks : List Counter) (first : Counter) → Some first ≡ slice_get ks 0
    → runs_of ks ≡ run_with first.control (take (number_first first.control ks) ks) ∷ runs_of (drop (number_first first.control ks) ks)
cut_first [] first e = absurd cc
cut_first (k ∷ ks) first e =
    subst (λ (f : Counter). runs_of (k ∷ ks) ≡ run_with f.control (take (number_first f.control (k ∷ ks)) (k ∷ ks)) ∷ runs_of (drop (number_first f.control (k ∷ ks)) (k ∷ ks))) (sym (same_Some first k e)) (cut_front k ks)

shorter_by : (k : Counter) (ks : List Counter) → length (drop (number_first k.control (k ∷ ks)) (k ∷ ks)) < length (k ∷ ks)
shorter_by k ks =
    let m = number_first k.control ks in
    let left : length (drop (number_first k.control (k ∷ ks)) (k ∷ ks)) ≡ length (drop m ks) = ap (λ (n : ℕ). length (drop n (k ∷ ks))) (first_passes k ks) in
    omega (arith, length-drop m ks)

pub shorter : (ks : List Counter) (first : Counter) → Some first ≡ slice_get ks 0 → length (drop (number_first first.control ks) ks) < length ks
shorter [] first e = absurd cc
shorter (k ∷ ks) first e =
    subst (λ (f : Counter). length (drop (number_first f.control (k ∷ ks)) (k ∷ ks)) < length (k ∷ ks)) (sym (same_Some first k e)) (shorter_by k ks)

pub within : (ks : List Counter) (control : List ℕ) → number_first control ks ≤ length ks
within ks control = prefix_len-le-length (is_of control) ks

pub counted : (ks : List Counter) (first : Counter) (count total : ℕ) → Some first ≡ slice_get ks 0 → count + length (runs_of ks) ≡ total
    → count + 1 + length (runs_of (drop (number_first first.control ks) ks)) ≡ total
counted ks first count total e h =
    let one : length (runs_of ks) ≡ suc (length (runs_of (drop (number_first first.control ks) ks))) = ap (λ (rs : List Run). length rs) (cut_first ks first e) in
    omega arith

pub wrote_run : (run_text : Run → List ℕ) (out a b new : List ℕ) (ks : List Counter) (first : Counter) → Some first ≡ slice_get ks 0
    → run_text (run_with first.control (take (number_first first.control ks) ks)) ≡ a ++ b → new ≡ (out ++ a) ++ b
    → new ++ flat_map run_text (runs_of (drop (number_first first.control ks) ks)) ≡ out ++ flat_map run_text (runs_of ks)
wrote_run run_text out a b new ks first e text is =
    let run = run_with first.control (take (number_first first.control ks) ks) in
    let rest = flat_map run_text (runs_of (drop (number_first first.control ks) ks)) in
    let all : flat_map run_text (runs_of ks) ≡ (a ++ b) ++ rest =
    ap (flat_map run_text) (cut_first ks first e) ∙ flat_map-cons run_text run (runs_of (drop (number_first first.control ks) ks)) ∙ ap (λ (t : List ℕ). t ++ rest) text in
    ap (λ (t : List ℕ). t ++ rest) is ∙ regrouped out a b rest ∙ ap (λ (t : List ℕ). out ++ t) (sym all)
