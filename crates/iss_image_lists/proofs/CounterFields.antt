-- Counters in runs of one control: what is taken was spelled so, and what is spelled so is taken.
use Rattle.std.proofs.Common.{◌≡◌, ℕ, Bool, true, false, cond, ◌&&◌, nat_eq, List, [], ◌∷◌, ◌++◌, length, Option, Some, None, refl, sym, ap, subst, ◌∙◌, append_assoc, arith}
use Rattle.std.specs.Prelude.{not}
use Rattle.std.specs.List.{list_all}
use Rattle.std.proofs.lemmas.Bool.{eqb-true, and_parts}
use Rattle.std.proofs.lemmas.Option.{same_Some}
use Rattle.iss_model.specs.declared.counted.Counter.{Counter}
use Rattle.iss_model.specs.declared.counted.Span.{Span}
use Rattle.iss_model.specs.declared.counted.Span.TheVariants as span
use Rattle.iss_model.specs.declared.setting.Window.{Window}
use Rattle.iss_model.specs.texts.Spelling.{number_bytes}
use Rattle.iss_model.proofs.Names.{one_name, its_name}
use Rattle.iss_codec.specs.Taking.{◌>>=◌, only, take_formed}
use Rattle.iss_codec.proofs.NumberBytes.{wide_4}
use Rattle.iss_codec.proofs.TakenFields.{bind_some, passed, IsSplit, IsField, formed}
use Rattle.iss_image_lists.specs.Runs.{Run, runs_of, counters_of, are_apart, are_some, has_counters}
use Rattle.iss_image_lists.specs.Spelling.{list_bytes, used_bytes, span_bytes, counted_bytes, run_bytes, counters_bytes}
use Rattle.iss_image_lists.specs.Taking.{take_list, counts_txns, take_txn_span, take_number_span, take_span, take_counted, take_run, take_counters}
use Rattle.iss_image_lists.specs.Forms.{has_room, is_list, is_signed, is_used, is_txn_span, fits_window, is_span, is_counter, is_run, are_counters}
use Rattle.iss_image_lists.proofs.Steps.{step, start, again_step}
use Rattle.iss_image_lists.proofs.ListFields.{list_field}
use Rattle.iss_image_lists.proofs.PartFields.{signed_field, used_field}
use Rattle.iss_image_lists.specs.Along.{is_of}
use Rattle.iss_image_lists.proofs.CutRuns.{is_whole, are_cut, counters_of_runs, runs_are_cut, runs_of_counters}

-- tests of each thing of a list, together and apart

pub both_of : {A : Type 0} (f g : A → Bool) (xs : List A) → list_all (λ x. f x && g x) xs ≡ true → (list_all f xs ≡ true) × (list_all g xs ≡ true)
both_of f g [] h = (refl, refl)
both_of f g (x ∷ xs) h =
    let p = and_parts (f x && g x) (list_all (λ y. f y && g y) xs) h in
    let q = and_parts (f x) (g x) p.0 in
    let r = both_of f g xs p.1 in
    (rw (q.0, r.0) refl, rw (q.1, r.1) refl)

pub as_one : {A : Type 0} (f g : A → Bool) (xs : List A) → list_all f xs ≡ true → list_all g xs ≡ true → list_all (λ x. f x && g x) xs ≡ true
as_one f g [] h k = refl
as_one f g (x ∷ xs) h k =
    let p = and_parts (f x) (list_all f xs) h in
    let q = and_parts (g x) (list_all g xs) k in
    let r : list_all (λ y. f y && g y) xs ≡ true = as_one f g xs p.1 q.1 in
    rw (p.0, q.0, r) refl

-- zeros before a token that stands for a number

abbrev pub is_zero : ℕ → Bool
is_zero n = nat_eq n 0

zero_field : IsField (take_formed 4 is_zero) (number_bytes 4) is_zero
zero_field = formed 4 _ is_zero wide_4 (λ n h. let none : n ≡ 0 = eqb-true n 0 h in omega arith)

grouped_3 : (a b c r : List ℕ) → ((a ++ b) ++ c) ++ r ≡ a ++ (b ++ (c ++ r))
grouped_3 a b c r = simp append_assoc

-- a window that has a span is one
some_window : (o : Option Window) (s : Span) → fits_window o s ≡ true → (w : Window) × (o ≡ Some w)
some_window None s h = absurd cc
some_window (Some w) s h = (w, refl)

-- `name` is the field of a token, however it is spelled
module _ {take_name : List ℕ → Option (List ℕ × List ℕ)} {name_bytes : List ℕ → List ℕ} {is_name : List ℕ → Bool} (name : IsField take_name name_bytes is_name) where
  -- a span of one kind
  abbrev pub span_form : Bool → Span → Bool
  span_form b s = is_span is_name s && cond b (is_txn_span s) (not (is_txn_span s))

  txn_span_again : (s : Span) (rest : List ℕ) → span_form true s ≡ true → take_txn_span take_name (span_bytes name_bytes s ++ rest) ≡ Some (s, rest)
  unfolding take_txn_span
  txn_span_again (span.Number n) rest h = let p = and_parts (is_signed n) false h in let no : false ≡ true = p.1 in absurd cc
  txn_span_again (span.Txn token) rest h =
      let p = and_parts (is_name token) true h in
      ap (take_txn_span take_name) (append_assoc (number_bytes 4 0) (name_bytes token) rest) ∙ again_step zero_field 0 _ _ _ refl (again_step name token _ _ _ p.0 refl)

  txn_span_field : IsField (take_txn_span take_name) (span_bytes name_bytes) (span_form true)
  unfolding take_txn_span
  txn_span_field =
      record {
        takes = λ bytes x fits e.
            step zero_field bytes [] bytes _ x (start bytes fits) e (λ zeros r1 s1 h1 e1.
            step name bytes _ r1 _ x s1 e1 (λ token r2 s2 h2 e2.
            subst (λ (y : Span × List ℕ). IsSplit bytes (span_bytes name_bytes y.0) y.1 × (span_form true y.0 ≡ true)) (same_Some (span.Txn token, r2) x e2)
            (subst (λ (k : ℕ). IsSplit bytes (number_bytes 4 k ++ name_bytes token) r2) (eqb-true zeros 0 h1) s2, rw h2 refl)));
        again = txn_span_again;
      }

  number_span_again : (s : Span) (rest : List ℕ) → span_form false s ≡ true → take_number_span (span_bytes name_bytes s ++ rest) ≡ Some (s, rest)
  unfolding take_number_span
  number_span_again (span.Number n) rest h =
      let p = and_parts (is_signed n) true h in again_step signed_field n rest _ _ p.0 refl
  number_span_again (span.Txn token) rest h = let p = and_parts (is_name token) false h in let no : false ≡ true = p.1 in absurd cc

  number_span_field : IsField take_number_span (span_bytes name_bytes) (span_form false)
  unfolding take_number_span
  number_span_field =
      record {
        takes = λ bytes x fits e.
            step signed_field bytes [] bytes _ x (start bytes fits) e (λ n r1 s1 h1 e1.
            subst (λ (y : Span × List ℕ). IsSplit bytes (span_bytes name_bytes y.0) y.1 × (span_form false y.0 ≡ true)) (same_Some (span.Number n, r1) x e1) (s1, rw h1 refl));
        again = number_span_again;
      }

  span_by : (b : Bool) → IsField (λ bytes. cond b (take_txn_span take_name bytes) (take_number_span bytes)) (span_bytes name_bytes) (span_form b)
  span_by true = txn_span_field
  span_by false = number_span_field

  span_field : (w : Window) → IsField (take_span take_name w) (span_bytes name_bytes) (span_form (counts_txns w))
  span_field w = span_by (counts_txns w)

  -- a counter of this control
  abbrev pub counted_form : (List ℕ → Option Window) → List ℕ → Counter → Bool
  counted_form window_of control k = is_counter is_name window_of k && is_of control k

  counted_again : (window_of : List ℕ → Option Window) (control : List ℕ) (w : Window) → window_of control ≡ Some w
      → (k : Counter) (rest : List ℕ) → counted_form window_of control k ≡ true → take_counted take_name control w (counted_bytes name_bytes k ++ rest) ≡ Some (k, rest)
  unfolding take_counted
  counted_again window_of control w is k rest h =
      let p = and_parts (is_counter is_name window_of k) (is_of control k) h in
      let fits = and_parts (is_name k.user && is_span is_name k.span && is_used k.used) (fits_window (window_of k.control) k.span) p.0 in
      let used = and_parts (is_name k.user && is_span is_name k.span) (is_used k.used) fits.0 in
      let user = and_parts (is_name k.user) (is_span is_name k.span) used.0 in
      let own : k.control ≡ control = one_name k.control control p.1 in
      let kind : fits_window (Some w) k.span ≡ true = ap (λ o. fits_window o k.span) (sym (ap window_of own ∙ is)) ∙ fits.1 in
      let spanned : span_form (counts_txns w) k.span ≡ true = rw (user.1, kind) refl in
      subst (λ (c : List ℕ). take_counted take_name c w (counted_bytes name_bytes k ++ rest) ≡ Some (k, rest)) own
      (ap (take_counted take_name k.control w) (grouped_3 (name_bytes k.user) (span_bytes name_bytes k.span) (used_bytes k.used) rest)
      ∙ again_step name k.user _ _ _ user.0 (again_step (span_field w) k.span _ _ _ spanned (again_step used_field k.used _ _ _ used.1 refl)))

  counted_field : (window_of : List ℕ → Option Window) (control : List ℕ) (w : Window) → window_of control ≡ Some w → IsField (take_counted take_name control w) (counted_bytes name_bytes) (counted_form window_of control)
  unfolding take_counted
  counted_field window_of control w is =
      record {
        takes = λ bytes x fits e.
            step name bytes [] bytes _ x (start bytes fits) e (λ user r1 s1 h1 e1.
            step (span_field w) bytes _ r1 _ x s1 e1 (λ s r2 s2 h2 e2.
            step used_field bytes _ r2 _ x s2 e2 (λ used r3 s3 h3 e3.
            let p = and_parts (is_span is_name s) (fits_window (Some w) s) h2 in
            let kind : fits_window (window_of control) s ≡ true = ap (λ o. fits_window o s) is ∙ p.1 in
            subst (λ (y : Counter × List ℕ). IsSplit bytes (counted_bytes name_bytes y.0) y.1 × (counted_form window_of control y.0 ≡ true)) (same_Some _ x e3)
            (s3, rw (h1, p.0, h3, kind, its_name control) refl))));
        again = counted_again window_of control w is;
      }

  -- a control with its counters, each of which is its own
  abbrev pub run_form : (List ℕ → Option Window) → Run → Bool
  run_form window_of run = is_run is_name window_of run && is_whole run

  window_of_counters : (window_of : List ℕ → Option Window) (control : List ℕ) (ks : List Counter) → list_all (is_of control) ks ≡ true → list_all (is_counter is_name window_of) ks ≡ true → are_some ks ≡ true
      → (w : Window) × (window_of control ≡ Some w)
  window_of_counters window_of control [] own form some = absurd cc
  window_of_counters window_of control (k ∷ ks) own form some =
      let o = and_parts (is_of control k) (list_all (is_of control) ks) own in
      let f = and_parts (is_counter is_name window_of k) (list_all (is_counter is_name window_of) ks) form in
      let fits = and_parts (is_name k.user && is_span is_name k.span && is_used k.used) (fits_window (window_of k.control) k.span) f.0 in
      let found = some_window (window_of k.control) k.span fits.1 in
      (found.0, ap window_of (sym (one_name k.control control o.0)) ∙ found.1)

  run_again : (window_of : List ℕ → Option Window) (run : Run) (rest : List ℕ) → run_form window_of run ≡ true → take_run take_name window_of (run_bytes name_bytes run ++ rest) ≡ Some (run, rest)
  unfolding take_run
  run_again window_of run rest h =
      let p = and_parts (is_run is_name window_of run) (is_whole run) h in
      let r = and_parts (is_name run.control) (is_list (is_counter is_name window_of) run.counters) p.0 in
      let l = and_parts (has_room 4 (length run.counters)) (list_all (is_counter is_name window_of) run.counters) r.1 in
      let s = and_parts (list_all (is_of run.control) run.counters) (has_counters run) p.1 in
      let w = window_of_counters window_of run.control run.counters s.0 l.1 s.1 in
      let each : list_all (counted_form window_of run.control) run.counters ≡ true = as_one (is_counter is_name window_of) (is_of run.control) run.counters l.1 s.0 in
      let form : is_list (counted_form window_of run.control) run.counters ≡ true = rw (l.0, each) refl in
      ap (take_run take_name window_of) (append_assoc (name_bytes run.control) (list_bytes (counted_bytes name_bytes) run.counters) rest)
      ∙ again_step name run.control _ _ _ r.0 (
      ap (λ o. o >>= λ window. take_list (take_counted take_name run.control window) (list_bytes (counted_bytes name_bytes) run.counters ++ rest) >>= λ counters.
      only has_counters (record { control = run.control; counters = counters.0 }, counters.1)) w.1
      ∙ again_step (list_field (counted_field window_of run.control w.0 w.1)) run.counters rest _ _ form (rw s.1 refl))

  run_field : (window_of : List ℕ → Option Window) → IsField (take_run take_name window_of) (run_bytes name_bytes) (run_form window_of)
  unfolding take_run
  run_field window_of =
      record {
        takes = λ bytes x fits e.
            step name bytes [] bytes _ x (start bytes fits) e (λ control r1 s1 h1 e1.
            let w = bind_some (window_of control) _ x e1 in
            step (list_field (counted_field window_of control w.0 w.1)) bytes _ r1 _ x s1 w.2 (λ ks r2 s2 h2 e2.
            let l = and_parts (has_room 4 (length ks)) (list_all (counted_form window_of control) ks) h2 in
            let each = both_of (is_counter is_name window_of) (is_of control) ks l.1 in
            let run : Run = record { control = control; counters = ks } in
            let g = passed (has_counters run) (run, r2) x e2 in
            subst (λ (y : Run × List ℕ). IsSplit bytes (run_bytes name_bytes y.0) y.1 × (run_form window_of y.0 ≡ true)) g.1
            (s2, rw (h1, l.0, each.0, each.1, g.0) refl)));
        again = run_again window_of;
      }

  counters_again : (window_of : List ℕ → Option Window) (ks : List Counter) (rest : List ℕ) → are_counters is_name window_of ks ≡ true
      → take_counters take_name window_of (counters_bytes name_bytes ks ++ rest) ≡ Some (ks, rest)
  unfolding take_counters
  counters_again window_of ks rest h =
      let l = and_parts (has_room 4 (length (runs_of ks))) (list_all (is_run is_name window_of) (runs_of ks)) h in
      let c = and_parts (list_all is_whole (runs_of ks)) (are_apart (runs_of ks)) (runs_are_cut ks) in
      let each : list_all (run_form window_of) (runs_of ks) ≡ true = as_one (is_run is_name window_of) is_whole (runs_of ks) l.1 c.0 in
      let form : is_list (run_form window_of) (runs_of ks) ≡ true = rw (l.0, each) refl in
      again_step (list_field (run_field window_of)) (runs_of ks) rest _ _ form (rw c.1 (ap (λ (l : List Counter). Some (l, rest)) (counters_of_runs ks)))

  pub counters_field : (window_of : List ℕ → Option Window) → IsField (take_counters take_name window_of) (counters_bytes name_bytes) (are_counters is_name window_of)
  unfolding take_counters
  counters_field window_of =
      record {
        takes = λ bytes x fits e.
            let a = bind_some (take_list (take_run take_name window_of) bytes) _ x e in
            let t = (list_field (run_field window_of)).takes bytes a.0 fits a.1 in
            let l = and_parts (has_room 4 (length a.0.0)) (list_all (run_form window_of) a.0.0) t.1 in
            let each = both_of (is_run is_name window_of) is_whole a.0.0 l.1 in
            let b = bind_some (only are_apart a.0) _ x a.2 in
            let g = passed (are_apart a.0.0) a.0 b.0 b.1 in
            let cut : are_cut a.0.0 ≡ true = rw (each.1, g.0) refl in
            let back : runs_of (counters_of a.0.0) ≡ a.0.0 = runs_of_counters a.0.0 cut in
            let form : is_list (is_run is_name window_of) a.0.0 ≡ true = rw (l.0, each.0) refl in
            let there : IsSplit bytes (list_bytes (run_bytes name_bytes) (runs_of (counters_of a.0.0))) a.0.1 × (is_list (is_run is_name window_of) (runs_of (counters_of a.0.0)) ≡ true) =
            subst (λ (rs : List Run). IsSplit bytes (list_bytes (run_bytes name_bytes) rs) a.0.1 × (is_list (is_run is_name window_of) rs ≡ true)) (sym back) (t.0, form) in
            subst (λ (y : List Counter × List ℕ). IsSplit bytes (counters_bytes name_bytes y.0) y.1 × (are_counters is_name window_of y.0 ≡ true))
            (ap (λ (z : List Run × List ℕ). (counters_of z.0, z.1)) g.1 ∙ same_Some (counters_of b.0.0, b.0.1) x b.2) there;
        again = counters_again window_of;
      }
