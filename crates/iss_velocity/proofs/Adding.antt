-- A row that is added to the counters that are ready for it.
use Rattle.std.proofs.Common.{◌≡◌, ℕ, zero, suc, ◌+◌, ◌<◌, ℤ, Bool, true, false, cond, ◌&&◌, ◌==◌, nat_le, List, [], ◌∷◌, map, length, set, get_or, slice_get, Option, Some, None, refl, sym, ap, ap₂, ◌∙◌, subst, arith}
use Rattle.std.specs.Option.{option_map}
use Rattle.std.specs.Ordering.{int_eq}
use Rattle.std.specs.Cmp.{signed_Decides}
use Rattle.std.proofs.lemmas.Bool.Decides.{nat_tests}
use Rattle.iss_model.specs.declared.txn.UsageRow.{UsageRow}
use Rattle.iss_model.specs.declared.txn.Used.{Used}
use Rattle.iss_model.specs.rules.Controls.{Group, counts}
use Rattle.iss_velocity.specs.declared.counters.Counter.{Counter}
use Rattle.iss_velocity.specs.declared.standing.Standing.{Standing}
use Rattle.iss_velocity.specs.Spanning.{span_number}
use Rattle.iss_velocity.specs.Counting.{Past, put_of, at_place, in_span, or_else, past_at, used_at_place, used_more, counts_in, counter_by, counter_then}
use Rattle.iss_velocity.specs.Lists.{rising_from, AreReady}
use Rattle.iss_velocity.specs.Keeping.{IsSmallUse, StaySmall, FitMore, StaysSame, IsCounted}
use Rattle.iss_velocity.proofs.Walks.{there_is, stands_at}

-- the first of these are changed
abbrev pub first_changed : {A : Type 0} → (A → A) → ℕ → List A → List A
first_changed f zero xs = xs
first_changed f (suc n) [] = []
first_changed f (suc n) (x ∷ xs) = f x ∷ first_changed f n xs

pub all_changed : {A : Type 0} (f : A → A) (xs : List A) → first_changed f (length xs) xs ≡ map f xs
all_changed f [] = refl
all_changed f (x ∷ xs) = ap (λ ys. f x ∷ ys) (all_changed f xs)

pub as_many : {A : Type 0} (f : A → A) (n : ℕ) (xs : List A) → length (first_changed f n xs) ≡ length xs
as_many f zero xs = refl
as_many f (suc n) [] = refl
as_many f (suc n) (x ∷ xs) = ap suc (as_many f n xs)

pub one_more_changed : {A : Type 0} (f : A → A) (n : ℕ) (xs : List A) (x : A) → slice_get xs n ≡ Some x → set (first_changed f n xs) n (f x) ≡ first_changed f (n + 1) xs
one_more_changed f n [] x e = cc
one_more_changed f zero (y ∷ ys) x e = (let one : y ≡ x = cc in ap (λ z. f z ∷ ys) (sym one))
one_more_changed f (suc n) (y ∷ ys) x e =
    ap (λ zs. f y ∷ zs) (one_more_changed f n ys x e)
    ∙ (let same : suc (n + 1) ≡ suc n + 1 = omega arith in ap (λ k. first_changed f k (y ∷ ys)) same)

pub still_there : {A : Type 0} (f : A → A) (n : ℕ) (xs : List A) → slice_get (first_changed f n xs) n ≡ slice_get xs n
still_there f zero xs = refl
still_there f (suc n) [] = refl
still_there f (suc n) (x ∷ xs) = still_there f n xs

pub element_is : {A : Type 0} (f : A → A) (n : ℕ) (xs ys : List A) (x : A) → ys ≡ first_changed f n xs → n < length xs → x ≡ get_or ys n x → slice_get xs n ≡ Some x
element_is f n xs ys x e below own =
    sym (still_there f n xs) ∙ ap (λ zs. slice_get zs n) (sym e)
    ∙ there_is ys n x (subst (λ k. n < k) (sym (ap length e ∙ as_many f n xs)) below) own

pub all_changed_at : {A : Type 0} (f : A → A) (n : ℕ) (xs ys : List A) → ys ≡ first_changed f n xs → n ≡ length xs → ys ≡ map f xs
all_changed_at f n xs ys e end = e ∙ ap (λ k. first_changed f k xs) end ∙ all_changed f xs

pub next_changed : {A : Type 0} (f : A → A) (n : ℕ) (xs ys : List A) (x d : A) → ys ≡ first_changed f n xs → n < length xs → x ≡ get_or ys n x → d ≡ f x
    → set ys n d ≡ first_changed f (n + 1) xs
next_changed f n xs ys x d e below own done =
    ap₂ (λ zs z. set zs n z) e done ∙ one_more_changed f n xs x (element_is f n xs ys x e below own)

-- a counter keeps its place
by_keeps_place : (o : Option Standing) (groups : List Group) (row : UsageRow) (c : Counter) → (counter_by o groups row c).place ≡ c.place
by_keeps_place None groups row c = refl
by_keeps_place (Some s) groups row c = at (counts groups (put_of s) row)
  where
    at : (b : Bool) → (cond b (record c { used = Some (used_more c.used row) }) c).place ≡ c.place
    at true = refl
    at false = refl

keeps_place : (controls : List Standing) (groups : List Group) (row : UsageRow) (c : Counter) → (counter_then controls groups row c).place ≡ c.place
keeps_place controls groups row c = by_keeps_place (slice_get controls c.place) groups row c

at_changed : (controls : List Standing) (groups : List Group) (row : UsageRow) (p : ℕ) (cs : List Counter)
    → at_place p (map (counter_then controls groups row) cs) ≡ option_map (counter_then controls groups row) (at_place p cs)
at_changed controls groups row p [] = refl
at_changed controls groups row p (c ∷ cs) =
    ap (λ (n : ℕ). cond (n == p) (Some (counter_then controls groups row c)) (at_place p (map (counter_then controls groups row) cs))) (keeps_place controls groups row c)
    ∙ at (c.place == p) (at_changed controls groups row p cs)
  where
    at : (b : Bool) → at_place p (map (counter_then controls groups row) cs) ≡ option_map (counter_then controls groups row) (at_place p cs)
        → cond b (Some (counter_then controls groups row c)) (at_place p (map (counter_then controls groups row) cs))
        ≡ option_map (counter_then controls groups row) (cond b (Some c) (at_place p cs))
    at true rest = refl
    at false rest = rest

pub rising_changed : (controls : List Standing) (groups : List Group) (row : UsageRow) (low : ℕ) (cs : List Counter)
    → rising_from low (map (counter_then controls groups row) cs) ≡ rising_from low cs
rising_changed controls groups row low [] = refl
rising_changed controls groups row low (c ∷ cs) =
    ap (λ (n : ℕ). nat_le low n && rising_from (n + 1) (map (counter_then controls groups row) cs)) (keeps_place controls groups row c)
    ∙ ap (λ (b : Bool). nat_le low c.place && b) (rising_changed controls groups row (c.place + 1) cs)

module _ (controls : List Standing) (groups : List Group) (row : UsageRow) (old : List Counter) (past : Past) (cs : List Counter) (after : Past)
    (rising : rising_from 0 cs ≡ true) (ready : AreReady controls groups row old past cs (length controls)) (same : StaysSame row.user old past cs after) where
  inside : (p : ℕ) (s : Standing) → slice_get controls p ≡ Some s → nat_le (p + 1) (length controls) ≡ true
  inside p s e = (let below : p < length controls = there controls p e in grind (arith, nat_tests))
    where
      there : (xs : List Standing) (i : ℕ) → slice_get xs i ≡ Some s → i < length xs
      there [] i e = cc
      there (x ∷ xs) zero e = omega arith
      there (x ∷ xs) (suc i) e = (let rest = there xs i e in omega (arith, rest))

  ready_at : (p : ℕ) (s : Standing) → slice_get controls p ≡ Some s → counts groups (put_of s) row ≡ true
      → at_place p cs ≡ Some (record { place = p; number = span_number s row; used = used_at_place old past row.user p (span_number s row) })
  ready_at p s e k = ready.ready p s (inside p s e) e k

  -- what is added fits
  pub ready_fit : StaySmall controls groups row old past → FitMore controls groups row cs
  ready_fit small =
      record {
        fits = λ i c e. record {
          fits = λ s f k.
              let here : Some c ≡ Some (record { place = c.place; number = span_number s row; used = used_at_place old past row.user c.place (span_number s row) })
              = sym (stands_at 0 cs rising i c e) ∙ ready_at c.place s f k in
              let own : c ≡ record { place = c.place; number = span_number s row; used = used_at_place old past row.user c.place (span_number s row) } = cc in
              subst (λ (u : Option Used). IsSmallUse (used_more u row)) (ap (λ (x : Counter). x.used) (sym own)) (small.small c.place s f k);
        };
      }

  placed : (p : ℕ) (c : Counter) (xs : List Counter) → at_place p xs ≡ Some c → c.place ≡ p
  placed p c [] g = cc
  placed p c (x ∷ xs) g = by (x.place == p) refl (placed p c xs)
    where
      by : (b : Bool) → (x.place == p) ≡ b → (at_place p xs ≡ Some c → c.place ≡ p) → c.place ≡ p
      by true h rest =
          let first : Some x ≡ Some c = rw h at g in
          let one : x ≡ c = cc in
          let own : x.place ≡ p = grind (arith, nat_tests) in
          ap (λ (y : Counter). y.place) (sym one) ∙ own
      by false h rest = rest (rw h at g)

  -- what is found at a place is changed as the control there tells
  changed_at : (p : ℕ) (o : Option Counter) → at_place p cs ≡ o
      → option_map (counter_then controls groups row) o ≡ option_map (counter_by (slice_get controls p) groups row) o
  changed_at p None e = refl
  changed_at p (Some c) e = ap (λ (q : ℕ). Some (counter_by (slice_get controls q) groups row c)) (placed p c cs e)

  looked_up : (p : ℕ) (n : ℤ) → used_at_place (map (counter_then controls groups row) cs) after row.user p n
      ≡ or_else (in_span n (option_map (counter_by (slice_get controls p) groups row) (at_place p cs))) (past_at after row.user p n)
  looked_up p n =
      ap (λ (o : Option Counter). or_else (in_span n o) (past_at after row.user p n))
      (at_changed controls groups row p cs ∙ changed_at p (at_place p cs) refl)

  unmapped : (o : Option Counter) → option_map (λ (c : Counter). c) o ≡ o
  unmapped None = refl
  unmapped (Some c) = refl

  -- each control that counts the row has counted it
  pub added : IsCounted controls groups row old past (map (counter_then controls groups row) cs) after
  added = record { counted = λ p n. looked_up p n ∙ at p n (slice_get controls p) refl; others = same.others; plain = same.plain }
    where
      kept : (p : ℕ) (n : ℤ) → or_else (in_span n (option_map (λ (c : Counter). c) (at_place p cs))) (past_at after row.user p n) ≡ used_at_place old past row.user p n
      kept p n = ap (λ (o : Option Counter). or_else (in_span n o) (past_at after row.user p n)) (unmapped (at_place p cs)) ∙ same.same p n

      counted_so : (p : ℕ) (n m : ℤ) (b : Bool) → int_eq m n ≡ b
          → at_place p cs ≡ Some (record { place = p; number = m; used = used_at_place old past row.user p m })
          → or_else (cond (int_eq m n) (Some (used_more (used_at_place old past row.user p m) row)) None) (past_at after row.user p n)
          ≡ cond (int_eq m n) (Some (used_more (used_at_place old past row.user p n) row)) (used_at_place old past row.user p n)
      counted_so p n m true e f =
          ap (λ (b : Bool). or_else (cond b (Some (used_more (used_at_place old past row.user p m) row)) None) (past_at after row.user p n)) e
          ∙ ap (λ (k : ℤ). Some (used_more (used_at_place old past row.user p k) row)) ((signed_Decides m n).0 e)
          ∙ ap (λ (b : Bool). cond b (Some (used_more (used_at_place old past row.user p n) row)) (used_at_place old past row.user p n)) (sym e)
      counted_so p n m false e f =
          ap (λ (b : Bool). or_else (cond b (Some (used_more (used_at_place old past row.user p m) row)) None) (past_at after row.user p n)) e
          ∙ ap (λ (b : Bool). or_else (cond b (used_at_place old past row.user p m) None) (past_at after row.user p n)) (sym e)
          ∙ ap (λ (o : Option Counter). or_else (in_span n o) (past_at after row.user p n)) (sym f)
          ∙ same.same p n
          ∙ ap (λ (b : Bool). cond b (Some (used_more (used_at_place old past row.user p n) row)) (used_at_place old past row.user p n)) (sym e)

      by : (p : ℕ) (n : ℤ) (s : Standing) (b : Bool) → slice_get controls p ≡ Some s → counts groups (put_of s) row ≡ b
          → or_else (in_span n (option_map (λ (c : Counter). cond b (record c { used = Some (used_more c.used row) }) c) (at_place p cs))) (past_at after row.user p n)
          ≡ cond (b && int_eq (span_number s row) n) (Some (used_more (used_at_place old past row.user p n) row)) (used_at_place old past row.user p n)
      by p n s true e k =
          ap (λ (o : Option Counter). or_else (in_span n (option_map (λ (c : Counter). record c { used = Some (used_more c.used row) }) o)) (past_at after row.user p n)) (ready_at p s e k)
          ∙ counted_so p n (span_number s row) (int_eq (span_number s row) n) refl (ready_at p s e k)
      by p n s false e k = kept p n

      at : (p : ℕ) (n : ℤ) (o : Option Standing) → slice_get controls p ≡ o
          → or_else (in_span n (option_map (counter_by o groups row) (at_place p cs))) (past_at after row.user p n)
          ≡ cond (counts_in groups o row n) (Some (used_more (used_at_place old past row.user p n) row)) (used_at_place old past row.user p n)
      at p n None e = kept p n
      at p n (Some s) e =
          by p n s (counts groups (put_of s) row) e refl
