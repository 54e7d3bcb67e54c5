-- A walk over a user's counters beside the controls.
use Rattle.std.proofs.Common.{◌≡◌, ℕ, zero, suc, ◌+◌, ◌<◌, ◌≤◌, Bool, true, false, cond, ◌&&◌, ◌==◌, nat_le, nat_lt, List, [], ◌∷◌, ◌++◌, length, set, get_or, slice_get, Option, Some, None, refl, sym, ap, ap₂, ◌∙◌, subst, arith}
use Rattle.std.proofs.lemmas.Bool.{and_parts}
use Rattle.std.proofs.lemmas.Bool.Decides.{nat_tests}
use Rattle.std.specs.List.{insert}
use Rattle.std.proofs.lemmas.Option.{slice_get-get_or}
use Rattle.iss_velocity.specs.declared.counters.Counter.{Counter}
use Rattle.iss_velocity.specs.Counting.{at_place, or_else}
use Rattle.iss_velocity.specs.Lists.{rising_from, rising_to, IsSplit}

both : (a b : Bool) → a ≡ true → b ≡ true → (a && b) ≡ true
both a b p q = ap₂ (λ (x y : Bool). x && y) p q

-- places that rise from a place rise from a lower one
pub lower : (low next : ℕ) (cs : List Counter) → nat_le low next ≡ true → rising_from next cs ≡ true → rising_from low cs ≡ true
lower low next [] h r = refl
lower low next (c ∷ cs) h r =
    let parts = and_parts (nat_le next c.place) (rising_from (c.place + 1) cs) r in
    let first : nat_le next c.place ≡ true = parts.0 in
    both (nat_le low c.place) (rising_from (c.place + 1) cs) (grind (arith, nat_tests)) parts.1

-- two lists that follow each other
joined : (low mid : ℕ) (xs ys : List Counter) → rising_to low mid xs ≡ true → rising_from mid ys ≡ true → rising_from low (xs ++ ys) ≡ true
joined low mid [] ys h r = lower low mid ys h r
joined low mid (x ∷ xs) ys h r =
    let parts = and_parts (nat_le low x.place) (rising_to (x.place + 1) mid xs) h in
    both (nat_le low x.place) (rising_from (x.place + 1) (xs ++ ys)) parts.0 (joined (x.place + 1) mid xs ys parts.1 r)

-- places that rise below a place
wider : (low high : ℕ) (xs : List Counter) → rising_to low high xs ≡ true → rising_to low (high + 1) xs ≡ true
wider low high [] h = grind (arith, nat_tests)
wider low high (x ∷ xs) h =
    let parts = and_parts (nat_le low x.place) (rising_to (x.place + 1) high xs) h in
    both (nat_le low x.place) (rising_to (x.place + 1) (high + 1) xs) parts.0 (wider (x.place + 1) high xs parts.1)

pushed : (low high : ℕ) (xs : List Counter) (c : Counter) → rising_to low high xs ≡ true → (c.place == high) ≡ true → rising_to low (high + 1) (xs ++ c ∷ []) ≡ true
pushed low high [] c h e = both (nat_le low c.place) (nat_le (c.place + 1) (high + 1)) (grind (arith, nat_tests)) (grind (arith, nat_tests))
pushed low high (x ∷ xs) c h e =
    let parts = and_parts (nat_le low x.place) (rising_to (x.place + 1) high xs) h in
    both (nat_le low x.place) (rising_to (x.place + 1) (high + 1) (xs ++ c ∷ [])) parts.0 (pushed (x.place + 1) high xs c parts.1 e)

ends_above : (low high : ℕ) (xs : List Counter) → rising_to low high xs ≡ true → nat_le low high ≡ true
ends_above low high [] h = h
ends_above low high (x ∷ xs) h =
    let parts = and_parts (nat_le low x.place) (rising_to (x.place + 1) high xs) h in
    let rest : nat_le (x.place + 1) high ≡ true = ends_above (x.place + 1) high xs parts.1 in
    let first : nat_le low x.place ≡ true = parts.0 in
    grind (arith, nat_tests)

-- no counter is that of a place above all
none_above : (low high place : ℕ) (xs : List Counter) → rising_to low high xs ≡ true → nat_le high place ≡ true → at_place place xs ≡ None
none_above low high place [] h p = refl
none_above low high place (x ∷ xs) h p =
    let parts = and_parts (nat_le low x.place) (rising_to (x.place + 1) high xs) h in
    let rest : nat_le (x.place + 1) high ≡ true = ends_above (x.place + 1) high xs parts.1 in
    let other : (x.place == place) ≡ false = grind (arith, nat_tests) in
    ap (λ (b : Bool). cond b (Some x) (at_place place xs)) other ∙ none_above (x.place + 1) high place xs parts.1 p

-- no counter is that of a place below all
pub none_below : (low place : ℕ) (xs : List Counter) → rising_from low xs ≡ true → nat_lt place low ≡ true → at_place place xs ≡ None
none_below low place [] h p = refl
none_below low place (x ∷ xs) h p =
    let parts = and_parts (nat_le low x.place) (rising_from (x.place + 1) xs) h in
    let first : nat_le low x.place ≡ true = parts.0 in
    let other : (x.place == place) ≡ false = grind (arith, nat_tests) in
    let next : nat_lt place (x.place + 1) ≡ true = grind (arith, nat_tests) in
    ap (λ (b : Bool). cond b (Some x) (at_place place xs)) other ∙ none_below (x.place + 1) place xs parts.1 next

at_append : (place : ℕ) (xs ys : List Counter) → at_place place (xs ++ ys) ≡ or_else (at_place place xs) (at_place place ys)
at_append place [] ys = refl
at_append place (x ∷ xs) ys = at (x.place == place) (at_append place xs ys)
  where
    at : (b : Bool) → at_place place (xs ++ ys) ≡ or_else (at_place place xs) (at_place place ys)
        → cond b (Some x) (at_place place (xs ++ ys)) ≡ or_else (cond b (Some x) (at_place place xs)) (at_place place ys)
    at true rest = refl
    at false rest = rest

-- the counter at an index, its change, and a counter that is put there
got : (xs ys : List Counter) → slice_get (xs ++ ys) (length xs) ≡ slice_get ys 0
got [] ys = refl
got (x ∷ xs) ys = got xs ys

put : (xs ys : List Counter) (c d : Counter) → set (xs ++ c ∷ ys) (length xs) d ≡ xs ++ d ∷ ys
put [] ys c d = refl
put (x ∷ xs) ys c d = ap (λ (zs : List Counter). x ∷ zs) (put xs ys c d)

inserted : (xs ys : List Counter) (d : Counter) → insert (xs ++ ys) (length xs) d ≡ xs ++ d ∷ ys
inserted [] ys d = refl
inserted (x ∷ xs) ys d = ap (λ (zs : List Counter). x ∷ zs) (inserted xs ys d)

regrouped : (xs ys : List Counter) (c : Counter) → xs ++ c ∷ ys ≡ (xs ++ c ∷ []) ++ ys
regrouped [] ys c = refl
regrouped (x ∷ xs) ys c = ap (λ (zs : List Counter). x ∷ zs) (regrouped xs ys c)

one_more : (xs : List Counter) (c : Counter) → length (xs ++ c ∷ []) ≡ length xs + 1
one_more [] c = refl
one_more (x ∷ xs) c = (let rest = one_more xs c in omega (arith, rest))

-- what a look-up by an index returns
pub there_is : {A : Type 0} (xs : List A) (i : ℕ) (x : A) → i < length xs → x ≡ get_or xs i x → slice_get xs i ≡ Some x
there_is xs i x below e = slice_get-get_or xs i x below ∙ ap (λ y. Some y) (sym e)

pub none_there : {A : Type 0} (xs : List A) (i : ℕ) → length xs ≤ i → slice_get xs i ≡ None
none_there [] i h = refl
none_there (x ∷ xs) zero h = absurd (omega (arith, h))
none_there (x ∷ xs) (suc i) h = none_there xs i (omega (arith, h))

-- a walk begins before all counters
pub starts : (cs : List Counter) → rising_from 0 cs ≡ true → IsSplit cs 0 0
starts cs h = record { before = []; after = cs; joined = refl; len = refl; low = refl; high = h }

-- the counters rise
pub still_rising : (cs : List Counter) (next place : ℕ) → IsSplit cs next place → rising_from 0 cs ≡ true
still_rising cs next place s =
    subst (λ (xs : List Counter). rising_from 0 xs ≡ true) (sym s.joined) (joined 0 place s.before s.after s.low s.high)

-- the first counter that comes is that of a place, or none is
module _ (cs : List Counter) (next place : ℕ) (s : IsSplit cs next place) where
  pub split_get : slice_get cs next ≡ slice_get s.after 0
  split_get = ap₂ (λ (xs : List Counter) (n : ℕ). slice_get xs n) s.joined s.len ∙ got s.before s.after

  pub split_at : at_place place cs ≡ at_place place s.after
  split_at =
      ap (at_place place) s.joined ∙ at_append place s.before s.after
      ∙ ap (λ (o : Option Counter). or_else o (at_place place s.after)) (none_above 0 place place s.before s.low (grind (arith, nat_tests)))

  same_place : (c : Counter) → slice_get cs next ≡ Some c → (b : Bool) → (c.place == place) ≡ b → at_place place cs ≡ cond b (Some c) None
  same_place c e b d = split_at ∙ at_head s.after s.high (sym split_get ∙ e)
    where
      at_head : (ys : List Counter) → rising_from place ys ≡ true → slice_get ys 0 ≡ Some c → at_place place ys ≡ cond b (Some c) None
      at_head [] h g = cc
      at_head (y ∷ ys) h g =
          let one : y ≡ c = cc in
          let parts = and_parts (nat_le place y.place) (rising_from (y.place + 1) ys) h in
          let same : (y.place == place) ≡ b = ap (λ (x : Counter). x.place == place) one ∙ d in
          let later : nat_lt place (y.place + 1) ≡ true = (let first : nat_le place y.place ≡ true = parts.0 in grind (arith, nat_tests)) in
          ap (λ (x : Bool). cond x (Some y) (at_place place ys)) same
          ∙ ap₂ (λ (x : Counter) (o : Option Counter). cond b (Some x) o) one (none_below (y.place + 1) place ys parts.1 later)

  pub found_here : (c : Counter) → slice_get cs next ≡ Some c → (c.place == place) ≡ true → Some c ≡ at_place place cs
  found_here c e d = sym (same_place c e true d)

  pub not_here : (c : Counter) → slice_get cs next ≡ Some c → (c.place == place) ≡ false → None ≡ at_place place cs
  not_here c e d = sym (same_place c e false d)

  pub at_end : slice_get cs next ≡ None → None ≡ at_place place cs
  at_end e = sym (split_at ∙ nothing s.after (sym split_get ∙ e))
    where
      nothing : (ys : List Counter) → slice_get ys 0 ≡ None → at_place place ys ≡ None
      nothing [] g = refl
      nothing (y ∷ ys) g = cc

  -- the walk goes on after the counter of a place
  pub goes_on : (c : Counter) → slice_get cs next ≡ Some c → (c.place == place) ≡ true → IsSplit cs (next + 1) (place + 1)
  goes_on c e d = behind s.after s.joined s.high (sym split_get ∙ e)
    where
      behind : (ys : List Counter) → cs ≡ s.before ++ ys → rising_from place ys ≡ true → slice_get ys 0 ≡ Some c → IsSplit cs (next + 1) (place + 1)
      behind [] j h g = cc
      behind (y ∷ ys) j h g =
          let one : y ≡ c = cc in
          let same : (y.place == place) ≡ true = ap (λ (x : Counter). x.place == place) one ∙ d in
          let parts = and_parts (nat_le place y.place) (rising_from (y.place + 1) ys) h in
          let low : nat_le (place + 1) (y.place + 1) ≡ true = grind (arith, nat_tests) in
          record {
            before = s.before ++ y ∷ [];
            after = ys;
            joined = j ∙ regrouped s.before ys y;
            len = ap (λ (n : ℕ). n + 1) s.len ∙ sym (one_more s.before y);
            low = pushed 0 place s.before y s.low same;
            high = lower (place + 1) (y.place + 1) ys low parts.1;
          }

  -- the walk goes on before a counter that comes later
  pub waits : (c : Counter) → slice_get cs next ≡ Some c → (c.place == place) ≡ false → IsSplit cs next (place + 1)
  waits c e d =
      record {
        before = s.before;
        after = s.after;
        joined = s.joined;
        len = s.len;
        low = wider 0 place s.before s.low;
        high = above s.after s.high (sym split_get ∙ e);
      }
    where
      above : (ys : List Counter) → rising_from place ys ≡ true → slice_get ys 0 ≡ Some c → rising_from (place + 1) ys ≡ true
      above [] h g = refl
      above (y ∷ ys) h g =
          let one : y ≡ c = cc in
          let other : (y.place == place) ≡ false = ap (λ (x : Counter). x.place == place) one ∙ d in
          let parts = and_parts (nat_le place y.place) (rising_from (y.place + 1) ys) h in
          let first : nat_le place y.place ≡ true = parts.0 in
          both (nat_le (place + 1) y.place) (rising_from (y.place + 1) ys) (grind (arith, nat_tests)) parts.1

  -- the walk ends at the end of the counters
  pub ends : slice_get cs next ≡ None → IsSplit cs next (place + 1)
  ends e =
      record {
        before = s.before;
        after = s.after;
        joined = s.joined;
        len = s.len;
        low = wider 0 place s.before s.low;
        high = nothing s.after (sym split_get ∙ e);
      }
    where
      nothing : (ys : List Counter) → slice_get ys 0 ≡ None → rising_from (place + 1) ys ≡ true
      nothing [] g = refl
      nothing (y ∷ ys) g = cc

  -- another counter of that place, put for the one that stands there
  pub put_split : (c d : Counter) → slice_get cs next ≡ Some c → (c.place == place) ≡ true → d.place ≡ c.place → IsSplit (set cs next d) next place
  put_split c d e h p = changed s.after s.joined s.high (sym split_get ∙ e)
    where
      changed : (ys : List Counter) → cs ≡ s.before ++ ys → rising_from place ys ≡ true → slice_get ys 0 ≡ Some c → IsSplit (set cs next d) next place
      changed [] j r g = cc
      changed (y ∷ ys) j r g =
          let one : y ≡ c = cc in
          let same : d.place ≡ y.place = p ∙ ap (λ (x : Counter). x.place) (sym one) in
          record {
            before = s.before;
            after = d ∷ ys;
            joined = ap₂ (λ (xs : List Counter) (n : ℕ). set xs n d) j s.len ∙ put s.before ys y d;
            len = s.len;
            low = s.low;
            high = ap (λ (n : ℕ). nat_le place n && rising_from (n + 1) ys) same ∙ r;
          }

  -- what is found at each place then
  pub put_at : (c d : Counter) → slice_get cs next ≡ Some c → (c.place == place) ≡ true → d.place ≡ c.place
      → (p : ℕ) → at_place p (set cs next d) ≡ cond (p == place) (Some d) (at_place p cs)
  put_at c d e h q p = changed s.after s.joined (sym split_get ∙ e)
    where
      at_d : (b : Bool) (ys : List Counter) → (c.place == p) ≡ b → (p == place) ≡ b → (o : Option Counter) → (b ≡ true → o ≡ None)
          → or_else o (cond (d.place == p) (Some d) (at_place p ys)) ≡ cond b (Some d) (or_else o (cond (c.place == p) (Some c) (at_place p ys)))
      at_d true ys f g o n =
          ap₂ (λ (x : Option Counter) (t : Bool). or_else x (cond t (Some d) (at_place p ys))) (n refl) (ap (λ (k : ℕ). k == p) q ∙ f)
      at_d false ys f g o n =
          ap (λ (t : Bool). or_else o (cond t (Some d) (at_place p ys))) (ap (λ (k : ℕ). k == p) q ∙ f)
          ∙ sym (ap (λ (t : Bool). or_else o (cond t (Some c) (at_place p ys))) f)

      changed : (ys : List Counter) → cs ≡ s.before ++ ys → slice_get ys 0 ≡ Some c → at_place p (set cs next d) ≡ cond (p == place) (Some d) (at_place p cs)
      changed [] j g = cc
      changed (y ∷ ys) j g =
          let one : y ≡ c = cc in
          let joined_so : cs ≡ s.before ++ c ∷ ys = j ∙ ap (λ (x : Counter). s.before ++ x ∷ ys) one in
          let same : (c.place == p) ≡ (p == place) = grind (arith, nat_tests) in
          ap (at_place p) (ap₂ (λ (xs : List Counter) (n : ℕ). set xs n d) joined_so s.len ∙ put s.before ys c d)
          ∙ at_append p s.before (d ∷ ys)
          ∙ at_d (p == place) ys same refl (at_place p s.before) (λ t. none_above 0 place p s.before s.low (grind (arith, nat_tests)))
          ∙ ap (λ (o : Option Counter). cond (p == place) (Some d) o) (sym (ap (at_place p) joined_so ∙ at_append p s.before (c ∷ ys)))

  -- a counter of the place that is put if none stood
  pub new_split : (d : Counter) → at_place place cs ≡ None → d.place ≡ place → IsSplit (insert cs next d) next place
  new_split d none p =
      record {
        before = s.before;
        after = d ∷ s.after;
        joined = ap₂ (λ (xs : List Counter) (n : ℕ). insert xs n d) s.joined s.len ∙ inserted s.before s.after d;
        len = s.len;
        low = s.low;
        high = both (nat_le place d.place) (rising_from (d.place + 1) s.after) (grind (arith, nat_tests))
            (ap (λ (n : ℕ). rising_from (n + 1) s.after) p ∙ above s.after s.high (sym split_at ∙ none));
      }
    where
      above : (ys : List Counter) → rising_from place ys ≡ true → at_place place ys ≡ None → rising_from (place + 1) ys ≡ true
      above [] h g = refl
      above (y ∷ ys) h g = by (y.place == place) refl
        where
          by : (b : Bool) → (y.place == place) ≡ b → rising_from (place + 1) (y ∷ ys) ≡ true
          by true t = (let first : Some y ≡ None = rw t at g in cc)
          by false t =
              let parts = and_parts (nat_le place y.place) (rising_from (y.place + 1) ys) h in
              let first : nat_le place y.place ≡ true = parts.0 in
              both (nat_le (place + 1) y.place) (rising_from (y.place + 1) ys) (grind (arith, nat_tests)) parts.1

  pub new_at : (d : Counter) → at_place place cs ≡ None → d.place ≡ place
      → (p : ℕ) → at_place p (insert cs next d) ≡ cond (p == place) (Some d) (at_place p cs)
  new_at d none q p =
      ap (at_place p) (ap₂ (λ (xs : List Counter) (n : ℕ). insert xs n d) s.joined s.len ∙ inserted s.before s.after d)
      ∙ at_append p s.before (d ∷ s.after)
      ∙ by (p == place) refl
      ∙ ap (λ (o : Option Counter). cond (p == place) (Some d) o) (sym (ap (at_place p) s.joined ∙ at_append p s.before s.after))
    where
      by : (b : Bool) → (p == place) ≡ b
          → or_else (at_place p s.before) (cond (d.place == p) (Some d) (at_place p s.after)) ≡ cond b (Some d) (or_else (at_place p s.before) (at_place p s.after))
      by true t =
          let here : (d.place == p) ≡ true = grind (arith, nat_tests) in
          ap₂ (λ (o : Option Counter) (x : Bool). or_else o (cond x (Some d) (at_place p s.after))) (none_above 0 place p s.before s.low (grind (arith, nat_tests))) here
      by false t =
          let other : (d.place == p) ≡ false = grind (arith, nat_tests) in
          ap (λ (x : Bool). or_else (at_place p s.before) (cond x (Some d) (at_place p s.after))) other

-- each counter that stands is found at its place
pub stands_at : (low : ℕ) (cs : List Counter) → rising_from low cs ≡ true → (i : ℕ) (c : Counter) → slice_get cs i ≡ Some c → at_place c.place cs ≡ Some c
stands_at low [] h i c e = cc
stands_at low (x ∷ xs) h zero c e =
    let one : x ≡ c = cc in
    let own : (x.place == c.place) ≡ true = ap (λ (y : Counter). y.place == c.place) one ∙ itself c.place in
    ap (λ (b : Bool). cond b (Some x) (at_place c.place xs)) own ∙ ap (λ (y : Counter). Some y) one
  where
    itself : (n : ℕ) → (n == n) ≡ true
    itself n = grind (arith, nat_tests)
stands_at low (x ∷ xs) h (suc i) c e = at (x.place == c.place) refl (stands_at (x.place + 1) xs parts.1 i c e)
  where
    parts : (nat_le low x.place ≡ true) × (rising_from (x.place + 1) xs ≡ true)
    parts = and_parts (nat_le low x.place) (rising_from (x.place + 1) xs) h

    at : (b : Bool) → (x.place == c.place) ≡ b → at_place c.place xs ≡ Some c → at_place c.place (x ∷ xs) ≡ Some c
    at true t rest =
        let below : nat_lt c.place (x.place + 1) ≡ true = grind (arith, nat_tests) in
        let none : at_place c.place xs ≡ None = none_below (x.place + 1) c.place xs parts.1 below in
        (let wrong : Some c ≡ None = sym rest ∙ none in cc)
    at false t rest = ap (λ (b : Bool). cond b (Some x) (at_place c.place xs)) t ∙ rest

-- the counter of a place stands at the walk's index, if it stands
module _ (cs : List Counter) (next place : ℕ) (s : IsSplit cs next place) where
  pub stands_here : (c : Counter) → at_place place cs ≡ Some c → (slice_get cs next ≡ Some c) × ((c.place == place) ≡ true)
  stands_here c e = at_head s.after s.high (sym (split_at cs next place s) ∙ e) (split_get cs next place s)
    where
      at_head : (ys : List Counter) → rising_from place ys ≡ true → at_place place ys ≡ Some c → slice_get cs next ≡ slice_get ys 0
          → (slice_get cs next ≡ Some c) × ((c.place == place) ≡ true)
      at_head [] h g k = cc
      at_head (y ∷ ys) h g k = by (y.place == place) refl
        where
          by : (b : Bool) → (y.place == place) ≡ b → (slice_get cs next ≡ Some c) × ((c.place == place) ≡ true)
          by true t =
              let first : Some y ≡ Some c = rw t at g in
              let one : y ≡ c = cc in
              (k ∙ first, sym (ap (λ (x : Counter). x.place == place) one) ∙ t)
          by false t =
              let parts = and_parts (nat_le place y.place) (rising_from (y.place + 1) ys) h in
              let first : nat_le place y.place ≡ true = parts.0 in
              let later : nat_lt place (y.place + 1) ≡ true = grind (arith, nat_tests) in
              let none : at_place place ys ≡ None = none_below (y.place + 1) place ys parts.1 later in
              let rest : at_place place ys ≡ Some c = rw t at g in
              (let wrong : Some c ≡ None = sym rest ∙ none in cc)

  pub goes_on_behind : (c : Counter) → at_place place cs ≡ Some c → IsSplit cs (next + 1) (place + 1)
  goes_on_behind c e = let here = stands_here c e in goes_on cs next place s c here.0 here.1

  pub goes_on_before : at_place place cs ≡ None → IsSplit cs next (place + 1)
  goes_on_before none =
      record {
        before = s.before;
        after = s.after;
        joined = s.joined;
        len = s.len;
        low = wider 0 place s.before s.low;
        high = above s.after s.high (sym (split_at cs next place s) ∙ none);
      }
    where
      above : (ys : List Counter) → rising_from place ys ≡ true → at_place place ys ≡ None → rising_from (place + 1) ys ≡ true
      above [] h g = refl
      above (y ∷ ys) h g = by (y.place == place) refl
        where
          by : (b : Bool) → (y.place == place) ≡ b → rising_from (place + 1) (y ∷ ys) ≡ true
          by true t = (let first : Some y ≡ None = rw t at g in cc)
          by false t =
              let parts = and_parts (nat_le place y.place) (rising_from (y.place + 1) ys) h in
              let first : nat_le place y.place ≡ true = parts.0 in
              both (nat_le (place + 1) y.place) (rising_from (y.place + 1) ys) (grind (arith, nat_tests)) parts.1

  len_after : next + length s.after ≡ length cs
  len_after = (let e = s.len in ap (λ (n : ℕ). n + length s.after) e ∙ sym (append_len s.before s.after) ∙ ap length (sym s.joined))
    where
      append_len : (xs ys : List Counter) → length (xs ++ ys) ≡ length xs + length ys
      append_len [] ys = omega arith
      append_len (x ∷ xs) ys = (let rest = append_len xs ys in omega (arith, rest))

  pub index_fits : next ≤ length cs
  index_fits = let e = len_after in omega (arith, e)

  pub index_stands : (c : Counter) → at_place place cs ≡ Some c → next < length cs
  index_stands c e = at s.after (sym (split_at cs next place s) ∙ e) len_after
    where
      at : (ys : List Counter) → at_place place ys ≡ Some c → next + length ys ≡ length cs → next < length cs
      at [] g h = cc
      at (y ∷ ys) g h = omega (arith, h)

-- two places by the test of the code
pub same_test : (a b : ℕ) → a ≡ b → (a == b) ≡ true
same_test a b e = grind (arith, nat_tests)

pub apart_test : (a b : ℕ) → (a ≡ b → ⊥) → (a == b) ≡ false
apart_test a b h = at (a == b) refl
  where
    equal : (a b : ℕ) → (a == b) ≡ true → a ≡ b
    equal a b e = grind (arith, nat_tests)

    at : (t : Bool) → (a == b) ≡ t → t ≡ false
    at true e = absurd (h (equal a b e))
    at false e = refl
