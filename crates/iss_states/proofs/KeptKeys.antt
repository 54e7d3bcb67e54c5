-- Kept sums are the sums at their keys, and their keys are those that rows change, in order.
use Rattle.std.proofs.Common.{◌≡◌, ◌∙◌, ◌∷◌, ◌&&◌, ℕ, ℤ, pos, ap, Bool, cond, false, fold, List, [], map, refl, sym, T, true}
use Rattle.std.specs.Prelude.{Option, Some, None, unwrap_or}
use Rattle.std.specs.declared.cmp.Ordering.{Ordering}
use Rattle.std.specs.declared.cmp.Ordering.TheVariants.{Less, Equal, Greater}
use Rattle.std.specs.Ordering.{eq_by_cmp, is_eq, is_lt, nat_cmp}
use Rattle.std.specs.Cmp.Lexicographic.{nat_list_cmp_total, slice_cmp}
use Rattle.std.specs.FinMap as finite
use Rattle.std.specs.FinMap.Entries.{below_all, by_order, find, is_sorted, put}
use Rattle.std.proofs.lemmas.List.{nil_from_length}
use Rattle.std.proofs.lemmas.Map.Text.{is_eq-slice_cmp}
use Rattle.iss_model.specs.declared.entry.Entry.{Entry}
use Rattle.iss_model.specs.declared.entry.Row.{Row}
use Rattle.iss_model.specs.Sums.{Change, sum_at}
use Rattle.iss_model.specs.state.Kept.{Kept, after_change, after_changes, kept_at, kept_of, nothing_kept}
use Rattle.iss_model.proofs.KeptSums.{sum_kept}
use Rattle.iss_model.proofs.Lists.{map-alike}
use Rattle.iss_model.proofs.Names.{its_name, one_name}
use Rattle.iss_states.specs.OverBook.{keys_changed, keys_with}

-- the order of keys
abbrev order : List ℕ → List ℕ → Ordering
order = slice_cmp nat_cmp

-- sums at their keys ----

below_none : (x : List ℕ) (es : List (List ℕ × ℤ)) → T (below_all order x es) → find order x es ≡ None
below_none x [] h = refl
below_none x (f ∷ fs) h = by (order x (f.0)) (below_all order x fs) h (below_none x fs)
  where
    by : (r : Ordering) (b : Bool) → T (is_lt r && b) → (T b → find order x fs ≡ None) → cond (is_eq r) (Some (f.1)) (find order x fs) ≡ None
    by Less true h rest = rest tt
    by Less false h rest = absurd h
    by Equal b h rest = absurd h
    by Greater b h rest = absurd h

both_parts : (a b : Bool) → T (a && b) → T a × T b
both_parts true true h = (tt, tt)
both_parts true false h = absurd h
both_parts false b h = absurd h

same_key : (x : List ℕ) → eq_by_cmp order x x ≡ true
same_key x = is_eq-slice_cmp x x ∙ its_name x

-- what is found later in a sorted list isn't hidden by what comes first
found_later : (e : List ℕ × ℤ) (es : List (List ℕ × ℤ)) (q : List ℕ) (v : ℤ) → T (below_all order (e.0) es) → find order q es ≡ Some v → find order q (e ∷ es) ≡ Some v
found_later e es q v below found = by (eq_by_cmp order q (e.0)) refl
  where
    by : (b : Bool) → eq_by_cmp order q (e.0) ≡ b → cond b (Some (e.1)) (find order q es) ≡ Some v
    by true same =
        let name : q ≡ e.0 = one_name q (e.0) (sym (is_eq-slice_cmp q (e.0)) ∙ same) in
        let none : Some v ≡ None = sym found ∙ ap (λ (k : List ℕ). find order k es) name ∙ below_none (e.0) es below in cc
    by false same = found

at_keys : (g : List ℕ → ℤ) (es : List (List ℕ × ℤ)) → T (is_sorted order es) → ((q : List ℕ) (v : ℤ) → find order q es ≡ Some v → g q ≡ v) → map (λ (k : List ℕ). (k, g k)) (map (λ (e : List ℕ × ℤ). e.0) es) ≡ es
at_keys g [] sorted finds = refl
at_keys g (e ∷ es) sorted finds =
    let parts = both_parts (below_all order (e.0) es) (is_sorted order es) sorted in
    let first : g (e.0) ≡ e.1 = finds (e.0) (e.1) (ap (λ (b : Bool). cond b (Some (e.1)) (find order (e.0) es)) (same_key (e.0))) in
    let rest = at_keys g es parts.1 (λ q v found. finds q v (found_later e es q v parts.0 found)) in
    λ i. (e.0, first i) ∷ rest i

pub entries_at_keys : (m : Kept) → map (λ (k : List ℕ). (k, kept_at m k)) (finite.keys m) ≡ finite.entries m
entries_at_keys m = at_keys (kept_at m) (finite.entries m) (finite.entries_sorted m) (λ q v found. ap (λ (o : Option ℤ). unwrap_or o (pos 0)) (finite.get-entries m q ∙ found))

-- keys of what rows leave ----

keys_put : (key : List ℕ) (sum : ℤ) (es : List (List ℕ × ℤ)) → map (λ (e : List ℕ × ℤ). e.0) (put order key sum es) ≡ keys_with (map (λ (e : List ℕ × ℤ). e.0) es) key
keys_put key sum [] = refl
keys_put key sum (e ∷ es) = by (order key (e.0)) (keys_put key sum es)
  where
    by : (r : Ordering) → map (λ (e : List ℕ × ℤ). e.0) (put order key sum es) ≡ keys_with (map (λ (e : List ℕ × ℤ). e.0) es) key
        → map (λ (e : List ℕ × ℤ). e.0) (by_order r ((key, sum) ∷ e ∷ es) ((e.0, sum) ∷ es) (e ∷ put order key sum es))
        ≡ cond (is_lt r) (key ∷ e.0 ∷ map (λ (e : List ℕ × ℤ). e.0) es) (cond (is_eq r) (e.0 ∷ map (λ (e : List ℕ × ℤ). e.0) es) (e.0 ∷ keys_with (map (λ (e : List ℕ × ℤ). e.0) es) key))
    by Less rest = refl
    by Equal rest = refl
    by Greater rest = ap (λ (ks : List (List ℕ)). e.0 ∷ ks) rest

pub keys_after : (m : Kept) (cs : List Change) → finite.keys (after_changes m cs) ≡ fold (λ (ks : List (List ℕ)) (c : Change). keys_with ks c.key) (finite.keys m) cs
keys_after m [] = refl
keys_after m (c ∷ cs) =
    keys_after (after_change m c) cs
    ∙ ap (λ (ks : List (List ℕ)). fold (λ (ks : List (List ℕ)) (c : Change). keys_with ks c.key) ks cs)
    (ap (λ (es : List (List ℕ × ℤ)). map (λ (e : List ℕ × ℤ). e.0) es) (finite.entries-insert nat_list_cmp_total m c.key _) ∙ keys_put c.key _ (finite.entries m))

keys_from : (changes : Entry → List Change) (m : Kept) (rows : List Row)
    → finite.keys (fold (λ (s : Kept) (row : Row). after_changes s (changes row.entry)) m rows)
    ≡ fold (λ (ks : List (List ℕ)) (row : Row). fold (λ (ks : List (List ℕ)) (c : Change). keys_with ks c.key) ks (changes row.entry)) (finite.keys m) rows
keys_from changes m [] = refl
keys_from changes m (row ∷ rows) =
    keys_from changes (after_changes m (changes row.entry)) rows
    ∙ ap (λ (ks : List (List ℕ)). fold (λ (ks : List (List ℕ)) (row : Row). fold (λ (ks : List (List ℕ)) (c : Change). keys_with ks c.key) ks (changes row.entry)) ks rows)
    (keys_after m (changes row.entry))

pub no_keys : finite.keys nothing_kept ≡ []
no_keys = ap (λ (es : List (List ℕ × ℤ)). map (λ (e : List ℕ × ℤ). e.0) es) (nil_from_length (finite.entries nothing_kept) (sym (finite.len-entries nothing_kept) ∙ finite.len-empty order ℤ))

keys_left : (changes : Entry → List Change) (rows : List Row) → finite.keys (kept_of changes rows) ≡ keys_changed changes rows
keys_left changes rows =
    keys_from changes nothing_kept rows
    ∙ ap (λ (ks : List (List ℕ)). fold (λ (ks : List (List ℕ)) (row : Row). fold (λ (ks : List (List ℕ)) (c : Change). keys_with ks c.key) ks (changes row.entry)) ks rows) no_keys

-- the sums that rows leave are those over all rows, at the keys that they change
pub entries_left : (changes : Entry → List Change) (rows : List Row) → finite.entries (kept_of changes rows) ≡ map (λ (k : List ℕ). (k, sum_at changes k rows)) (keys_changed changes rows)
entries_left changes rows =
    sym (entries_at_keys (kept_of changes rows))
    ∙ map-alike (λ (k : List ℕ). (k, kept_at (kept_of changes rows) k)) (λ (k : List ℕ). (k, sum_at changes k rows)) (λ k. ap (λ (z : ℤ). (k, z)) (sum_kept changes rows k)) (finite.keys (kept_of changes rows))
    ∙ ap (λ (ks : List (List ℕ)). map (λ (k : List ℕ). (k, sum_at changes k rows)) ks) (keys_left changes rows)
