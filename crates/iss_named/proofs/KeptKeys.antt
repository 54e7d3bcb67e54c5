-- Keys of kept sums: what each of them has when sums are changed or made again, and that they are in order.
use Rattle.std.proofs.Common.{◌≡◌, ◌∙◌, ◌∷◌, ◌&&◌, ℕ, ℤ, ap, Bool, cond, false, fold, List, [], map, refl, subst, sym, T, true}
use Rattle.std.specs.List.{list_all}
use Rattle.std.specs.declared.cmp.Ordering.{Ordering}
use Rattle.std.specs.declared.cmp.Ordering.TheVariants.{Less, Equal, Greater}
use Rattle.std.specs.Ordering.{is_eq, is_lt, nat_cmp}
use Rattle.std.specs.Cmp.Lexicographic.{nat_list_cmp_total, slice_cmp}
use Rattle.std.specs.FinMap as finite
use Rattle.std.specs.FinMap.Entries.{below_all, by_order, is_sorted, put}
use Rattle.iss_model.specs.Sums.{Change}
use Rattle.iss_model.specs.state.Kept.{Kept, after_changes, nothing_kept}
use Rattle.iss_state.proofs.docket.Lists.{Each, both_so}
use Rattle.iss_states.specs.OverBook.{keys_with}
use Rattle.iss_states.proofs.KeptKeys.{keys_after, no_keys}
use Rattle.iss_named.specs.Known.{do_keys_rise, is_key_before}

-- the order of keys
abbrev order : List ℕ → List ℕ → Ordering
order = slice_cmp nat_cmp

-- each key ----

module _ (P : List ℕ → Type 0) where
  each_with : (keys : List (List ℕ)) (key : List ℕ) → P key → Each P keys → Each P (keys_with keys key)
  each_with [] key h each = (h, tt)
  each_with (k ∷ ks) key h each = by (is_lt (order key k)) (is_eq (order key k)) (each_with ks key h each.1)
    where
      by : (first same : Bool) → Each P (keys_with ks key) → Each P (cond first (key ∷ k ∷ ks) (cond same (k ∷ ks) (k ∷ keys_with ks key)))
      by true same rest = (h, each)
      by false true rest = each
      by false false rest = (each.0, rest)

  all_with : (keys : List (List ℕ)) (cs : List Change) → Each (λ c. P c.key) cs → Each P keys → Each P (fold (λ keys c. keys_with keys c.key) keys cs)
  all_with keys [] h each = each
  all_with keys (c ∷ cs) h each = all_with (keys_with keys c.key) cs h.1 (each_with keys c.key h.0 each)

  -- changes add their keys
  pub keys_changed_too : (m : Kept) (cs : List Change) → Each (λ c. P c.key) cs → Each P (finite.keys m) → Each P (finite.keys (after_changes m cs))
  keys_changed_too m cs h each = subst (Each P) (sym (keys_after m cs)) (all_with (finite.keys m) cs h each)

  pub no_key : Each P (finite.keys nothing_kept)
  no_key = subst (Each P) (sym no_keys) tt

  each_put : (key : List ℕ) (sum : ℤ) (es : List (List ℕ × ℤ)) → P key → Each P (map (λ (e : List ℕ × ℤ). e.0) es) → Each P (map (λ (e : List ℕ × ℤ). e.0) (put order key sum es))
  each_put key sum [] h each = (h, tt)
  each_put key sum (e ∷ es) h each = by (order key (e.0)) (each_put key sum es h each.1)
    where
      by : (r : Ordering) → Each P (map (λ (e : List ℕ × ℤ). e.0) (put order key sum es))
          → Each P (map (λ (e : List ℕ × ℤ). e.0) (by_order r ((key, sum) ∷ e ∷ es) ((e.0, sum) ∷ es) (e ∷ put order key sum es)))
      by Less rest = (h, each)
      by Equal rest = each
      by Greater rest = (each.0, rest)

  -- the keys of sums that are made again are those that are given
  pub keys_again : (es : List (List ℕ × ℤ)) → Each P (map (λ (e : List ℕ × ℤ). e.0) es) → Each P (finite.keys (finite.from_entries {R = order} es))
  keys_again [] each = no_key
  keys_again (e ∷ es) each =
      subst (λ (xs : List (List ℕ × ℤ)). Each P (map (λ (e : List ℕ × ℤ). e.0) xs)) (sym (finite.entries-insert nat_list_cmp_total (finite.from_entries es) (e.0) (e.1)))
      (each_put (e.0) (e.1) (finite.entries (finite.from_entries {R = order} es)) each.0 (keys_again es each.1))

-- order ----

is_so : (b : Bool) → T b → b ≡ true
is_so true h = refl
is_so false h = absurd h

both_parts : (a b : Bool) → T (a && b) → T a × T b
both_parts true true h = (tt, tt)
both_parts true false h = absurd h
both_parts false b h = absurd h

below_rise : (key : List ℕ) (es : List (List ℕ × ℤ)) → T (below_all order key es) → list_all (is_key_before key) (map (λ (e : List ℕ × ℤ). e.0) es) ≡ true
below_rise key [] h = refl
below_rise key (e ∷ es) h =
    let both = both_parts (is_lt (order key (e.0))) (below_all order key es) h in
    both_so (is_key_before key (e.0)) (list_all (is_key_before key) (map (λ (e : List ℕ × ℤ). e.0) es)) (is_so (is_lt (order key (e.0))) both.0) (below_rise key es both.1)

sorted_rise : (es : List (List ℕ × ℤ)) → T (is_sorted order es) → do_keys_rise (map (λ (e : List ℕ × ℤ). e.0) es) ≡ true
sorted_rise [] h = refl
sorted_rise (e ∷ es) h =
    let both = both_parts (below_all order (e.0) es) (is_sorted order es) h in
    both_so (list_all (is_key_before (e.0)) (map (λ (e : List ℕ × ℤ). e.0) es)) (do_keys_rise (map (λ (e : List ℕ × ℤ). e.0) es)) (below_rise (e.0) es both.0) (sorted_rise es both.1)

-- the keys of kept sums are in order
pub kept_rise : (m : Kept) → do_keys_rise (finite.keys m) ≡ true
kept_rise m = sorted_rise (finite.entries m) (finite.entries_sorted m)

-- so they are as places that are read from the entries
pub places_rise : (place : List ℕ × ℤ → List ℕ) (P : List ℕ → Type 0) → ((e : List ℕ × ℤ) → P (e.0) → place e ≡ e.0) → (m : Kept) → Each P (finite.keys m) → do_keys_rise (map place (finite.entries m)) ≡ true
places_rise place P read m each = ap do_keys_rise (all_read (finite.entries m) each) ∙ kept_rise m
  where
    all_read : (es : List (List ℕ × ℤ)) → Each P (map (λ (e : List ℕ × ℤ). e.0) es) → map place es ≡ map (λ (e : List ℕ × ℤ). e.0) es
    all_read [] each = refl
    all_read (e ∷ es) each = λ i. read e each.0 i ∷ all_read es each.1 i
