-- A tree of sums changes as the sums that it holds.
use Rattle.std.proofs.Common.{◌≡◌, ℕ, ◌+◌, ℤ, pos, ◌+ℤ◌, Bool, true, false, cond, ◌&&◌, List, [], ◌∷◌, map, refl, sym, ap, ◌∙◌, subst, arith}
use Rattle.std.proofs.lemmas.Int.{ints}
use Rattle.std.specs.Prelude.{T, Option, Some, None, option_map, unwrap_or, Result, Ok, Err, OnErr}
use Rattle.std.specs.List.{AllByRecursion}
use Rattle.std.specs.List.Sorted.{IsStrictlySortedBy}
use Rattle.std.specs.Map.{lookup, keys_of}
use Rattle.std.specs.declared.cmp.Ordering.{Ordering}
use Rattle.std.specs.declared.cmp.Ordering.TheVariants.{Less}
use Rattle.std.specs.Ordering.{nat_cmp, is_eq, is_lt, eq_by_cmp}
use Rattle.std.specs.Cmp.{eq_by_cmp_equiv}
use Rattle.std.specs.Cmp.Lexicographic.{slice_cmp, nat_list_cmp_total}
use Rattle.std.specs.BTreeMap as tree
use Rattle.std.specs.BTreeMap.{BTreeMap, is_at}
use Rattle.std.specs.FinMap as finite
use Rattle.std.specs.FinMap.Entries.{below_all}
use Rattle.iss_model.specs.state.Kept.{Kept, nothing_kept, kept_at, after_change, IsSmall, AreSmall}
use Rattle.iss_model.proofs.Names.{its_name}
use Rattle.iss_model.proofs.KeptSums.{kept_at-after_change}
use Rattle.iss_commando.specs.Trees.{kept_in, kept_sum}

abbrev order : List ℕ → List ℕ → Ordering
order = slice_cmp nat_cmp

found : (key : List ℕ) (es : List (List ℕ × ℕ)) → finite.find order key (map kept_sum es) ≡ option_map pos (lookup (is_at (order key)) es)
found key [] = refl
found key (e ∷ es) =
    ap (λ (o : Option ℤ). cond (is_eq (order key e.0)) (Some (pos e.1)) o) (found key es)
    ∙ by (is_eq (order key e.0)) (lookup (is_at (order key)) es)
  where
    by : (b : Bool) (o : Option ℕ) → cond b (Some (pos e.1)) (option_map pos o) ≡ option_map pos (cond b (Some e.1) o)
    by true o = refl
    by false o = refl

pub get_in : (m : BTreeMap (List ℕ) ℕ) (key : List ℕ) → finite.get (kept_in m) key ≡ option_map pos (tree.get order m key)
get_in m key = finite.get-from_entries nat_list_cmp_total (map kept_sum m.entries) key ∙ found key m.entries

or_nothing : (o : Option ℕ) → pos (unwrap_or o 0) ≡ unwrap_or (option_map pos o) (pos 0)
or_nothing None = refl
or_nothing (Some n) = refl

pub sum_in : (m : BTreeMap (List ℕ) ℕ) (key : List ℕ) → pos (unwrap_or (tree.get order m key) 0) ≡ kept_at (kept_in m) key
sum_in m key = or_nothing (tree.get order m key) ∙ ap (λ (o : Option ℤ). unwrap_or o (pos 0)) (sym (get_in m key))

pub no_sums : (m : BTreeMap (List ℕ) ℕ) → m.entries ≡ [] → kept_in m ≡ nothing_kept
no_sums m e = ap (λ (es : List (List ℕ × ℕ)). finite.from_entries (map kept_sum es)) e

pub same_sums : (m n : BTreeMap (List ℕ) ℕ) → tree.IsUnchanged m n → kept_in n ≡ kept_in m
same_sums m n e = ap (λ (es : List (List ℕ × ℕ)). finite.from_entries (map kept_sum es)) e

one_key : finite.IsAntisymmetric order
one_key = finite.slice_cmp-IsAntisymmetric finite.nat_cmp-IsAntisymmetric

pos_if : (b : Bool) (sum : ℕ) (o : Option ℕ) → option_map pos (cond b (Some sum) o) ≡ cond b (Some (pos sum)) (option_map pos o)
pos_if true sum o = refl
pos_if false sum o = refl

-- the sums of a tree with another sum at a key
put_in : (m n : BTreeMap (List ℕ) ℕ) (key : List ℕ) (sum : ℕ) → tree.Updates order m n key (Some sum)
    → kept_in n ≡ finite.insert (kept_in m) key (pos sum)
put_in m n key sum u =
    finite.same_map nat_list_cmp_total one_key
    (kept_in n) (finite.insert (kept_in m) key (pos sum))
    (λ k. get_in n k ∙ ap (option_map pos) (u.0 k)
    ∙ ap (λ (b : Bool). option_map pos (cond b (Some sum) (tree.get order m k))) ((eq_by_cmp_equiv nat_list_cmp_total).symm key k)
    ∙ pos_if (eq_by_cmp order k key) sum (tree.get order m k)
    ∙ ap (λ (o : Option ℤ). cond (eq_by_cmp order k key) (Some (pos sum)) o) (sym (get_in m k))
    ∙ sym (finite.get-insert nat_list_cmp_total (kept_in m) key (pos sum) k))

-- the sums of a tree in which the sum at a key has risen by an amount
pub changed_by : (m n : BTreeMap (List ℕ) ℕ) (key : List ℕ) (by sum was : ℕ) → tree.Updates order m n key (Some sum)
    → pos was ≡ kept_at (kept_in m) key → sum ≡ was + by → kept_in n ≡ after_change (kept_in m) (record { key = key; by = pos by })
changed_by m n key by sum was u e f =
    put_in m n key sum u ∙ ap (λ (z : ℤ). finite.insert (kept_in m) key z) (ap pos f ∙ ap (λ (z : ℤ). z +ℤ pos by) e)

-- the sum at a key after a change is small if all are
pub small_at : (sums inside : Kept) (key named : List ℕ) (by : ℤ) → inside ≡ sums → named ≡ key
    → AreSmall (after_change sums (record { key = key; by = by })) → IsSmall (kept_at inside named +ℤ by)
small_at sums inside key named by e f h =
    subst (λ (z : ℤ). IsSmall z)
    (kept_at-after_change sums (record { key = key; by = by }) key
    ∙ ap (λ (b : Bool). kept_at sums key +ℤ cond b by (pos 0)) (its_name key)
    ∙ sym (λ i. kept_at (e i) (f i) +ℤ by))
    (h key)

-- what holds whatever the result is
pub on_err : {A E P : Type 0} (r : Result A E) → P → OnErr r P
on_err (Ok x) p = tt
on_err (Err e) p = p

pub small_sums : (m n : Kept) → n ≡ m → AreSmall m → AreSmall n
small_sums m n e h = λ key. subst (λ (sums : Kept). IsSmall (kept_at sums key)) (sym e) (h key)

nothing_small : (key : List ℕ) → IsSmall (kept_at nothing_kept key)
nothing_small key =
    subst (λ (z : ℤ). IsSmall z) (sym (ap (λ (o : Option ℤ). unwrap_or o (pos 0)) (finite.get-empty order key)))
    (record { low = omega (arith, ints); high = omega (arith, ints) })

pub none_small : (m : Kept) → m ≡ nothing_kept → AreSmall m
none_small m e = small_sums nothing_kept m e nothing_small

-- ---- listing

both : (a b : Bool) → T a → T b → T (a && b)
both true b p q = q
both false b p q = p

all_below : (k : List ℕ) (es : List (List ℕ × ℕ)) → AllByRecursion (λ y. order k y ≡ Less) (keys_of es) → T (below_all order k (map kept_sum es))
all_below k [] h = tt
all_below k (e ∷ es) h = both _ _ (subst (λ (r : Ordering). T (is_lt r)) (sym h.0) tt) (all_below k es h.1)

in_order : (es : List (List ℕ × ℕ)) → IsStrictlySortedBy order (keys_of es) → T (finite.is_sorted order (map kept_sum es))
unfolding IsStrictlySortedBy
in_order [] h = tt
in_order (e ∷ es) h = both _ _ (all_below e.0 es h.0) (in_order es h.1)

-- the sums of a tree in order are its entries
pub entries_in : (m : BTreeMap (List ℕ) ℕ) → tree.IsOrdered order m → finite.entries (kept_in m) ≡ map kept_sum m.entries
entries_in m o =
    let sums : List (List ℕ × ℤ) = map kept_sum m.entries in
    ap (λ (k : Kept). finite.entries k)
    (finite.same_map nat_list_cmp_total one_key (kept_in m) (finite.from_sorted sums)
    (λ k. finite.get-from_entries nat_list_cmp_total sums k ∙ sym (finite.get-from_sorted order sums k (in_order m.entries o))))
    ∙ finite.entries-from_sorted order sums (in_order m.entries o)
