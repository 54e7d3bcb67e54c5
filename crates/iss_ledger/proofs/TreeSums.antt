-- A tree of sums changes as the sums that it holds.
use Rattle.std.proofs.Common.{◌≡◌, ℕ, ℤ, ◌+ℤ◌, ◌-ℤ◌, Bool, true, false, cond, ◌&&◌, List, [], ◌∷◌, length, refl, sym, ap, ◌∙◌, subst, arith}
use Rattle.std.proofs.lemmas.Int.{ints}
use Rattle.std.specs.Prelude.{T, IsSome, Option, Some, None, pos, unwrap_or}
use Rattle.std.specs.List.{AllByRecursion}
use Rattle.std.specs.List.Sorted.{IsStrictlySortedBy}
use Rattle.std.specs.Map.{lookup, keys_of}
use Rattle.std.specs.declared.cmp.Ordering.{Ordering}
use Rattle.std.specs.declared.cmp.Ordering.TheVariants.{Less}
use Rattle.std.specs.Ordering.{nat_cmp, is_eq, is_lt, eq_by_cmp}
use Rattle.std.specs.Cmp.{eq_by_cmp_equiv, Equal-is}
use Rattle.std.specs.Cmp.Lexicographic.{slice_cmp, nat_list_cmp_total}
use Rattle.std.specs.BTreeMap as tree
use Rattle.std.specs.BTreeMap.{BTreeMap, is_at}
use Rattle.std.specs.FinMap as finite
use Rattle.std.specs.FinMap.Entries.{below_all}
use Rattle.iss_model.specs.state.Kept.{Kept, nothing_kept, kept_at, after_change}
use Rattle.iss_ledger.specs.Trees.{kept_in, IsInOrder, taken_back}

abbrev order : List ℕ → List ℕ → Ordering
order = slice_cmp nat_cmp

one_key : finite.IsAntisymmetric order
one_key = finite.slice_cmp-IsAntisymmetric finite.nat_cmp-IsAntisymmetric

both : (a b : Bool) → T a → T b → T (a && b)
both true b p q = q
both false b p q = p

all_below : (k : List ℕ) (es : List (List ℕ × ℤ)) → AllByRecursion (λ y. order k y ≡ Less) (keys_of es) → T (below_all order k es)
all_below k [] h = tt
all_below k (e ∷ es) h = both _ _ (subst (λ (r : Ordering). T (is_lt r)) (sym h.0) tt) (all_below k es h.1)

pub in_order : (es : List (List ℕ × ℤ)) → IsStrictlySortedBy order (keys_of es) → T (finite.is_sorted order es)
unfolding IsStrictlySortedBy
in_order [] h = tt
in_order (e ∷ es) h = both _ _ (all_below e.0 es h.0) (in_order es h.1)

found : (key : List ℕ) (es : List (List ℕ × ℤ)) → finite.find order key es ≡ lookup (is_at (order key)) es
found key [] = refl
found key (e ∷ es) = ap (λ (o : Option ℤ). cond (is_eq (order key e.0)) (Some e.1) o) (found key es)

pub get_in : (m : BTreeMap (List ℕ) ℤ) (key : List ℕ) → IsInOrder m → finite.get (kept_in m) key ≡ tree.get order m key
get_in m key o = finite.get-from_sorted order m.entries key (in_order m.entries o) ∙ found key m.entries

no_entries : finite.from_sorted {R = order} [] ≡ nothing_kept
no_entries = finite.empty_of_len (finite.from_sorted []) (finite.len-entries (finite.from_sorted []) ∙ ap (λ (es : List (List ℕ × ℤ)). length es) (finite.entries-from_sorted order [] tt))

pub no_sums : (m : BTreeMap (List ℕ) ℤ) → m.entries ≡ [] → kept_in m ≡ nothing_kept
no_sums m e = ap (λ (es : List (List ℕ × ℤ)). finite.from_sorted es) e ∙ no_entries

pub sums_put : (m n : BTreeMap (List ℕ) ℤ) (key : List ℕ) (sum : ℤ) → IsInOrder m → IsInOrder n
    → tree.Updates order m n key (Some sum) → kept_in n ≡ finite.insert (kept_in m) key sum
sums_put m n key sum p q u =
    finite.same_map nat_list_cmp_total one_key (kept_in n) (finite.insert (kept_in m) key sum)
    (λ k. get_in n k q ∙ u.0 k
    ∙ ap (λ (b : Bool). cond b (Some sum) (tree.get order m k)) ((eq_by_cmp_equiv nat_list_cmp_total).symm key k)
    ∙ ap (λ (o : Option ℤ). cond (eq_by_cmp order k key) (Some sum) o) (sym (get_in m k p))
    ∙ sym (finite.get-insert nat_list_cmp_total (kept_in m) key sum k))

pub changed_by : (m n : BTreeMap (List ℕ) ℤ) (key : List ℕ) (by sum was : ℤ) → IsInOrder m → IsInOrder n
    → tree.Updates order m n key (Some sum) → was ≡ kept_at (kept_in m) key → sum ≡ was +ℤ by → kept_in n ≡ after_change (kept_in m) (record { key = key; by = by })
changed_by m n key by sum was p q u e f =
    sums_put m n key sum p q u ∙ ap (λ (z : ℤ). finite.insert (kept_in m) key z) (f ∙ ap (λ (z : ℤ). z +ℤ by) e)

-- the sum that stands at a key
pub stood_at : (m : BTreeMap (List ℕ) ℤ) (key : List ℕ) (was : ℤ) → IsInOrder m → Some was ≡ tree.get order m key → was ≡ kept_at (kept_in m) key
stood_at m key was o e = ap (λ (x : Option ℤ). unwrap_or x (pos 0)) (e ∙ sym (get_in m key o))

-- no sum stands at a key
pub lacked_at : (m : BTreeMap (List ℕ) ℤ) (key : List ℕ) → IsInOrder m → None ≡ tree.get order m key → pos 0 ≡ kept_at (kept_in m) key
lacked_at m key o e = ap (λ (x : Option ℤ). unwrap_or x (pos 0)) (e ∙ sym (get_in m key o))

pub sums_taken : (m n : BTreeMap (List ℕ) ℤ) (key : List ℕ) → IsInOrder m → IsInOrder n
    → tree.Updates order m n key None → kept_in n ≡ finite.remove (kept_in m) key
sums_taken m n key p q u =
    finite.same_map nat_list_cmp_total one_key (kept_in n) (finite.remove (kept_in m) key)
    (λ k. get_in n k q ∙ u.0 k
    ∙ ap (λ (b : Bool). cond b None (tree.get order m k)) ((eq_by_cmp_equiv nat_list_cmp_total).symm key k)
    ∙ ap (λ (o : Option ℤ). cond (eq_by_cmp order k key) None o) (sym (get_in m k p))
    ∙ sym (finite.get-remove nat_list_cmp_total (kept_in m) key k))

as_less : (z a : ℤ) → z -ℤ a ≡ z +ℤ (pos 0 -ℤ a)
as_less z a = omega (arith, ints)

-- what was added is taken off a sum that stood before
pub less_by : (m n : BTreeMap (List ℕ) ℤ) (key : List ℕ) (by sum was : ℤ) (stood : Bool) → IsInOrder m → IsInOrder n
    → tree.Updates order m n key (Some sum) → was ≡ kept_at (kept_in m) key → sum ≡ was -ℤ by → stood ≡ true → kept_in n ≡ taken_back (kept_in m) key by stood
less_by m n key by sum was stood p q u e f t =
    changed_by m n key (pos 0 -ℤ by) sum was p q u e (f ∙ as_less was by) ∙ ap (λ (b : Bool). taken_back (kept_in m) key by b) (sym t)

pub keys_in : (m : BTreeMap (List ℕ) ℤ) → IsInOrder m → finite.keys (kept_in m) ≡ keys_of m.entries
keys_in m o = ap (λ (es : List (List ℕ × ℤ)). keys_of es) (finite.entries-from_sorted order m.entries (in_order m.entries o))

pub entries_in : (m : BTreeMap (List ℕ) ℤ) → IsInOrder m → finite.entries (kept_in m) ≡ m.entries
entries_in m o = finite.entries-from_sorted order m.entries (in_order m.entries o)

either_way : (b : Bool) (x : Option ℤ) (sum : ℤ) → (b ≡ true → x ≡ None) → cond b None (cond b (Some sum) x) ≡ x
either_way true x sum h = sym (h refl)
either_way false x sum h = refl

as_it_was : (b : Bool) (x o : Option ℤ) → (b ≡ true → x ≡ o) → cond b o x ≡ x
as_it_was true x o h = sym (h refl)
as_it_was false x o h = refl

-- a key that ties has what the key has
tied : (m : Kept) (key k : List ℕ) (o : Option ℤ) → finite.get m key ≡ o → eq_by_cmp order k key ≡ true → finite.get m k ≡ o
tied m key k o e t = sym (finite.get_tied nat_list_cmp_total m k key ((Equal-is (order k key)).0 t)) ∙ e

-- what was put at a new key is taken out again
pub put_out : (m : Kept) (key : List ℕ) (sum : ℤ) → finite.get m key ≡ None → finite.remove (finite.insert m key sum) key ≡ m
put_out m key sum e =
    finite.same_map nat_list_cmp_total one_key (finite.remove (finite.insert m key sum) key) m
    (λ k. finite.get-remove nat_list_cmp_total (finite.insert m key sum) key k
    ∙ ap (λ (x : Option ℤ). cond (eq_by_cmp order k key) None x) (finite.get-insert nat_list_cmp_total m key sum k)
    ∙ either_way (eq_by_cmp order k key) (finite.get m k) sum (tied m key k None e))

-- what stands at a key is put there
pub put_same : (m : Kept) (key : List ℕ) (sum : ℤ) → finite.get m key ≡ Some sum → finite.insert m key sum ≡ m
put_same m key sum e =
    finite.same_map nat_list_cmp_total one_key (finite.insert m key sum) m
    (λ k. finite.get-insert nat_list_cmp_total m key sum k ∙ as_it_was (eq_by_cmp order k key) (finite.get m k) (Some sum) (tied m key k (Some sum) e))

-- what is put at a key twice
overwritten : (b : Bool) (x y : Option ℤ) (o : Option ℤ) → cond b x (cond b y o) ≡ cond b x o
overwritten true x y o = refl
overwritten false x y o = refl

pub put_twice : (m : Kept) (key : List ℕ) (a b : ℤ) → finite.insert (finite.insert m key a) key b ≡ finite.insert m key b
put_twice m key a b =
    finite.same_map nat_list_cmp_total one_key (finite.insert (finite.insert m key a) key b) (finite.insert m key b)
    (λ k. finite.get-insert nat_list_cmp_total (finite.insert m key a) key b k
    ∙ ap (λ (o : Option ℤ). cond (eq_by_cmp order k key) (Some b) o) (finite.get-insert nat_list_cmp_total m key a k)
    ∙ overwritten (eq_by_cmp order k key) (Some b) (Some a) (finite.get m k)
    ∙ sym (finite.get-insert nat_list_cmp_total m key b k))

pub same_sums : (m n : BTreeMap (List ℕ) ℤ) → tree.IsUnchanged m n → kept_in n ≡ kept_in m
same_sums m n e = ap (λ (es : List (List ℕ × ℤ)). finite.from_sorted es) e

pub still_stands : (m n : BTreeMap (List ℕ) ℤ) (key same : List ℕ) → tree.IsUnchanged m n → same ≡ key → IsSome (tree.get order m key) → IsSome (tree.get order n same)
still_stands m n key same e f h =
    subst (λ (k : List ℕ). IsSome (lookup (is_at (order k)) n.entries)) (sym f)
    (subst (λ (es : List (List ℕ × ℤ)). IsSome (lookup (is_at (order key)) es)) (sym e) h)
