-- Places by expiry, and the expiries of the names that stand there.
use Rattle.std.proofs.Common.{◌≡◌, ℕ, zero, suc, Bool, true, false, cond, List, [], ◌∷◌, ◌++◌, map, length, refl, sym, ap, ap₂, ◌∙◌}
use Rattle.std.proofs.lemmas.Option.{slice_get-map}
use Rattle.std.specs.Option.{option_map}
use Rattle.std.specs.Prelude.{Option, Some, slice_get}
use Rattle.std.specs.declared.cmp.Ordering.{Ordering}
use Rattle.std.specs.declared.cmp.Ordering.TheVariants.{Less, Equal, Greater}
use Rattle.std.specs.Ordering.{match_ordering}
use Rattle.std.specs.BTreeMap.{insert_entry}
use Rattle.std.specs.Map.{remove_entry, keys_of}
use Rattle.iss_index.proofs.Grown.{there_before, last_there}
use Rattle.iss_hold.specs.declared.hold.Hold.{Hold}
use Rattle.iss_hold.specs.Expiries.{Expiry}
use Rattle.iss_hold.specs.Indexes.{names, by_expiry, with_name, with_token}

-- entries by expiry, each with what a function returns of its value
abbrev mapped : {V W : Type 0} → (V → W) → List ((ℕ × ℕ) × V) → List ((ℕ × ℕ) × W)
mapped f es = map (λ e. (e.0, f e.1)) es

insert_by : {V W : Type 0} (f : V → W) (e : (ℕ × ℕ) × V) (es : List ((ℕ × ℕ) × V)) (k : ℕ × ℕ) (v : V) (r : Ordering)
    → mapped f (insert_entry by_expiry es k v) ≡ insert_entry by_expiry (mapped f es) k (f v)
    → mapped f (match_ordering r ((k, v) ∷ e ∷ es) ((e.0, v) ∷ es) (e ∷ insert_entry by_expiry es k v))
    ≡ match_ordering r ((k, f v) ∷ (e.0, f e.1) ∷ mapped f es) ((e.0, f v) ∷ mapped f es) ((e.0, f e.1) ∷ insert_entry by_expiry (mapped f es) k (f v))
insert_by f e es k v Less rest = refl
insert_by f e es k v Equal rest = refl
insert_by f e es k v Greater rest = ap (λ xs. (e.0, f e.1) ∷ xs) rest

insert_mapped : {V W : Type 0} (f : V → W) (es : List ((ℕ × ℕ) × V)) (k : ℕ × ℕ) (v : V) → mapped f (insert_entry by_expiry es k v) ≡ insert_entry by_expiry (mapped f es) k (f v)
insert_mapped f [] k v = refl
insert_mapped f (e ∷ es) k v = insert_by f e es k v (by_expiry k e.0) (insert_mapped f es k v)

remove_by : {V W : Type 0} (f : V → W) (e : (ℕ × ℕ) × V) (es : List ((ℕ × ℕ) × V)) (test : (ℕ × ℕ) → Bool) (b : Bool)
    → mapped f (remove_entry test es) ≡ remove_entry test (mapped f es)
    → mapped f (cond b es (e ∷ remove_entry test es)) ≡ cond b (mapped f es) ((e.0, f e.1) ∷ remove_entry test (mapped f es))
remove_by f e es test true rest = refl
remove_by f e es test false rest = ap (λ xs. (e.0, f e.1) ∷ xs) rest

remove_mapped : {V W : Type 0} (f : V → W) (es : List ((ℕ × ℕ) × V)) (test : (ℕ × ℕ) → Bool) → mapped f (remove_entry test es) ≡ remove_entry test (mapped f es)
remove_mapped f [] test = refl
remove_mapped f (e ∷ es) test = remove_by f e es test (test e.0) (remove_mapped f es test)

keys_mapped : {V W : Type 0} (f : V → W) (es : List ((ℕ × ℕ) × V)) → keys_of (mapped f es) ≡ keys_of es
keys_mapped f [] = refl
keys_mapped f (e ∷ es) = ap (λ ks. e.0 ∷ ks) (keys_mapped f es)

-- one more name changes none that stands
pub named_more : (ns : List (List ℕ)) (n : List ℕ) (es : List ((ℕ × ℕ) × ℕ)) (xs : List Expiry) → map (with_name ns) es ≡ map with_token xs → map (with_name (ns ++ n ∷ [])) es ≡ map with_token xs
named_more ns n [] xs h = h
named_more ns n (e ∷ es) [] h = cc
named_more ns n (e ∷ es) (x ∷ xs) h =
    let first : with_name ns e ≡ with_token x = cc in
    let key : e.0 ≡ x.0 = ap (λ (p : (ℕ × ℕ) × Option (List ℕ)). p.0) first in
    let name : slice_get ns e.1 ≡ Some x.1 = ap (λ (p : (ℕ × ℕ) × Option (List ℕ)). p.1) first in
    let there = there_before ns n e.1 x.1 name in
    let rest : map (with_name ns) es ≡ map with_token xs = cc in
    ap₂ (λ (y : (ℕ × ℕ) × Option (List ℕ)) (ys : List ((ℕ × ℕ) × Option (List ℕ))). y ∷ ys) (λ i. (key i, there i)) (named_more ns n es xs rest)

-- the place of one more name
pub named_insert : (ns : List (List ℕ)) (n : List ℕ) (es : List ((ℕ × ℕ) × ℕ)) (xs : List Expiry) (k : ℕ × ℕ) (place : ℕ) → place ≡ length ns → map (with_name ns) es ≡ map with_token xs
    → map (with_name (ns ++ n ∷ [])) (insert_entry by_expiry es k place) ≡ map with_token (insert_entry by_expiry xs k n)
named_insert ns n es xs k place p h =
    insert_mapped (slice_get (ns ++ n ∷ [])) es k place
    ∙ ap₂ (λ (ys : List ((ℕ × ℕ) × Option (List ℕ))) (o : Option (List ℕ)). insert_entry by_expiry ys k o) (named_more ns n es xs h) (ap (λ (i : ℕ). slice_get (ns ++ n ∷ []) i) p ∙ last_there ns n)
    ∙ sym (insert_mapped (λ (t : List ℕ). Some t) xs k n)

-- a place that is taken away
pub named_remove : (ns : List (List ℕ)) (es : List ((ℕ × ℕ) × ℕ)) (xs : List Expiry) (test : (ℕ × ℕ) → Bool) → map (with_name ns) es ≡ map with_token xs
    → map (with_name ns) (remove_entry test es) ≡ map with_token (remove_entry test xs)
named_remove ns es xs test h =
    remove_mapped (slice_get ns) es test
    ∙ ap (λ (ys : List ((ℕ × ℕ) × Option (List ℕ))). remove_entry test ys) h
    ∙ sym (remove_mapped (λ (t : List ℕ). Some t) xs test)

pub same_keys : (ns : List (List ℕ)) (es : List ((ℕ × ℕ) × ℕ)) (xs : List Expiry) → map (with_name ns) es ≡ map with_token xs → keys_of es ≡ keys_of xs
same_keys ns es xs h =
    sym (keys_mapped (slice_get ns) es)
    ∙ ap (λ (ys : List ((ℕ × ℕ) × Option (List ℕ))). keys_of ys) h
    ∙ keys_mapped (λ (t : List ℕ). Some t) xs

-- the name at the place of a hold is its transaction's
pub name_at : (hs : List Hold) (i : ℕ) (h : Hold) → slice_get hs i ≡ Some h → slice_get (names hs) i ≡ Some h.txn.token
name_at hs i h e = slice_get-map (λ (k : Hold). k.txn.token) hs i ∙ ap (λ (o : Option Hold). option_map (λ k. k.txn.token) o) e
