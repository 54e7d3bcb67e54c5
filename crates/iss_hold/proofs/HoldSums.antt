-- A hold that changes by a part changes what all holds come to by as much.
use Rattle.std.proofs.Common.{◌≡◌, ℕ, zero, suc, ℤ, pos, ◌+ℤ◌, List, [], ◌∷◌, map, set, refl, sym, ap, ◌∙◌, arith}
use Rattle.std.proofs.lemmas.Int.{ints}
use Rattle.std.specs.Prelude.{Some, slice_get}
use Rattle.iss_model.specs.declared.account.Part.{Part}
use Rattle.iss_model.specs.declared.account.Part.TheVariants as part
use Rattle.iss_model.specs.declared.entry.Entry.TheVariants as entry
use Rattle.iss_model.specs.Sums.{Change, part_key, user_key}
use Rattle.iss_model.specs.state.Kept.{Kept, nothing_kept, after_change, after_changes}
use Rattle.iss_model.specs.state.Cores.{with_hold}
use Rattle.iss_hold.specs.declared.hold.Hold.{Hold}
use Rattle.iss_hold.specs.Holdings.{txn_of_hold, part_of, with_part, whole_of, part_sums, user_sums, sums_from, holdings_of}
use Rattle.iss_hold.proofs.KeptChanges.{as_one, comes_last}

-- a change may come after all holds
sums_last : (f : Hold → List Change) (m : Kept) (d : Change) (hs : List Hold) → sums_from f (after_change m d) hs ≡ after_change (sums_from f m hs) d
sums_last f m d [] = refl
sums_last f m d (h ∷ hs) = ap (λ (sums : Kept). sums_from f sums hs) (comes_last m d (f h)) ∙ sums_last f (after_changes m (f h)) d hs

-- a hold that comes to more by a change
abbrev ChangesBy : (Hold → List Change) → Change → Hold → Hold → Type 0
ChangesBy f d h k = (m : Kept) → after_changes m (f k) ≡ after_change (after_changes m (f h)) d

same_hold : (h k : Hold) → Some h ≡ Some k → h ≡ k
same_hold h k e = cc

pub sums_set : (f : Hold → List Change) (d : Change) (h k : Hold) → ChangesBy f d h k → (m : Kept) (hs : List Hold) (i : ℕ) → slice_get hs i ≡ Some h
    → sums_from f m (set hs i k) ≡ after_change (sums_from f m hs) d
sums_set f d h k by m [] i e = cc
sums_set f d h k by m (x ∷ hs) zero e =
    ap (λ (sums : Kept). sums_from f sums hs) (by m)
    ∙ sums_last f (after_changes m (f h)) d hs
    ∙ ap (λ (y : Hold). after_change (sums_from f (after_changes m (f y)) hs) d) (same_hold h x (sym e))
sums_set f d h k by m (x ∷ hs) (suc i) e = sums_set f d h k by (after_changes m (f x)) hs i e

whole_with : (p : Part) (n : ℕ) (z : ℤ) (h : Hold) → pos (part_of p h) +ℤ z ≡ pos n → pos (whole_of h) +ℤ z ≡ pos (whole_of (with_part p n h))
whole_with part.G n z h e = omega (arith, ints)
whole_with part.P n z h e = omega (arith, ints)
whole_with part.S n z h e = omega (arith, ints)

user_changes : (p : Part) (n : ℕ) (z : ℤ) (h : Hold) → pos (part_of p h) +ℤ z ≡ pos n
    → ChangesBy user_sums (record { key = user_key h.txn.user h.txn.currency; by = z }) h (with_part p n h)
user_changes part.G n z h e m = sym (as_one m (user_key h.txn.user h.txn.currency) (pos (whole_of h)) z (pos (whole_of (with_part part.G n h))) (whole_with part.G n z h e))
user_changes part.P n z h e m = sym (as_one m (user_key h.txn.user h.txn.currency) (pos (whole_of h)) z (pos (whole_of (with_part part.P n h))) (whole_with part.P n z h e))
user_changes part.S n z h e m = sym (as_one m (user_key h.txn.user h.txn.currency) (pos (whole_of h)) z (pos (whole_of (with_part part.S n h))) (whole_with part.S n z h e))

-- one of several changes becomes greater
raised : (m : Kept) (key : List ℕ) (a b c : ℤ) (cs : List Change) → a +ℤ b ≡ c
    → after_changes m (record { key = key; by = c } ∷ cs) ≡ after_change (after_changes m (record { key = key; by = a } ∷ cs)) (record { key = key; by = b })
raised m key a b c cs e =
    ap (λ (sums : Kept). after_changes sums cs) (sym (as_one m key a b c e))
    ∙ comes_last (after_change m (record { key = key; by = a })) (record { key = key; by = b }) cs

part_changes_by : (p : Part) (n : ℕ) (z : ℤ) (h : Hold) → pos (part_of p h) +ℤ z ≡ pos n
    → ChangesBy part_sums (record { key = part_key h.txn.token p; by = z }) h (with_part p n h)
part_changes_by part.G n z h e m =
    raised m (part_key h.txn.token part.G) (pos h.g) z (pos n)
    (record { key = part_key h.txn.token part.P; by = pos h.p } ∷ record { key = part_key h.txn.token part.S; by = pos h.s } ∷ []) e
part_changes_by part.P n z h e m =
    raised (after_change m (record { key = part_key h.txn.token part.G; by = pos h.g })) (part_key h.txn.token part.P) (pos h.p) z (pos n)
    (record { key = part_key h.txn.token part.S; by = pos h.s } ∷ []) e
part_changes_by part.S n z h e m =
    raised (after_change (after_change m (record { key = part_key h.txn.token part.G; by = pos h.g })) (record { key = part_key h.txn.token part.P; by = pos h.p }))
    (part_key h.txn.token part.S) (pos h.s) z (pos n) [] e

same_now : (p : Part) (n : ℕ) (h : Hold) → txn_of_hold (with_part p n h) ≡ txn_of_hold h
same_now part.G n h = refl
same_now part.P n h = refl
same_now part.S n h = refl

pub map_set : {A B : Type 0} (f : A → B) (xs : List A) (i : ℕ) (x y : A) → slice_get xs i ≡ Some x → f y ≡ f x → map f (set xs i y) ≡ map f xs
map_set f [] i x y e h = cc
map_set f (a ∷ xs) zero x y e h = ap (λ b. b ∷ map f xs) (h ∙ ap f (same_item e))
  where
    same_item : {A : Type 0} {x y : A} → Some y ≡ Some x → x ≡ y
    same_item e = cc
map_set f (a ∷ xs) (suc i) x y e h = ap (λ bs. f a ∷ bs) (map_set f xs i x y e h)

-- the holdings when a part of a hold has changed
pub holdings_set : (hs : List Hold) (i : ℕ) (h : Hold) (p : Part) (n : ℕ) (z : ℤ) → slice_get hs i ≡ Some h → pos (part_of p h) +ℤ z ≡ pos n
    → holdings_of (set hs i (with_part p n h)) ≡ with_hold (holdings_of hs) (entry.Hold h.txn.token h.txn.user h.txn.currency p z)
holdings_set hs i h p n z at e =
    let txns : map txn_of_hold (set hs i (with_part p n h)) ≡ map txn_of_hold hs = map_set txn_of_hold hs i h (with_part p n h) at (same_now p n h) in
    let parts = sums_set part_sums (record { key = part_key h.txn.token p; by = z }) h (with_part p n h) (part_changes_by p n z h e) nothing_kept hs i at in
    let held = sums_set user_sums (record { key = user_key h.txn.user h.txn.currency; by = z }) h (with_part p n h) (user_changes p n z h e) nothing_kept hs i at in
    λ j. record { txns = txns j; parts = parts j; held = held j }
