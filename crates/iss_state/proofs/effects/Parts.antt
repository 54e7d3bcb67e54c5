-- What a hold does to the parts of one transaction.
use Rattle.std.proofs.Common.{Bool, List, [], ap, arith, cond, false, neg_ℤ, negsuc, pos, refl, true, ℕ, ℤ, ◌+ℤ◌, ◌+◌, ◌∙◌, ◌∷◌, ◌≡◌, ◌≤◌}
use Rattle.std.specs.Str.{bytes_eq}
use Rattle.std.proofs.lemmas.Int.{ints}
use Rattle.iss_model.specs.declared.account.Part.{Part}
use Rattle.iss_model.specs.declared.account.Part.TheVariants as part
use Rattle.iss_model.specs.Sums.{Change, part_key}
use Rattle.iss_model.specs.rules.Facts.{not_below}
use Rattle.iss_model.specs.state.Kept.{Kept, after_changes, kept_at}
use Rattle.iss_model.proofs.KeptSums.{kept_at-after_changes}
use Rattle.iss_model.proofs.Names.{its_name}
use Rattle.iss_state.specs.Stakes.{part_held, whole_held}

-- ---- one part

-- one change at a key
abbrev pub change_of : List ℕ → ℤ → List Change
change_of key x = record { key = key; by = x } ∷ []

-- what is kept at a key after a change at another or the same
part_after : (parts : Kept) (key at : List ℕ) (x : ℤ) (b : Bool) → bytes_eq key at ≡ b → kept_at (after_changes parts (change_of key x)) at ≡ kept_at parts at +ℤ (cond b x (pos 0) +ℤ pos 0)
part_after parts key at x b e = kept_at-after_changes parts (change_of key x) at ∙ ap (λ (b : Bool). kept_at parts at +ℤ (cond b x (pos 0) +ℤ pos 0)) e

more_below : (y z : ℤ) (m : ℕ) → y ≡ z +ℤ (pos m +ℤ pos 0) → not_below y ≤ not_below z + m
more_below (pos a) (pos b) m e = omega (arith, ints, e)
more_below (pos a) (negsuc b) m e = omega (arith, ints, e)
more_below (negsuc a) (pos b) m e = omega (arith, ints, e)
more_below (negsuc a) (negsuc b) m e = omega (arith, ints, e)

less_below : (y z : ℤ) (m : ℕ) → y ≡ z +ℤ (neg_ℤ (pos m) +ℤ pos 0) → m ≤ not_below z → not_below y + m ≡ not_below z
less_below (pos a) (pos b) m e le = omega (arith, ints, e, le)
less_below (pos a) (negsuc b) m e le = omega (arith, ints, e, le)
less_below (negsuc a) (pos b) m e le = omega (arith, ints, e, le)
less_below (negsuc a) (negsuc b) m e le = omega (arith, ints, e, le)

pub part_same : (parts : Kept) (key : List ℕ) (x : ℤ) (t : List ℕ) (q : Part) → bytes_eq key (part_key t q) ≡ false → part_held (after_changes parts (change_of key x)) t q ≡ part_held parts t q
part_same parts key x t q e =
    let same : kept_at (after_changes parts (change_of key x)) (part_key t q) ≡ kept_at parts (part_key t q) = omega (arith, ints, part_after parts key (part_key t q) x false e) in
    ap not_below same

part_more : (parts : Kept) (key : List ℕ) (m : ℕ) (t : List ℕ) (q : Part) → bytes_eq key (part_key t q) ≡ true → part_held (after_changes parts (change_of key (pos m))) t q ≤ part_held parts t q + m
part_more parts key m t q e = more_below (kept_at (after_changes parts (change_of key (pos m))) (part_key t q)) (kept_at parts (part_key t q)) m (part_after parts key (part_key t q) (pos m) true e)

pub part_less : (parts : Kept) (key : List ℕ) (m : ℕ) (t : List ℕ) (q : Part) → bytes_eq key (part_key t q) ≡ true → m ≤ part_held parts t q
    → part_held (after_changes parts (change_of key (neg_ℤ (pos m)))) t q + m ≡ part_held parts t q
part_less parts key m t q e le = less_below (kept_at (after_changes parts (change_of key (neg_ℤ (pos m)))) (part_key t q)) (kept_at parts (part_key t q)) m (part_after parts key (part_key t q) (neg_ℤ (pos m)) true e) le

-- ---- one transaction

-- parts of two tokens have two keys
other_key : (a b : List ℕ) (p q : Part) → bytes_eq a b ≡ false → bytes_eq (part_key a p) (part_key b q) ≡ false
other_key a b part.G part.G e = e
other_key a b part.G part.P e = refl
other_key a b part.G part.S e = refl
other_key a b part.P part.G e = refl
other_key a b part.P part.P e = e
other_key a b part.P part.S e = refl
other_key a b part.S part.G e = refl
other_key a b part.S part.P e = refl
other_key a b part.S part.S e = e

-- a hold of another transaction leaves what it holds
pub whole_same : (parts : Kept) (token : List ℕ) (p : Part) (x : ℤ) (t : List ℕ) → bytes_eq token t ≡ false → whole_held (after_changes parts (change_of (part_key token p) x)) t ≡ whole_held parts t
whole_same parts token p x t e =
    λ i. part_same parts (part_key token p) x t part.G (other_key token t p part.G e) i
    + part_same parts (part_key token p) x t part.P (other_key token t p part.P e) i
    + part_same parts (part_key token p) x t part.S (other_key token t p part.S e) i

-- a hold of more adds no more than its amount
pub whole_more : (parts : Kept) (token : List ℕ) (p : Part) (m : ℕ) → whole_held (after_changes parts (change_of (part_key token p) (pos m))) token ≤ whole_held parts token + m
whole_more parts token part.G m =
    omega (arith, part_more parts (part_key token part.G) m token part.G (its_name token), part_same parts (part_key token part.G) (pos m) token part.P refl, part_same parts (part_key token part.G) (pos m) token part.S refl)
whole_more parts token part.P m =
    omega (arith, part_more parts (part_key token part.P) m token part.P (its_name token), part_same parts (part_key token part.P) (pos m) token part.G refl, part_same parts (part_key token part.P) (pos m) token part.S refl)
whole_more parts token part.S m =
    omega (arith, part_more parts (part_key token part.S) m token part.S (its_name token), part_same parts (part_key token part.S) (pos m) token part.G refl, part_same parts (part_key token part.S) (pos m) token part.P refl)

-- a hold of less takes its amount, if the part has it
pub whole_less : (parts : Kept) (token : List ℕ) (p : Part) (m : ℕ) → m ≤ part_held parts token p → whole_held (after_changes parts (change_of (part_key token p) (neg_ℤ (pos m)))) token + m ≡ whole_held parts token
whole_less parts token part.G m le =
    omega (arith, part_less parts (part_key token part.G) m token part.G (its_name token) le, part_same parts (part_key token part.G) (neg_ℤ (pos m)) token part.P refl, part_same parts (part_key token part.G) (neg_ℤ (pos m)) token part.S refl)
whole_less parts token part.P m le =
    omega (arith, part_less parts (part_key token part.P) m token part.P (its_name token) le, part_same parts (part_key token part.P) (neg_ℤ (pos m)) token part.G refl, part_same parts (part_key token part.P) (neg_ℤ (pos m)) token part.S refl)
whole_less parts token part.S m le =
    omega (arith, part_less parts (part_key token part.S) m token part.S (its_name token) le, part_same parts (part_key token part.S) (neg_ℤ (pos m)) token part.G refl, part_same parts (part_key token part.S) (neg_ℤ (pos m)) token part.P refl)
