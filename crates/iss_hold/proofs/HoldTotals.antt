-- What the holds come to at a key.
use Rattle.std.proofs.Common.{◌≡◌, ℕ, zero, suc, ◌+◌, ◌≤◌, ◌==◌, ℤ, pos, ◌+ℤ◌, Bool, true, false, cond, ◌&&◌, List, [], ◌∷◌, ◌++◌, set, refl, ap, ap₂, ◌∙◌, subst, arith}
use Rattle.std.proofs.lemmas.Int.{ints}
use Rattle.std.specs.Prelude.{Some, slice_get}
use Rattle.std.specs.List.{IsDistinct, AllByRecursion}
use Rattle.std.specs.Str.{bytes_eq}
use Rattle.iss_model.specs.declared.account.Part.{Part}
use Rattle.iss_model.specs.declared.account.Part.TheVariants as part
use Rattle.iss_model.specs.declared.currency.Currency.{Currency}
use Rattle.iss_model.specs.Currencies.{iso_number}
use Rattle.iss_model.specs.Sums.{part_key, user_key}
use Rattle.iss_model.specs.state.Kept.{Kept, kept_at, after_change, after_changes}
use Rattle.iss_model.proofs.Names.{its_name, name-sym}
use Rattle.iss_model.proofs.KeptSums.{kept_at-after_change}
use Rattle.iss_hold.specs.declared.hold.Hold.{Hold}
use Rattle.iss_hold.specs.Holdings.{part_of, whole_of, part_sums, user_sums, sums_from}
use Rattle.iss_hold.specs.Indexes.{names, is_of, total_of}

-- user keys are one if user and currency are
both_and : (a b : Bool) → (a && (b && true)) ≡ (a && b)
both_and true true = refl
both_and true false = refl
both_and false b = refl

never : (a : Bool) → (a && false) ≡ false
never true = refl
never false = refl

longer : (c : ℕ) (d : ℕ) (v : List ℕ) → bytes_eq (c ∷ []) (v ++ 0 ∷ d ∷ []) ≡ false
longer c d [] = never (c == 0)
longer c d (y ∷ []) = never (c == y)
longer c d (y ∷ z ∷ v) = never (c == y)

shorter : (c : ℕ) (d : ℕ) (v : List ℕ) → bytes_eq (v ++ 0 ∷ c ∷ []) (d ∷ []) ≡ false
shorter c d [] = never (0 == d)
shorter c d (y ∷ []) = never (y == d)
shorter c d (y ∷ z ∷ v) = never (y == d)

grouped : (a b c : Bool) → (a && (b && c)) ≡ ((a && b) && c)
grouped true b c = refl
grouped false b c = refl

one_user : (u v : List ℕ) (c d : ℕ) → bytes_eq (u ++ 0 ∷ c ∷ []) (v ++ 0 ∷ d ∷ []) ≡ (bytes_eq u v && (c == d))
one_user [] [] c d = both_and true (c == d)
one_user [] (y ∷ v) c d = ap (λ (b : Bool). (0 == y) && b) (longer c d v) ∙ never (0 == y)
one_user (x ∷ u) [] c d = ap (λ (b : Bool). (x == 0) && b) (shorter c d u) ∙ never (x == 0)
one_user (x ∷ u) (y ∷ v) c d = ap (λ (b : Bool). (x == y) && b) (one_user u v c d) ∙ grouped (x == y) (bytes_eq u v) (c == d)

regrouped : (z : ℤ) (b : Bool) (m n : ℕ) → (z +ℤ cond b (pos m) (pos 0)) +ℤ pos n ≡ z +ℤ pos (cond b m 0 + n)
regrouped z true m n = omega (arith, ints)
regrouped z false m n = omega (arith, ints)

no_more : (z : ℤ) → z ≡ z +ℤ pos 0
no_more z = omega (arith, ints)

-- the sum of a user is what the holds of that user come to
pub user_total : (user : List ℕ) (c : Currency) (m : Kept) (hs : List Hold)
    → kept_at (sums_from user_sums m hs) (user_key user c) ≡ kept_at m (user_key user c) +ℤ pos (total_of user (iso_number c) hs)
user_total user c m [] = no_more (kept_at m (user_key user c))
user_total user c m (h ∷ hs) =
    user_total user c (after_changes m (user_sums h)) hs
    ∙ ap (λ (z : ℤ). z +ℤ pos (total_of user (iso_number c) hs))
    (kept_at-after_change m (record { key = user_key h.txn.user h.txn.currency; by = pos (whole_of h) }) (user_key user c)
    ∙ ap (λ (b : Bool). kept_at m (user_key user c) +ℤ cond b (pos (whole_of h)) (pos 0)) (one_user h.txn.user user (iso_number h.txn.currency) (iso_number c)))
    ∙ regrouped (kept_at m (user_key user c)) (is_of user (iso_number c) h) (whole_of h) (total_of user (iso_number c) hs)

-- what a hold comes to is a part of what its user's holds come to
pub whole_within : (hs : List Hold) (i : ℕ) (h : Hold) → slice_get hs i ≡ Some h → whole_of h ≤ total_of h.txn.user (iso_number h.txn.currency) hs
whole_within [] i h e = cc
whole_within (x ∷ hs) zero h e =
    let same : x ≡ h = cc in
    subst (λ (y : Hold). whole_of y ≤ total_of y.txn.user (iso_number y.txn.currency) (x ∷ hs)) same
    (let own : is_of x.txn.user (iso_number x.txn.currency) x ≡ true = rw (its_name x.txn.user) (same_number (iso_number x.txn.currency)) in
    rw own (omega arith))
  where
    same_number : (n : ℕ) → (n == n) ≡ true
    same_number n = grind arith
whole_within (x ∷ hs) (suc i) h e =
    let rest = whole_within hs i h e in
    omega arith

-- the total when a hold has changed and its user hasn't
pub total_set : (user : List ℕ) (number : ℕ) (hs : List Hold) (i : ℕ) (h k : Hold) → slice_get hs i ≡ Some h
    → is_of user number k ≡ is_of user number h
    → total_of user number (set hs i k) + cond (is_of user number h) (whole_of h) 0 ≡ total_of user number hs + cond (is_of user number h) (whole_of k) 0
total_set user number [] i h k e s = cc
total_set user number (x ∷ hs) zero h k e s =
    let same : x ≡ h = cc in
    rw (same, s) (omega arith)
total_set user number (x ∷ hs) (suc i) h k e s =
    let rest = total_set user number hs i h k e s in
    omega arith

pub total_more : (user : List ℕ) (number : ℕ) (hs : List Hold) (h : Hold) → whole_of h ≡ 0 → total_of user number (hs ++ h ∷ []) ≡ total_of user number hs
total_more user number [] h e = rw e (nothing (is_of user number h))
  where
    nothing : (b : Bool) → cond b 0 0 + 0 ≡ 0
    nothing true = refl
    nothing false = refl
total_more user number (x ∷ hs) h e = ap (λ (n : ℕ). cond (is_of user number x) (whole_of x) 0 + n) (total_more user number hs h e)

-- what the holds of this name have in a part
in_part : Part → List ℕ → List Hold → ℕ
in_part p name [] = 0
in_part p name (h ∷ hs) = cond (bytes_eq h.txn.token name) (part_of p h) 0 + in_part p name hs

at_keys : (m : Kept) (k l n : List ℕ) (a b c : ℤ) (key : List ℕ)
    → kept_at (after_changes m (record { key = k; by = a } ∷ record { key = l; by = b } ∷ record { key = n; by = c } ∷ [])) key
    ≡ ((kept_at m key +ℤ cond (bytes_eq k key) a (pos 0)) +ℤ cond (bytes_eq l key) b (pos 0)) +ℤ cond (bytes_eq n key) c (pos 0)
at_keys m k l n a b c key =
    kept_at-after_change (after_change (after_change m (record { key = k; by = a })) (record { key = l; by = b })) (record { key = n; by = c }) key
    ∙ ap (λ (z : ℤ). z +ℤ cond (bytes_eq n key) c (pos 0))
    (kept_at-after_change (after_change m (record { key = k; by = a })) (record { key = l; by = b }) key
    ∙ ap (λ (z : ℤ). z +ℤ cond (bytes_eq l key) b (pos 0)) (kept_at-after_change m (record { key = k; by = a }) key))

first_alone : (z x : ℤ) → ((z +ℤ x) +ℤ pos 0) +ℤ pos 0 ≡ z +ℤ x
first_alone z x = omega (arith, ints)

second_alone : (z x : ℤ) → ((z +ℤ pos 0) +ℤ x) +ℤ pos 0 ≡ z +ℤ x
second_alone z x = omega (arith, ints)

third_alone : (z x : ℤ) → ((z +ℤ pos 0) +ℤ pos 0) +ℤ x ≡ z +ℤ x
third_alone z x = omega (arith, ints)

hold_at : (p : Part) (name : List ℕ) (m : Kept) (h : Hold)
    → kept_at (after_changes m (part_sums h)) (part_key name p) ≡ kept_at m (part_key name p) +ℤ cond (bytes_eq h.txn.token name) (pos (part_of p h)) (pos 0)
hold_at part.G name m h =
    at_keys m (part_key h.txn.token part.G) (part_key h.txn.token part.P) (part_key h.txn.token part.S) (pos h.g) (pos h.p) (pos h.s) (part_key name part.G)
    ∙ first_alone (kept_at m (part_key name part.G)) (cond (bytes_eq h.txn.token name) (pos h.g) (pos 0))
hold_at part.P name m h =
    at_keys m (part_key h.txn.token part.G) (part_key h.txn.token part.P) (part_key h.txn.token part.S) (pos h.g) (pos h.p) (pos h.s) (part_key name part.P)
    ∙ second_alone (kept_at m (part_key name part.P)) (cond (bytes_eq h.txn.token name) (pos h.p) (pos 0))
hold_at part.S name m h =
    at_keys m (part_key h.txn.token part.G) (part_key h.txn.token part.P) (part_key h.txn.token part.S) (pos h.g) (pos h.p) (pos h.s) (part_key name part.S)
    ∙ third_alone (kept_at m (part_key name part.S)) (cond (bytes_eq h.txn.token name) (pos h.s) (pos 0))

part_total : (p : Part) (name : List ℕ) (m : Kept) (hs : List Hold)
    → kept_at (sums_from part_sums m hs) (part_key name p) ≡ kept_at m (part_key name p) +ℤ pos (in_part p name hs)
unfolding in_part
part_total p name m [] = no_more (kept_at m (part_key name p))
part_total p name m (h ∷ hs) =
    part_total p name (after_changes m (part_sums h)) hs
    ∙ ap (λ (z : ℤ). z +ℤ pos (in_part p name hs)) (hold_at p name m h)
    ∙ regrouped (kept_at m (part_key name p)) (bytes_eq h.txn.token name) (part_of p h) (in_part p name hs)

none_in_part : (p : Part) (name : List ℕ) (hs : List Hold) → AllByRecursion (λ other. bytes_eq name other ≡ false) (names hs) → in_part p name hs ≡ 0
unfolding in_part
none_in_part p name [] h = refl
none_in_part p name (x ∷ hs) h =
    let apart : bytes_eq x.txn.token name ≡ false = name-sym x.txn.token name ∙ h.0 in
    let rest = none_in_part p name hs h.1 in
    rw (apart, rest) refl

pub apart_from : (name : List ℕ) (hs : List Hold) (i : ℕ) (h : Hold) → slice_get hs i ≡ Some h → AllByRecursion (λ other. bytes_eq name other ≡ false) (names hs) → bytes_eq name h.txn.token ≡ false
apart_from name [] i h e a = cc
apart_from name (x ∷ hs) zero h e a = let same : x ≡ h = cc in subst (λ (y : Hold). bytes_eq name y.txn.token ≡ false) same a.0
apart_from name (x ∷ hs) (suc i) h e a = apart_from name hs i h e a.1

alone : (p : Part) (hs : List Hold) (i : ℕ) (h : Hold) → slice_get hs i ≡ Some h → IsDistinct bytes_eq (names hs) → in_part p h.txn.token hs ≡ part_of p h
unfolding in_part IsDistinct
alone p [] i h e d = cc
alone p (x ∷ hs) zero h e d =
    let same : x ≡ h = cc in
    subst (λ (y : Hold). in_part p y.txn.token (x ∷ hs) ≡ part_of p y) same
    (let own = its_name x.txn.token in
    let rest = none_in_part p x.txn.token hs d.0 in
    rw (own, rest) (omega arith))
alone p (x ∷ hs) (suc i) h e d =
    let apart = apart_from x.txn.token hs i h e d.0 in
    let rest = alone p hs i h e d.1 in
    rw (apart, rest) (omega arith)

-- what is kept of a part of a transaction is what its hold has
pub part_kept : (p : Part) (m : Kept) (hs : List Hold) (i : ℕ) (h : Hold) → slice_get hs i ≡ Some h → IsDistinct bytes_eq (names hs) → kept_at m (part_key h.txn.token p) ≡ pos 0
    → kept_at (sums_from part_sums m hs) (part_key h.txn.token p) ≡ pos (part_of p h)
part_kept p m hs i h e d none =
    part_total p h.txn.token m hs ∙ ap₂ (λ (z : ℤ) (n : ℕ). z +ℤ pos n) none (alone p hs i h e d) ∙ zero_and (part_of p h)
  where
    zero_and : (n : ℕ) → pos 0 +ℤ pos n ≡ pos n
    zero_and n = omega (arith, ints)
