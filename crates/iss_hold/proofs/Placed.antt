-- Expiries that are put among others: their order matters to none, and what each is like stays.
use Rattle.std.proofs.Common.{◌≡◌, ℕ, nat_lt, nat_eq, nat_le, ◌==◌, Bool, true, false, cond, not, ◌&&◌, ◌||◌, List, [], ◌∷◌, ◌++◌, map, fold, filter, refl, sym, ap, ap₂, ◌∙◌, subst, arith, append_assoc}
use Rattle.std.proofs.lemmas.Bool.Decides.{nat_tests}
use Rattle.std.proofs.lemmas.List.{append-nil}
use Rattle.std.specs.List.{AllByRecursion, IsDistinct, list_any}
use Rattle.std.specs.List.Sorted.{IsStrictlySortedBy}
use Rattle.std.specs.declared.cmp.Ordering.{Ordering}
use Rattle.std.specs.declared.cmp.Ordering.TheVariants.{Less, Equal, Greater}
use Rattle.std.specs.Ordering.{ordering_then, ordering_reverse, match_ordering}
use Rattle.std.specs.Map.{keys_of}
use Rattle.std.specs.BTreeMap.{insert_entry}
use Rattle.iss_hold.specs.declared.hold.Hold.{Hold}
use Rattle.iss_hold.specs.Expiries.{Expiry, expiry_of, with_expiry, live_ones, expiries, has_come, come_of, holds_come}
use Rattle.iss_hold.specs.Indexes.{origins, by_expiry, key_of, put_expiry}
use Rattle.iss_hold.proofs.ExpiryOrder.{before, NoneBefore, AreOrdered, expiries_ordered, filter_fold, come_first}
use Rattle.iss_hold.proofs.Beginnings.{NoneOf, none_with, inserted}
use Rattle.iss_hold.proofs.Endings.{by_expiry_total, other_way}

-- ---- the order in which two are put

one_way : (a b : Expiry) → (a.0.1 == b.0.1) ≡ false → before a b ≡ not (before b a)
one_way a b d = grind (arith, nat_tests)

between : (a b x : Expiry) → before a x ≡ true → before b x ≡ false → before b a ≡ false
between a b x h k = grind (arith, nat_tests)

either : (a b : Expiry) (es : List Expiry) (p q : Bool) → q ≡ not p → cond p (b ∷ a ∷ es) (a ∷ b ∷ es) ≡ cond q (a ∷ b ∷ es) (b ∷ a ∷ es)
either a b es true true e = cc
either a b es true false e = refl
either a b es false true e = refl
either a b es false false e = cc

swap_by : (a b x : Expiry) (es : List Expiry) (t u : Bool) → before a x ≡ t → before b x ≡ u → (a.0.1 == b.0.1) ≡ false
    → with_expiry (with_expiry es a) b ≡ with_expiry (with_expiry es b) a
    → with_expiry (cond t (a ∷ x ∷ es) (x ∷ with_expiry es a)) b ≡ with_expiry (cond u (b ∷ x ∷ es) (x ∷ with_expiry es b)) a
swap_by a b x es true true et eu d rest =
    ap (λ (u : Bool). cond (before b a) (b ∷ a ∷ x ∷ es) (a ∷ cond u (b ∷ x ∷ es) (x ∷ with_expiry es b))) eu
    ∙ either a b (x ∷ es) (before b a) (before a b) (one_way a b d)
    ∙ ap (λ (t : Bool). cond (before a b) (a ∷ b ∷ x ∷ es) (b ∷ cond t (a ∷ x ∷ es) (x ∷ with_expiry es a))) (sym et)
swap_by a b x es true false et eu d rest =
    ap (λ (t : Bool). cond t (b ∷ a ∷ x ∷ es) (a ∷ cond (before b x) (b ∷ x ∷ es) (x ∷ with_expiry es b))) (between a b x et eu)
    ∙ ap (λ (u : Bool). a ∷ cond u (b ∷ x ∷ es) (x ∷ with_expiry es b)) eu
    ∙ ap (λ (t : Bool). cond t (a ∷ x ∷ with_expiry es b) (x ∷ with_expiry (with_expiry es b) a)) (sym et)
swap_by a b x es false true et eu d rest =
    ap (λ (u : Bool). cond u (b ∷ x ∷ with_expiry es a) (x ∷ with_expiry (with_expiry es a) b)) eu
    ∙ ap (λ (t : Bool). b ∷ cond t (a ∷ x ∷ es) (x ∷ with_expiry es a)) (sym et)
    ∙ ap (λ (t : Bool). cond t (a ∷ b ∷ x ∷ es) (b ∷ cond (before a x) (a ∷ x ∷ es) (x ∷ with_expiry es a))) (sym (between b a x eu et))
swap_by a b x es false false et eu d rest =
    ap (λ (u : Bool). cond u (b ∷ x ∷ with_expiry es a) (x ∷ with_expiry (with_expiry es a) b)) eu
    ∙ ap (λ (ys : List Expiry). x ∷ ys) rest
    ∙ ap (λ (t : Bool). cond t (a ∷ x ∷ with_expiry es b) (x ∷ with_expiry (with_expiry es b) a)) (sym et)

-- two of different records may be put in either order
swap : (a b : Expiry) (es : List Expiry) → (a.0.1 == b.0.1) ≡ false → with_expiry (with_expiry es a) b ≡ with_expiry (with_expiry es b) a
swap a b [] d = either a b [] (before b a) (before a b) (one_way a b d)
swap a b (x ∷ es) d = swap_by a b x es (before a x) (before b x) refl refl d (swap a b es d)

-- one may be put before others of other records
pub put_before : (e : Expiry) (acc xs : List Expiry) → NoneOf e.0.1 xs → with_expiry (fold with_expiry acc xs) e ≡ fold with_expiry (with_expiry acc e) xs
put_before e acc [] n = refl
put_before e acc (x ∷ xs) n =
    put_before e (with_expiry acc x) xs n.1
    ∙ ap (λ (es : List Expiry). fold with_expiry es xs) (sym (swap e x acc n.0))

-- ---- each record once

none_of_with : (number : ℕ) (x : Expiry) (es : List Expiry) → NoneOf number (with_expiry es x) → ((number == x.0.1) ≡ false) × NoneOf number es
none_of_with number x [] n = (n.0, tt)
none_of_with number x (a ∷ es) n = at (before x a) n (none_of_with number x es)
  where
    at : (t : Bool) → NoneOf number (cond t (x ∷ a ∷ es) (a ∷ with_expiry es x)) → (NoneOf number (with_expiry es x) → ((number == x.0.1) ≡ false) × NoneOf number es)
        → ((number == x.0.1) ≡ false) × NoneOf number (a ∷ es)
    at true n rest = (n.0, n.1)
    at false n rest = let both = rest n.1 in (both.0, (n.0, both.1))

-- of what was put together, none was of this record
pub none_of_fold : (number : ℕ) (acc xs : List Expiry) → NoneOf number (fold with_expiry acc xs) → NoneOf number acc × NoneOf number xs
none_of_fold number acc [] n = (n, tt)
none_of_fold number acc (x ∷ xs) n =
    let both = none_of_fold number (with_expiry acc x) xs n in
    let own = none_of_with number x acc both.0 in
    (own.1, (own.0, both.1))

-- no two expiries are of one record
abbrev pub EachOnce : List Expiry → Type 0
EachOnce [] = Unit {0}
EachOnce (e ∷ es) = NoneOf e.0.1 es × EachOnce es

once_with : (x : Expiry) (es : List Expiry) → EachOnce es → NoneOf x.0.1 es → EachOnce (with_expiry es x)
once_with x [] o n = (tt, tt)
once_with x (a ∷ es) o n =
    elim (before x a) as (λ t. EachOnce (cond t (x ∷ a ∷ es) (a ∷ with_expiry es x))) [
      | true ↦ (n, o)
      | false ↦ (none_with a.0.1 x es (other_way x.0.1 a.0.1 n.0) o.0, once_with x es o.1 n.1)
    ]

-- each of these is of another record than those
abbrev AreApart : List Expiry → List Expiry → Type 0
AreApart acc xs = AllByRecursion (λ x. NoneOf x.0.1 acc) xs

apart_with : (x : Expiry) (acc xs : List Expiry) → NoneOf x.0.1 xs → AreApart acc xs → AreApart (with_expiry acc x) xs
apart_with x acc [] n a = tt
apart_with x acc (y ∷ xs) n a = (none_with y.0.1 x acc (other_way x.0.1 y.0.1 n.0) a.0, apart_with x acc xs n.1 a.1)

once_fold : (acc xs : List Expiry) → EachOnce acc → EachOnce xs → AreApart acc xs → EachOnce (fold with_expiry acc xs)
once_fold acc [] o p a = o
once_fold acc (x ∷ xs) o p a = once_fold (with_expiry acc x) xs (once_with x acc o a.0) p.1 (apart_with x acc xs p.0 a.1)

none_there : (xs : List Expiry) → AreApart [] xs
none_there [] = tt
none_there (x ∷ xs) = (tt, none_there xs)

none_live : (number : ℕ) (hs : List Hold) → AllByRecursion (λ other. (number == other) ≡ false) (origins hs) → NoneOf number (live_ones hs)
none_live number [] a = tt
none_live number (h ∷ hs) a =
    elim h.live as (λ t. NoneOf number (map expiry_of (cond t (h ∷ filter (λ k. k.live) hs) (filter (λ k. k.live) hs)))) [
      | true ↦ (a.0, none_live number hs a.1)
      | false ↦ none_live number hs a.1
    ]

once_live : (hs : List Hold) → IsDistinct nat_eq (origins hs) → EachOnce (live_ones hs)
unfolding IsDistinct
once_live [] d = tt
once_live (h ∷ hs) d =
    elim h.live as (λ t. EachOnce (map expiry_of (cond t (h ∷ filter (λ k. k.live) hs) (filter (λ k. k.live) hs)))) [
      | true ↦ (none_live h.txn.origin hs d.0, once_live hs d.1)
      | false ↦ once_live hs d.1
    ]

none_filter : (p : Expiry → Bool) (number : ℕ) (es : List Expiry) → NoneOf number es → NoneOf number (filter p es)
none_filter p number [] n = tt
none_filter p number (e ∷ es) n = elim (p e) as (λ t. NoneOf number (cond t (e ∷ filter p es) (filter p es))) [ true ↦ (n.0, none_filter p number es n.1) | false ↦ none_filter p number es n.1 ]

once_filter : (p : Expiry → Bool) (es : List Expiry) → EachOnce es → EachOnce (filter p es)
once_filter p [] o = tt
once_filter p (e ∷ es) o = elim (p e) as (λ t. EachOnce (cond t (e ∷ filter p es) (filter p es))) [ true ↦ (none_filter p e.0.1 es o.0, once_filter p es o.1) | false ↦ once_filter p es o.1 ]

once_before : (x : Expiry) (es : List Expiry) → EachOnce (with_expiry es x) → EachOnce es × NoneOf x.0.1 es
once_before x [] o = (tt, tt)
once_before x (a ∷ es) o = at (before x a) o (once_before x es)
  where
    at : (t : Bool) → EachOnce (cond t (x ∷ a ∷ es) (a ∷ with_expiry es x)) → (EachOnce (with_expiry es x) → EachOnce es × NoneOf x.0.1 es) → EachOnce (a ∷ es) × NoneOf x.0.1 (a ∷ es)
    at true o rest = (o.1, o.0)
    at false o rest =
        let both = rest o.1 in
        let others = none_of_with a.0.1 x es o.0 in
        ((others.1, both.0), (other_way a.0.1 x.0.1 others.0, both.1))

once_acc : (acc xs : List Expiry) → EachOnce (fold with_expiry acc xs) → EachOnce acc
once_acc acc [] o = o
once_acc acc (x ∷ xs) o = (once_before x acc (once_acc (with_expiry acc x) xs o)).0

-- to put them into a tree is to place them
put_fold : (acc xs : List Expiry) → EachOnce (fold with_expiry acc xs) → fold put_expiry acc xs ≡ fold with_expiry acc xs
put_fold acc [] o = refl
put_fold acc (x ∷ xs) o =
    ap (λ (es : List Expiry). fold put_expiry es xs) (inserted x acc (once_before x acc (once_acc (with_expiry acc x) xs o)).1)
    ∙ put_fold (with_expiry acc x) xs o

-- ---- those of a tree, which rise

less_by : (l q m n : Bool) → ordering_then (cond l Less (cond q Equal Greater)) (cond m Less (cond n Equal Greater)) ≡ Less → (l || (q && m)) ≡ true
less_by true q m n e = refl
less_by false true true n e = refl
less_by false true false true e = cc
less_by false true false false e = cc
less_by false false m n e = cc

is_less : (a b : ℕ × ℕ) → by_expiry a b ≡ Less → (nat_lt a.0 b.0 || ((a.0 == b.0) && nat_lt a.1 b.1)) ≡ true
is_less a b e = less_by (nat_lt a.0 b.0) (a.0 == b.0) (nat_lt a.1 b.1) (a.1 == b.1) e

not_before : (a b : Expiry) → (nat_lt a.0.0 b.0.0 || ((a.0.0 == b.0.0) && nat_lt a.0.1 b.0.1)) ≡ true → before b a ≡ false
not_before a b h = grind (arith, nat_tests)

none_before : (a : Expiry) (es : List Expiry) → AllByRecursion (λ k. by_expiry a.0 k ≡ Less) (keys_of es) → NoneBefore a es
none_before a [] all = tt
none_before a (b ∷ es) all = (not_before a b (is_less a.0 b.0 all.0), none_before a es all.1)

pub rising_ordered : (es : List Expiry) → IsStrictlySortedBy by_expiry (keys_of es) → AreOrdered es
unfolding IsStrictlySortedBy
rising_ordered [] o = tt
rising_ordered (e ∷ es) o = (none_before e es o.0, rising_ordered es o.1)

here_less : (P : ℕ × ℕ → Type 0) (acc : List Expiry) (x : Expiry) (xs : List Expiry) → AllByRecursion P (keys_of (acc ++ x ∷ xs)) → P x.0
here_less P [] x xs all = all.0
here_less P (a ∷ acc) x xs all = here_less P acc x xs all.1

put_last : (acc : List Expiry) (x : Expiry) (xs : List Expiry) → IsStrictlySortedBy by_expiry (keys_of (acc ++ x ∷ xs)) → put_expiry acc x ≡ acc ++ x ∷ []
unfolding IsStrictlySortedBy
put_last [] x xs o = refl
put_last (a ∷ acc) x xs o =
    ap (λ (r : Ordering). match_ordering r (x ∷ a ∷ acc) ((a.0, x.1) ∷ acc) (a ∷ insert_entry by_expiry acc x.0 x.1))
    (by_expiry_total.antisymm x.0 a.0 ∙ ap ordering_reverse (here_less (λ k. by_expiry a.0 k ≡ Less) acc x xs o.0))
    ∙ ap (λ (es : List Expiry). a ∷ es) (put_last acc x xs o.1)

put_come : (now : ℕ) (acc xs : List Expiry) → IsStrictlySortedBy by_expiry (keys_of (acc ++ xs)) → fold put_expiry acc (come_of now xs) ≡ acc ++ come_of now xs
put_come now acc [] o = sym (append-nil acc)
put_come now acc (x ∷ xs) o = at (has_come now x) (put_come now (acc ++ x ∷ []) xs)
  where
    more : acc ++ x ∷ xs ≡ (acc ++ x ∷ []) ++ xs
    more = sym (append_assoc acc (x ∷ []) xs)

    at : (t : Bool) → (IsStrictlySortedBy by_expiry (keys_of ((acc ++ x ∷ []) ++ xs)) → fold put_expiry (acc ++ x ∷ []) (come_of now xs) ≡ (acc ++ x ∷ []) ++ come_of now xs)
        → fold put_expiry acc (cond t (x ∷ come_of now xs) []) ≡ acc ++ cond t (x ∷ come_of now xs) []
    at true rest =
        ap (λ (es : List Expiry). fold put_expiry es (come_of now xs)) (put_last acc x xs o)
        ∙ rest (subst (λ (es : List Expiry). IsStrictlySortedBy by_expiry (keys_of es)) more o)
        ∙ append_assoc acc (x ∷ []) (come_of now xs)
    at false rest = sym (append-nil acc)

-- ---- those that have come

not_yet : (now : ℕ) (a b : ℕ × ℕ) → (nat_lt a.0 b.0 || ((a.0 == b.0) && nat_lt a.1 b.1)) ≡ true → nat_le a.0 now ≡ false → nat_le b.0 now ≡ false
not_yet now a b h k = grind (arith, nat_tests)

none_yet : (now : ℕ) (h : Hold) (hs : List Hold) → nat_le h.txn.expires now ≡ false → AllByRecursion (λ k. by_expiry (key_of h) k ≡ Less) (map key_of hs) → filter (has_come now) (live_ones hs) ≡ []
none_yet now h [] e all = refl
none_yet now h (k ∷ hs) e all = at k.live (none_yet now h hs e all.1)
  where
    late : has_come now (expiry_of k) ≡ false
    late = not_yet now (key_of h) (key_of k) (is_less (key_of h) (key_of k) all.0) e

    at : (t : Bool) → filter (has_come now) (live_ones hs) ≡ [] → filter (has_come now) (map expiry_of (cond t (k ∷ filter (λ x. x.live) hs) (filter (λ x. x.live) hs))) ≡ []
    at true rest = ap (λ (b : Bool). cond b (expiry_of k ∷ filter (has_come now) (live_ones hs)) (filter (has_come now) (live_ones hs))) late ∙ rest
    at false rest = rest

pub none_any : (now : ℕ) (h : Hold) (hs : List Hold) → nat_le h.txn.expires now ≡ false → AllByRecursion (λ k. by_expiry (key_of h) k ≡ Less) (map key_of hs) → list_any (has_come now) (live_ones hs) ≡ false
none_any now h [] e all = refl
none_any now h (k ∷ hs) e all = at k.live (none_any now h hs e all.1)
  where
    late : has_come now (expiry_of k) ≡ false
    late = not_yet now (key_of h) (key_of k) (is_less (key_of h) (key_of k) all.0) e

    at : (t : Bool) → list_any (has_come now) (live_ones hs) ≡ false → list_any (has_come now) (map expiry_of (cond t (k ∷ filter (λ x. x.live) hs) (filter (λ x. x.live) hs))) ≡ false
    at true rest = ap₂ (λ (a b : Bool). a || b) late rest
    at false rest = rest

-- of holds that rise by expiry, those that have come stand first
pub queue_come : (now : ℕ) (hs : List Hold) → IsStrictlySortedBy by_expiry (map key_of hs) → filter (has_come now) (live_ones hs) ≡ live_ones (holds_come now hs)
unfolding IsStrictlySortedBy
queue_come now [] o = refl
queue_come now (h ∷ hs) o = at (nat_le h.txn.expires now) refl (queue_come now hs o.1)
  where
    among : (t : Bool) → has_come now (expiry_of h) ≡ true → filter (has_come now) (map expiry_of (cond t (h ∷ filter (λ x. x.live) hs) (filter (λ x. x.live) hs)))
        ≡ cond t (expiry_of h ∷ filter (has_come now) (live_ones hs)) (filter (has_come now) (live_ones hs))
    among true e = ap (λ (b : Bool). cond b (expiry_of h ∷ filter (has_come now) (live_ones hs)) (filter (has_come now) (live_ones hs))) e
    among false e = refl

    then_by : (t : Bool) → cond t (expiry_of h ∷ live_ones (holds_come now hs)) (live_ones (holds_come now hs)) ≡ map expiry_of (cond t (h ∷ filter (λ x. x.live) (holds_come now hs)) (filter (λ x. x.live) (holds_come now hs)))
    then_by true = refl
    then_by false = refl

    none_by : (t : Bool) → has_come now (expiry_of h) ≡ false → filter (has_come now) (live_ones hs) ≡ [] → filter (has_come now) (map expiry_of (cond t (h ∷ filter (λ x. x.live) hs) (filter (λ x. x.live) hs))) ≡ []
    none_by true e rest = ap (λ (b : Bool). cond b (expiry_of h ∷ filter (has_come now) (live_ones hs)) (filter (has_come now) (live_ones hs))) e ∙ rest
    none_by false e rest = rest

    at : (t : Bool) → nat_le h.txn.expires now ≡ t → filter (has_come now) (live_ones hs) ≡ live_ones (holds_come now hs)
        → filter (has_come now) (live_ones (h ∷ hs)) ≡ live_ones (cond t (h ∷ holds_come now hs) [])
    at true e rest = among h.live e ∙ ap (λ (es : List Expiry). cond h.live (expiry_of h ∷ es) es) rest ∙ then_by h.live
    at false e rest = none_by h.live e (none_yet now h hs e o.0)

-- those that have come of the tree, put together with those of the queue, are those that have come of all
pub put_together : (now : ℕ) (hs queued : List Hold) (others : List Expiry) → IsDistinct nat_eq (origins hs) → IsStrictlySortedBy by_expiry (map key_of queued) → IsStrictlySortedBy by_expiry (keys_of others)
    → expiries hs ≡ fold with_expiry others (live_ones queued)
    → fold put_expiry (fold put_expiry [] (come_of now others)) (live_ones (holds_come now queued)) ≡ come_of now (expiries hs)
put_together now hs queued others d rising keys whole =
    let ordered = rising_ordered others keys in
    let all : come_of now (expiries hs) ≡ fold with_expiry (come_of now others) (live_ones (holds_come now queued)) =
    come_first now (expiries hs) (expiries_ordered hs)
    ∙ ap (λ (es : List Expiry). filter (has_come now) es) whole
    ∙ filter_fold (has_come now) others (live_ones queued) ordered
    ∙ (λ j. fold with_expiry (sym (come_first now others ordered) j) (queue_come now queued rising j)) in
    let once : EachOnce (come_of now (expiries hs)) =
    subst EachOnce (sym (come_first now (expiries hs) (expiries_ordered hs)))
    (once_filter (has_come now) (expiries hs) (once_fold [] (live_ones hs) tt (once_live hs d) (none_there (live_ones hs)))) in
    ap (λ (es : List Expiry). fold put_expiry es (live_ones (holds_come now queued))) (put_come now [] others keys)
    ∙ put_fold (come_of now others) (live_ones (holds_come now queued)) (subst EachOnce all once)
    ∙ sym all
