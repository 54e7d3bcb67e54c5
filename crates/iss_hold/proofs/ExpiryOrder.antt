-- Expiries in their order: one more, one less, and those that have come.
use Rattle.std.proofs.Common.{◌≡◌, ℕ, nat_le, Bool, true, false, cond, ◌||◌, List, [], ◌∷◌, map, fold, filter, not, refl, sym, ap, ◌∙◌, arith}
use Rattle.std.proofs.lemmas.Bool.Decides.{nat_tests}
use Rattle.std.specs.List.{AllByRecursion, list_any}
use Rattle.iss_model.specs.rules.Due.{DueItem, due_txn, txn_due, is_before, is_quiet, items_with}
use Rattle.iss_hold.specs.declared.hold.Hold.{Hold}
use Rattle.iss_hold.specs.Holdings.{txn_of_hold, holdings_of}
use Rattle.iss_hold.specs.Expiries.{Expiry, expiry_of, item_of, with_expiry, expiries, has_come, come_of, txns_due}

abbrev pub before : Expiry → Expiry → Bool
before a b = is_before (item_of a) (item_of b)

turned : (x a : Expiry) → before x a ≡ true → before a x ≡ false
turned x a h = grind (arith, nat_tests)

through : (x a b : Expiry) → before x a ≡ true → before b a ≡ false → before x b ≡ true
through x a b h k = grind (arith, nat_tests)

-- none of these comes before this one
abbrev pub NoneBefore : Expiry → List Expiry → Type 0
NoneBefore a es = AllByRecursion (λ b. before b a ≡ false) es

-- no expiry of the list comes before an earlier one
abbrev pub AreOrdered : List Expiry → Type 0
AreOrdered [] = Unit {0}
AreOrdered (a ∷ es) = NoneBefore a es × AreOrdered es

all_after : (x a : Expiry) (es : List Expiry) → before x a ≡ true → NoneBefore a es → NoneBefore x es
all_after x a [] h n = tt
all_after x a (b ∷ es) h n = (turned x b (through x a b h n.0), all_after x a es h n.1)

none_with : (a x : Expiry) (es : List Expiry) → before x a ≡ false → NoneBefore a es → NoneBefore a (with_expiry es x)
none_with a x [] h n = (h, tt)
none_with a x (b ∷ es) h n =
    elim (before x b) as (λ t. NoneBefore a (cond t (x ∷ b ∷ es) (b ∷ with_expiry es x))) [ true ↦ (h, (n.0, n.1)) | false ↦ (n.0, none_with a x es h n.1) ]

ordered_by : (x a : Expiry) (es : List Expiry) (t : Bool) → before x a ≡ t → AreOrdered (a ∷ es) → AreOrdered (with_expiry es x) → AreOrdered (cond t (x ∷ a ∷ es) (a ∷ with_expiry es x))
ordered_by x a es true e o rest = ((turned x a e, all_after x a es e o.0), o)
ordered_by x a es false e o rest = (none_with a x es e o.0, rest)

ordered_with : (x : Expiry) (es : List Expiry) → AreOrdered es → AreOrdered (with_expiry es x)
ordered_with x [] o = (tt, tt)
ordered_with x (a ∷ es) o = ordered_by x a es (before x a) refl o (ordered_with x es o.1)

ordered_all : (acc xs : List Expiry) → AreOrdered acc → AreOrdered (fold with_expiry acc xs)
ordered_all acc [] o = o
ordered_all acc (x ∷ xs) o = ordered_all (with_expiry acc x) xs (ordered_with x acc o)

pub expiries_ordered : (hs : List Hold) → AreOrdered (expiries hs)
expiries_ordered hs = ordered_all [] (map expiry_of (filter (λ h. h.live) hs)) tt

-- an expiry that comes before all goes first
first_of_all : (x a : Expiry) (es : List Expiry) (p : Expiry → Bool) → before x a ≡ true → NoneBefore a es → with_expiry (filter p es) x ≡ x ∷ filter p es
first_of_all x a [] p h n = refl
first_of_all x a (b ∷ es) p h n =
    let ahead = through x a b h n.0 in
    elim (p b) as (λ t. with_expiry (cond t (b ∷ filter p es) (filter p es)) x ≡ x ∷ cond t (b ∷ filter p es) (filter p es)) [
      | true ↦ ap (λ (t : Bool). cond t (x ∷ b ∷ filter p es) (b ∷ with_expiry (filter p es) x)) ahead
      | false ↦ first_of_all x a es p h n.1
    ]

filter_by : (p : Expiry → Bool) (x a : Expiry) (es : List Expiry) (t u v : Bool) → before x a ≡ t → p a ≡ u → p x ≡ v → NoneBefore a es
    → filter p (with_expiry es x) ≡ cond v (with_expiry (filter p es) x) (filter p es)
    → filter p (cond t (x ∷ a ∷ es) (a ∷ with_expiry es x)) ≡ cond v (with_expiry (cond u (a ∷ filter p es) (filter p es)) x) (cond u (a ∷ filter p es) (filter p es))
filter_by p x a es true true true et eu ev n rest = rw (ev, eu, et) refl
filter_by p x a es true true false et eu ev n rest = rw (ev, eu) refl
filter_by p x a es true false true et eu ev n rest = rw (ev, eu) (sym (first_of_all x a es p et n))
filter_by p x a es true false false et eu ev n rest = rw (ev, eu) refl
filter_by p x a es false true true et eu ev n rest = rw (eu, et) (ap (λ (xs : List Expiry). a ∷ xs) rest)
filter_by p x a es false true false et eu ev n rest = rw eu (ap (λ (xs : List Expiry). a ∷ xs) rest)
filter_by p x a es false false v et eu ev n rest = rw eu rest

filter_with : (p : Expiry → Bool) (x : Expiry) (es : List Expiry) → AreOrdered es → filter p (with_expiry es x) ≡ cond (p x) (with_expiry (filter p es) x) (filter p es)
filter_with p x [] o = refl
filter_with p x (a ∷ es) o = filter_by p x a es (before x a) (p a) (p x) refl refl refl o.0 (filter_with p x es o.1)

pub filter_fold : (p : Expiry → Bool) (acc xs : List Expiry) → AreOrdered acc → filter p (fold with_expiry acc xs) ≡ fold with_expiry (filter p acc) (filter p xs)
filter_fold p acc [] o = refl
filter_fold p acc (x ∷ xs) o =
    filter_fold p (with_expiry acc x) xs (ordered_with x acc o)
    ∙ ap (λ (es : List Expiry). fold with_expiry es (filter p xs)) (filter_with p x acc o)
    ∙ elim (p x) as (λ t. fold with_expiry (cond t (with_expiry (filter p acc) x) (filter p acc)) (filter p xs) ≡ fold with_expiry (filter p acc) (cond t (x ∷ filter p xs) (filter p xs))) [ true ↦ refl | false ↦ refl ]

not_come : (now : ℕ) (a b : Expiry) → has_come now a ≡ false → before b a ≡ false → has_come now b ≡ false
not_come now a b h k = grind (arith, nat_tests)

none_come : (now : ℕ) (a : Expiry) (es : List Expiry) → has_come now a ≡ false → NoneBefore a es → filter (has_come now) es ≡ []
none_come now a [] h n = refl
none_come now a (b ∷ es) h n = ap (λ (t : Bool). cond t (b ∷ filter (has_come now) es) (filter (has_come now) es)) (not_come now a b h n.0) ∙ none_come now a es h n.1

come_by : (now : ℕ) (a : Expiry) (es : List Expiry) (t : Bool) → has_come now a ≡ t → NoneBefore a es → come_of now es ≡ filter (has_come now) es
    → cond t (a ∷ come_of now es) [] ≡ cond t (a ∷ filter (has_come now) es) (filter (has_come now) es)
come_by now a es true e n rest = ap (λ (xs : List Expiry). a ∷ xs) rest
come_by now a es false e n rest = sym (none_come now a es e n)

-- in order, the expiries that have come stand first
pub come_first : (now : ℕ) (es : List Expiry) → AreOrdered es → come_of now es ≡ filter (has_come now) es
come_first now [] o = refl
come_first now (a ∷ es) o = come_by now a es (has_come now a) refl o.0 (come_first now es o.1)

-- an expiry as an item, at its place
placed_items : (es : List Expiry) (x : Expiry) → map item_of (with_expiry es x) ≡ items_with (map item_of es) (item_of x)
placed_items [] x = refl
placed_items (a ∷ es) x =
    elim (before x a) as (λ t. map item_of (cond t (x ∷ a ∷ es) (a ∷ with_expiry es x)) ≡ cond t (item_of x ∷ item_of a ∷ map item_of es) (item_of a ∷ items_with (map item_of es) (item_of x))) [
      | true ↦ refl
      | false ↦ ap (λ (items : List DueItem). item_of a ∷ items) (placed_items es x)
    ]

placed_all : (acc xs : List Expiry) → map item_of (fold with_expiry acc xs) ≡ fold items_with (map item_of acc) (map item_of xs)
placed_all acc [] = refl
placed_all acc (x ∷ xs) = placed_all (with_expiry acc x) xs ∙ ap (λ (items : List DueItem). fold items_with items (map item_of xs)) (placed_items acc x)

items_come : (now : ℕ) (es : List Expiry) → filter (λ item. nat_le item.since now) (map item_of es) ≡ map item_of (filter (has_come now) es)
items_come now [] = refl
items_come now (e ∷ es) =
    elim (has_come now e) as (λ t. cond t (item_of e ∷ filter (λ item. nat_le item.since now) (map item_of es)) (filter (λ item. nat_le item.since now) (map item_of es)) ≡ map item_of (cond t (e ∷ filter (has_come now) es) (filter (has_come now) es))) [
      | true ↦ ap (λ (items : List DueItem). item_of e ∷ items) (items_come now es)
      | false ↦ items_come now es
    ]

live_items : (hs : List Hold) → map due_txn (filter (λ t. t.live) (map txn_of_hold hs)) ≡ map item_of (map expiry_of (filter (λ h. h.live) hs))
live_items [] = refl
live_items (h ∷ hs) =
    elim h.live as (λ t. map due_txn (cond t (txn_of_hold h ∷ filter (λ u. u.live) (map txn_of_hold hs)) (filter (λ u. u.live) (map txn_of_hold hs))) ≡ map item_of (map expiry_of (cond t (h ∷ filter (λ k. k.live) hs) (filter (λ k. k.live) hs)))) [
      | true ↦ ap (λ (items : List DueItem). due_txn (txn_of_hold h) ∷ items) (live_items hs)
      | false ↦ live_items hs
    ]

-- the tokens of expiries are the things of their items
pub things : (es : List Expiry) → map (λ token. txn_due token) (map (λ e. e.1) es) ≡ map (λ item. item.thing) (map item_of es)
things [] = refl
things (e ∷ es) = ap (λ rest. txn_due e.1 ∷ rest) (things es)

-- the expiries that have come are what is due
pub come_due : (now : ℕ) (hs : List Hold) → map item_of (come_of now (expiries hs)) ≡ txns_due (holdings_of hs) now
come_due now hs =
    ap (λ (es : List Expiry). map item_of es)
    (come_first now (expiries hs) (expiries_ordered hs) ∙ filter_fold (has_come now) [] (map expiry_of (filter (λ h. h.live) hs)) tt)
    ∙ placed_all [] (filter (has_come now) (map expiry_of (filter (λ h. h.live) hs)))
    ∙ ap (λ (items : List DueItem). fold items_with [] items)
    (sym (items_come now (map expiry_of (filter (λ h. h.live) hs))) ∙ ap (λ (items : List DueItem). filter (λ item. nat_le item.since now) items) (sym (live_items hs)))

pub due_things : (now : ℕ) (hs : List Hold) → map (λ token. txn_due token) (map (λ e. e.1) (come_of now (expiries hs))) ≡ map (λ item. item.thing) (txns_due (holdings_of hs) now)
due_things now hs = things (come_of now (expiries hs)) ∙ ap (λ (items : List DueItem). map (λ item. item.thing) items) (come_due now hs)

-- the first of these has come
abbrev pub first_has : ℕ → List Expiry → Bool
first_has now [] = false
first_has now (e ∷ es) = has_come now e

-- whether the first one has come tells whether any has
pub first_due : (now : ℕ) (hs : List Hold) → first_has now (expiries hs) ≡ not (is_quiet (txns_due (holdings_of hs) now))
first_due now hs = at (expiries hs) ∙ ap (λ (items : List DueItem). not (is_quiet items)) (come_due now hs)
  where
    by : (e : Expiry) (es : List Expiry) (t : Bool) → t ≡ not (is_quiet (map item_of (cond t (e ∷ come_of now es) [])))
    by e es true = refl
    by e es false = refl

    at : (es : List Expiry) → first_has now es ≡ not (is_quiet (map item_of (come_of now es)))
    at [] = refl
    at (e ∷ es) = by e es (has_come now e)

sooner : (now : ℕ) (x a : Expiry) → before x a ≡ true → has_come now x ≡ (has_come now x || has_come now a)
sooner now x a h = grind (arith, nat_tests)

later : (now : ℕ) (x a : Expiry) → before x a ≡ false → has_come now a ≡ (has_come now x || has_come now a)
later now x a h = grind (arith, nat_tests)

or_none : (b : Bool) → b ≡ (b || false)
or_none true = refl
or_none false = refl

regroup : (x a rest : Bool) → ((x || a) || rest) ≡ (a || (x || rest))
regroup true true rest = refl
regroup true false rest = refl
regroup false true rest = refl
regroup false false rest = refl

first_with : (now : ℕ) (es : List Expiry) (x : Expiry) → first_has now (with_expiry es x) ≡ (has_come now x || first_has now es)
first_with now [] x = or_none (has_come now x)
first_with now (a ∷ es) x = at (before x a) refl
  where
    at : (t : Bool) → before x a ≡ t → first_has now (cond t (x ∷ a ∷ es) (a ∷ with_expiry es x)) ≡ (has_come now x || has_come now a)
    at true e = sooner now x a e
    at false e = later now x a e

-- the first of some put among others has come if the first of those has, or any of them
pub first_fold : (now : ℕ) (acc xs : List Expiry) → first_has now (fold with_expiry acc xs) ≡ (first_has now acc || list_any (has_come now) xs)
first_fold now acc [] = or_none (first_has now acc)
first_fold now acc (x ∷ xs) =
    first_fold now (with_expiry acc x) xs
    ∙ ap (λ (b : Bool). b || list_any (has_come now) xs) (first_with now acc x)
    ∙ regroup (has_come now x) (first_has now acc) (list_any (has_come now) xs)
