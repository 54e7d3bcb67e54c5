-- Due items at their places: two lists in their order come to one.
use Rattle.std.proofs.Common.{◌≡◌, ℕ, nat_lt, nat_le, ◌==◌, Bool, true, false, cond, not, ◌&&◌, ◌||◌, List, [], ◌∷◌, map, fold, filter, refl, sym, ap, ◌∙◌, arith}
use Rattle.std.specs.List.{AllByRecursion}
use Rattle.std.proofs.lemmas.Bool.Decides.{nat_tests}
use Rattle.std.proofs.lemmas.List.Elements.{filter-append}
use Rattle.std.proofs.lemmas.List.Sums.{fold-append}
use Rattle.iss_model.specs.rules.Activity.{TxnNow, is_asked}
use Rattle.iss_model.specs.rules.Due.{DueItem, due_call, due_txn, due_items, is_before, is_quiet, items_with}
use Rattle.iss_model.specs.state.Cores.{CoreState, core_facts}
use Rattle.iss_call.specs.States.{calls_due}
use Rattle.iss_hold.specs.Expiries.{txns_due}
use Rattle.iss_core.specs.Sweeps.{NoneBefore, AreOrdered}

-- the order of items ----

-- the order of due items over their numbers
abbrev comes_first : ℕ → ℕ → ℕ → ℕ → ℕ → ℕ → Bool
comes_first a b c x y z = nat_lt a x || a == x && (nat_lt b y || b == y && nat_lt c z)

turned_numbers : (a b c x y z : ℕ) → comes_first a b c x y z ≡ true → comes_first x y z a b c ≡ false
turned_numbers a b c x y z h = grind (arith, nat_tests)

through_numbers : (a b c x y z k l m : ℕ) → comes_first a b c x y z ≡ true → comes_first k l m x y z ≡ false → comes_first a b c k l m ≡ true
through_numbers a b c x y z k l m h n = grind (arith, nat_tests)

turned : (x a : DueItem) → is_before x a ≡ true → is_before a x ≡ false
turned x a h = turned_numbers x.since x.rank x.number a.since a.rank a.number h

through : (x a b : DueItem) → is_before x a ≡ true → is_before b a ≡ false → is_before x b ≡ true
through x a b h n = through_numbers x.since x.rank x.number a.since a.rank a.number b.since b.rank b.number h n

-- what doesn't come before a later one doesn't come before an earlier one
pub behind : (y t f : DueItem) → is_before y t ≡ false → is_before t f ≡ false → is_before y f ≡ false
behind y t f h k = by (is_before y f) refl
  where
    by : (b : Bool) → is_before y f ≡ b → b ≡ false
    by true e = sym (through y f t e k) ∙ h
    by false e = refl

all_ahead : (x a : DueItem) (items : List DueItem) → is_before x a ≡ true → NoneBefore a items → AllByRecursion (λ y. is_before x y ≡ true) items
all_ahead x a [] h n = tt
all_ahead x a (b ∷ items) h n = (through x a b h n.0, all_ahead x a items h n.1)

all_turned : (x : DueItem) (items : List DueItem) → AllByRecursion (λ y. is_before x y ≡ true) items → NoneBefore x items
all_turned x [] all = tt
all_turned x (b ∷ items) all = (turned x b all.0, all_turned x items all.1)

-- one item at its place ----

goes_before : (a x : DueItem) (items : List DueItem) → is_before x a ≡ true → items_with (a ∷ items) x ≡ x ∷ a ∷ items
goes_before a x items h = ap (λ (t : Bool). cond t (x ∷ a ∷ items) (a ∷ items_with items x)) h

pub goes_behind : (a x : DueItem) (items : List DueItem) → is_before x a ≡ false → items_with (a ∷ items) x ≡ a ∷ items_with items x
goes_behind a x items h = ap (λ (t : Bool). cond t (x ∷ a ∷ items) (a ∷ items_with items x)) h

none_with : (a x : DueItem) (items : List DueItem) → is_before x a ≡ false → NoneBefore a items → NoneBefore a (items_with items x)
none_with a x [] h n = (h, tt)
none_with a x (b ∷ items) h n =
    elim (is_before x b) as (λ t. NoneBefore a (cond t (x ∷ b ∷ items) (b ∷ items_with items x))) [
      | true ↦ (h, (n.0, n.1))
      | false ↦ (n.0, none_with a x items h n.1)
    ]

ordered_by : (x a : DueItem) (items : List DueItem) (t : Bool) → is_before x a ≡ t → AreOrdered (a ∷ items) → AreOrdered (items_with items x)
    → AreOrdered (cond t (x ∷ a ∷ items) (a ∷ items_with items x))
ordered_by x a items true e o rest = ((turned x a e, all_turned x items (all_ahead x a items e o.0)), o)
ordered_by x a items false e o rest = (none_with a x items e o.0, rest)

ordered_with : (x : DueItem) (items : List DueItem) → AreOrdered items → AreOrdered (items_with items x)
ordered_with x [] o = (tt, tt)
ordered_with x (a ∷ items) o = ordered_by x a items (is_before x a) refl o (ordered_with x items o.1)

pub ordered_all : (items xs : List DueItem) → AreOrdered items → AreOrdered (fold items_with items xs)
ordered_all items [] o = o
ordered_all items (x ∷ xs) o = ordered_all (items_with items x) xs (ordered_with x items o)

swap_by : (x y a : DueItem) (items : List DueItem) (t u : Bool) → is_before x a ≡ t → is_before y a ≡ u → is_before x y ≡ true
    → items_with (items_with items x) y ≡ items_with (items_with items y) x
    → items_with (cond t (x ∷ a ∷ items) (a ∷ items_with items x)) y ≡ items_with (cond u (y ∷ a ∷ items) (a ∷ items_with items y)) x
swap_by x y a items true true et eu h rest =
    goes_behind x y (a ∷ items) (turned x y h)
    ∙ ap (λ (xs : List DueItem). x ∷ xs) (goes_before a y items eu)
    ∙ sym (goes_before y x (a ∷ items) h)
swap_by x y a items true false et eu h rest =
    goes_behind x y (a ∷ items) (turned x y h)
    ∙ ap (λ (xs : List DueItem). x ∷ xs) (goes_behind a y items eu)
    ∙ sym (goes_before a x (items_with items y) et)
swap_by x y a items false true et eu h rest = let e : false ≡ true = sym et ∙ through x y a h (turned y a eu) in cc
swap_by x y a items false false et eu h rest =
    goes_behind a y (items_with items x) eu
    ∙ ap (λ (xs : List DueItem). a ∷ xs) rest
    ∙ sym (goes_behind a x (items_with items y) et)

-- two that differ may be placed in either order
swap : (items : List DueItem) (x y : DueItem) → is_before x y ≡ true → items_with (items_with items x) y ≡ items_with (items_with items y) x
swap [] x y h = goes_behind x y [] (turned x y h) ∙ sym (goes_before y x [] h)
swap (a ∷ items) x y h = swap_by x y a items (is_before x a) (is_before y a) refl refl h (swap items x y h)

sifted : (items ts : List DueItem) (x : DueItem) → AllByRecursion (λ y. is_before x y ≡ true) ts → fold items_with (items_with items x) ts ≡ items_with (fold items_with items ts) x
sifted items [] x all = refl
sifted items (t ∷ ts) x all = ap (λ (xs : List DueItem). fold items_with xs ts) (swap items x t all.0) ∙ sifted (items_with items t) ts x all.1

moved_by : (items ts : List DueItem) (x t : DueItem) (b : Bool) → is_before x t ≡ b → NoneBefore t ts
    → fold items_with (items_with items t) (items_with ts x) ≡ items_with (fold items_with (items_with items t) ts) x
    → fold items_with items (cond b (x ∷ t ∷ ts) (t ∷ items_with ts x)) ≡ items_with (fold items_with (items_with items t) ts) x
moved_by items ts x t true e n rest = sifted items (t ∷ ts) x (e, all_ahead x t ts e n)
moved_by items ts x t false e n rest = rest

-- one more among those that are placed is placed last
placed_last : (items ts : List DueItem) (x : DueItem) → AreOrdered ts → fold items_with items (items_with ts x) ≡ items_with (fold items_with items ts) x
placed_last items [] x o = refl
placed_last items (t ∷ ts) x o = moved_by items ts x t (is_before x t) refl o.0 (placed_last (items_with items t) ts x o.1)

-- items may be put into their order before they are placed
ordered_first : (items ts xs : List DueItem) → AreOrdered ts → fold items_with items (fold items_with ts xs) ≡ fold items_with (fold items_with items ts) xs
ordered_first items ts [] o = refl
ordered_first items ts (x ∷ xs) o =
    ordered_first items (items_with ts x) xs (ordered_with x ts o)
    ∙ ap (λ (ys : List DueItem). fold items_with ys xs) (placed_last items ts x o)

-- what is due is the due transactions at their places among the due calls
pub both_due : (s : CoreState) (at : ℕ) → due_items (core_facts s) at ≡ fold items_with (calls_due s.calls at) (txns_due s.holdings at)
both_due s at =
    let has_come : DueItem → Bool = λ item. nat_le item.since at in
    let calls : List DueItem = map due_call (filter is_asked s.calls) in
    let txns : List DueItem = map due_txn (filter (λ (t : TxnNow). t.live) s.holdings.txns) in
    ap (fold items_with []) (filter-append has_come calls txns)
    ∙ fold-append items_with [] (filter has_come calls) (filter has_come txns)
    ∙ sym (ordered_first (calls_due s.calls at) [] (filter has_come txns) tt)

-- whether anything is due ----

some_with : (items : List DueItem) (x : DueItem) → not (is_quiet (items_with items x)) ≡ true
some_with [] x = refl
some_with (a ∷ items) x = by (is_before x a)
  where
    by : (t : Bool) → not (is_quiet (cond t (x ∷ a ∷ items) (a ∷ items_with items x))) ≡ true
    by true = refl
    by false = refl

some_due : (items xs : List DueItem) → (not (is_quiet items) || not (is_quiet xs)) ≡ not (is_quiet (fold items_with items xs))
some_due items [] = or_none (not (is_quiet items))
  where
    or_none : (b : Bool) → (b || false) ≡ b
    or_none true = refl
    or_none false = refl
some_due items (x ∷ xs) =
    or_some (not (is_quiet items))
    ∙ sym (ap (λ (b : Bool). b || not (is_quiet xs)) (some_with items x))
    ∙ some_due (items_with items x) xs
  where
    or_some : (b : Bool) → (b || true) ≡ true
    or_some true = refl
    or_some false = refl

-- something is due if a call or a transaction is
either_due : (s : CoreState) (at : ℕ) (a b : Bool) → a ≡ not (is_quiet (calls_due s.calls at)) → b ≡ not (is_quiet (txns_due s.holdings at))
    → (a || b) ≡ not (is_quiet (due_items (core_facts s) at))
either_due s at a b d e =
    ap (λ (t : Bool). t || b) d
    ∙ ap (λ (t : Bool). not (is_quiet (calls_due s.calls at)) || t) e
    ∙ some_due (calls_due s.calls at) (txns_due s.holdings at)
    ∙ ap (λ (items : List DueItem). not (is_quiet items)) (sym (both_due s at))

pub calls_are_due : (s : CoreState) (at : ℕ) (a : Bool) → a ≡ not (is_quiet (calls_due s.calls at)) → a ≡ true → a ≡ not (is_quiet (due_items (core_facts s) at))
calls_are_due s at a d h =
    let txns : Bool = not (is_quiet (txns_due s.holdings at)) in
    h ∙ ap (λ (t : Bool). t || txns) (sym h) ∙ either_due s at a txns d refl

pub txns_are_due : (s : CoreState) (at : ℕ) (a b : Bool) → a ≡ not (is_quiet (calls_due s.calls at)) → a ≡ false → b ≡ not (is_quiet (txns_due s.holdings at))
    → b ≡ not (is_quiet (due_items (core_facts s) at))
txns_are_due s at a b d h e = ap (λ (t : Bool). t || b) (sym h) ∙ either_due s at a b d e

-- placed items in front ----

-- what none comes before stays first
pub head_stays : (f : DueItem) (items ts : List DueItem) → NoneBefore f ts → fold items_with (f ∷ items) ts ≡ f ∷ fold items_with items ts
head_stays f items [] n = refl
head_stays f items (t ∷ ts) n =
    ap (λ (xs : List DueItem). fold items_with xs ts) (goes_behind f t items n.0) ∙ head_stays f (items_with items t) ts n.1

-- what doesn't come after an ordered list's first stays before them all
pub first_stays : (f t : DueItem) (items ts : List DueItem) → is_before t f ≡ false → AreOrdered (t ∷ ts)
    → fold items_with (f ∷ items) (t ∷ ts) ≡ f ∷ fold items_with items (t ∷ ts)
first_stays f t items ts h o = head_stays f items (t ∷ ts) (h, all_behind ts o.0)
  where
    all_behind : (ys : List DueItem) → NoneBefore t ys → NoneBefore f ys
    all_behind [] n = tt
    all_behind (y ∷ ys) n = (behind y t f n.0 h, all_behind ys n.1)

-- an ordered list's first goes before what it comes before
pub first_goes : (f t : DueItem) (items ts : List DueItem) → is_before t f ≡ true → AreOrdered (t ∷ ts)
    → fold items_with (f ∷ items) (t ∷ ts) ≡ t ∷ fold items_with (f ∷ items) ts
first_goes f t items ts h o =
    ap (λ (xs : List DueItem). fold items_with xs ts) (goes_before f t items h) ∙ head_stays t (f ∷ items) ts o.0
