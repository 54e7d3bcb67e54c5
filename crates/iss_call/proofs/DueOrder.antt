-- The asked calls whose deadline has come, by their keys.
use Rattle.std.proofs.Common.{◌≡◌, ℕ, suc, ◌+◌, ◌<◌, ◌≤◌, nat_lt, nat_le, ◌==◌, Bool, true, false, cond, not, ◌&&◌, ◌||◌, List, [], ◌∷◌, map, fold, filter, length, refl, sym, ap, ◌∙◌, arith}
use Rattle.std.proofs.lemmas.Bool.Decides.{nat_tests}
use Rattle.std.specs.Prelude.{Some, slice_get}
use Rattle.std.specs.List.{AllByRecursion}
use Rattle.std.specs.declared.cmp.Ordering.{Ordering}
use Rattle.std.specs.declared.cmp.Ordering.TheVariants.{Less, Equal, Greater}
use Rattle.std.specs.Ordering.{nat_cmp, ordering_then, match_ordering, MatchOrdering, is_eq, is_lt}
use Rattle.std.specs.Cmp.{unsigned_ties, ranks}
use Rattle.std.specs.BTreeSet.{insert_key}
use Rattle.iss_model.specs.declared.call.Opened.{Opened}
use Rattle.iss_model.specs.rules.Activity.{CallNow, is_asked}
use Rattle.iss_model.specs.rules.Due.{DueItem, call_due, due_call, is_before, is_quiet, items_with}
use Rattle.iss_call.specs.States.{calls_due}
use Rattle.iss_call.specs.Orders.{AreNumbered, in_order, call_of, asked_keys, deadline_key, by_deadline}
use Rattle.iss_call.proofs.InOrder.{AreRising, all_insert, all_order, filter_same, filter_order, order_rises}
use Rattle.iss_call.proofs.AskedKeys.{then_eq, by_deadline_total}

-- the numbers of keys rise, from this one on
abbrev pub NumbersRise : {A : Type 0} → ℕ → List (A × ℕ) → Type 0
NumbersRise from [] = Unit {0}
NumbersRise from (k ∷ ks) = (from ≤ k.1) × NumbersRise (suc k.1) ks

pub rise_later : {A : Type 0} (m n : ℕ) (ks : List (A × ℕ)) → m ≤ n → NumbersRise n ks → NumbersRise m ks
rise_later m n [] h r = tt
rise_later m n (k ∷ ks) h r = (omega (arith, h, r.0), r.1)

pub rise_filter : {A : Type 0} (p : A × ℕ → Bool) (n : ℕ) (ks : List (A × ℕ)) → NumbersRise n ks → NumbersRise n (filter p ks)
rise_filter p n [] r = tt
rise_filter p n (k ∷ ks) r =
    let rest = rise_filter p (suc k.1) ks r.1 in
    elim (p k) as (λ t. NumbersRise n (cond t (k ∷ filter p ks) (filter p ks))) [
      | true ↦ (r.0, rest)
      | false ↦ rise_later n (suc k.1) (filter p ks) (omega (arith, r.0)) rest
    ]

-- the keys of asked calls rise by their numbers
pub keys_rise : {A : Type 0} (part : Opened → A) (n : ℕ) (cs : List CallNow) → AreNumbered n cs → NumbersRise n (asked_keys (λ o. (part o, o.call.0)) cs)
keys_rise part n [] a = tt
keys_rise part n (c ∷ cs) a =
    let rest = keys_rise part (suc n) cs a.1 in
    elim (is_asked c) as (λ t. NumbersRise n (map (λ x. (part x.opened, x.opened.call.0)) (cond t (c ∷ filter is_asked cs) (filter is_asked cs)))) [
      | true ↦ (omega (arith, a.0), rise_later (suc c.opened.call.0) (suc n) (asked_keys (λ o. (part o, o.call.0)) cs) (omega (arith, a.0)) rest)
      | false ↦ rise_later n (suc n) (asked_keys (λ o. (part o, o.call.0)) cs) (omega arith) rest
    ]

-- no number of a call is above how many there are
pub keys_within : {A : Type 0} (part : Opened → A) (n : ℕ) (cs : List CallNow) → AreNumbered n cs → AllByRecursion (λ (k : A × ℕ). k.1 < n + length cs) (asked_keys (λ o. (part o, o.call.0)) cs)
keys_within {A = A} part n [] a = tt
keys_within {A = A} part n (c ∷ cs) a =
    let rest = more n (length cs) (asked_keys (λ o. (part o, o.call.0)) cs) (keys_within part (suc n) cs a.1) in
    elim (is_asked c) as (λ t. AllByRecursion (λ (k : A × ℕ). k.1 < n + length (c ∷ cs)) (map (λ x. (part x.opened, x.opened.call.0)) (cond t (c ∷ filter is_asked cs) (filter is_asked cs)))) [
      | true ↦ (omega (arith, a.0), rest)
      | false ↦ rest
    ]
  where
    more : {A : Type 0} (n m : ℕ) (ks : List (A × ℕ)) → AllByRecursion (λ (k : A × ℕ). k.1 < suc n + m) ks → AllByRecursion (λ (k : A × ℕ). k.1 < n + suc m) ks
    more n m [] all = tt
    more n m (k ∷ ks) all = (omega (arith, all.0), more n m ks all.1)

-- a key as an item that is due
abbrev pub item_of : ℕ × ℕ → DueItem
item_of k = record { since = k.0; rank = 0; number = k.1; thing = call_due k.1 }

-- a deadline has come
abbrev pub has_come : ℕ → ℕ × ℕ → Bool
has_come now k = nat_le k.0 now

up_by : (t u v w : Bool) → v ≡ false → not (is_lt (ordering_then (cond t Less (cond u Equal Greater)) (cond v Less (cond w Equal Greater)))) ≡ not t
up_by true u v w e = refl
up_by false true true w e = cc
up_by false true false true e = refl
up_by false true false false e = refl
up_by false false v w e = refl

not_past : (now a : ℕ) → not (nat_lt now a) ≡ nat_le a now
not_past now a = grind (arith, nat_tests)

not_less : (most b : ℕ) → b ≤ most → nat_lt most b ≡ false
not_less most b h = grind (arith, nat_tests)

-- up to a moment with the greatest number, as a test of the moment alone
pub up_to : (now most : ℕ) (k : ℕ × ℕ) → k.1 ≤ most → not (is_lt (by_deadline (now, most) k)) ≡ has_come now k
up_to now most k h =
    up_by (nat_lt now k.0) (now == k.0) (nat_lt most k.1) (most == k.1) (not_less most k.1 h) ∙ not_past now k.0

pub both_true : (a b : Bool) → (a && b) ≡ true → (a ≡ true) × (b ≡ true)
both_true true b h = (refl, h)
both_true false b h = cc

tied_moments : (a b : ℕ × ℕ) → by_deadline a b ≡ Equal → a.0 ≡ b.0
tied_moments a b e =
    let both = both_true (is_eq (nat_cmp a.0 b.0)) (is_eq (nat_cmp a.1 b.1)) (sym (then_eq (nat_cmp a.0 b.0) (nat_cmp a.1 b.1)) ∙ ap is_eq e) in
    let same : (a.0 == b.0) ≡ true = unsigned_ties a.0 b.0 ∙ both.0 in
    grind (arith, nat_tests)

same_come : (now : ℕ) (k x : ℕ × ℕ) → by_deadline k x ≡ Equal → has_come now x ≡ has_come now k
same_come now k x e = ap (λ (n : ℕ). nat_le n now) (sym (tied_moments k x e))

-- no key has this number
abbrev NoneOf : ℕ → List (ℕ × ℕ) → Type 0
NoneOf number ks = AllByRecursion (λ k. (number == k.1) ≡ false) ks

goes_by : {A : Type 0} (l q m n : Bool) (a b c : A) → n ≡ false
    → match_ordering (ordering_then (cond l Less (cond q Equal Greater)) (cond m Less (cond n Equal Greater))) a b c ≡ cond (l || q && (false || true && m)) a c
goes_by true q m n a b c e = refl
goes_by false true true n a b c e = refl
goes_by false true false true a b c e = cc
goes_by false true false false a b c e = refl
goes_by false false m n a b c e = refl

-- to enter a key of a new number is to place its item
placed : (x : ℕ × ℕ) (ks : List (ℕ × ℕ)) → NoneOf x.1 ks → map item_of (insert_key by_deadline ks x) ≡ items_with (map item_of ks) (item_of x)
placed x [] none = refl
placed x (k ∷ ks) none =
    ap (map item_of) (goes_by (nat_lt x.0 k.0) (x.0 == k.0) (nat_lt x.1 k.1) (x.1 == k.1) (x ∷ k ∷ ks) (k ∷ ks) (k ∷ insert_key by_deadline ks x) none.0)
    ∙ elim (is_before (item_of x) (item_of k)) as (λ t. map item_of (cond t (x ∷ k ∷ ks) (k ∷ insert_key by_deadline ks x)) ≡ cond t (item_of x ∷ item_of k ∷ map item_of ks) (item_of k ∷ items_with (map item_of ks) (item_of x))) [
      | true ↦ refl
      | false ↦ ap (λ (items : List DueItem). item_of k ∷ items) (placed x ks none.1)
    ]

above : (number n : ℕ) (ks : List (ℕ × ℕ)) → n ≤ number → AllByRecursion (λ k. k.1 < n) ks → NoneOf number ks
above number n [] h all = tt
above number n (k ∷ ks) h all = (other number n k.1 h all.0, above number n ks h all.1)
  where
    other : (number n m : ℕ) → n ≤ number → m < n → (number == m) ≡ false
    other number n m h k = grind (arith, nat_tests)

all_below : (m n : ℕ) (ks : List (ℕ × ℕ)) → m ≤ n → AllByRecursion (λ k. k.1 < m) ks → AllByRecursion (λ k. k.1 < n) ks
all_below m n [] h all = tt
all_below m n (k ∷ ks) h all = (omega (arith, h, all.0), all_below m n ks h all.1)

-- keys of rising numbers in their order are their items in theirs
pub placed_all : (n : ℕ) (acc ks : List (ℕ × ℕ)) → AllByRecursion (λ k. k.1 < n) acc → NumbersRise n ks
    → map item_of (fold (insert_key by_deadline) acc ks) ≡ fold items_with (map item_of acc) (map item_of ks)
placed_all n acc [] all r = refl
placed_all n acc (k ∷ ks) all r =
    placed_all (suc k.1) (insert_key by_deadline acc k) ks
    (all_insert by_deadline (λ y. y.1 < suc k.1) acc k (omega arith) (all_below n (suc k.1) acc (omega (arith, r.0)) all)) r.1
    ∙ ap (λ (items : List DueItem). fold items_with items (map item_of ks)) (placed k acc (above k.1 n acc r.0 all))

-- what has come of the keys is what has come of their items
items_come : (now : ℕ) (cs : List CallNow) → map item_of (filter (has_come now) (asked_keys deadline_key cs)) ≡ filter (λ item. nat_le item.since now) (map due_call (filter is_asked cs))
items_come now [] = refl
items_come now (c ∷ cs) =
    elim (is_asked c) as (λ t. map item_of (filter (has_come now) (map (λ x. deadline_key x.opened) (cond t (c ∷ filter is_asked cs) (filter is_asked cs))))
    ≡ filter (λ item. nat_le item.since now) (map due_call (cond t (c ∷ filter is_asked cs) (filter is_asked cs)))) [
      | true ↦
          elim (nat_le c.opened.deadline now) as (λ t. map item_of (cond t (deadline_key c.opened ∷ filter (has_come now) (asked_keys deadline_key cs)) (filter (has_come now) (asked_keys deadline_key cs)))
          ≡ cond t (due_call c ∷ filter (λ item. nat_le item.since now) (map due_call (filter is_asked cs))) (filter (λ item. nat_le item.since now) (map due_call (filter is_asked cs)))) [
            | true ↦ ap (λ (items : List DueItem). due_call c ∷ items) (items_come now cs)
            | false ↦ items_come now cs
          ]
      | false ↦ items_come now cs
    ]

-- the keys that have come are what is due
pub come_due : (now : ℕ) (cs : List CallNow) → AreNumbered 1 cs → map item_of (filter (has_come now) (in_order by_deadline (asked_keys deadline_key cs))) ≡ calls_due cs now
come_due now cs a =
    let ks = asked_keys deadline_key cs in
    ap (map item_of) (filter_order by_deadline_total (has_come now) (same_come now) ks)
    ∙ placed_all 1 [] (filter (has_come now) ks) tt (rise_filter (has_come now) 1 ks (keys_rise (λ (o : Opened). o.deadline) 1 cs a))
    ∙ ap (λ (items : List DueItem). fold items_with [] items) (items_come now cs)

all_most : {A : Type 0} (n most : ℕ) (ks : List (A × ℕ)) → n ≤ most + 1 → AllByRecursion (λ (k : A × ℕ). k.1 < n) ks → AllByRecursion (λ (k : A × ℕ). k.1 ≤ most) ks
all_most n most [] h all = tt
all_most n most (k ∷ ks) h all = (omega (arith, h, all.0), all_most n most ks h all.1)

-- no key in order has a greater number than there may be
pub order_within : {A : Type 0} (order : (A × ℕ) → (A × ℕ) → Ordering) (part : Opened → A) (cs : List CallNow) (most : ℕ) → AreNumbered 1 cs → length cs ≤ most
    → AllByRecursion (λ (k : A × ℕ). k.1 ≤ most) (in_order order (asked_keys (λ o. (part o, o.call.0)) cs))
order_within {A = A} order part cs most a h =
    all_order order (λ (k : A × ℕ). k.1 ≤ most) (asked_keys (λ o. (part o, o.call.0)) cs)
    (all_most (1 + length cs) most (asked_keys (λ o. (part o, o.call.0)) cs) (omega (arith, h)) (keys_within part 1 cs a))

all_up_to : (now most : ℕ) (ks : List (ℕ × ℕ)) → AllByRecursion (λ k. k.1 ≤ most) ks → AllByRecursion (λ k. not (is_lt (by_deadline (now, most) k)) ≡ has_come now k) ks
all_up_to now most [] all = tt
all_up_to now most (k ∷ ks) all = (up_to now most k all.0, all_up_to now most ks all.1)

-- the keys up to a moment with the greatest number are what is due
pub range_due : (now most : ℕ) (cs : List CallNow) → AreNumbered 1 cs → length cs ≤ most
    → map item_of (filter (λ k. not (is_lt (by_deadline (now, most) k))) (in_order by_deadline (asked_keys deadline_key cs))) ≡ calls_due cs now
range_due now most cs a h =
    let ks = in_order by_deadline (asked_keys deadline_key cs) in
    ap (map item_of)
    (filter_same (λ k. not (is_lt (by_deadline (now, most) k))) (has_come now) ks
    (all_up_to now most ks (order_within by_deadline (λ (o : Opened). o.deadline) cs most a h)))
    ∙ come_due now cs a

-- the calls of keys are the things of their items
pub things : (ks : List (ℕ × ℕ)) → map (λ id. call_due id.0) (map call_of ks) ≡ map (λ item. item.thing) (map item_of ks)
things [] = refl
things (k ∷ ks) = ap (λ rest. call_due k.1 ∷ rest) (things ks)

-- a key that comes first tells whether any deadline has come
le_by : (a b : ℕ) (r s : Ordering) → MatchOrdering r (a < b) (a ≡ b) (b < a) → ordering_then r s ≡ Less → a ≤ b
le_by a b Less s m e = omega (arith, m)
le_by a b Equal s m e = omega (arith, m)
le_by a b Greater s m e = cc

not_come : (now : ℕ) (k y : ℕ × ℕ) → by_deadline k y ≡ Less → has_come now k ≡ false → has_come now y ≡ false
not_come now k y e h = later now k.0 y.0 (le_by k.0 y.0 (nat_cmp k.0 y.0) (nat_cmp k.1 y.1) (ranks k.0 y.0) e) h
  where
    later : (now a b : ℕ) → a ≤ b → nat_le a now ≡ false → nat_le b now ≡ false
    later now a b h k = grind (arith, nat_tests)

none_come : (now : ℕ) (k : ℕ × ℕ) (ks : List (ℕ × ℕ)) → has_come now k ≡ false → AllByRecursion (λ y. by_deadline k y ≡ Less) ks → filter (has_come now) ks ≡ []
none_come now k [] h all = refl
none_come now k (y ∷ ks) h all =
    ap (λ (t : Bool). cond t (y ∷ filter (has_come now) ks) (filter (has_come now) ks)) (not_come now k y all.0 h)
    ∙ none_come now k ks h all.1

come_by : (now : ℕ) (k : ℕ × ℕ) (ks : List (ℕ × ℕ)) (t : Bool) → has_come now k ≡ t → AllByRecursion (λ y. by_deadline k y ≡ Less) ks
    → t ≡ not (is_quiet (map item_of (cond t (k ∷ filter (has_come now) ks) (filter (has_come now) ks))))
come_by now k ks true e all = refl
come_by now k ks false e all = ap (λ (rest : List (ℕ × ℕ)). not (is_quiet (map item_of rest))) (sym (none_come now k ks e all))

-- whether the first deadline has come tells whether any has
first_come : (now : ℕ) (ks : List (ℕ × ℕ)) (k : ℕ × ℕ) → slice_get ks 0 ≡ Some k → AreRising by_deadline ks → nat_le k.0 now ≡ not (is_quiet (map item_of (filter (has_come now) ks)))
first_come now [] k e a = cc
first_come now (x ∷ ks) k e a =
    let one : x ≡ k = cc in
    ap (λ (y : ℕ × ℕ). nat_le y.0 now) (sym one) ∙ come_by now x ks (has_come now x) refl a.0

pub first_due : (now : ℕ) (cs : List CallNow) (ks : List (ℕ × ℕ)) (k : ℕ × ℕ) → AreNumbered 1 cs → ks ≡ in_order by_deadline (asked_keys deadline_key cs) → slice_get ks 0 ≡ Some k
    → nat_le k.0 now ≡ not (is_quiet (calls_due cs now))
first_due now cs ks k a e first =
    first_come now (in_order by_deadline (asked_keys deadline_key cs)) k (ap (λ (xs : List (ℕ × ℕ)). slice_get xs 0) (sym e) ∙ first) (order_rises by_deadline_total (asked_keys deadline_key cs))
    ∙ ap (λ (items : List DueItem). not (is_quiet items)) (come_due now cs a)

no_first : (now : ℕ) (ks : List (ℕ × ℕ)) → (0 < length ks → ⊥) → false ≡ not (is_quiet (map item_of (filter (has_come now) ks)))
no_first now [] h = refl
no_first now (k ∷ ks) h = absurd (h (omega arith))

pub none_due : (now : ℕ) (cs : List CallNow) (ks : List (ℕ × ℕ)) → AreNumbered 1 cs → ks ≡ in_order by_deadline (asked_keys deadline_key cs) → (0 < length ks → ⊥)
    → false ≡ not (is_quiet (calls_due cs now))
none_due now cs ks a e none =
    no_first now ks none
    ∙ ap (λ (xs : List (ℕ × ℕ)). not (is_quiet (map item_of (filter (has_come now) xs)))) e
    ∙ ap (λ (items : List DueItem). not (is_quiet items)) (come_due now cs a)

-- the calls of the keys up to a moment with the greatest number are what is due
pub in_range : (now most : ℕ) (keys : List (ℕ × ℕ)) (cs : List CallNow) → AreNumbered 1 cs → length cs ≤ most → keys ≡ in_order by_deadline (asked_keys deadline_key cs)
    → map (λ id. call_due id.0) (map call_of (filter (λ k. not (is_lt (by_deadline (now, most) k))) keys)) ≡ map (λ item. item.thing) (calls_due cs now)
in_range now most keys cs a h same =
    ap (λ (ks : List (ℕ × ℕ)). map (λ id. call_due id.0) (map call_of (filter (λ k. not (is_lt (by_deadline (now, most) k))) ks))) same
    ∙ things (filter (λ k. not (is_lt (by_deadline (now, most) k))) (in_order by_deadline (asked_keys deadline_key cs)))
    ∙ ap (λ (items : List DueItem). map (λ item. item.thing) items) (range_due now most cs a h)
