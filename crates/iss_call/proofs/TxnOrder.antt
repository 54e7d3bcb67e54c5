-- The asked calls of a transaction, by their keys.
use Rattle.std.proofs.Common.{◌≡◌, ℕ, suc, ◌<◌, ◌≤◌, nat_lt, ◌==◌, Bool, true, false, cond, not, ◌&&◌, List, [], ◌∷◌, map, filter, length, refl, sym, ap, ◌∙◌, arith}
use Rattle.std.proofs.lemmas.Bool.Decides.{nat_tests}
use Rattle.std.specs.List.{AllByRecursion}
use Rattle.std.specs.Str.{bytes_eq}
use Rattle.std.specs.declared.cmp.Ordering.{Ordering}
use Rattle.std.specs.declared.cmp.Ordering.TheVariants.{Less, Equal, Greater}
use Rattle.std.specs.Ordering.{nat_cmp, ordering_then, is_eq, is_lt, is_le, is_gt}
use Rattle.std.specs.Cmp.{Equal-is, tied_itself}
use Rattle.std.proofs.lemmas.Cmp.{nat_list_cmp_total}
use Rattle.std.specs.Cmp.Lexicographic.{slice_cmp}
use Rattle.std.proofs.lemmas.Map.Text.{is_eq-slice_cmp}
use Rattle.iss_model.specs.declared.call.CallId.{CallId}
use Rattle.iss_model.specs.declared.call.Opened.{Opened}
use Rattle.iss_model.specs.rules.Activity.{CallNow, is_asked}
use Rattle.iss_model.proofs.Names.{one_name, name-sym}
use Rattle.iss_call.specs.States.{asked_of}
use Rattle.iss_call.specs.Orders.{AreNumbered, in_order, call_of, asked_keys, txn_key, by_txn}
use Rattle.iss_call.proofs.InOrder.{AreRising, filter_same, filter_order, rising_stays}
use Rattle.iss_call.proofs.AskedKeys.{then_eq, by_txn_total}
use Rattle.iss_call.proofs.DueOrder.{NumbersRise, keys_rise, rise_filter, both_true, order_within}

-- a key of this transaction
abbrev pub is_of : List ℕ → List ℕ × ℕ → Bool
is_of txn k = bytes_eq k.0 txn

-- a key between the least and the greatest number of a transaction
abbrev pub is_between : List ℕ → ℕ → List ℕ × ℕ → Bool
is_between txn most k = is_le (by_txn (txn, 0) k) && not (is_lt (by_txn (txn, most) k))

within_by : (r s u : Ordering) → is_gt s ≡ false → is_lt u ≡ false → (is_le (ordering_then r s) && not (is_lt (ordering_then r u))) ≡ is_eq r
within_by Less s u e h = refl
within_by Equal Less Equal e h = refl
within_by Equal Less Greater e h = refl
within_by Equal Equal Equal e h = refl
within_by Equal Equal Greater e h = refl
within_by Equal Less Less e h = cc
within_by Equal Equal Less e h = cc
within_by Equal Greater u e h = cc
within_by Greater s u e h = refl

at_most : (l q : Bool) → (l ≡ false → q ≡ true) → is_gt (cond l Less (cond q Equal Greater)) ≡ false
at_most true q h = refl
at_most false q h = ap (λ (b : Bool). is_gt (cond b Equal Greater)) (h refl)

from_zero : (n : ℕ) → is_gt (nat_cmp 0 n) ≡ false
from_zero n = at_most (nat_lt 0 n) (0 == n) (λ e. grind (arith, nat_tests))

at_least : (l q : Bool) → l ≡ false → is_lt (cond l Less (cond q Equal Greater)) ≡ false
at_least true q h = cc
at_least false true h = refl
at_least false false h = refl

up_to_most : (most n : ℕ) → n ≤ most → is_lt (nat_cmp most n) ≡ false
up_to_most most n h = at_least (nat_lt most n) (most == n) (grind (arith, nat_tests))

within : (txn : List ℕ) (most : ℕ) (k : List ℕ × ℕ) → k.1 ≤ most → is_between txn most k ≡ is_of txn k
within txn most k h =
    within_by (slice_cmp nat_cmp txn k.0) (nat_cmp 0 k.1) (nat_cmp most k.1) (from_zero k.1) (up_to_most most k.1 h)
    ∙ is_eq-slice_cmp txn k.0 ∙ name-sym txn k.0

all_within : (txn : List ℕ) (most : ℕ) (ks : List (List ℕ × ℕ)) → AllByRecursion (λ k. k.1 ≤ most) ks → AllByRecursion (λ k. is_between txn most k ≡ is_of txn k) ks
all_within txn most [] all = tt
all_within txn most (k ∷ ks) all = (within txn most k all.0, all_within txn most ks all.1)

same_txn : (txn : List ℕ) (k x : List ℕ × ℕ) → by_txn k x ≡ Equal → is_of txn x ≡ is_of txn k
same_txn txn k x e =
    let both = both_true (is_eq (slice_cmp nat_cmp k.0 x.0)) (is_eq (nat_cmp k.1 x.1)) (sym (then_eq (slice_cmp nat_cmp k.0 x.0) (nat_cmp k.1 x.1)) ∙ ap is_eq e) in
    ap (λ (name : List ℕ). bytes_eq name txn) (sym (one_name k.0 x.0 (sym (is_eq-slice_cmp k.0 x.0) ∙ both.0)))

less_number : (a b : ℕ) → a < b → nat_cmp a b ≡ Less
less_number a b h = ap (λ (t : Bool). cond t Less (cond (a == b) Equal Greater)) (below a b h)
  where
    below : (a b : ℕ) → a < b → nat_lt a b ≡ true
    below a b h = grind (arith, nat_tests)

tied_txn : (txn a b : List ℕ) → bytes_eq a txn ≡ true → bytes_eq b txn ≡ true → slice_cmp nat_cmp a b ≡ Equal
tied_txn txn a b h k =
    let same : a ≡ b = one_name a txn h ∙ sym (one_name b txn k) in
    (Equal-is (slice_cmp nat_cmp a b)).0 (is_eq-slice_cmp a b ∙ ap (λ (name : List ℕ). bytes_eq a name) (sym same) ∙ ap (λ (name : List ℕ). bytes_eq a name) (one_name a txn h) ∙ h)

later_above : (txn : List ℕ) (k : List ℕ × ℕ) (n : ℕ) (ks : List (List ℕ × ℕ)) → bytes_eq k.0 txn ≡ true → k.1 < n → NumbersRise n ks → AllByRecursion (λ y. is_of txn y ≡ true) ks
    → AllByRecursion (λ y. by_txn k y ≡ Less) ks
later_above txn k n [] own h r all = tt
later_above txn k n (y ∷ ks) own h r all = (
  ap (λ (r : Ordering). ordering_then r (nat_cmp k.1 y.1)) (tied_txn txn k.0 y.0 own all.0) ∙ less_number k.1 y.1 (omega (arith, h, r.0)),
  later_above txn k (suc y.1) ks own (omega (arith, h, r.0)) r.1 all.1,
)

-- keys of one transaction rise if their numbers do
rise_together : (txn : List ℕ) (n : ℕ) (ks : List (List ℕ × ℕ)) → NumbersRise n ks → AllByRecursion (λ y. is_of txn y ≡ true) ks → AreRising by_txn ks
rise_together txn n [] r all = tt
rise_together txn n (k ∷ ks) r all = (later_above txn k (suc k.1) ks all.0 (omega arith) r.1 all.1, rise_together txn (suc k.1) ks r.1 all.1)

all_by : (txn : List ℕ) (k : List ℕ × ℕ) (ks : List (List ℕ × ℕ)) (t : Bool) → is_of txn k ≡ t → AllByRecursion (λ y. is_of txn y ≡ true) ks → AllByRecursion (λ y. is_of txn y ≡ true) (cond t (k ∷ ks) ks)
all_by txn k ks true e rest = (e, rest)
all_by txn k ks false e rest = rest

all_of : (txn : List ℕ) (ks : List (List ℕ × ℕ)) → AllByRecursion (λ y. is_of txn y ≡ true) (filter (is_of txn) ks)
all_of txn [] = tt
all_of txn (k ∷ ks) = all_by txn k (filter (is_of txn) ks) (is_of txn k) refl (all_of txn ks)

asked_calls : (txn : List ℕ) (cs : List CallNow) → map call_of (filter (is_of txn) (asked_keys txn_key cs)) ≡ map (λ c. c.opened.call) (asked_of cs txn)
asked_calls txn [] = refl
asked_calls txn (c ∷ cs) =
    elim (is_asked c) as (λ t. map call_of (filter (is_of txn) (map (λ x. txn_key x.opened) (cond t (c ∷ filter is_asked cs) (filter is_asked cs))))
    ≡ map (λ x. x.opened.call) (cond (t && bytes_eq c.opened.txn txn) (c ∷ asked_of cs txn) (asked_of cs txn))) [
      | true ↦
          elim (bytes_eq c.opened.txn txn) as (λ t. map call_of (cond t (txn_key c.opened ∷ filter (is_of txn) (asked_keys txn_key cs)) (filter (is_of txn) (asked_keys txn_key cs)))
          ≡ map (λ x. x.opened.call) (cond t (c ∷ asked_of cs txn) (asked_of cs txn))) [
            | true ↦ ap (λ (ids : List CallId). c.opened.call ∷ ids) (asked_calls txn cs)
            | false ↦ asked_calls txn cs
          ]
      | false ↦ asked_calls txn cs
    ]

-- the keys between the least and the greatest number of a transaction are those of its asked calls, by number
pub range_of : (txn : List ℕ) (most : ℕ) (cs : List CallNow) → AreNumbered 1 cs → length cs ≤ most
    → map call_of (filter (is_between txn most) (in_order by_txn (asked_keys txn_key cs))) ≡ map (λ c. c.opened.call) (asked_of cs txn)
range_of txn most cs a h =
    let ks = asked_keys txn_key cs in
    ap (map call_of)
    (filter_same (is_between txn most) (is_of txn) (in_order by_txn ks) (all_within txn most (in_order by_txn ks) (order_within by_txn (λ (o : Opened). o.txn) cs most a h))
    ∙ filter_order by_txn_total (is_of txn) (same_txn txn) ks
    ∙ rising_stays by_txn_total (filter (is_of txn) ks) (rise_together txn 1 (filter (is_of txn) ks) (rise_filter (is_of txn) 1 ks (keys_rise (λ (o : Opened). o.txn) 1 cs a)) (all_of txn ks)))
    ∙ asked_calls txn cs

-- a range from the least to the greatest number of a transaction goes forward
pub forward : (txn : List ℕ) (most : ℕ) (a b : List ℕ × ℕ) → a ≡ (txn, 0) → b ≡ (txn, most) → is_gt (by_txn a b) ≡ false
forward txn most a b d e =
    (λ i. is_gt (by_txn (d i) (e i)))
    ∙ ap (λ (r : Ordering). is_gt (ordering_then r (nat_cmp 0 most))) (tied_itself nat_list_cmp_total txn)
    ∙ from_zero most

-- what lies in such a range
pub in_range : (txn : List ℕ) (most : ℕ) (a b : List ℕ × ℕ) (keys : List (List ℕ × ℕ)) (cs : List CallNow) → a ≡ (txn, 0) → b ≡ (txn, most) → AreNumbered 1 cs → length cs ≤ most
    → keys ≡ in_order by_txn (asked_keys txn_key cs)
    → map call_of (filter (λ k. is_le (by_txn a k) && not (is_lt (by_txn b k))) keys) ≡ map (λ c. c.opened.call) (asked_of cs txn)
in_range txn most a b keys cs d e numbered h same =
    (λ i. map call_of (filter (λ k. is_le (by_txn (d i) k) && not (is_lt (by_txn (e i) k))) (same i)))
    ∙ range_of txn most cs numbered h
