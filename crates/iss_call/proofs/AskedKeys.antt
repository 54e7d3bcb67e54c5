-- The keys of the asked calls: one more, and one less.
use Rattle.std.proofs.Common.{◌≡◌, ℕ, zero, suc, ◌+◌, ◌<◌, ◌≤◌, ◌^◌, ◌==◌, Bool, true, false, cond, not, List, [], ◌∷◌, ◌++◌, map, filter, length, set, refl, sym, ap, ◌∙◌, arith}
use Rattle.std.proofs.lemmas.Bool.Decides.{nat_tests}
use Rattle.std.specs.Prelude.{Some, None, ◌&&◌, slice_get}
use Rattle.std.specs.List.{AllByRecursion, list_any}
use Rattle.std.specs.declared.cmp.Ordering.{Ordering}
use Rattle.std.specs.declared.cmp.Ordering.TheVariants.{Less, Equal, Greater}
use Rattle.std.specs.Ordering.{nat_cmp, ordering_then, is_eq}
use Rattle.std.specs.Cmp.{IsTotalOrder, then_total, on_total, nat_cmp_total, tied_itself, unsigned_ties}
use Rattle.std.specs.Cmp.Lexicographic.{slice_cmp}
use Rattle.std.proofs.lemmas.Cmp.{nat_list_cmp_total}
use Rattle.std.specs.BTreeMap.{is_at}
use Rattle.std.specs.BTreeSet.{insert_key}
use Rattle.std.specs.Set.{remove_key}
use Rattle.iss_model.specs.declared.call.Opened.{Opened}
use Rattle.iss_model.specs.declared.call.How.{How}
use Rattle.iss_model.specs.rules.Activity.{CallNow, is_asked}
use Rattle.iss_call.specs.declared.orders.Orders.{Orders}
use Rattle.iss_call.specs.Orders.{AreNumbered, AreOrdered, in_order, asked_keys, deadline_key, txn_key, by_deadline, by_txn}
use Rattle.iss_call.proofs.InOrder.{other_than, order_more, order_less, all_order, none_any, taken_out}
use Rattle.iss_call.proofs.Numbered.{closed, number_at, numbered_more, numbered_set}

pub by_deadline_total : IsTotalOrder by_deadline
by_deadline_total = then_total (on_total (λ (k : ℕ × ℕ). k.0) nat_cmp_total) (on_total (λ (k : ℕ × ℕ). k.1) nat_cmp_total)

pub by_txn_total : IsTotalOrder by_txn
by_txn_total = then_total (on_total (λ (k : List ℕ × ℕ). k.0) nat_list_cmp_total) (on_total (λ (k : List ℕ × ℕ). k.1) nat_cmp_total)

pub then_eq : (r s : Ordering) → is_eq (ordering_then r s) ≡ (is_eq r && is_eq s)
then_eq Less s = refl
then_eq Equal s = refl
then_eq Greater s = refl

and_false : (a b : Bool) → b ≡ false → (a && b) ≡ false
and_false true b h = h
and_false false b h = refl

-- keys of calls of two numbers never tie
apart_by : (r : Ordering) (a b : ℕ) → (a == b) ≡ false → is_eq (ordering_then r (nat_cmp a b)) ≡ false
apart_by r a b e = then_eq r (nat_cmp a b) ∙ and_false (is_eq r) (is_eq (nat_cmp a b)) (sym (unsigned_ties a b) ∙ e)

not_below : (a b k : ℕ) → a < k → b ≡ k → (a == b) ≡ false
not_below a b k h e = grind (arith, nat_tests)

not_above : (a b k : ℕ) → k < a → b ≡ k → (a == b) ≡ false
not_above a b k h e = grind (arith, nat_tests)

module _ {A : Type 0} (cmp : A → A → Ordering) (part : Opened → A) where
  -- a part of a call with its number, and the order by both
  abbrev key : Opened → A × ℕ
  key o = (part o, o.call.0)

  abbrev by_key : (A × ℕ) → (A × ℕ) → Ordering
  by_key a b = ordering_then (cmp a.0 b.0) (nat_cmp a.1 b.1)

  -- no asked call ties with a later one
  pub none_ties : (k : ℕ) (cs : List CallNow) (o : Opened) → AreNumbered k cs → k + length cs ≤ o.call.0 → AllByRecursion (λ y. is_at (by_key (key o)) y ≡ false) (asked_keys key cs)
  none_ties k [] o a h = tt
  none_ties k (x ∷ cs) o a h =
      let rest = none_ties (suc k) cs o a.1 (omega arith) in
      elim (is_asked x) as (λ t. AllByRecursion (λ y. is_at (by_key (key o)) y ≡ false) (map (λ c. key c.opened) (cond t (x ∷ filter is_asked cs) (filter is_asked cs)))) [
        | true ↦ (apart_by (cmp (part o) (part x.opened)) o.call.0 x.opened.call.0 (not_above o.call.0 x.opened.call.0 k (omega arith) a.0), rest)
        | false ↦ rest
      ]

  -- one more asked call
  pub keys_more : (cs : List CallNow) (o : Opened) → asked_keys key (cs ++ record { opened = o; how = None } ∷ []) ≡ asked_keys key cs ++ key o ∷ []
  keys_more [] o = refl
  keys_more (x ∷ cs) o =
      elim (is_asked x) as (λ t. map (λ c. key c.opened) (cond t (x ∷ filter is_asked (cs ++ record { opened = o; how = None } ∷ [])) (filter is_asked (cs ++ record { opened = o; how = None } ∷ [])))
      ≡ map (λ c. key c.opened) (cond t (x ∷ filter is_asked cs) (filter is_asked cs)) ++ key o ∷ []) [
        | true ↦ ap (λ (ks : List (A × ℕ)). key x.opened ∷ ks) (keys_more cs o)
        | false ↦ keys_more cs o
      ]

  module _ (total : IsTotalOrder by_key) where
    others_kept : (k : ℕ) (cs : List CallNow) (o : Opened) → AreNumbered k cs → o.call.0 < k → filter (other_than total (key o)) (asked_keys key cs) ≡ asked_keys key cs
    others_kept k [] o a h = refl
    others_kept k (x ∷ cs) o a h =
        let rest = others_kept (suc k) cs o a.1 (omega arith) in
        elim (is_asked x) as (λ t. filter (other_than total (key o)) (map (λ c. key c.opened) (cond t (x ∷ filter is_asked cs) (filter is_asked cs))) ≡ map (λ c. key c.opened) (cond t (x ∷ filter is_asked cs) (filter is_asked cs))) [
          | true ↦
              ap (λ (b : Bool). cond (not b) (key x.opened ∷ filter (other_than total (key o)) (asked_keys key cs)) (filter (other_than total (key o)) (asked_keys key cs)))
              (apart_by (cmp (part o) (part x.opened)) o.call.0 x.opened.call.0 (not_below o.call.0 x.opened.call.0 k h a.0))
              ∙ ap (λ (ks : List (A × ℕ)). key x.opened ∷ ks) rest
          | false ↦ rest
        ]

    -- the keys when a call is closed
    pub keys_less : (k : ℕ) (cs : List CallNow) (i : ℕ) (c : CallNow) (how : How) → AreNumbered k cs → slice_get cs i ≡ Some c → is_asked c ≡ true
        → filter (other_than total (key c.opened)) (asked_keys key cs) ≡ asked_keys key (set cs i (closed how c))
    keys_less k [] i c how a at h = cc
    keys_less k (x ∷ cs) zero c how a at h =
        let same : c ≡ x = cc in
        let own : is_asked x ≡ true = ap (λ (y : CallNow). is_asked y) (sym same) ∙ h in
        ap (λ (y : CallNow). filter (other_than total (key y.opened)) (asked_keys key (x ∷ cs))) same
        ∙ ap (λ (t : Bool). filter (other_than total (key x.opened)) (map (λ c. key c.opened) (cond t (x ∷ filter is_asked cs) (filter is_asked cs)))) own
        ∙ ap (λ (r : Ordering). cond (not (is_eq r)) (key x.opened ∷ filter (other_than total (key x.opened)) (asked_keys key cs)) (filter (other_than total (key x.opened)) (asked_keys key cs))) (tied_itself total (key x.opened))
        ∙ others_kept (suc k) cs x.opened a.1 (omega (arith, a.0))
    keys_less k (x ∷ cs) (suc i) c how a at h =
        let rest = keys_less (suc k) cs i c how a.1 at h in
        let number = number_at (suc k) cs i c a.1 at in
        elim (is_asked x) as (λ t. filter (other_than total (key c.opened)) (map (λ c. key c.opened) (cond t (x ∷ filter is_asked cs) (filter is_asked cs)))
        ≡ map (λ c. key c.opened) (cond t (x ∷ filter is_asked (set cs i (closed how c))) (filter is_asked (set cs i (closed how c))))) [
          | true ↦
              ap (λ (b : Bool). cond (not b) (key x.opened ∷ filter (other_than total (key c.opened)) (asked_keys key cs)) (filter (other_than total (key c.opened)) (asked_keys key cs)))
              (apart_by (cmp (part c.opened) (part x.opened)) c.opened.call.0 x.opened.call.0 (not_above c.opened.call.0 x.opened.call.0 k (omega (arith, number)) a.0))
              ∙ ap (λ (ks : List (A × ℕ)). key x.opened ∷ ks) rest
          | false ↦ rest
        ]

length_more : (cs : List CallNow) (c : CallNow) → length (cs ++ c ∷ []) ≡ length cs + 1
length_more [] c = refl
length_more (x ∷ cs) c = let rest = length_more cs c in omega arith

length_set : (cs : List CallNow) (i : ℕ) (c : CallNow) → length (set cs i c) ≡ length cs
length_set [] i c = refl
length_set (x ∷ cs) zero c = refl
length_set (x ∷ cs) (suc i) c = ap suc (length_set cs i c)

-- a call of the next number has no key yet
pub no_key_yet : (cs : List CallNow) (orders : Orders) (o : Opened) → AreOrdered cs orders → o.call.0 ≡ length cs + 1
    → list_any (is_at (by_deadline (deadline_key o))) orders.deadlines.keys ≡ false
no_key_yet cs orders o a e =
    ap (λ (ks : List (ℕ × ℕ)). list_any (is_at (by_deadline (deadline_key o))) ks) a.deadlines
    ∙ none_any (is_at (by_deadline (deadline_key o))) (in_order by_deadline (asked_keys deadline_key cs))
    (all_order by_deadline (λ y. is_at (by_deadline (deadline_key o)) y ≡ false) (asked_keys deadline_key cs)
    (none_ties nat_cmp (λ (p : Opened). p.deadline) 1 cs o a.numbered (omega arith)))

-- one more call is asked
pub ordered_more : (cs : List CallNow) (old new : Orders) (o : Opened) → AreOrdered cs old → o.call.0 ≡ length cs + 1 → o.call.0 < 2 ^ 32
    → new.deadlines.keys ≡ insert_key by_deadline old.deadlines.keys (deadline_key o)
    → new.txns.keys ≡ insert_key by_txn old.txns.keys (txn_key o)
    → AreOrdered (cs ++ record { opened = o; how = None } ∷ []) new
ordered_more cs old new o a e small d t =
    let len = length_more cs (record { opened = o; how = None }) in
    record {
      numbered = numbered_more 1 cs (record { opened = o; how = None }) (e ∙ omega arith) a.numbered;
      few = omega arith;
      deadlines =
          d ∙ ap (λ (ks : List (ℕ × ℕ)). insert_key by_deadline ks (deadline_key o)) a.deadlines
          ∙ sym (order_more by_deadline (asked_keys deadline_key cs) (deadline_key o))
          ∙ ap (λ (ks : List (ℕ × ℕ)). in_order by_deadline ks) (sym (keys_more nat_cmp (λ (p : Opened). p.deadline) cs o));
      txns =
          t ∙ ap (λ (ks : List (List ℕ × ℕ)). insert_key by_txn ks (txn_key o)) a.txns
          ∙ sym (order_more by_txn (asked_keys txn_key cs) (txn_key o))
          ∙ ap (λ (ks : List (List ℕ × ℕ)). in_order by_txn ks) (sym (keys_more (slice_cmp nat_cmp) (λ (p : Opened). p.txn) cs o));
    }

-- an asked call is closed
pub ordered_less : (cs : List CallNow) (old new : Orders) (i : ℕ) (c : CallNow) (how : How) → AreOrdered cs old → slice_get cs i ≡ Some c → is_asked c ≡ true
    → new.deadlines.keys ≡ remove_key (is_at (by_deadline (deadline_key c.opened))) old.deadlines.keys
    → new.txns.keys ≡ remove_key (is_at (by_txn (txn_key c.opened))) old.txns.keys
    → AreOrdered (set cs i (closed how c)) new
ordered_less cs old new i c how a at h d t =
    let len = length_set cs i (closed how c) in
    record {
      numbered = numbered_set 1 cs i c how at a.numbered;
      few = let few = a.few in omega arith;
      deadlines =
          d ∙ ap (λ (ks : List (ℕ × ℕ)). remove_key (is_at (by_deadline (deadline_key c.opened))) ks) a.deadlines
          ∙ order_less by_deadline_total (deadline_key c.opened) (asked_keys deadline_key cs)
          ∙ ap (λ (ks : List (ℕ × ℕ)). in_order by_deadline ks) (keys_less nat_cmp (λ (p : Opened). p.deadline) by_deadline_total 1 cs i c how a.numbered at h);
      txns =
          t ∙ ap (λ (ks : List (List ℕ × ℕ)). remove_key (is_at (by_txn (txn_key c.opened))) ks) a.txns
          ∙ order_less by_txn_total (txn_key c.opened) (asked_keys txn_key cs)
          ∙ ap (λ (ks : List (List ℕ × ℕ)). in_order by_txn ks) (keys_less (slice_cmp nat_cmp) (λ (p : Opened). p.txn) by_txn_total 1 cs i c how a.numbered at h);
    }

-- calls that are ordered by some keys are ordered by the same keys
pub ordered_same : (cs : List CallNow) (old new : Orders) → AreOrdered cs old → new.deadlines.keys ≡ old.deadlines.keys → new.txns.keys ≡ old.txns.keys → AreOrdered cs new
ordered_same cs old new a d t = record { numbered = a.numbered; few = a.few; deadlines = d ∙ a.deadlines; txns = t ∙ a.txns }

-- the key that failed to be entered is taken out again
pub entered_and_left : (k : ℕ × ℕ) (ks : List (ℕ × ℕ)) → list_any (is_at (by_deadline k)) ks ≡ false → remove_key (is_at (by_deadline k)) (insert_key by_deadline ks k) ≡ ks
entered_and_left k ks none = taken_out by_deadline_total k ks none
