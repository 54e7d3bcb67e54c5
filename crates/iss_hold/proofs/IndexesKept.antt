-- The indexes agree with the holds after each change.
use Rattle.std.proofs.Common.{◌≡◌, ℕ, zero, suc, ◌<◌, ◌^◌, nat_eq, ◌==◌, Bool, false, ◌||◌, List, [], ◌∷◌, ◌++◌, map, set, refl, sym, ap, ◌∙◌, subst, arith}
use Rattle.std.specs.Prelude.{Option, Some, None, IsSome, is_some, slice_get, unwrap_or, Result, Ok, Err, OnOk, OnErr}
use Rattle.std.specs.List.{IsDistinct, list_any}
use Rattle.std.specs.Cmp.{nat_eq_equiv}
use Rattle.std.specs.Cmp.Lexicographic.{nat_list_eq_equiv}
use Rattle.std.specs.Str.{bytes_eq}
use Rattle.std.specs.BTreeMap as tree
use Rattle.std.specs.BTreeMap.{BTreeMap, is_at}
use Rattle.std.specs.Map.{lookup}
use Rattle.std.proofs.lemmas.Map.Keys.{IsDistinct-push}
use Rattle.iss_model.specs.declared.txn.Txn.{Txn}
use Rattle.iss_model.specs.rules.Activity.{TxnNow, txn_named}
use Rattle.iss_model.specs.Currencies.{iso_number}
use Rattle.iss_index.specs.Places.{place_of}
use Rattle.iss_hold.specs.declared.hold.Hold.{Hold}
use Rattle.iss_hold.specs.Holdings.{begun, txn_of_hold}
use Rattle.iss_hold.specs.Indexes.{names, origins, place_in, total_of, by_user, by_expiry, AreSummed, AreIndexed, AreInOrder, BeginsLive}
use Rattle.iss_hold.specs.Sums.{sum_in}
use Rattle.iss_hold.proofs.IndexCalls.{none_some}
use Rattle.iss_hold.proofs.HoldSums.{map_set}
use Rattle.iss_hold.proofs.HoldTotals.{total_set, total_more}
use Rattle.iss_hold.proofs.Changes.{there_or_set}
use Rattle.iss_hold.proofs.Places.{IsReplaced, no_place, has_place, place_is}
use Rattle.iss_hold.proofs.Beginnings.{map_push}
use Rattle.iss_hold.proofs.Endings.{ended}
use Rattle.iss_hold.proofs.ExpiriesKept.{in_order_same, in_order_none, begins_same, begins_none}

-- what is there after one more was there, or is it
there_or_last : (P : Hold → Type 0) (hs : List Hold) (h : Hold) → ((i : ℕ) (k : Hold) → slice_get hs i ≡ Some k → P k) → P h
    → (i : ℕ) (k : Hold) → slice_get (hs ++ h ∷ []) i ≡ Some k → P k
there_or_last P [] h all own zero k e = let same : h ≡ k = cc in subst P same own
there_or_last P [] h all own (suc i) k e = cc
there_or_last P (x ∷ hs) h all own zero k e = all zero k e
there_or_last P (x ∷ hs) h all own (suc i) k e = there_or_last P hs h (λ j y f. all (suc j) y f) own i k e

no_origin : (number : ℕ) (hs : List Hold) → list_any (λ t. number == t.txn.origin) (map txn_of_hold hs) ≡ list_any (nat_eq number) (origins hs)
no_origin number [] = refl
no_origin number (h ∷ hs) = ap (λ (b : Bool). (number == h.txn.origin) || b) (no_origin number hs)

-- ---- each change

-- one more transaction: its place, its user's sum and its expiry are there
pub indexed_more : (hs : List Hold) (places more_places : List (List ℕ)) (sums more_sums : BTreeMap (List ℕ × ℕ) ℕ) (queue more_queue : List ℕ) (late more_late : BTreeMap (ℕ × ℕ) ℕ) (t : Txn)
    → AreIndexed hs places sums queue late
    → txn_named t.token (map txn_of_hold hs) ≡ None
    → list_any (λ u. t.origin == u.txn.origin) (map txn_of_hold hs) ≡ false
    → more_places ≡ places ++ t.token ∷ []
    → ((user : List ℕ) (number : ℕ) → sum_in more_sums user number ≡ sum_in sums user number)
    → ((user : List ℕ) (number : ℕ) → IsSome (tree.get by_user sums (user, number)) → IsSome (tree.get by_user more_sums (user, number)))
    → IsSome (tree.get by_user more_sums (t.user, iso_number t.currency))
    → AreInOrder (hs ++ begun t ∷ []) more_queue more_late
    → BeginsLive (hs ++ begun t ∷ []) more_queue
    → AreIndexed (hs ++ begun t ∷ []) more_places more_sums more_queue more_late
indexed_more hs places more_places sums more_sums queue more_queue late more_late t a unknown new_origin placed same stay own ordered first =
    let none : is_some (place_in t.token (names hs)) ≡ false = has_place t.token hs ∙ ap (λ (o : Option TxnNow). is_some o) unknown in
    let ns : names (hs ++ begun t ∷ []) ≡ names hs ++ t.token ∷ [] = map_push (λ (h : Hold). h.txn.token) hs (begun t) in
    record {
      distinct =
          subst (λ (xs : List (List ℕ)). IsDistinct bytes_eq xs) (sym ns)
          (IsDistinct-push nat_list_eq_equiv (names hs) t.token a.distinct (no_place t.token (names hs) none));
      placed = record { same = placed ∙ ap (λ (xs : List (List ℕ)). xs ++ t.token ∷ []) a.placed.same ∙ sym ns };
      summed = record {
        summed = λ user number. same user number ∙ a.summed.summed user number ∙ sym (total_more user number hs (begun t) refl);
        standing =
            there_or_last (λ (h : Hold). IsSome (tree.get by_user more_sums (h.txn.user, iso_number h.txn.currency))) hs (begun t)
            (λ i h e. stay h.txn.user (iso_number h.txn.currency) (a.summed.standing i h e)) own;
        small = λ user number. subst (λ (n : ℕ). n < 2 ^ 62) (sym (total_more user number hs (begun t) refl)) (a.summed.small user number);
      };
      once =
          subst (λ (xs : List ℕ). IsDistinct nat_eq xs) (sym (map_push (λ (h : Hold). h.txn.origin) hs (begun t)))
          (IsDistinct-push nat_eq_equiv (origins hs) t.origin a.once (sym (no_origin t.origin hs) ∙ new_origin));
      ordered = ordered;
      first = first;
    }

-- the names of the holds are their places' names
pub indexed_own : {hs : List Hold} {places : List (List ℕ)} {sums : BTreeMap (List ℕ × ℕ) ℕ} {queue : List ℕ} {late : BTreeMap (ℕ × ℕ) ℕ}
    → AreIndexed hs places sums queue late → AreIndexed hs (names hs) sums queue late
indexed_own a =
    record { distinct = a.distinct; placed = record { same = refl }; summed = a.summed; once = a.once; ordered = a.ordered; first = a.first }

-- indexes that find the same are in order
pub indexed_same : {hs : List Hold} {places same_places : List (List ℕ)} {sums same_sums : BTreeMap (List ℕ × ℕ) ℕ} {queue same_queue : List ℕ} {late same_late : BTreeMap (ℕ × ℕ) ℕ}
    → AreIndexed hs places sums queue late
    → same_places ≡ places
    → ((user : List ℕ) (number : ℕ) → sum_in same_sums user number ≡ sum_in sums user number)
    → ((user : List ℕ) (number : ℕ) → IsSome (tree.get by_user sums (user, number)) → IsSome (tree.get by_user same_sums (user, number)))
    → AreInOrder hs same_queue same_late
    → BeginsLive hs same_queue
    → AreIndexed hs same_places same_sums same_queue same_late
indexed_same {hs} a found same stay ordered first =
    record {
      distinct = a.distinct;
      placed = record { same = found ∙ a.placed.same };
      summed = record {
        summed = λ user number. same user number ∙ a.summed.summed user number;
        standing = λ i h e. stay h.txn.user (iso_number h.txn.currency) (a.summed.standing i h e);
        small = a.summed.small;
      };
      once = a.once;
      ordered = ordered;
      first = first;
    }

-- what a start leaves if it may fail
pub indexed_started : {T E : Type 0} (r : Result T E) {hs started : List Hold} {sums more_sums : BTreeMap (List ℕ × ℕ) ℕ} {queue more_queue : List ℕ} {late more_late : BTreeMap (ℕ × ℕ) ℕ} (t : Txn)
    → AreIndexed hs (names hs) sums queue late
    → txn_named t.token (map txn_of_hold hs) ≡ None
    → list_any (λ u. t.origin == u.txn.origin) (map txn_of_hold hs) ≡ false
    → ((user : List ℕ) (number : ℕ) → sum_in more_sums user number ≡ sum_in sums user number)
    → ((user : List ℕ) (number : ℕ) → IsSome (tree.get by_user sums (user, number)) → IsSome (tree.get by_user more_sums (user, number)))
    → IsSome (tree.get by_user more_sums (t.user, iso_number t.currency))
    → OnOk r (started ≡ hs ++ begun t ∷ [])
    → OnErr r (started ≡ hs)
    → AreInOrder started more_queue more_late
    → BeginsLive started more_queue
    → AreIndexed started (names started) more_sums more_queue more_late
indexed_started {T} {E} r {hs} {started} {sums} {more_sums} {queue} {more_queue} {late} {more_late} t a unknown origin same stay own added stays ordered first = by r added stays
  where
    by : (s : Result T E) → OnOk s (started ≡ hs ++ begun t ∷ []) → OnErr s (started ≡ hs) → AreIndexed started (names started) more_sums more_queue more_late
    by (Ok x) e g =
        subst (λ (ks : List Hold). AreIndexed ks (names ks) more_sums more_queue more_late) (sym e)
        (indexed_own
        (indexed_more hs (names hs) (names hs ++ t.token ∷ []) sums more_sums queue more_queue late more_late t a unknown origin refl same stay own
        (subst (λ (ks : List Hold). AreInOrder ks more_queue more_late) e ordered) (subst (λ (ks : List Hold). BeginsLive ks more_queue) e first)))
    by (Err x) e g =
        subst (λ (ks : List Hold). AreIndexed ks (names ks) more_sums more_queue more_late) (sym g)
        (indexed_same a refl same stay (subst (λ (ks : List Hold). AreInOrder ks more_queue more_late) g ordered) (subst (λ (ks : List Hold). BeginsLive ks more_queue) g first))

-- a hold takes the place of another of its transaction, if the sums agree again
pub indexed_set : {hs : List Hold} {places : List (List ℕ)} {sums new_sums : BTreeMap (List ℕ × ℕ) ℕ} {queue : List ℕ} {late : BTreeMap (ℕ × ℕ) ℕ} {i : ℕ} {h k : Hold}
    → AreIndexed hs places sums queue late → IsReplaced hs i h k → AreSummed (set hs i k) new_sums → AreIndexed (set hs i k) places new_sums queue late
indexed_set {hs} {places} {sums} {new_sums} {queue} {late} {i} {h} {k} a s summed =
    let ns : names (set hs i k) ≡ names hs = map_set (λ (x : Hold). x.txn.token) hs i h k s.is_there (ap (λ (t : TxnNow). t.txn.token) (sym s.same)) in
    let os : origins (set hs i k) ≡ origins hs = map_set (λ (x : Hold). x.txn.origin) hs i h k s.is_there (ap (λ (t : TxnNow). t.txn.origin) (sym s.same)) in
    record {
      distinct = subst (λ (xs : List (List ℕ)). IsDistinct bytes_eq xs) (sym ns) a.distinct;
      placed = record { same = a.placed.same ∙ sym ns };
      summed = summed;
      once = subst (λ (xs : List ℕ). IsDistinct nat_eq xs) (sym os) a.once;
      ordered = in_order_same i h k s.is_there (ap (λ (t : TxnNow). t.txn) (sym s.same)) (ap (λ (t : TxnNow). t.live) (sym s.same)) a.ordered;
      first = begins_same i h k s.is_there (ap (λ (t : TxnNow). t.live) (sym s.same)) a.first;
    }

same_total_end : (user : List ℕ) (number : ℕ) (hs : List Hold) (i : ℕ) (h : Hold) → slice_get hs i ≡ Some h → total_of user number (set hs i (ended h)) ≡ total_of user number hs
same_total_end user number hs i h at = let e = total_set user number hs i h (ended h) at refl in omega arith

-- a transaction ends, and its expiry is gone
pub indexed_end : (hs : List Hold) (places : List (List ℕ)) (sums : BTreeMap (List ℕ × ℕ) ℕ) (queue new_queue : List ℕ) (late new_late : BTreeMap (ℕ × ℕ) ℕ) (i : ℕ) (h : Hold)
    → AreIndexed hs places sums queue late
    → slice_get hs i ≡ Some h
    → AreInOrder (set hs i (ended h)) new_queue new_late
    → BeginsLive (set hs i (ended h)) new_queue
    → AreIndexed (set hs i (ended h)) places sums new_queue new_late
indexed_end hs places sums queue new_queue late new_late i h a at ordered first =
    let ns : names (set hs i (ended h)) ≡ names hs = map_set (λ (x : Hold). x.txn.token) hs i h (ended h) at refl in
    let os : origins (set hs i (ended h)) ≡ origins hs = map_set (λ (x : Hold). x.txn.origin) hs i h (ended h) at refl in
    record {
      distinct = subst (λ (xs : List (List ℕ)). IsDistinct bytes_eq xs) (sym ns) a.distinct;
      placed = record { same = a.placed.same ∙ sym ns };
      summed = record {
        summed = λ u n. a.summed.summed u n ∙ sym (same_total_end u n hs i h at);
        standing =
            there_or_set (λ (x : Hold). IsSome (tree.get by_user sums (x.txn.user, iso_number x.txn.currency))) hs i (ended h)
            (λ j x e. a.summed.standing j x e) (a.summed.standing i h at);
        small = λ u n. subst (λ (m : ℕ). m < 2 ^ 62) (sym (same_total_end u n hs i h at)) (a.summed.small u n);
      };
      once = subst (λ (xs : List ℕ). IsDistinct nat_eq xs) (sym os) a.once;
      ordered = ordered;
      first = first;
    }

-- no transaction, and empty indexes
pub indexed_none : (hs : List Hold) (places : List (List ℕ)) (sums : BTreeMap (List ℕ × ℕ) ℕ) (queue : List ℕ) (late : BTreeMap (ℕ × ℕ) ℕ)
    → hs ≡ [] → places ≡ [] → sums.entries ≡ [] → queue ≡ [] → late.entries ≡ [] → tree.IsOrdered by_expiry late → AreIndexed hs places sums queue late
unfolding IsDistinct
indexed_none hs places sums queue late e p s q o rising =
    subst (λ (xs : List Hold). AreIndexed xs places sums queue late) (sym e)
    (record {
      distinct = tt;
      placed = record { same = p };
      summed = record {
        summed = λ user number. ap (λ (es : List ((List ℕ × ℕ) × ℕ)). unwrap_or (lookup (is_at (by_user (user, number))) es) 0) s;
        standing = λ i h h_is. cc;
        small = λ user number. omega arith;
      };
      once = tt;
      ordered = in_order_none refl q o rising;
      first = begins_none q;
    })

pub no_place_yet : (hs : List Hold) (places : List (List ℕ)) (sums : BTreeMap (List ℕ × ℕ) ℕ) (queue : List ℕ) (late : BTreeMap (ℕ × ℕ) ℕ) (name : List ℕ)
    → AreIndexed hs places sums queue late → txn_named name (map txn_of_hold hs) ≡ None → place_of name places ≡ None
no_place_yet hs places sums queue late name a unknown =
    place_is a.placed name ∙ none_some (place_in name (names hs)) (has_place name hs ∙ ap (λ (o : Option TxnNow). is_some o) unknown)
