-- A hold that takes the place of another of its transaction, and the sum of its user with it.
use Rattle.std.proofs.Common.{◌≡◌, ℕ, zero, suc, ◌+◌, ◌-◌, ◌<◌, ◌≤◌, ◌^◌, ◌==◌, Bool, true, false, cond, ◌&&◌, List, [], ◌∷◌, set, refl, sym, ap, ap₂, ◌∙◌, subst, arith}
use Rattle.std.specs.Prelude.{Option, Some, IsSome, slice_get, unwrap_or}
use Rattle.std.specs.Option.{option_map}
use Rattle.std.specs.Str.{bytes_eq}
use Rattle.std.specs.BTreeMap as tree
use Rattle.std.specs.BTreeMap.{BTreeMap, is_at}
use Rattle.iss_model.specs.declared.txn.Txn.{Txn}
use Rattle.iss_model.specs.rules.Activity.{TxnNow}
use Rattle.iss_model.specs.Currencies.{iso_number}
use Rattle.iss_model.proofs.Names.{one_name, its_name}
use Rattle.iss_hold.specs.declared.hold.Hold.{Hold}
use Rattle.iss_hold.specs.Holdings.{whole_of}
use Rattle.iss_hold.specs.Indexes.{is_of, total_of, by_user, AreSummed}
use Rattle.iss_hold.specs.Sums.{sum_in}
use Rattle.iss_hold.proofs.Places.{IsReplaced}
use Rattle.iss_hold.proofs.IndexCalls.{stands_by, user_test, both_true, one_number}
use Rattle.iss_hold.proofs.HoldTotals.{total_set, whole_within}

pub get_set : (hs : List Hold) (i : ℕ) (h k : Hold) → slice_get hs i ≡ Some h → slice_get (set hs i k) i ≡ Some k
get_set [] i h k e = cc
get_set (x ∷ hs) zero h k e = refl
get_set (x ∷ hs) (suc i) h k e = get_set hs i h k e

-- what is there when one is replaced
pub there_or_set : (P : Hold → Type 0) (hs : List Hold) (i : ℕ) (k : Hold) → ((j : ℕ) (h : Hold) → slice_get hs j ≡ Some h → P h) → P k
    → (j : ℕ) (h : Hold) → slice_get (set hs i k) j ≡ Some h → P h
there_or_set P [] i k all own j h e = cc
there_or_set P (x ∷ hs) zero k all own zero h e = let same : k ≡ h = cc in subst P same own
there_or_set P (x ∷ hs) zero k all own (suc j) h e = all (suc j) h e
there_or_set P (x ∷ hs) (suc i) k all own zero h e = all zero h e
there_or_set P (x ∷ hs) (suc i) k all own (suc j) h e = there_or_set P hs i k (λ l y f. all (suc l) y f) own j h e

sum_by : (b : Bool) (sum total before whole whole_new : ℕ) (o : Option ℕ) → unwrap_or o 0 ≡ before
    → total + cond b whole 0 ≡ before + cond b whole_new 0 → (b ≡ true → sum ≡ total) → unwrap_or (cond b (Some sum) o) 0 ≡ total
sum_by true sum total before whole whole_new o e f g = g refl
sum_by false sum total before whole whole_new o e f g = omega arith

small_by : (b : Bool) (total before whole whole_new : ℕ) → total + cond b whole 0 ≡ before + cond b whole_new 0
    → (b ≡ true → total < 2 ^ 62) → before < 2 ^ 62 → total < 2 ^ 62
small_by true total before whole whole_new e g p = g refl
small_by false total before whole whole_new e g p = omega arith

-- a hold takes the place of another of its transaction, and the sum of its user is what the holds then come to
pub summed_set : (hs : List Hold) (sums new_sums : BTreeMap (List ℕ × ℕ) ℕ) (i : ℕ) (h k : Hold) (sum : ℕ)
    → AreSummed hs sums
    → slice_get hs i ≡ Some h → k.txn ≡ h.txn
    → tree.Updates by_user sums new_sums (k.txn.user, iso_number k.txn.currency) (Some sum)
    → sum ≡ total_of k.txn.user (iso_number k.txn.currency) (set hs i k)
    → total_of k.txn.user (iso_number k.txn.currency) (set hs i k) < 2 ^ 62
    → AreSummed (set hs i k) new_sums
summed_set hs sums new_sums i h k sum a at txn updates sum_is fits =
    let user = k.txn.user in
    let number = iso_number k.txn.currency in
    let own : (u : List ℕ) (n : ℕ) → is_of u n k ≡ is_of u n h = λ u n. ap (λ (t : Txn). bytes_eq t.user u && (iso_number t.currency == n)) txn in
    let total : (u : List ℕ) (n : ℕ) → is_of u n h ≡ true → total_of user number (set hs i k) ≡ total_of u n (set hs i k) =
    λ u n e. let parts = both_true (bytes_eq user u) (number == n) (own u n ∙ e) in
    ap₂ (λ (v : List ℕ) (m : ℕ). total_of v m (set hs i k)) (one_name user u parts.0) (one_number number n parts.1) in
    let still : (v : List ℕ) (m : ℕ) → IsSome (tree.get by_user sums (v, m)) → IsSome (tree.get by_user new_sums (v, m)) =
    λ v m e. subst (λ (o : Option ℕ). IsSome o) (sym (updates.0 (v, m))) (stands_by (is_at (by_user (user, number)) (v, m)) sum (tree.get by_user sums (v, m)) e) in
    record {
      summed = λ u n.
          ap (λ (o : Option ℕ). unwrap_or o 0)
          (updates.0 (u, n) ∙ ap (λ (b : Bool). cond b (Some sum) (tree.get by_user sums (u, n))) (user_test (user, number) (u, n) ∙ own u n))
          ∙ sum_by (is_of u n h) sum (total_of u n (set hs i k)) (total_of u n hs) (whole_of h) (whole_of k) (tree.get by_user sums (u, n))
          (a.summed u n) (total_set u n hs i h k at (own u n)) (λ e. sum_is ∙ total u n e);
      standing =
          there_or_set (λ (x : Hold). IsSome (tree.get by_user new_sums (x.txn.user, iso_number x.txn.currency))) hs i k
          (λ j x e. still x.txn.user (iso_number x.txn.currency) (a.standing j x e))
          (still user number (subst (λ (t : Txn). IsSome (tree.get by_user sums (t.user, iso_number t.currency))) (sym txn) (a.standing i h at)));
      small = λ u n.
          small_by (is_of u n h) (total_of u n (set hs i k)) (total_of u n hs) (whole_of h) (whole_of k) (total_set u n hs i h k at (own u n))
          (λ e. subst (λ (m : ℕ). m < 2 ^ 62) (total u n e) fits) (a.small u n);
    }

changed_by : (b : Bool) (after before whole whole_new : ℕ) → b ≡ true → after + cond b whole 0 ≡ before + cond b whole_new 0 → whole ≤ before → before - whole + whole_new ≡ after
changed_by true after before whole whole_new e f le = omega arith
changed_by false after before whole whole_new e f le = cc

same_number : (n : ℕ) → (n == n) ≡ true
same_number n = grind arith

module _ {hs : List Hold} {sums : BTreeMap (List ℕ × ℕ) ℕ} {i : ℕ} {h k : Hold} (a : AreSummed hs sums) (s : IsReplaced hs i h k) where
  same_txn : k.txn ≡ h.txn
  same_txn = ap (λ (t : TxnNow). t.txn) (sym s.same)

  -- what the holds of its user come to before and after
  abbrev pub before : ℕ
  before = total_of k.txn.user (iso_number k.txn.currency) hs

  abbrev pub after : ℕ
  after = total_of k.txn.user (iso_number k.txn.currency) (set hs i k)

  pub whole_before : whole_of h ≤ before
  whole_before = subst (λ (t : Txn). whole_of h ≤ total_of t.user (iso_number t.currency) hs) (sym same_txn) (whole_within hs i h s.is_there)

  pub before_small : before < 2 ^ 62
  before_small = a.small k.txn.user (iso_number k.txn.currency)

  pub whole_after : whole_of k ≤ after
  whole_after = whole_within (set hs i k) i k (get_set hs i h k s.is_there)

  pub sum_before : {key : List ℕ × ℕ} {sum : ℕ} → key ≡ (k.txn.user, iso_number k.txn.currency) → sum ≡ sum_in sums key.0 key.1 → sum ≡ before
  sum_before e f = f ∙ ap (λ (q : List ℕ × ℕ). sum_in sums q.0 q.1) e ∙ a.summed k.txn.user (iso_number k.txn.currency)

  pub sum_stands : {key : List ℕ × ℕ} → key ≡ (k.txn.user, iso_number k.txn.currency) → IsSome (tree.get by_user sums key)
  sum_stands e =
      subst (λ (q : List ℕ × ℕ). IsSome (tree.get by_user sums q)) (sym e)
      (subst (λ (t : Txn). IsSome (tree.get by_user sums (t.user, iso_number t.currency))) (sym same_txn) (a.standing i h s.is_there))

  -- what the replaced one holds
  pub held_there : {whole : ℕ} → option_map whole_of (slice_get hs i) ≡ Some whole → whole ≡ whole_of h
  held_there e = inside (sym (ap (λ (o : Option Hold). option_map whole_of o) s.is_there) ∙ e)
    where
      inside : {m n : ℕ} → Some m ≡ Some n → n ≡ m
      inside f = cc

  pub sum_after : before - whole_of h + whole_of k ≡ after
  sum_after =
      let user = k.txn.user in
      let number = iso_number k.txn.currency in
      let own : is_of user number k ≡ true = rw (its_name user) (same_number number) in
      let as_before : is_of user number k ≡ is_of user number h = ap (λ (t : Txn). bytes_eq t.user user && (iso_number t.currency == number)) same_txn in
      changed_by (is_of user number h) after before (whole_of h) (whole_of k) (sym as_before ∙ own) (total_set user number hs i h k s.is_there as_before) whole_before

  pub summed_after : {new_sums : BTreeMap (List ℕ × ℕ) ℕ} {key : List ℕ × ℕ} {whole whole_new : ℕ} → key ≡ (k.txn.user, iso_number k.txn.currency)
      → tree.Updates by_user sums new_sums key (Some (sum_in sums key.0 key.1 - whole + whole_new)) → whole ≡ whole_of h → whole_new ≡ whole_of k → after < 2 ^ 62
      → AreSummed (set hs i k) new_sums
  summed_after {new_sums} {key} {whole} {whole_new} e updates g j low =
      summed_set hs sums new_sums i h k (sum_in sums key.0 key.1 - whole + whole_new) a s.is_there same_txn
      (subst (λ (q : List ℕ × ℕ). tree.Updates by_user sums new_sums q (Some (sum_in sums key.0 key.1 - whole + whole_new))) e updates)
      ((λ l. sum_before e refl l - g l + j l) ∙ sum_after) low
