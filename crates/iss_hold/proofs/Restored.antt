-- A transaction that is taken up again stands as the last one.
use Rattle.std.proofs.Common.{◌≡◌, ℕ, ◌+◌, ◌<◌, ◌^◌, ℤ, pos, ◌<ℤ◌, Bool, true, false, cond, List, [], ◌∷◌, ◌++◌, length, fold, set, refl, sym, ap, ◌∙◌, subst, arith}
use Rattle.std.proofs.lemmas.Int.{ints}
use Rattle.std.specs.Prelude.{Option, Some, slice_get, Result, Ok, Err, OnOk, OnErr}
use Rattle.std.specs.Option.{option_map}
use Rattle.iss_model.specs.declared.state.TxnSums.{TxnSums}
use Rattle.iss_model.specs.declared.txn.Txn.{Txn}
use Rattle.iss_model.specs.Currencies.{iso_number}
use Rattle.iss_model.specs.Sums.{user_key}
use Rattle.iss_model.specs.state.Kept.{Kept, nothing_kept, kept_at, after_changes}
use Rattle.iss_model.specs.state.Cores.{Holdings}
use Rattle.iss_index.proofs.Grown.{last_there}
use Rattle.iss_hold.specs.declared.hold.Hold.{Hold}
use Rattle.iss_hold.specs.Bounds.{AreLow}
use Rattle.iss_hold.specs.Holdings.{begun, txn_of_hold, whole_of, part_sums, user_sums, holdings_of}
use Rattle.iss_hold.specs.Indexes.{is_of, total_of}
use Rattle.iss_hold.specs.Restoring.{hold_with, live_with, with_carried}
use Rattle.iss_hold.proofs.Beginnings.{map_push}
use Rattle.iss_hold.proofs.HoldCalls.{user_kept}

fold_push : {S A : Type 0} (f : S → A → S) (s : S) (xs : List A) (x : A) → fold f s (xs ++ x ∷ []) ≡ f (fold f s xs) x
fold_push f s [] x = refl
fold_push f s (a ∷ xs) x = fold_push f (f s a) xs x

-- the holdings with it
pub holdings_with : (hs : List Hold) (t : Txn) (s : TxnSums) → holdings_of (hs ++ hold_with t s ∷ []) ≡ with_carried (holdings_of hs) t s
holdings_with hs t s =
    let k = hold_with t s in
    let txns = map_push txn_of_hold hs k in
    let parts = fold_push (λ (kept : Kept) (h : Hold). after_changes kept (part_sums h)) nothing_kept hs k in
    let held = fold_push (λ (kept : Kept) (h : Hold). after_changes kept (user_sums h)) nothing_kept hs k in
    λ j. record { txns = txns j; parts = parts j; held = held j }

-- what its user's holds come to
pub total_low : (hs : List Hold) (h : Holdings) (t : Txn) (s : TxnSums) → holdings_of hs ≡ h → AreLow (with_carried h t s).held
    → total_of t.user (iso_number t.currency) (hs ++ hold_with t s ∷ []) < 2 ^ 62
total_low hs h t s view low =
    let key = user_key t.user t.currency in
    let kept : kept_at (with_carried h t s).held key ≡ pos (total_of t.user (iso_number t.currency) (hs ++ hold_with t s ∷ [])) =
    ap (λ (x : Holdings). kept_at (with_carried x t s).held key) (sym view)
    ∙ ap (λ (x : Holdings). kept_at x.held key) (sym (holdings_with hs t s))
    ∙ user_kept (hs ++ hold_with t s ∷ []) t.user t.currency in
    let below = subst (λ (z : ℤ). z <ℤ pos (2 ^ 62)) kept (low key) in
    omega (arith, ints)

pub last_set : (hs : List Hold) (h k : Hold) → set (hs ++ h ∷ []) (length hs) k ≡ hs ++ k ∷ []
last_set [] h k = refl
last_set (x ∷ hs) h k = ap (λ (ks : List Hold). x ∷ ks) (last_set hs h k)

same_total : (user : List ℕ) (number : ℕ) (hs : List Hold) (t : Txn) (s : TxnSums)
    → total_of user number (hs ++ hold_with t s ∷ []) ≡ total_of user number (hs ++ live_with t s ∷ [])
same_total user number [] t s = refl
same_total user number (x ∷ hs) t s = ap (λ (n : ℕ). cond (is_of user number x) (whole_of x) 0 + n) (same_total user number hs t s)

-- the holds after a transaction has begun, under any names
module _ (hs started : List Hold) (t : Txn) (s : TxnSums) (place : ℕ) (hold : Hold)
    (place_is : place ≡ length hs) (started_is : started ≡ hs ++ begun t ∷ []) (hold_is : hold ≡ live_with t s) where
  pub begun_there : option_map txn_of_hold (slice_get started place) ≡ Some (txn_of_hold hold)
  begun_there =
      (λ j. option_map txn_of_hold (slice_get (started_is j) (place_is j)))
      ∙ ap (λ (o : Option Hold). option_map txn_of_hold o) (last_there hs (begun t))
      ∙ ap (λ (h : Hold). Some (txn_of_hold h)) (sym hold_is)

  pub put_live : set started place hold ≡ hs ++ live_with t s ∷ []
  put_live = (λ j. set (started_is j) (place_is j) (hold_is j)) ∙ last_set hs (begun t) (live_with t s)

  pub live_low : total_of t.user (iso_number t.currency) (hs ++ hold_with t s ∷ []) < 2 ^ 62
      → total_of hold.txn.user (iso_number hold.txn.currency) (set started place hold) < 2 ^ 62
  live_low low =
      subst (λ (x : Txn). total_of x.user (iso_number x.currency) (set started place hold) < 2 ^ 62) (ap (λ (h : Hold). h.txn) (sym hold_is))
      (subst (λ (ks : List Hold). total_of t.user (iso_number t.currency) ks < 2 ^ 62) (sym put_live)
      (subst (λ (n : ℕ). n < 2 ^ 62) (same_total t.user (iso_number t.currency) hs t s) low))

  pub stays_live : {changed : List Hold} → changed ≡ set started place hold → s.live ≡ true → changed ≡ hs ++ hold_with t s ∷ []
  stays_live e live = e ∙ put_live ∙ ap (λ (b : Bool). hs ++ record (live_with t s) { live = b } ∷ []) (sym live)

  pub live_there : {changed : List Hold} → changed ≡ set started place hold → slice_get changed place ≡ Some hold
  live_there e =
      (λ j. slice_get ((e ∙ put_live) j) (place_is j)) ∙ last_there hs (live_with t s) ∙ ap (λ (h : Hold). Some h) (sym hold_is)

  pub ends : {changed last : List Hold} → changed ≡ set started place hold → last ≡ set changed place (record hold { live = false }) → s.live ≡ false
      → last ≡ hs ++ hold_with t s ∷ []
  ends {changed} {last} e f live =
      f ∙ (λ j. set ((e ∙ put_live) j) (place_is j) (record (hold_is j) { live = false }))
      ∙ last_set hs (live_with t s) (record (live_with t s) { live = false })
      ∙ ap (λ (b : Bool). hs ++ record (live_with t s) { live = b } ∷ []) (sym live)

pub on_err : {T E : Type 0} (r : Result T E) {P Q : Type 0} → (P → Q) → OnErr r P → OnErr r Q
on_err (Ok x) f h = tt
on_err (Err e) f h = f h

pub on_ok : {T E : Type 0} (r : Result T E) {P Q : Type 0} → (P → Q) → OnOk r P → OnOk r Q
on_ok (Ok x) f h = f h
on_ok (Err e) f h = tt
