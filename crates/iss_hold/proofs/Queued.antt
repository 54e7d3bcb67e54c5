-- Holds at the places of a queue.
use Rattle.std.proofs.Common.{◌≡◌, ℕ, zero, suc, nat_eq, ◌==◌, Bool, true, false, cond, not, List, [], ◌∷◌, ◌++◌, map, filter, length, set, refl, sym, ap, ap₂, ◌∙◌, subst}
use Rattle.std.specs.Prelude.{Option, Some, slice_get}
use Rattle.std.specs.List.{AllByRecursion, IsDistinct}
use Rattle.std.specs.List.Sorted.{IsStrictlySortedBy}
use Rattle.std.specs.declared.cmp.Ordering.{Ordering}
use Rattle.std.specs.declared.cmp.Ordering.TheVariants.{Less}
use Rattle.std.specs.Ordering.{is_eq}
use Rattle.std.specs.Cmp.{tied_itself}
use Rattle.iss_model.specs.declared.txn.Txn.{Txn}
use Rattle.iss_index.proofs.Grown.{there_before, last_there}
use Rattle.iss_hold.specs.declared.hold.Hold.{Hold}
use Rattle.iss_hold.specs.Holdings.{begun}
use Rattle.iss_hold.specs.Expiries.{Expiry, expiry_of, live_ones}
use Rattle.iss_hold.specs.Indexes.{origins, by_expiry, key_of, AreQueued}
use Rattle.iss_hold.proofs.Beginnings.{map_push, filter_push}
use Rattle.iss_hold.proofs.Endings.{ended, other_than, by_expiry_total, apart, other_way, number_at}

-- ---- one more

all_push : {A : Type 0} (P : A → Type 0) (xs : List A) (x : A) → AllByRecursion P xs → P x → AllByRecursion P (xs ++ x ∷ [])
all_push P [] x all own = (own, tt)
all_push P (a ∷ xs) x all own = (all.0, all_push P xs x all.1 own)

rising_push : (ks : List (ℕ × ℕ)) (k : ℕ × ℕ) → IsStrictlySortedBy by_expiry ks → AllByRecursion (λ q. by_expiry q k ≡ Less) ks → IsStrictlySortedBy by_expiry (ks ++ k ∷ [])
unfolding IsStrictlySortedBy
rising_push [] k o all = (tt, tt)
rising_push (q ∷ ks) k o all = (all_push (λ p. by_expiry q p ≡ Less) ks k o.0 all.0, rising_push ks k o.1 all.1)

there_more : (hs : List Hold) (h : Hold) (queue : List ℕ) (ks : List Hold) → map (λ p. slice_get hs p) queue ≡ map (λ k. Some k) ks
    → map (λ p. slice_get (hs ++ h ∷ []) p) queue ≡ map (λ k. Some k) ks
there_more hs h [] ks e = e
there_more hs h (p ∷ queue) [] e = cc
there_more hs h (p ∷ queue) (k ∷ ks) e =
    let first : slice_get hs p ≡ Some k = cc in
    let rest : map (λ p. slice_get hs p) queue ≡ map (λ k. Some k) ks = cc in
    ap₂ (λ (o : Option Hold) (os : List (Option Hold)). o ∷ os) (there_before hs h p k first) (there_more hs h queue ks rest)

-- a hold more changes none in the queue
pub queued_more : {hs : List Hold} (h : Hold) {queue : List ℕ} {ks : List Hold} → AreQueued hs queue ks → AreQueued (hs ++ h ∷ []) queue ks
queued_more {hs} h {queue} {ks} a = record { there = there_more hs h queue ks a.there; rising = a.rising }

-- a hold that expires after all in the queue, at its end
pub queued_push : {hs : List Hold} (h : Hold) {queue : List ℕ} {ks : List Hold} → AreQueued hs queue ks → AllByRecursion (λ k. by_expiry k (key_of h) ≡ Less) (map key_of ks)
    → AreQueued (hs ++ h ∷ []) (queue ++ length hs ∷ []) (ks ++ h ∷ [])
queued_push {hs} h {queue} {ks} a all =
    record {
      there =
          map_push (λ (p : ℕ). slice_get (hs ++ h ∷ []) p) queue (length hs)
          ∙ ap₂ (λ (os : List (Option Hold)) (o : Option Hold). os ++ o ∷ []) (there_more hs h queue ks a.there) (last_there hs h)
          ∙ sym (map_push (λ (k : Hold). Some k) ks h);
      rising =
          subst (λ (keys : List (ℕ × ℕ)). IsStrictlySortedBy by_expiry keys) (sym (map_push key_of ks h))
          (rising_push (map key_of ks) (key_of h) a.rising all);
    }

pub ones_push : (ks : List Hold) (t : Txn) → live_ones (ks ++ begun t ∷ []) ≡ live_ones ks ++ expiry_of (begun t) ∷ []
ones_push ks t = ap (λ (hs : List Hold). map expiry_of hs) (filter_push ks (begun t) refl) ∙ map_push expiry_of (filter (λ k. k.live) ks) (begun t)

-- ---- another in the place of one

-- two places are one
abbrev pub is_place : ℕ → ℕ → Bool
is_place zero zero = true
is_place zero (suc i) = false
is_place (suc p) zero = false
is_place (suc p) (suc i) = is_place p i

one_place : (p i : ℕ) → is_place p i ≡ true → p ≡ i
one_place zero zero e = refl
one_place zero (suc i) e = cc
one_place (suc p) zero e = cc
one_place (suc p) (suc i) e = ap suc (one_place p i e)

-- the queue's holds if one of all is replaced
abbrev pub queued_set : ℕ → Hold → List ℕ → List Hold → List Hold
queued_set i k [] hs = hs
queued_set i k (p ∷ queue) [] = []
queued_set i k (p ∷ queue) (h ∷ hs) = cond (is_place p i) k h ∷ queued_set i k queue hs

set_there : (hs : List Hold) (i p : ℕ) (h k x : Hold) → slice_get hs i ≡ Some h → slice_get hs p ≡ Some x → slice_get (set hs i k) p ≡ Some (cond (is_place p i) k x)
set_there [] i p h k x at e = cc
set_there (y ∷ hs) zero zero h k x at e = refl
set_there (y ∷ hs) zero (suc p) h k x at e = e
set_there (y ∷ hs) (suc i) zero h k x at e = e
set_there (y ∷ hs) (suc i) (suc p) h k x at e = set_there hs i p h k x at e

there_set : (hs : List Hold) (i : ℕ) (h k : Hold) → slice_get hs i ≡ Some h → (queue : List ℕ) (ks : List Hold) → map (λ p. slice_get hs p) queue ≡ map (λ k. Some k) ks
    → map (λ p. slice_get (set hs i k) p) queue ≡ map (λ k. Some k) (queued_set i k queue ks)
there_set hs i h k at [] ks e = e
there_set hs i h k at (p ∷ queue) [] e = cc
there_set hs i h k at (p ∷ queue) (x ∷ ks) e =
    let first : slice_get hs p ≡ Some x = cc in
    let rest : map (λ p. slice_get hs p) queue ≡ map (λ k. Some k) ks = cc in
    ap₂ (λ (o : Option Hold) (os : List (Option Hold)). o ∷ os) (set_there hs i p h k x at first) (there_set hs i h k at queue ks rest)

-- what stands at one place is one hold
same_hold : (hs : List Hold) (i p : ℕ) (h x : Hold) → slice_get hs i ≡ Some h → slice_get hs p ≡ Some x → is_place p i ≡ true → x ≡ h
same_hold hs i p h x at e same =
    let here : slice_get hs i ≡ Some x = subst (λ (j : ℕ). slice_get hs j ≡ Some x) (one_place p i same) e in
    cc

keys_set : (hs : List Hold) (i : ℕ) (h k : Hold) → slice_get hs i ≡ Some h → key_of k ≡ key_of h → (queue : List ℕ) (ks : List Hold) → map (λ p. slice_get hs p) queue ≡ map (λ k. Some k) ks
    → map key_of (queued_set i k queue ks) ≡ map key_of ks
keys_set hs i h k at key [] ks e = refl
keys_set hs i h k at key (p ∷ queue) [] e = cc
keys_set hs i h k at key (p ∷ queue) (x ∷ ks) e =
    let first : slice_get hs p ≡ Some x = cc in
    let rest : map (λ p. slice_get hs p) queue ≡ map (λ k. Some k) ks = cc in
    ap₂ (λ (q : ℕ × ℕ) (qs : List (ℕ × ℕ)). q ∷ qs) (own (is_place p i) refl first) (keys_set hs i h k at key queue ks rest)
  where
    own : (b : Bool) → is_place p i ≡ b → slice_get hs p ≡ Some x → key_of (cond b k x) ≡ key_of x
    own true same there = key ∙ ap key_of (sym (same_hold hs i p h x at there same))
    own false same there = refl

pub queued_put : {hs : List Hold} (i : ℕ) {h : Hold} (k : Hold) {queue : List ℕ} {ks : List Hold} → slice_get hs i ≡ Some h → key_of k ≡ key_of h → AreQueued hs queue ks
    → AreQueued (set hs i k) queue (queued_set i k queue ks)
queued_put {hs} i {h} k {queue} {ks} at key a =
    record {
      there = there_set hs i h k at queue ks a.there;
      rising = subst (λ (keys : List (ℕ × ℕ)). IsStrictlySortedBy by_expiry keys) (sym (keys_set hs i h k at key queue ks a.there)) a.rising;
    }

ones_of : (x : Hold) (ks : List Hold) → live_ones (x ∷ ks) ≡ cond x.live (expiry_of x ∷ live_ones ks) (live_ones ks)
ones_of x ks = at x.live
  where
    at : (b : Bool) → map expiry_of (cond b (x ∷ filter (λ k. k.live) ks) (filter (λ k. k.live) ks)) ≡ cond b (expiry_of x ∷ live_ones ks) (live_ones ks)
    at true = refl
    at false = refl

-- another hold of the same expiry, which is live if it was
pub ones_same : (hs : List Hold) (i : ℕ) (h k : Hold) → slice_get hs i ≡ Some h → expiry_of k ≡ expiry_of h → k.live ≡ h.live
    → (queue : List ℕ) (ks : List Hold) → map (λ p. slice_get hs p) queue ≡ map (λ k. Some k) ks → live_ones (queued_set i k queue ks) ≡ live_ones ks
ones_same hs i h k at expiry live [] ks e = refl
ones_same hs i h k at expiry live (p ∷ queue) [] e = cc
ones_same hs i h k at expiry live (p ∷ queue) (x ∷ ks) e =
    let first : slice_get hs p ≡ Some x = cc in
    let rest : map (λ p. slice_get hs p) queue ≡ map (λ k. Some k) ks = cc in
    own (is_place p i) refl first (ones_same hs i h k at expiry live queue ks rest)
  where
    own : (b : Bool) → is_place p i ≡ b → slice_get hs p ≡ Some x → live_ones (queued_set i k queue ks) ≡ live_ones ks
        → live_ones (cond b k x ∷ queued_set i k queue ks) ≡ live_ones (x ∷ ks)
    own true same there rest =
        let one = same_hold hs i p h x at there same in
        ones_of k (queued_set i k queue ks)
        ∙ (λ j. cond ((live ∙ ap (λ (y : Hold). y.live) (sym one)) j) ((expiry ∙ ap expiry_of (sym one)) j ∷ rest j) (rest j))
        ∙ sym (ones_of x ks)
    own false same there rest =
        ones_of x (queued_set i k queue ks) ∙ ap (λ (es : List Expiry). cond x.live (expiry_of x ∷ es) es) rest ∙ sym (ones_of x ks)

apart_at : (hs : List Hold) (i p : ℕ) (h x : Hold) → IsDistinct nat_eq (origins hs) → slice_get hs i ≡ Some h → slice_get hs p ≡ Some x → is_place p i ≡ false
    → (h.txn.origin == x.txn.origin) ≡ false
unfolding IsDistinct
apart_at [] i p h x d at e other = cc
apart_at (y ∷ hs) zero zero h x d at e other = cc
apart_at (y ∷ hs) zero (suc p) h x d at e other =
    let same : y ≡ h = cc in
    subst (λ (z : Hold). (z.txn.origin == x.txn.origin) ≡ false) same (number_at y.txn.origin hs p x e d.0)
apart_at (y ∷ hs) (suc i) zero h x d at e other =
    let same : y ≡ x = cc in
    subst (λ (z : Hold). (h.txn.origin == z.txn.origin) ≡ false) same (other_way y.txn.origin h.txn.origin (number_at y.txn.origin hs i h at d.0))
apart_at (y ∷ hs) (suc i) (suc p) h x d at e other = apart_at hs i p h x d.1 at e other

-- if a transaction ends, its expiry is taken out
pub ones_end : (hs : List Hold) (i : ℕ) (h : Hold) → slice_get hs i ≡ Some h → IsDistinct nat_eq (origins hs)
    → (queue : List ℕ) (ks : List Hold) → map (λ p. slice_get hs p) queue ≡ map (λ k. Some k) ks → live_ones (queued_set i (ended h) queue ks) ≡ filter (other_than (key_of h)) (live_ones ks)
ones_end hs i h at d [] [] e = refl
ones_end hs i h at d [] (x ∷ ks) e = cc
ones_end hs i h at d (p ∷ queue) [] e = cc
ones_end hs i h at d (p ∷ queue) (x ∷ ks) e =
    let first : slice_get hs p ≡ Some x = cc in
    let rest : map (λ p. slice_get hs p) queue ≡ map (λ k. Some k) ks = cc in
    own (is_place p i) refl first (ones_end hs i h at d queue ks rest)
  where
    taken : (b c : Bool) → c ≡ false → filter (other_than (key_of h)) (live_ones ks)
        ≡ cond b (cond c (expiry_of x ∷ filter (other_than (key_of h)) (live_ones ks)) (filter (other_than (key_of h)) (live_ones ks))) (filter (other_than (key_of h)) (live_ones ks))
    taken true true f = cc
    taken true false f = refl
    taken false c f = refl

    stays : (b c : Bool) → c ≡ true → cond b (expiry_of x ∷ filter (other_than (key_of h)) (live_ones ks)) (filter (other_than (key_of h)) (live_ones ks))
        ≡ cond b (cond c (expiry_of x ∷ filter (other_than (key_of h)) (live_ones ks)) (filter (other_than (key_of h)) (live_ones ks))) (filter (other_than (key_of h)) (live_ones ks))
    stays true true f = refl
    stays true false f = cc
    stays false c f = refl

    among : (b : Bool) → cond b (cond (other_than (key_of h) (expiry_of x)) (expiry_of x ∷ filter (other_than (key_of h)) (live_ones ks)) (filter (other_than (key_of h)) (live_ones ks))) (filter (other_than (key_of h)) (live_ones ks))
        ≡ filter (other_than (key_of h)) (map expiry_of (cond b (x ∷ filter (λ k. k.live) ks) (filter (λ k. k.live) ks)))
    among true = refl
    among false = refl

    own : (b : Bool) → is_place p i ≡ b → slice_get hs p ≡ Some x → live_ones (queued_set i (ended h) queue ks) ≡ filter (other_than (key_of h)) (live_ones ks)
        → live_ones (cond b (ended h) x ∷ queued_set i (ended h) queue ks) ≡ filter (other_than (key_of h)) (live_ones (x ∷ ks))
    own true same there rest =
        let one = same_hold hs i p h x at there same in
        rest
        ∙ taken x.live (other_than (key_of h) (expiry_of x))
        (ap (λ (y : Hold). other_than (key_of h) (expiry_of y)) one ∙ ap (λ (r : Ordering). not (is_eq r)) (tied_itself by_expiry_total (key_of h)))
        ∙ among x.live
    own false same there rest =
        ones_of x (queued_set i (ended h) queue ks)
        ∙ ap (λ (es : List Expiry). cond x.live (expiry_of x ∷ es) es) rest
        ∙ stays x.live (other_than (key_of h) (expiry_of x)) (ap (λ (b : Bool). not b) (apart (key_of h) (key_of x) (apart_at hs i p h x d at there same)))
        ∙ among x.live
