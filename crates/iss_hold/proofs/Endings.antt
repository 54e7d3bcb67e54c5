-- What changes when a transaction ends.
use Rattle.std.proofs.Common.{◌≡◌, ℕ, zero, suc, nat_lt, nat_eq, ◌==◌, Bool, true, false, cond, not, List, [], ◌∷◌, map, fold, filter, set, refl, sym, ap, ◌∙◌, subst, arith}
use Rattle.std.proofs.lemmas.Bool.Decides.{nat_tests}
use Rattle.std.specs.Prelude.{Some, slice_get}
use Rattle.std.specs.List.{AllByRecursion, IsDistinct}
use Rattle.std.specs.List.Sorted.{IsStrictlySortedBy}
use Rattle.std.specs.declared.cmp.Ordering.{Ordering}
use Rattle.std.specs.declared.cmp.Ordering.TheVariants.{Less, Equal, Greater}
use Rattle.std.specs.Ordering.{nat_cmp, ordering_then, is_eq}
use Rattle.std.specs.Cmp.{IsTotalOrder, then_total, on_total, nat_cmp_total, tied_itself, Equal-is}
use Rattle.std.specs.Str.{bytes_eq}
use Rattle.std.specs.BTreeMap.{is_at}
use Rattle.std.specs.Map.{remove_entry, keys_of}
use Rattle.iss_model.specs.declared.txn.Txn.{Txn}
use Rattle.iss_model.specs.state.Kept.{Kept, nothing_kept, after_changes}
use Rattle.iss_model.specs.state.Cores.{with_end, txn_after_end}
use Rattle.iss_model.specs.Sums.{Change}
use Rattle.iss_model.proofs.Names.{name-sym, its_name}
use Rattle.iss_hold.specs.declared.hold.Hold.{Hold}
use Rattle.iss_hold.specs.Holdings.{txn_of_hold, part_sums, user_sums, sums_from, holdings_of}
use Rattle.iss_hold.specs.Expiries.{Expiry, expiry_of, live_ones, with_expiry, expiries}
use Rattle.iss_hold.specs.Indexes.{by_expiry, origins, names}
use Rattle.iss_hold.proofs.HoldTotals.{apart_from}
use Rattle.iss_hold.proofs.ExpiryOrder.{filter_fold}

-- a hold whose transaction has ended
abbrev pub ended : Hold → Hold
ended h = record h { live = false }

others_stay : (name : List ℕ) (hs : List Hold) → AllByRecursion (λ other. bytes_eq name other ≡ false) (names hs) → map (txn_after_end name) (map txn_of_hold hs) ≡ map txn_of_hold hs
others_stay name [] h = refl
others_stay name (x ∷ hs) h =
    let apart = h.0 in
    let rest = others_stay name hs h.1 in
    rw (apart, rest) refl

txns_end : (hs : List Hold) (i : ℕ) (h : Hold) → slice_get hs i ≡ Some h → IsDistinct bytes_eq (names hs)
    → map (txn_after_end h.txn.token) (map txn_of_hold hs) ≡ map txn_of_hold (set hs i (ended h))
unfolding IsDistinct
txns_end [] i h e d = cc
txns_end (x ∷ hs) zero h e d =
    let same : x ≡ h = cc in
    subst (λ (y : Hold). map (txn_after_end y.txn.token) (map txn_of_hold (x ∷ hs)) ≡ txn_of_hold (ended y) ∷ map txn_of_hold hs) same
    (let own = its_name x.txn.token in
    let rest = others_stay x.txn.token hs d.0 in
    rw (own, rest) refl)
txns_end (x ∷ hs) (suc i) h e d =
    let apart : bytes_eq h.txn.token x.txn.token ≡ false = name-sym h.txn.token x.txn.token ∙ apart_from x.txn.token hs i h e d.0 in
    let rest = txns_end hs i h e d.1 in
    rw (apart, rest) refl

pub sums_same : (f : Hold → List Change) (m : Kept) (hs : List Hold) (i : ℕ) (h k : Hold) → slice_get hs i ≡ Some h → f k ≡ f h → sums_from f m (set hs i k) ≡ sums_from f m hs
sums_same f m [] i h k e s = cc
sums_same f m (x ∷ hs) zero h k e s =
    let same : x ≡ h = cc in
    ap (λ (cs : List Change). sums_from f (after_changes m cs) hs) (s ∙ ap f (sym same))
sums_same f m (x ∷ hs) (suc i) h k e s = sums_same f (after_changes m (f x)) hs i h k e s

-- the holdings when a transaction has ended
pub holdings_end : (hs : List Hold) (i : ℕ) (h : Hold) → slice_get hs i ≡ Some h → IsDistinct bytes_eq (names hs) → holdings_of (set hs i (ended h)) ≡ with_end (holdings_of hs) h.txn.token
holdings_end hs i h e d =
    let txns = sym (txns_end hs i h e d) in
    let parts = sums_same part_sums nothing_kept hs i h (ended h) e refl in
    let held = sums_same user_sums nothing_kept hs i h (ended h) e refl in
    λ j. record { txns = txns j; parts = parts j; held = held j }

pub by_expiry_total : IsTotalOrder by_expiry
by_expiry_total = then_total (on_total (λ (k : ℕ × ℕ). k.0) nat_cmp_total) (on_total (λ (k : ℕ × ℕ). k.1) nat_cmp_total)

-- another key than this one
abbrev pub other_than : (ℕ × ℕ) → Expiry → Bool
other_than key e = not (is_at (by_expiry key) e.0)

all_other : (key : ℕ × ℕ) (first : ℕ × ℕ) (es : List Expiry) → by_expiry key first ≡ Equal → AllByRecursion (λ k. by_expiry first k ≡ Less) (keys_of es) → filter (other_than key) es ≡ es
all_other key first [] t h = refl
all_other key first (e ∷ es) t h =
    let less : by_expiry key e.0 ≡ Less = by_expiry_total.congr key first e.0 t ∙ h.0 in
    ap (λ (r : Ordering). cond (not (is_eq r)) (e ∷ filter (other_than key) es) (filter (other_than key) es)) less
    ∙ ap (λ (rest : List Expiry). e ∷ rest) (all_other key first es t h.1)

removed_by : (key : ℕ × ℕ) (e : Expiry) (es : List Expiry) (b : Bool) → is_at (by_expiry key) e.0 ≡ b → AllByRecursion (λ k. by_expiry e.0 k ≡ Less) (keys_of es)
    → remove_entry (is_at (by_expiry key)) es ≡ filter (other_than key) es
    → cond b es (e ∷ remove_entry (is_at (by_expiry key)) es) ≡ cond (not b) (e ∷ filter (other_than key) es) (filter (other_than key) es)
removed_by key e es true t h rest = sym (all_other key e.0 es ((Equal-is (by_expiry key e.0)).0 t) h)
removed_by key e es false t h rest = ap (λ (xs : List Expiry). e ∷ xs) rest

-- to remove a key is to keep the others
pub removed : (key : ℕ × ℕ) (es : List Expiry) → IsStrictlySortedBy by_expiry (keys_of es) → remove_entry (is_at (by_expiry key)) es ≡ filter (other_than key) es
unfolding IsStrictlySortedBy
removed key [] o = refl
removed key (e ∷ es) o = removed_by key e es (is_at (by_expiry key) e.0) refl o.0 (removed key es o.1)

second_decides : (r s : Ordering) → is_eq s ≡ false → is_eq (ordering_then r s) ≡ false
second_decides Less s h = refl
second_decides Equal s h = h
second_decides Greater s h = refl

not_equal : (l : Bool) → is_eq (cond l Less (cond false Equal Greater)) ≡ false
not_equal true = refl
not_equal false = refl

pub apart : (a b : ℕ × ℕ) → (a.1 == b.1) ≡ false → is_at (by_expiry a) b ≡ false
apart a b e =
    second_decides (nat_cmp a.0 b.0) (nat_cmp a.1 b.1)
    (ap (λ (q : Bool). is_eq (cond (nat_lt a.1 b.1) Less (cond q Equal Greater))) e ∙ not_equal (nat_lt a.1 b.1))

pub other_way : (a b : ℕ) → (a == b) ≡ false → (b == a) ≡ false
other_way a b h = grind (arith, nat_tests)

others_kept : (key : ℕ × ℕ) (hs : List Hold) → AllByRecursion (λ number. (key.1 == number) ≡ false) (origins hs)
    → filter (other_than key) (map expiry_of (filter (λ h. h.live) hs)) ≡ map expiry_of (filter (λ h. h.live) hs)
others_kept key [] h = refl
others_kept key (x ∷ hs) h =
    elim x.live as (λ t. filter (other_than key) (map expiry_of (cond t (x ∷ filter (λ k. k.live) hs) (filter (λ k. k.live) hs))) ≡ map expiry_of (cond t (x ∷ filter (λ k. k.live) hs) (filter (λ k. k.live) hs))) [
      | true ↦
          ap (λ (t : Bool). cond (not t) (expiry_of x ∷ filter (other_than key) (map expiry_of (filter (λ k. k.live) hs))) (filter (other_than key) (map expiry_of (filter (λ k. k.live) hs))))
          (apart key (expiry_of x).0 h.0)
          ∙ ap (λ (es : List Expiry). expiry_of x ∷ es) (others_kept key hs h.1)
      | false ↦ others_kept key hs h.1
    ]

pub number_at : (number : ℕ) (hs : List Hold) (i : ℕ) (h : Hold) → slice_get hs i ≡ Some h → AllByRecursion (λ other. (number == other) ≡ false) (origins hs) → (number == h.txn.origin) ≡ false
number_at number [] i h e a = cc
number_at number (x ∷ hs) zero h e a = let same : x ≡ h = cc in subst (λ (y : Hold). (number == y.txn.origin) ≡ false) same a.0
number_at number (x ∷ hs) (suc i) h e a = number_at number hs i h e a.1

kept_end : (hs : List Hold) (i : ℕ) (h : Hold) → slice_get hs i ≡ Some h → IsDistinct nat_eq (origins hs)
    → filter (other_than (h.txn.expires, h.txn.origin)) (map expiry_of (filter (λ k. k.live) hs)) ≡ map expiry_of (filter (λ k. k.live) (set hs i (ended h)))
unfolding IsDistinct
kept_end [] i h e d = cc
kept_end (x ∷ hs) zero h e d =
    let same : x ≡ h = cc in
    subst (λ (y : Hold). filter (other_than (y.txn.expires, y.txn.origin)) (map expiry_of (filter (λ k. k.live) (x ∷ hs))) ≡ map expiry_of (filter (λ k. k.live) hs)) same
    (elim x.live as (λ t. filter (other_than (x.txn.expires, x.txn.origin)) (map expiry_of (cond t (x ∷ filter (λ k. k.live) hs) (filter (λ k. k.live) hs))) ≡ map expiry_of (filter (λ k. k.live) hs)) [
      | true ↦
          ap (λ (r : Ordering). cond (not (is_eq r)) (expiry_of x ∷ filter (other_than (x.txn.expires, x.txn.origin)) (map expiry_of (filter (λ k. k.live) hs))) (filter (other_than (x.txn.expires, x.txn.origin)) (map expiry_of (filter (λ k. k.live) hs))))
          (tied_itself by_expiry_total (x.txn.expires, x.txn.origin))
          ∙ others_kept (x.txn.expires, x.txn.origin) hs d.0
      | false ↦ others_kept (x.txn.expires, x.txn.origin) hs d.0
    ])
kept_end (x ∷ hs) (suc i) h e d =
    let key : ℕ × ℕ = (h.txn.expires, h.txn.origin) in
    elim x.live as (λ t. filter (other_than key) (map expiry_of (cond t (x ∷ filter (λ k. k.live) hs) (filter (λ k. k.live) hs))) ≡ map expiry_of (cond t (x ∷ filter (λ k. k.live) (set hs i (ended h))) (filter (λ k. k.live) (set hs i (ended h))))) [
      | true ↦
          ap (λ (t : Bool). cond (not t) (expiry_of x ∷ filter (other_than key) (map expiry_of (filter (λ k. k.live) hs))) (filter (other_than key) (map expiry_of (filter (λ k. k.live) hs))))
          (apart key (expiry_of x).0 (other_way x.txn.origin h.txn.origin (number_at x.txn.origin hs i h e d.0)))
          ∙ ap (λ (es : List Expiry). expiry_of x ∷ es) (kept_end hs i h e d.1)
      | false ↦ kept_end hs i h e d.1
    ]

-- the expiries when a transaction has ended
pub expiries_less : (hs : List Hold) (i : ℕ) (h : Hold) → slice_get hs i ≡ Some h → IsDistinct nat_eq (origins hs)
    → filter (other_than (h.txn.expires, h.txn.origin)) (expiries hs) ≡ expiries (set hs i (ended h))
expiries_less hs i h e d =
    filter_fold (other_than (h.txn.expires, h.txn.origin)) [] (live_ones hs) tt
    ∙ ap (λ (es : List Expiry). fold with_expiry [] es) (kept_end hs i h e d)

kept_same : (hs : List Hold) (i : ℕ) (h k : Hold) → slice_get hs i ≡ Some h → k.txn ≡ h.txn → k.live ≡ h.live
    → map expiry_of (filter (λ a. a.live) (set hs i k)) ≡ map expiry_of (filter (λ a. a.live) hs)
kept_same [] i h k e t l = cc
kept_same (x ∷ hs) zero h k e t l =
    let same : x ≡ h = cc in
    let live : k.live ≡ x.live = l ∙ ap (λ (y : Hold). y.live) (sym same) in
    let expiry : expiry_of k ≡ expiry_of x = ap (λ (u : Txn). ((u.expires, u.origin), u.token)) (t ∙ ap (λ (y : Hold). y.txn) (sym same)) in
    ap (λ (b : Bool). map expiry_of (cond b (k ∷ filter (λ a. a.live) hs) (filter (λ a. a.live) hs))) live
    ∙ elim x.live as (λ b. map expiry_of (cond b (k ∷ filter (λ a. a.live) hs) (filter (λ a. a.live) hs)) ≡ map expiry_of (cond b (x ∷ filter (λ a. a.live) hs) (filter (λ a. a.live) hs))) [
      | true ↦ ap (λ (y : Expiry). y ∷ map expiry_of (filter (λ a. a.live) hs)) expiry
      | false ↦ refl
    ]
kept_same (x ∷ hs) (suc i) h k e t l =
    elim x.live as (λ b. map expiry_of (cond b (x ∷ filter (λ a. a.live) (set hs i k)) (filter (λ a. a.live) (set hs i k))) ≡ map expiry_of (cond b (x ∷ filter (λ a. a.live) hs) (filter (λ a. a.live) hs))) [
      | true ↦ ap (λ (es : List Expiry). expiry_of x ∷ es) (kept_same hs i h k e t l)
      | false ↦ kept_same hs i h k e t l
    ]

pub expiries_same : (hs : List Hold) (i : ℕ) (h k : Hold) → slice_get hs i ≡ Some h → k.txn ≡ h.txn → k.live ≡ h.live → expiries (set hs i k) ≡ expiries hs
expiries_same hs i h k e t l = ap (λ (es : List Expiry). fold with_expiry [] es) (kept_same hs i h k e t l)
