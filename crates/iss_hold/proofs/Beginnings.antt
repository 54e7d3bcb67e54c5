-- What changes when a transaction begins, and when it ends.
use Rattle.std.proofs.Common.{◌≡◌, ℕ, nat_lt, ◌==◌, Bool, true, false, cond, not, ◌&&◌, ◌||◌, List, [], ◌∷◌, ◌++◌, map, fold, filter, refl, sym, ap, ◌∙◌}
use Rattle.std.specs.Prelude.{Some, None}
use Rattle.std.specs.List.{AllByRecursion, list_any}
use Rattle.std.specs.declared.cmp.Ordering.TheVariants.{Less, Equal, Greater}
use Rattle.std.specs.Ordering.{ordering_then, match_ordering}
use Rattle.std.specs.Str.{bytes_eq}
use Rattle.std.specs.BTreeMap.{insert_entry}
use Rattle.iss_model.specs.declared.txn.Txn.{Txn}
use Rattle.iss_model.specs.rules.Due.{is_before}
use Rattle.iss_model.specs.rules.Activity.{TxnNow, txn_named}
use Rattle.iss_model.specs.state.Kept.{Kept, nothing_kept, after_changes}
use Rattle.iss_model.specs.state.Cores.{is_live, with_txn}
use Rattle.iss_hold.specs.declared.hold.Hold.{Hold}
use Rattle.iss_hold.specs.Holdings.{begun, txn_of_hold, part_sums, user_sums, holdings_of}
use Rattle.iss_hold.specs.Expiries.{Expiry, expiry_of, item_of, with_expiry, expiries}
use Rattle.iss_hold.specs.Indexes.{by_expiry}

pub fold_push : {S A : Type 0} (f : S → A → S) (s : S) (xs : List A) (x : A) → fold f s (xs ++ x ∷ []) ≡ f (fold f s xs) x
fold_push f s [] x = refl
fold_push f s (a ∷ xs) x = fold_push f (f s a) xs x

pub map_push : {A B : Type 0} (f : A → B) (xs : List A) (x : A) → map f (xs ++ x ∷ []) ≡ map f xs ++ f x ∷ []
map_push f [] x = refl
map_push f (a ∷ xs) x = ap (λ bs. f a ∷ bs) (map_push f xs x)

none_ended_by : (name : List ℕ) (t : TxnNow) (ts : List TxnNow) (b : Bool) → bytes_eq t.txn.token name ≡ b
    → (txn_named name ts ≡ None → list_any (λ u. bytes_eq u.txn.token name && not u.live) ts ≡ false)
    → cond b (Some t) (txn_named name ts) ≡ None → list_any (λ u. bytes_eq u.txn.token name && not u.live) (t ∷ ts) ≡ false
none_ended_by name t ts true p rest q = cc
none_ended_by name t ts false p rest q =
    let none = rest q in
    rw (p, none) refl

none_ended : (name : List ℕ) (ts : List TxnNow) → txn_named name ts ≡ None → list_any (λ t. bytes_eq t.txn.token name && not t.live) ts ≡ false
none_ended name [] e = refl
none_ended name (t ∷ ts) e = none_ended_by name t ts (bytes_eq t.txn.token name) refl (none_ended name ts) e

-- the holdings with one more transaction
pub holdings_more : (hs : List Hold) (t : Txn) → txn_named t.token (map txn_of_hold hs) ≡ None → holdings_of (hs ++ begun t ∷ []) ≡ with_txn (holdings_of hs) t
holdings_more hs t none =
    let live : is_live (map txn_of_hold hs) t.token ≡ true = ap not (none_ended t.token (map txn_of_hold hs) none) in
    let txns : map txn_of_hold (hs ++ begun t ∷ []) ≡ map txn_of_hold hs ++ record { txn = t; live = is_live (map txn_of_hold hs) t.token } ∷ [] =
    map_push txn_of_hold hs (begun t) ∙ ap (λ (b : Bool). map txn_of_hold hs ++ record { txn = t; live = b } ∷ []) (sym live) in
    let parts = fold_push (λ (kept : Kept) (h : Hold). after_changes kept (part_sums h)) nothing_kept hs (begun t) in
    let held = fold_push (λ (kept : Kept) (h : Hold). after_changes kept (user_sums h)) nothing_kept hs (begun t) in
    λ j. record { txns = txns j; parts = parts j; held = held j }

pub filter_push : (hs : List Hold) (h : Hold) → h.live ≡ true → filter (λ k. k.live) (hs ++ h ∷ []) ≡ filter (λ k. k.live) hs ++ h ∷ []
filter_push [] h e = ap (λ (b : Bool). cond b (h ∷ []) []) e
filter_push (a ∷ hs) h e =
    elim a.live as (λ t. cond t (a ∷ filter (λ k. k.live) (hs ++ h ∷ [])) (filter (λ k. k.live) (hs ++ h ∷ [])) ≡ cond t (a ∷ filter (λ k. k.live) hs) (filter (λ k. k.live) hs) ++ h ∷ []) [
      | true ↦ ap (λ (ks : List Hold). a ∷ ks) (filter_push hs h e)
      | false ↦ filter_push hs h e
    ]

pub expiries_more : (hs : List Hold) (t : Txn) → expiries (hs ++ begun t ∷ []) ≡ with_expiry (expiries hs) (expiry_of (begun t))
expiries_more hs t =
    ap (λ (ks : List Hold). fold with_expiry [] (map expiry_of ks)) (filter_push hs (begun t) refl)
    ∙ ap (λ (es : List Expiry). fold with_expiry [] es) (map_push expiry_of (filter (λ k. k.live) hs) (begun t))
    ∙ fold_push with_expiry [] (map expiry_of (filter (λ k. k.live) hs)) (expiry_of (begun t))

-- no expiry is of this record
abbrev pub NoneOf : ℕ → List Expiry → Type 0
NoneOf number es = AllByRecursion (λ e. (number == e.0.1) ≡ false) es

pub none_with : (number : ℕ) (x : Expiry) (es : List Expiry) → (number == x.0.1) ≡ false → NoneOf number es → NoneOf number (with_expiry es x)
none_with number x [] h n = (h, tt)
none_with number x (a ∷ es) h n =
    elim (is_before (item_of x) (item_of a)) as (λ t. NoneOf number (cond t (x ∷ a ∷ es) (a ∷ with_expiry es x))) [ true ↦ (h, (n.0, n.1)) | false ↦ (n.0, none_with number x es h n.1) ]

pub none_fold : (number : ℕ) (acc xs : List Expiry) → NoneOf number acc → NoneOf number xs → NoneOf number (fold with_expiry acc xs)
none_fold number acc [] n m = n
none_fold number acc (x ∷ xs) n m = none_fold number (with_expiry acc x) xs (none_with number x acc m.0 n) m.1

none_or : (a b : Bool) → (a || b) ≡ false → (a ≡ false) × (b ≡ false)
none_or true b h = cc
none_or false b h = (refl, h)

pub none_live : (number : ℕ) (hs : List Hold) → list_any (λ t. number == t.txn.origin) (map txn_of_hold hs) ≡ false → NoneOf number (map expiry_of (filter (λ h. h.live) hs))
none_live number [] e = tt
none_live number (h ∷ hs) e =
    let parts = none_or (number == h.txn.origin) (list_any (λ t. number == t.txn.origin) (map txn_of_hold hs)) e in
    elim h.live as (λ t. NoneOf number (map expiry_of (cond t (h ∷ filter (λ k. k.live) hs) (filter (λ k. k.live) hs)))) [
      | true ↦ (parts.0, none_live number hs parts.1)
      | false ↦ none_live number hs parts.1
    ]

goes_by : {A : Type 0} (l q m n : Bool) (a b c : A) → n ≡ false
    → match_ordering (ordering_then (cond l Less (cond q Equal Greater)) (cond m Less (cond n Equal Greater))) a b c ≡ cond (l || q && (false || true && m)) a c
goes_by true q m n a b c e = refl
goes_by false true true n a b c e = refl
goes_by false true false true a b c e = cc
goes_by false true false false a b c e = refl
goes_by false false m n a b c e = refl

-- to insert an expiry of a new record is to place it
pub inserted : (x : Expiry) (es : List Expiry) → NoneOf x.0.1 es → insert_entry by_expiry es x.0 x.1 ≡ with_expiry es x
inserted x [] n = refl
inserted x (a ∷ es) n =
    goes_by (nat_lt x.0.0 a.0.0) (x.0.0 == a.0.0) (nat_lt x.0.1 a.0.1) (x.0.1 == a.0.1) (x ∷ a ∷ es) ((a.0, x.1) ∷ es) (a ∷ insert_entry by_expiry es x.0 x.1) n.0
    ∙ ap (λ (rest : List Expiry). cond (is_before (item_of x) (item_of a)) (x ∷ a ∷ es) (a ∷ rest)) (inserted x es n.1)
