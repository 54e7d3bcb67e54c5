-- The queue and the tree are in order after each change.
use Rattle.std.proofs.Common.{◌≡◌, ℕ, zero, suc, nat_eq, ◌==◌, Bool, true, false, cond, List, [], ◌∷◌, ◌++◌, map, fold, filter, length, set, refl, sym, ap, ◌∙◌, subst}
use Rattle.std.specs.Prelude.{Some, None, slice_get, Result, Ok, Err, OnOk, OnErr}
use Rattle.std.specs.List.{IsDistinct, list_any, AllByRecursion}
use Rattle.std.specs.List.Sorted.{IsStrictlySortedBy}
use Rattle.std.specs.BTreeMap as tree
use Rattle.std.specs.BTreeMap.{BTreeMap, is_at, insert_entry}
use Rattle.std.specs.Map.{lookup, remove_entry, keys_of}
use Rattle.iss_model.specs.declared.txn.Txn.{Txn}
use Rattle.iss_index.proofs.Grown.{there_before}
use Rattle.iss_hold.specs.declared.hold.Hold.{Hold}
use Rattle.iss_hold.specs.Holdings.{begun, txn_of_hold}
use Rattle.iss_hold.specs.Expiries.{Expiry, expiry_of, live_ones, with_expiry, expiries}
use Rattle.iss_hold.specs.Indexes.{names, origins, by_expiry, with_name, key_of, AreQueued, AreLate, AreInOrder, BeginsLive, ComesLast}
use Rattle.iss_hold.proofs.IndexCalls.{other_key}
use Rattle.iss_hold.proofs.HoldSums.{map_set}
use Rattle.iss_hold.proofs.ExpiryOrder.{filter_fold}
use Rattle.iss_hold.proofs.Beginnings.{map_push, fold_push, expiries_more, NoneOf, none_fold, none_live, inserted}
use Rattle.iss_hold.proofs.Endings.{ended, other_than, removed, expiries_less, expiries_same}
use Rattle.iss_hold.proofs.NamedExpiries.{named_more, named_insert, named_remove, same_keys}
use Rattle.iss_hold.proofs.Queued.{queued_more, queued_push, ones_push, queued_set, queued_put, ones_same, ones_end}
use Rattle.iss_hold.proofs.Placed.{put_before, none_of_fold, rising_ordered}

pub length_names : (hs : List Hold) → length (names hs) ≡ length hs
length_names [] = refl
length_names (h ∷ hs) = ap suc (length_names hs)

names_more : (hs : List Hold) (t : Txn) → names (hs ++ begun t ∷ []) ≡ names hs ++ t.token ∷ []
names_more hs t = map_push (λ (h : Hold). h.txn.token) hs (begun t)

-- the tree's expiries rise
pub late_rising : {hs : List Hold} {late : BTreeMap (ℕ × ℕ) ℕ} {others : List Expiry} → AreLate hs late others → IsStrictlySortedBy by_expiry (keys_of others)
late_rising {hs} {late} {others} a = subst (λ (keys : List (ℕ × ℕ)). IsStrictlySortedBy by_expiry keys) (same_keys (names hs) late.entries others a.named) a.rising

-- ---- one more transaction

-- a new record's expiry isn't there
pub none_yet : (hs : List Hold) (origin : ℕ) → list_any (λ u. origin == u.txn.origin) (map txn_of_hold hs) ≡ false → NoneOf origin (expiries hs)
none_yet hs origin new = none_fold origin [] (live_ones hs) tt (none_live origin hs new)

no_key : (expires origin : ℕ) (es : List Expiry) → NoneOf origin es → AllByRecursion (λ key. is_at (by_expiry (expires, origin)) key ≡ false) (keys_of es)
no_key expires origin [] all = tt
no_key expires origin (e ∷ es) all = (other_key (expires, origin) e.0 all.0, no_key expires origin es all.1)

not_found : (key : ℕ × ℕ) (es : List ((ℕ × ℕ) × ℕ)) → AllByRecursion (λ k. is_at (by_expiry key) k ≡ false) (keys_of es) → lookup (is_at (by_expiry key)) es ≡ None
not_found key [] all = refl
not_found key (e ∷ es) all = ap (λ (b : Bool). cond b (Some e.1) (lookup (is_at (by_expiry key)) es)) all.0 ∙ not_found key es all.1

-- a new transaction's expiry isn't in the tree yet
pub not_late_yet : {hs : List Hold} {queue : List ℕ} {late : BTreeMap (ℕ × ℕ) ℕ} (expires origin : ℕ) → AreInOrder hs queue late
    → list_any (λ u. origin == u.txn.origin) (map txn_of_hold hs) ≡ false → tree.get by_expiry late (expires, origin) ≡ None
not_late_yet {hs} {queue} {late} expires origin a new =
    let none = none_of_fold origin a.others (live_ones a.queued) (subst (NoneOf origin) a.whole (none_yet hs origin new)) in
    not_found (expires, origin) late.entries
    (subst (λ (ks : List (ℕ × ℕ)). AllByRecursion (λ key. is_at (by_expiry (expires, origin)) key ≡ false) ks)
    (sym (same_keys (names hs) late.entries a.others a.rest.named)) (no_key expires origin a.others none.0))

-- it is entered at the queue's end
pub in_order_pushed : {hs : List Hold} {queue : List ℕ} {late : BTreeMap (ℕ × ℕ) ℕ} (t : Txn) → AreInOrder hs queue late → ComesLast hs queue (t.expires, t.origin)
    → AreInOrder (hs ++ begun t ∷ []) (queue ++ length hs ∷ []) late
in_order_pushed {hs} {queue} {late} t a last =
    record {
      queued = a.queued ++ begun t ∷ [];
      others = a.others;
      places = queued_push (begun t) a.places (last.after a.queued a.places);
      rest = record {
        named = ap (λ (ns : List (List ℕ)). map (with_name ns) late.entries) (names_more hs t) ∙ named_more (names hs) t.token late.entries a.others a.rest.named;
        rising = a.rest.rising;
      };
      whole =
          expiries_more hs t
          ∙ ap (λ (es : List Expiry). with_expiry es (expiry_of (begun t))) a.whole
          ∙ sym (fold_push with_expiry a.others (live_ones a.queued) (expiry_of (begun t)))
          ∙ ap (λ (es : List Expiry). fold with_expiry a.others es) (sym (ones_push a.queued t));
    }

-- it is entered in the tree
pub in_order_entered : {hs : List Hold} {queue : List ℕ} {late more : BTreeMap (ℕ × ℕ) ℕ} (t : Txn) → AreInOrder hs queue late
    → list_any (λ u. t.origin == u.txn.origin) (map txn_of_hold hs) ≡ false
    → more.entries ≡ insert_entry by_expiry late.entries (t.expires, t.origin) (length hs) → tree.IsOrdered by_expiry more
    → AreInOrder (hs ++ begun t ∷ []) queue more
in_order_entered {hs} {queue} {late} {more} t a new entries rising =
    let e : Expiry = expiry_of (begun t) in
    let none = none_of_fold t.origin a.others (live_ones a.queued) (subst (NoneOf t.origin) a.whole (none_yet hs t.origin new)) in
    record {
      queued = a.queued;
      others = insert_entry by_expiry a.others (t.expires, t.origin) t.token;
      places = queued_more (begun t) a.places;
      rest = record {
        named =
            (λ j. map (with_name (names_more hs t j)) (entries j))
            ∙ named_insert (names hs) t.token late.entries a.others (t.expires, t.origin) (length hs) (sym (length_names hs)) a.rest.named;
        rising = rising;
      };
      whole =
          expiries_more hs t
          ∙ ap (λ (es : List Expiry). with_expiry es e) a.whole
          ∙ put_before e a.others (live_ones a.queued) none.1
          ∙ ap (λ (es : List Expiry). fold with_expiry es (live_ones a.queued)) (sym (inserted e a.others none.0));
    }

pub begins_pushed : {hs : List Hold} {queue : List ℕ} (t : Txn) → BeginsLive hs queue → (queued : List Hold) → AreQueued hs queue queued → BeginsLive (hs ++ begun t ∷ []) (queue ++ length hs ∷ [])
begins_pushed {hs} {queue} t b queued a = record { live = by queue queued a.there b.live }
  where
    last : (ks : List Hold) → slice_get (ks ++ begun t ∷ []) (length ks) ≡ Some (begun t)
    last [] = refl
    last (k ∷ ks) = last ks

    by : (queue : List ℕ) (ks : List Hold) → map (λ p. slice_get hs p) queue ≡ map (λ k. Some k) ks
        → ((place : ℕ) (hold : Hold) → slice_get queue 0 ≡ Some place → slice_get hs place ≡ Some hold → hold.live ≡ true)
        → (place : ℕ) (hold : Hold) → slice_get (queue ++ length hs ∷ []) 0 ≡ Some place → slice_get (hs ++ begun t ∷ []) place ≡ Some hold → hold.live ≡ true
    by [] ks there live place hold first at =
        let one : length hs ≡ place = cc in
        let own : Some (begun t) ≡ Some hold = sym (last hs) ∙ ap (λ (p : ℕ). slice_get (hs ++ begun t ∷ []) p) one ∙ at in
        let same : begun t ≡ hold = cc in
        ap (λ (k : Hold). k.live) (sym same)
    by (p ∷ queue) [] there live place hold first at = cc
    by (p ∷ queue) (k ∷ ks) there live place hold first at =
        let one : p ≡ place = cc in
        let here : slice_get hs p ≡ Some k = cc in
        let stays : slice_get (hs ++ begun t ∷ []) place ≡ Some k = subst (λ (i : ℕ). slice_get (hs ++ begun t ∷ []) i ≡ Some k) one (there_before hs (begun t) p k here) in
        let same : k ≡ hold = cc in
        subst (λ (x : Hold). x.live ≡ true) same (live p k refl here)

pub begins_more : {hs : List Hold} {queue : List ℕ} (t : Txn) → BeginsLive hs queue → (queued : List Hold) → AreQueued hs queue queued → BeginsLive (hs ++ begun t ∷ []) queue
begins_more {hs} {queue} t b queued a = record { live = by queue queued a.there b.live }
  where
    by : (queue : List ℕ) (ks : List Hold) → map (λ p. slice_get hs p) queue ≡ map (λ k. Some k) ks
        → ((place : ℕ) (hold : Hold) → slice_get queue 0 ≡ Some place → slice_get hs place ≡ Some hold → hold.live ≡ true)
        → (place : ℕ) (hold : Hold) → slice_get queue 0 ≡ Some place → slice_get (hs ++ begun t ∷ []) place ≡ Some hold → hold.live ≡ true
    by [] ks there live place hold first at = cc
    by (p ∷ queue) [] there live place hold first at = cc
    by (p ∷ queue) (k ∷ ks) there live place hold first at =
        let one : p ≡ place = cc in
        let here : slice_get hs p ≡ Some k = cc in
        let stays : slice_get (hs ++ begun t ∷ []) place ≡ Some k = subst (λ (i : ℕ). slice_get (hs ++ begun t ∷ []) i ≡ Some k) one (there_before hs (begun t) p k here) in
        let same : k ≡ hold = cc in
        subst (λ (x : Hold). x.live ≡ true) same (live p k refl here)

-- what a start leaves if it may fail, with its place at the queue's end
module _ {T E : Type 0} (r : Result T E) {hs started : List Hold} {queue pushed : List ℕ} (t : Txn) {place : ℕ} where
  pub pushed_order : {late : BTreeMap (ℕ × ℕ) ℕ} → place ≡ length hs → AreInOrder hs queue late → ComesLast hs queue (t.expires, t.origin)
      → OnOk r (started ≡ hs ++ begun t ∷ []) → OnOk r (pushed ≡ queue ++ place ∷ []) → OnErr r (started ≡ hs) → OnErr r (pushed ≡ queue) → AreInOrder started pushed late
  pushed_order {late} at a last added grown stay still = by r added grown stay still
    where
      by : (s : Result T E) → OnOk s (started ≡ hs ++ begun t ∷ []) → OnOk s (pushed ≡ queue ++ place ∷ []) → OnErr s (started ≡ hs) → OnErr s (pushed ≡ queue) → AreInOrder started pushed late
      by (Ok x) e f g h =
          subst (λ (ks : List Hold). AreInOrder ks pushed late) (sym e)
          (subst (λ (q : List ℕ). AreInOrder (hs ++ begun t ∷ []) q late) (sym (f ∙ ap (λ (p : ℕ). queue ++ p ∷ []) at)) (in_order_pushed t a last))
      by (Err x) e f g h = subst (λ (ks : List Hold). AreInOrder ks pushed late) (sym g) (subst (λ (q : List ℕ). AreInOrder hs q late) (sym h) a)

  pub pushed_first : place ≡ length hs → {queued : List Hold} → AreQueued hs queue queued → BeginsLive hs queue
      → OnOk r (started ≡ hs ++ begun t ∷ []) → OnOk r (pushed ≡ queue ++ place ∷ []) → OnErr r (started ≡ hs) → OnErr r (pushed ≡ queue) → BeginsLive started pushed
  pushed_first at {queued} a b added grown stay still = by r added grown stay still
    where
      by : (s : Result T E) → OnOk s (started ≡ hs ++ begun t ∷ []) → OnOk s (pushed ≡ queue ++ place ∷ []) → OnErr s (started ≡ hs) → OnErr s (pushed ≡ queue) → BeginsLive started pushed
      by (Ok x) e f g h =
          subst (λ (ks : List Hold). BeginsLive ks pushed) (sym e)
          (subst (λ (q : List ℕ). BeginsLive (hs ++ begun t ∷ []) q) (sym (f ∙ ap (λ (p : ℕ). queue ++ p ∷ []) at)) (begins_pushed t b queued a))
      by (Err x) e f g h = subst (λ (ks : List Hold). BeginsLive ks pushed) (sym g) (subst (λ (q : List ℕ). BeginsLive hs q) (sym h) b)

-- the same, with its place in the tree
module _ {T E : Type 0} (r : Result T E) {hs started : List Hold} {queue : List ℕ} (t : Txn) where
  pub entered_order : {late more : BTreeMap (ℕ × ℕ) ℕ} {place : ℕ} → place ≡ length hs → AreInOrder hs queue late → list_any (λ u. t.origin == u.txn.origin) (map txn_of_hold hs) ≡ false
      → OnOk r (started ≡ hs ++ begun t ∷ []) → OnOk r (more.entries ≡ insert_entry by_expiry late.entries (t.expires, t.origin) place)
      → (tree.IsOrdered by_expiry late → tree.IsOrdered by_expiry more) → OnErr r (started ≡ hs) → OnErr r (more.entries ≡ late.entries) → AreInOrder started queue more
  entered_order {late} {more} {place} at a new added grown rising stay still = by r added grown stay still
    where
      by : (s : Result T E) → OnOk s (started ≡ hs ++ begun t ∷ []) → OnOk s (more.entries ≡ insert_entry by_expiry late.entries (t.expires, t.origin) place) → OnErr s (started ≡ hs) → OnErr s (more.entries ≡ late.entries)
          → AreInOrder started queue more
      by (Ok x) e f g h =
          subst (λ (ks : List Hold). AreInOrder ks queue more) (sym e)
          (in_order_entered t a new (f ∙ ap (λ (p : ℕ). insert_entry by_expiry late.entries (t.expires, t.origin) p) at) (rising a.rest.rising))
      by (Err x) e f g h =
          subst (λ (ks : List Hold). AreInOrder ks queue more) (sym g)
          (record {
            queued = a.queued;
            others = a.others;
            places = a.places;
            rest = record { named = ap (λ (es : List ((ℕ × ℕ) × ℕ)). map (with_name (names hs)) es) h ∙ a.rest.named; rising = rising a.rest.rising };
            whole = a.whole;
          })

  pub entered_first : {queued : List Hold} → AreQueued hs queue queued → BeginsLive hs queue → OnOk r (started ≡ hs ++ begun t ∷ []) → OnErr r (started ≡ hs) → BeginsLive started queue
  entered_first {queued} a b added stay = by r added stay
    where
      by : (s : Result T E) → OnOk s (started ≡ hs ++ begun t ∷ []) → OnErr s (started ≡ hs) → BeginsLive started queue
      by (Ok x) e g = subst (λ (ks : List Hold). BeginsLive ks queue) (sym e) (begins_more t b queued a)
      by (Err x) e g = subst (λ (ks : List Hold). BeginsLive ks queue) (sym g) b

-- ---- another in the place of a hold

-- of the same transaction, which is live if it was
pub in_order_same : {hs : List Hold} {queue : List ℕ} {late : BTreeMap (ℕ × ℕ) ℕ} (i : ℕ) (h k : Hold) → slice_get hs i ≡ Some h → k.txn ≡ h.txn → k.live ≡ h.live
    → AreInOrder hs queue late → AreInOrder (set hs i k) queue late
in_order_same {hs} {queue} {late} i h k at txn live a =
    let ns : names (set hs i k) ≡ names hs = map_set (λ (x : Hold). x.txn.token) hs i h k at (ap (λ (t : Txn). t.token) txn) in
    record {
      queued = queued_set i k queue a.queued;
      others = a.others;
      places = queued_put i k at (ap (λ (t : Txn). (t.expires, t.origin)) txn) a.places;
      rest = record { named = ap (λ (xs : List (List ℕ)). map (with_name xs) late.entries) ns ∙ a.rest.named; rising = a.rest.rising };
      whole =
          expiries_same hs i h k at txn live ∙ a.whole
          ∙ ap (λ (es : List Expiry). fold with_expiry a.others es) (sym (ones_same hs i h k at (ap (λ (t : Txn). ((t.expires, t.origin), t.token)) txn) live queue a.queued a.places.there));
    }

pub begins_same : {hs : List Hold} {queue : List ℕ} (i : ℕ) (h k : Hold) → slice_get hs i ≡ Some h → k.live ≡ h.live → BeginsLive hs queue → BeginsLive (set hs i k) queue
begins_same {hs} {queue} i h k at live b = record { live = λ place hold first there. by hs i place at there (λ x e. b.live place x first e) }
  where
    by : (hs : List Hold) (i place : ℕ) {hold : Hold} → slice_get hs i ≡ Some h → slice_get (set hs i k) place ≡ Some hold → ((x : Hold) → slice_get hs place ≡ Some x → x.live ≡ true) → hold.live ≡ true
    by [] i place at there was = cc
    by (x ∷ hs) zero zero {hold} at there was =
        let same : k ≡ hold = cc in
        ap (λ (y : Hold). y.live) (sym same) ∙ live ∙ was h at
    by (x ∷ hs) zero (suc place) {hold} at there was = was hold there
    by (x ∷ hs) (suc i) zero {hold} at there was = was hold there
    by (x ∷ hs) (suc i) (suc place) at there was = by hs i place at there was

-- whose transaction has ended
pub in_order_end : {hs : List Hold} {queue : List ℕ} {late less : BTreeMap (ℕ × ℕ) ℕ} (i : ℕ) (h : Hold) → AreInOrder hs queue late → slice_get hs i ≡ Some h → IsDistinct nat_eq (origins hs)
    → less.entries ≡ remove_entry (is_at (by_expiry (key_of h))) late.entries → tree.IsOrdered by_expiry less
    → AreInOrder (set hs i (ended h)) queue less
in_order_end {hs} {queue} {late} {less} i h a at once entries rising =
    let ns : names (set hs i (ended h)) ≡ names hs = map_set (λ (x : Hold). x.txn.token) hs i h (ended h) at refl in
    let keys = late_rising a.rest in
    record {
      queued = queued_set i (ended h) queue a.queued;
      others = remove_entry (is_at (by_expiry (key_of h))) a.others;
      places = queued_put i (ended h) at refl a.places;
      rest = record {
        named =
            (λ j. map (with_name (ns j)) (entries j))
            ∙ named_remove (names hs) late.entries a.others (is_at (by_expiry (key_of h))) a.rest.named;
        rising = rising;
      };
      whole =
          sym (expiries_less hs i h at once)
          ∙ ap (λ (es : List Expiry). filter (other_than (key_of h)) es) a.whole
          ∙ filter_fold (other_than (key_of h)) a.others (live_ones a.queued) (rising_ordered a.others keys)
          ∙ (λ j. fold with_expiry (sym (removed (key_of h) a.others keys) j) (sym (ones_end hs i h at once queue a.queued a.places.there) j));
    }

-- ---- the first of the queue

first_goes : (hs : List Hold) (late : BTreeMap (ℕ × ℕ) ℕ) (p : ℕ) (queue : List ℕ) (others : List Expiry) (queued : List Hold)
    → AreQueued hs (p ∷ queue) queued → AreLate hs late others → expiries hs ≡ fold with_expiry others (live_ones queued)
    → ((h : Hold) → slice_get hs p ≡ Some h → h.live ≡ false) → AreInOrder hs queue late
unfolding IsStrictlySortedBy
first_goes hs late p queue others [] a rest whole over = let there = a.there in cc
first_goes hs late p queue others (k ∷ ks) a rest whole over =
    let there = a.there in
    let here : slice_get hs p ≡ Some k = cc in
    record {
      queued = ks;
      others = others;
      places = record { there = (cc); rising = a.rising.1 };
      rest = rest;
      whole = whole ∙ ap (λ (b : Bool). fold with_expiry others (map expiry_of (cond b (k ∷ filter (λ h. h.live) ks) (filter (λ h. h.live) ks)))) (over k here);
    }

-- one that has ended is dropped from the front
pub in_order_dropped : {hs : List Hold} {p : ℕ} {queue : List ℕ} {late : BTreeMap (ℕ × ℕ) ℕ} → AreInOrder hs (p ∷ queue) late → ((h : Hold) → slice_get hs p ≡ Some h → h.live ≡ false) → AreInOrder hs queue late
in_order_dropped {hs} {p} {queue} {late} a over = first_goes hs late p queue a.others a.queued a.places a.rest a.whole over

-- no transaction
pub in_order_none : {hs : List Hold} {queue : List ℕ} {late : BTreeMap (ℕ × ℕ) ℕ} → hs ≡ [] → queue ≡ [] → late.entries ≡ [] → tree.IsOrdered by_expiry late → AreInOrder hs queue late
unfolding IsStrictlySortedBy
in_order_none {hs} {queue} {late} none empty entries rising =
    record {
      queued = [];
      others = [];
      places = record { there = ap (λ (ps : List ℕ). map (λ p. slice_get hs p) ps) empty; rising = tt };
      rest = record { named = ap (λ (es : List ((ℕ × ℕ) × ℕ)). map (with_name (names hs)) es) entries; rising = rising };
      whole = ap expiries none;
    }

pub begins_none : {hs : List Hold} {queue : List ℕ} → queue ≡ [] → BeginsLive hs queue
begins_none {hs} {queue} empty = record { live = λ place hold first there. never place (sym (ap (λ (ps : List ℕ). slice_get ps 0) empty) ∙ first) }
  where
    never : (place : ℕ) {P : Type 0} → None ≡ Some place → P
    never place e = cc
