-- What calls on a started transaction make of the holdings, each of which changes one hold.
use Rattle.std.proofs.Common.{◌≡◌, ℕ, zero, suc, ◌+◌, ◌-◌, ◌<◌, ◌≤◌, ◌^◌, ◌==◌, ℤ, pos, negsuc, neg_ℤ, ◌+ℤ◌, Bool, true, false, cond, ◌&&◌, ◌<ℤ◌, List, [], ◌∷◌, ◌++◌, length, map, fold, set, refl, sym, ap, ap₂, ◌∙◌, subst, arith}
use Rattle.std.proofs.lemmas.Int.{ints}
use Rattle.std.proofs.lemmas.List.{length-map}
use Rattle.std.proofs.lemmas.Bool.Decides.{nat_tests}
use Rattle.std.specs.Prelude.{Option, Some, slice_get, unwrap_or, None, is_some, ◌≤ℤ◌}
use Rattle.std.specs.List.{IsDistinct}
use Rattle.std.specs.Str.{bytes_eq}
use Rattle.std.specs.BTreeMap.{BTreeMap}
use Rattle.iss_model.specs.declared.account.Part.{Part}
use Rattle.iss_model.specs.declared.account.Part.TheVariants as part
use Rattle.iss_model.specs.declared.txn.Txn.{Txn}
use Rattle.iss_model.specs.declared.entry.Entry.{Entry}
use Rattle.iss_model.specs.declared.entry.Entry.TheVariants as entry
use Rattle.iss_model.specs.declared.currency.Currency.{Currency}
use Rattle.iss_model.specs.Currencies.{iso_number}
use Rattle.iss_model.specs.Sums.{part_key, user_key}
use Rattle.iss_model.specs.state.Kept.{nothing_kept, kept_at}
use Rattle.iss_model.specs.rules.Activity.{TxnNow, txn_named}
use Rattle.iss_model.specs.rules.Facts.{not_below}
use Rattle.iss_model.specs.rules.Pieces.{Parts, hold_entries, unhold_entries, taken_to_clear, taken_to_release}
use Rattle.iss_model.specs.state.Cores.{Holdings, with_hold}
use Rattle.std.specs.FinMap as finite
use Rattle.std.specs.Cmp.Lexicographic.{slice_cmp}
use Rattle.std.specs.Ordering.{nat_cmp}
use Rattle.iss_index.specs.Places.{place_of}
use Rattle.iss_hold.specs.declared.hold.Hold.{Hold}
use Rattle.iss_hold.specs.declared.hold.Taken.{Taken}
use Rattle.iss_hold.specs.Holdings.{txn_of_hold, part_of, with_part, parts_of_hold, without_parts, whole_of, part_sums, sums_from, holdings_of}
use Rattle.iss_hold.specs.Bounds.{AreLow}
use Rattle.iss_hold.specs.Entries.{after_holds, entries_on, change_entries, IsHoldCovered, parts_in, clearing_unhold_entries, release_unhold_entries, taken_in_all, parts_taken}
use Rattle.iss_hold.specs.Indexes.{names, is_of, total_of, ArePlaced, AreSummed, IsAt}
use Rattle.iss_hold.proofs.HoldSums.{holdings_set}
use Rattle.iss_hold.proofs.HoldTotals.{user_total, part_kept, whole_within, total_set}
use Rattle.iss_hold.proofs.Places.{has_place, place_is}
use Rattle.iss_hold.proofs.IndexCalls.{none_some}
use Rattle.iss_hold.proofs.Changes.{get_set}

set_own : (hs : List Hold) (i : ℕ) (h : Hold) → slice_get hs i ≡ Some h → set hs i h ≡ hs
set_own [] i h e = cc
set_own (x ∷ hs) zero h e = let same : x ≡ h = cc in ap (λ (y : Hold). y ∷ hs) (sym same)
set_own (x ∷ hs) (suc i) h e = ap (λ (ys : List Hold). x ∷ ys) (set_own hs i h e)

set_set : (hs : List Hold) (i : ℕ) (h k : Hold) → set (set hs i h) i k ≡ set hs i k
set_set [] i h k = refl
set_set (x ∷ hs) zero h k = refl
set_set (x ∷ hs) (suc i) h k = ap (λ (ys : List Hold). x ∷ ys) (set_set hs i h k)

same_txn : (p : Part) (n : ℕ) (h : Hold) → (with_part p n h).txn ≡ h.txn
same_txn part.G n h = refl
same_txn part.P n h = refl
same_txn part.S n h = refl

with_own : (p : Part) (h : Hold) → with_part p (part_of p h) h ≡ h
with_own part.G h = refl
with_own part.P h = refl
with_own part.S h = refl

step_by : (hs : List Hold) (i : ℕ) (h : Hold) (p : Part) (n : ℕ) (z : ℤ) (none : Bool) → slice_get hs i ≡ Some h → pos (part_of p h) +ℤ z ≡ pos n
    → (none ≡ true → n ≡ part_of p h)
    → holdings_of (set hs i (with_part p n h)) ≡ fold with_hold (holdings_of hs) (cond none [] (entry.Hold h.txn.token h.txn.user h.txn.currency p z ∷ []))
step_by hs i h p n z true at e own =
    ap (λ (k : Hold). holdings_of (set hs i k)) (ap (λ (m : ℕ). with_part p m h) (own refl) ∙ with_own p h) ∙ ap holdings_of (set_own hs i h at)
step_by hs i h p n z false at e own = holdings_set hs i h p n z at e

is_zero : (n : ℕ) → (n == 0) ≡ true → n ≡ 0
is_zero n h = grind (arith, nat_tests)

-- more in a part
more_held : (hs : List Hold) (i : ℕ) (h : Hold) (p : Part) (amount : ℕ) → slice_get hs i ≡ Some h
    → holdings_of (set hs i (with_part p (part_of p h + amount) h)) ≡ fold with_hold (holdings_of hs) (hold_entries h.txn p amount)
more_held hs i h p amount at =
    step_by hs i h p (part_of p h + amount) (pos amount) (amount == 0) at (omega (arith, ints))
    (λ (e : (amount == 0) ≡ true). let none = is_zero amount e in omega arith)

-- less in a part
less_held : (hs : List Hold) (i : ℕ) (h : Hold) (p : Part) (amount : ℕ) → slice_get hs i ≡ Some h → amount ≤ part_of p h
    → holdings_of (set hs i (with_part p (part_of p h - amount) h)) ≡ fold with_hold (holdings_of hs) (unhold_entries h.txn p amount)
less_held hs i h p amount at within =
    step_by hs i h p (part_of p h - amount) (neg_ℤ (pos amount)) (amount == 0) at (omega (arith, ints))
    (λ (e : (amount == 0) ≡ true). let none = is_zero amount e in omega arith)

fold_on : (h : Holdings) (xs ys : List Entry) → fold with_hold h (xs ++ ys) ≡ fold with_hold (fold with_hold h xs) ys
fold_on h [] ys = refl
fold_on h (x ∷ xs) ys = fold_on (with_hold h x) xs ys

-- three parts let go, one after the other
abbrev go : Part → ℕ → Hold → Hold
go p amount h = with_part p (part_of p h - amount) h

three_gone : (hs : List Hold) (i : ℕ) (h : Hold) (p q r : Part) (a b c : ℕ) → slice_get hs i ≡ Some h → a ≤ part_of p h → b ≤ part_of q (go p a h) → c ≤ part_of r (go q b (go p a h))
    → holdings_of (set hs i (go r c (go q b (go p a h)))) ≡ fold with_hold (holdings_of hs) (unhold_entries h.txn p a ++ unhold_entries h.txn q b ++ unhold_entries h.txn r c)
three_gone hs i h p q r a b c at ha hb hc =
    let h1 : Hold = go p a h in
    let h2 : Hold = go q b h1 in
    let h3 : Hold = go r c h2 in
    let at1 = get_set hs i h h1 at in
    let at2 = get_set (set hs i h1) i h1 h2 at1 in
    ap holdings_of (sym (set_set hs i h2 h3) ∙ ap (λ (xs : List Hold). set xs i h3) (sym (set_set hs i h1 h2)))
    ∙ less_held (set (set hs i h1) i h2) i h2 r c at2 hc
    ∙ ap₂ (λ (s : Holdings) (t : Txn). fold with_hold s (unhold_entries t r c))
    (less_held (set hs i h1) i h1 q b at1 hb
    ∙ ap₂ (λ (s : Holdings) (t : Txn). fold with_hold s (unhold_entries t q b)) (less_held hs i h p a at ha) (same_txn p (part_of p h - a) h)
    ∙ sym (fold_on (holdings_of hs) (unhold_entries h.txn p a) (unhold_entries h.txn q b)))
    (same_txn q (part_of q h1 - b) h1 ∙ same_txn p (part_of p h - a) h)
    ∙ sym (fold_on (holdings_of hs) (unhold_entries h.txn p a ++ unhold_entries h.txn q b) (unhold_entries h.txn r c))

-- what a taking of an amount lets go of a hold, and its entries
abbrev pub IsTaking : (Parts → ℕ → Parts) → (Parts → Txn → List Entry) → Type 0
IsTaking take entries = (hs : List Hold) (i : ℕ) (h : Hold) (amount : ℕ) → slice_get hs i ≡ Some h
    → holdings_of (set hs i (without_parts (take (parts_of_hold h) amount) h)) ≡ fold with_hold (holdings_of hs) (entries (take (parts_of_hold h) amount) h.txn)

pub clearing : IsTaking taken_to_clear clearing_unhold_entries
clearing hs i h amount at =
    let taken = taken_to_clear (parts_of_hold h) amount in
    three_gone hs i h part.G part.P part.S taken.g taken.p taken.s at (omega arith) (omega arith) (omega arith)

pub releasing : IsTaking taken_to_release release_unhold_entries
releasing hs i h amount at =
    let taken = taken_to_release (parts_of_hold h) amount in
    three_gone hs i h part.P part.G part.S taken.p taken.g taken.s at (omega arith) (omega arith) (omega arith)

-- what is kept of a user is what the holds come to
pub user_kept : (hs : List Hold) (user : List ℕ) (c : Currency) → kept_at (holdings_of hs).held (user_key user c) ≡ pos (total_of user (iso_number c) hs)
user_kept hs user c =
    user_total user c nothing_kept hs
    ∙ ap (λ (z : ℤ). z +ℤ pos (total_of user (iso_number c) hs)) (ap (λ (o : Option ℤ). unwrap_or o (pos 0)) (finite.get-empty (slice_cmp nat_cmp) (user_key user c)))
    ∙ zero_and (total_of user (iso_number c) hs)
  where
    zero_and : (n : ℕ) → pos 0 +ℤ pos n ≡ pos n
    zero_and n = omega (arith, ints)

part_within : (p : Part) (n : ℕ) (h : Hold) → n ≤ whole_of (with_part p n h)
part_within part.G n h = omega arith
part_within part.P n h = omega arith
part_within part.S n h = omega arith

part_of_whole : (p : Part) (h : Hold) → part_of p h ≤ whole_of h
part_of_whole part.G h = omega arith
part_of_whole part.P h = omega arith
part_of_whole part.S h = omega arith

no_more : (p : Part) (n : ℕ) (h : Hold) → n ≤ part_of p h → whole_of (with_part p n h) ≤ whole_of h
no_more part.G n h e = omega arith
no_more part.P n h e = omega arith
no_more part.S n h e = omega arith

-- no greater hold leaves no greater total
lower_by : (b : Bool) (after before whole whole_new : ℕ) → after + cond b whole 0 ≡ before + cond b whole_new 0 → whole_new ≤ whole → before < 2 ^ 62 → after < 2 ^ 62
lower_by true after before whole whole_new e le fits = omega arith
lower_by false after before whole whole_new e le fits = omega arith

not_negative : (x : ℤ) → pos 0 ≤ℤ x → x ≡ pos (not_below x)
not_negative (pos n) h = refl
not_negative (negsuc n) h = absurd (omega (arith, ints, h))

covered_sum : (z : ℤ) (there : ℕ) → IsHoldCovered z there → pos 0 ≤ℤ (pos there +ℤ z)
covered_sum (pos n) there h = omega (arith, ints)
covered_sum (negsuc n) there h = omega (arith, ints, h)

-- what is left of a part
left_over : (z : ℤ) (there : ℕ) → IsHoldCovered z there → (pos there +ℤ z) ≡ pos (not_below (pos there +ℤ z))
left_over z there h = not_negative (pos there +ℤ z) (covered_sum z there h)

-- a place among the transactions is one of the holds'
pub within_holds : (hs : List Hold) (i : ℕ) {s : Holdings} → holdings_of hs ≡ s → i < length s.txns → i < length hs
within_holds hs i {s} view within =
    let len : length hs ≡ length s.txns = sym (length-map hs txn_of_hold) ∙ ap (λ (x : Holdings). length x.txns) view in
    omega (arith, len, within)

-- the part that is kept of what stands at a place is that of its hold
part_at : (hs : List Hold) (i : ℕ) (h : Hold) {s : Holdings} → holdings_of hs ≡ s → IsDistinct bytes_eq (names hs) → slice_get hs i ≡ Some h → (p : Part)
    → pos (part_of p h) ≡ kept_at s.parts (part_key h.txn.token p)
part_at hs i h view d at p =
    sym (part_kept p nothing_kept hs i h at d (ap (λ (o : Option ℤ). unwrap_or o (pos 0)) (finite.get-empty (slice_cmp nat_cmp) (part_key h.txn.token p))))
    ∙ ap (λ (x : Holdings). kept_at x.parts (part_key h.txn.token p)) view

pub parts_at : (hs : List Hold) (i : ℕ) (h : Hold) {s : Holdings} → holdings_of hs ≡ s → IsDistinct bytes_eq (names hs) → slice_get hs i ≡ Some h → parts_of_hold h ≡ parts_in s h.txn.token
parts_at hs i h view d at =
    let g = ap not_below (part_at hs i h view d at part.G) in
    let p = ap not_below (part_at hs i h view d at part.P) in
    let s = ap not_below (part_at hs i h view d at part.S) in
    λ j. record { g = g j; p = p j; s = s j }

pub small_at : (hs : List Hold) (i : ℕ) (h : Hold) {sums : BTreeMap (List ℕ × ℕ) ℕ} → AreSummed hs sums → slice_get hs i ≡ Some h → whole_of h < 2 ^ 62
small_at hs i h a at =
    let within = whole_within hs i h at in
    let small = a.small h.txn.user (iso_number h.txn.currency) in
    omega arith

-- what stands at the place of a transaction, and the holdings that these holds make
module _ {name : List ℕ} {hs : List Hold} {i : ℕ} {h : Hold} (at : IsAt name hs i h) {s : Holdings} (view : holdings_of hs ≡ s) where
  made_there : (make : Txn → List Entry) → fold with_hold (holdings_of hs) (make h.txn) ≡ after_holds s name make
  made_there make =
      ap (λ (o : Option TxnNow). fold with_hold (holdings_of hs) (entries_on o make)) (sym at.found) ∙ ap (λ (x : Holdings). after_holds x name make) view

  -- the part that is kept of a transaction is that of its hold
  pub part_there : IsDistinct bytes_eq (names hs) → (p : Part) → pos (part_of p h) ≡ kept_at s.parts (part_key name p)
  part_there d p =
      sym (ap (λ (n : List ℕ). kept_at (sums_from part_sums nothing_kept hs) (part_key n p)) (sym at.named)
      ∙ part_kept p nothing_kept hs i h at.is_there d (ap (λ (o : Option ℤ). unwrap_or o (pos 0)) (finite.get-empty (slice_cmp nat_cmp) (part_key h.txn.token p))))
      ∙ ap (λ (x : Holdings). kept_at x.parts (part_key name p)) view

  pub parts_there : IsDistinct bytes_eq (names hs) → parts_of_hold h ≡ parts_in s name
  parts_there d =
      let g = ap not_below (part_there d part.G) in
      let p = ap not_below (part_there d part.P) in
      let s = ap not_below (part_there d part.S) in
      λ j. record { g = g j; p = p j; s = s j }

  pub its_part : (p : Part) (amount : ℕ) → IsDistinct bytes_eq (names hs) → amount ≤ not_below (kept_at s.parts (part_key name p)) → amount ≤ part_of p h
  its_part p amount d e = subst (λ (z : ℤ). amount ≤ not_below z) (sym (part_there d p)) e

  pub added : (p : Part) (amount : ℕ) {k : Hold} {ks : List Hold} → k ≡ with_part p (part_of p h + amount) h → ks ≡ set hs i k
      → holdings_of ks ≡ after_holds s name (λ t. hold_entries t p amount)
  added p amount e f =
      ap holdings_of (f ∙ ap (λ (x : Hold). set hs i x) e) ∙ more_held hs i h p amount at.is_there ∙ made_there (λ t. hold_entries t p amount)

  -- what all holds of the user come to is small if the holdings are small and stay so
  pub more_low : (p : Part) (amount : ℕ) {k : Hold} → k ≡ with_part p (part_of p h + amount) h → AreLow (after_holds s name (λ t. hold_entries t p amount)).held
      → total_of k.txn.user (iso_number k.txn.currency) (set hs i k) < 2 ^ 62
  more_low p amount {k} e low =
      let key = user_key k.txn.user k.txn.currency in
      let kept : kept_at (after_holds s name (λ t. hold_entries t p amount)).held key ≡ pos (total_of k.txn.user (iso_number k.txn.currency) (set hs i k)) =
      ap (λ (x : Holdings). kept_at x.held key) (sym (added p amount e refl)) ∙ user_kept (set hs i k) k.txn.user k.txn.currency in
      let below = subst (λ (z : ℤ). z <ℤ pos (2 ^ 62)) kept (low key) in
      omega (arith, ints)

  pub more_fits : (p : Part) (amount : ℕ) → AreLow (after_holds s name (λ t. hold_entries t p amount)).held → part_of p h + amount < 2 ^ 64
  more_fits p amount low =
      let k = with_part p (part_of p h + amount) h in
      let small = more_low p amount {k = k} refl low in
      let whole = whole_within (set hs i k) i k (get_set hs i h k at.is_there) in
      let part = part_within p (part_of p h + amount) h in
      omega arith

  pub lessened : (p : Part) (amount : ℕ) {k : Hold} {ks : List Hold} → amount ≤ part_of p h → k ≡ with_part p (part_of p h - amount) h → ks ≡ set hs i k
      → holdings_of ks ≡ after_holds s name (λ t. unhold_entries t p amount)
  lessened p amount le e f =
      ap holdings_of (f ∙ ap (λ (x : Hold). set hs i x) e) ∙ less_held hs i h p amount at.is_there le ∙ made_there (λ t. unhold_entries t p amount)

  pub its_change : (p : Part) (z : ℤ) → IsDistinct bytes_eq (names hs) → IsHoldCovered z (not_below (kept_at s.parts (part_key name p))) → IsHoldCovered z (part_of p h)
  its_change p z d covered = subst (λ (x : ℤ). IsHoldCovered z (not_below x)) (sym (part_there d p)) covered

  pub changed : (p : Part) (z : ℤ) {k : Hold} {ks : List Hold} → IsHoldCovered z (part_of p h) → k ≡ with_part p (not_below (pos (part_of p h) +ℤ z)) h → ks ≡ set hs i k
      → holdings_of ks ≡ after_holds s name (change_entries p z)
  changed p z covered e f =
      ap holdings_of (f ∙ ap (λ (x : Hold). set hs i x) e)
      ∙ holdings_set hs i h p (not_below (pos (part_of p h) +ℤ z)) z at.is_there (left_over z (part_of p h) covered)
      ∙ made_there (change_entries p z)

  pub changed_low : (p : Part) (z : ℤ) {k : Hold} → IsHoldCovered z (part_of p h) → k ≡ with_part p (not_below (pos (part_of p h) +ℤ z)) h → AreLow (after_holds s name (change_entries p z)).held
      → total_of k.txn.user (iso_number k.txn.currency) (set hs i k) < 2 ^ 62
  changed_low p z {k} covered e low =
      let key = user_key k.txn.user k.txn.currency in
      let kept : kept_at (after_holds s name (change_entries p z)).held key ≡ pos (total_of k.txn.user (iso_number k.txn.currency) (set hs i k)) =
      ap (λ (x : Holdings). kept_at x.held key) (sym (changed p z covered e refl)) ∙ user_kept (set hs i k) k.txn.user k.txn.currency in
      let below = subst (λ (z : ℤ). z <ℤ pos (2 ^ 62)) kept (low key) in
      omega (arith, ints)

  pub changed_fits : (p : Part) (z : ℤ) → IsHoldCovered z (part_of p h) → AreLow (after_holds s name (change_entries p z)).held → (pos (part_of p h) +ℤ z) <ℤ pos (2 ^ 64)
  changed_fits p z covered low =
      let n = not_below (pos (part_of p h) +ℤ z) in
      let k = with_part p n h in
      let small = changed_low p z {k = k} covered refl low in
      let whole = whole_within (set hs i k) i k (get_set hs i h k at.is_there) in
      let part = part_within p n h in
      let left = left_over z (part_of p h) covered in
      omega (arith, ints)

  -- what is taken of an amount, as the holdings tell it
  pub taken_there : (take : Parts → ℕ → Parts) (entries : Parts → Txn → List Entry) (amount : ℕ) {taken : Taken} {k : Hold} {ks : List Hold} → IsTaking take entries
      → IsDistinct bytes_eq (names hs) → taken ≡ taken_in_all (take (parts_of_hold h) amount) amount → k ≡ without_parts (parts_taken taken) h → ks ≡ set hs i k
      → holdings_of ks ≡ after_holds s name (entries (take (parts_in s name) amount))
  taken_there take entries amount is d e f g =
      ap holdings_of (g ∙ ap (λ (x : Hold). set hs i x) (f ∙ ap (λ (t : Taken). without_parts (parts_taken t) h) e))
      ∙ is hs i h amount at.is_there
      ∙ made_there (entries (take (parts_of_hold h) amount))
      ∙ ap (λ (parts : Parts). after_holds s name (entries (take parts amount))) (parts_there d)

  pub told_there : (take : Parts → ℕ → Parts) (amount : ℕ) {taken : Taken} → IsDistinct bytes_eq (names hs) → taken ≡ taken_in_all (take (parts_of_hold h) amount) amount
      → taken ≡ taken_in_all (take (parts_in s name) amount) amount
  told_there take amount d e = e ∙ ap (λ (parts : Parts). taken_in_all (take parts amount) amount) (parts_there d)

-- what stands at a place is small, and so is what the holds come to without some of it
module _ {name : List ℕ} {hs : List Hold} {i : ℕ} {h : Hold} (at : IsAt name hs i h) {sums : BTreeMap (List ℕ × ℕ) ℕ} (a : AreSummed hs sums) where
  pub whole_small : whole_of h < 2 ^ 62
  whole_small =
      let within = whole_within hs i h at.is_there in
      let small = a.small h.txn.user (iso_number h.txn.currency) in
      omega arith

  pub part_small : (p : Part) → part_of p h < 2 ^ 62
  part_small p =
      let part = part_of_whole p h in
      let whole = whole_small in
      omega arith

  lower : (k : Hold) → k.txn ≡ h.txn → whole_of k ≤ whole_of h → total_of k.txn.user (iso_number k.txn.currency) (set hs i k) < 2 ^ 62
  lower k same le =
      let user = k.txn.user in
      let number = iso_number k.txn.currency in
      lower_by (is_of user number h) (total_of user number (set hs i k)) (total_of user number hs) (whole_of h) (whole_of k)
      (total_set user number hs i h k at.is_there (ap (λ (t : Txn). bytes_eq t.user user && (iso_number t.currency == number)) same)) le (a.small user number)

  pub less_low : (p : Part) (amount : ℕ) {k : Hold} → k ≡ with_part p (part_of p h - amount) h → total_of k.txn.user (iso_number k.txn.currency) (set hs i k) < 2 ^ 62
  less_low p amount {k} e =
      lower k (ap (λ (x : Hold). x.txn) e ∙ same_txn p (part_of p h - amount) h)
      (subst (λ (x : Hold). whole_of x ≤ whole_of h) (sym e) (no_more p (part_of p h - amount) h (omega arith)))

  pub left_low : (taken : Parts) {k : Hold} → k ≡ without_parts taken h → total_of k.txn.user (iso_number k.txn.currency) (set hs i k) < 2 ^ 62
  left_low taken {k} e = lower k (ap (λ (x : Hold). x.txn) e) (subst (λ (x : Hold). whole_of x ≤ whole_of h) (sym e) (omega arith))

-- a name without a place was not started
pub not_started : {hs : List Hold} {places : List (List ℕ)} (name : List ℕ) → ArePlaced hs places → None ≡ place_of name places → txn_named name (map txn_of_hold hs) ≡ None
not_started {hs} name placed e =
    none_some (txn_named name (map txn_of_hold hs)) (sym (has_place name hs) ∙ ap (λ (o : Option ℕ). is_some o) (sym (place_is placed name) ∙ sym e))
