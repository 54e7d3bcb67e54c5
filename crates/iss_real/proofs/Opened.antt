-- The numbers of open channels.
use Rattle.std.proofs.Common.{◌≡◌, ℕ, ◌+◌, ◌==◌, Bool, true, false, not, ◌&&◌, ◌||◌, cond, List, [], ◌∷◌, ◌++◌, nat_lt, ◌<◌, Option, Some, None, refl, sym, ap, ◌∙◌, arith}
use Rattle.std.proofs.lemmas.Bool.Decides.{nat_tests}
use Rattle.std.specs.Prelude.{is_some}
use Rattle.std.specs.List.{list_all}
use Rattle.std.specs.declared.cmp.Ordering.{Ordering}
use Rattle.std.specs.declared.cmp.Ordering.TheVariants.{Less, Equal, Greater}
use Rattle.std.specs.Ordering.{nat_cmp, match_ordering}
use Rattle.std.specs.Cmp.{unsigned_ties}
use Rattle.std.specs.BTreeMap.{BTreeMap, UpdatesBy, insert_entry, is_at, keys}
use Rattle.std.specs.Map.{keys_of, lookup, remove_entry}
use Rattle.std.proofs.lemmas.Bool.{ne_eqb, leb-true, le-leb, ltb-true, and_parts, and_from}
use Rattle.std.proofs.lemmas.List.Folds.{list_all-append}
use Rattle.iss_edge.specs.Channels.{is_among, IsUnused, without}
use Rattle.iss_real.specs.declared.peers.Peer.{Peer}
use Rattle.iss_real.specs.Numbers.{is_up_to, is_below}

-- ---- by the tree of the channels

abbrev Entry : Type 0
Entry = ℕ × Peer

-- a look-up finds a channel where its number is among the keys
same_test : (n m : ℕ) → is_at (nat_cmp n) m ≡ (m == n)
same_test n m = sym (unsigned_ties n m) ∙ turned n m
  where
    turned : (a b : ℕ) → (a == b) ≡ (b == a)
    turned a b = grind (arith, nat_tests)

found_among : (ch : ℕ) (es : List Entry) → is_some (lookup (is_at (nat_cmp ch)) es) ≡ is_among (keys_of es) ch
found_among ch [] = refl
found_among ch (e ∷ es) = either (is_at (nat_cmp ch) e.0) (e.0 == ch) (same_test ch e.0) (found_among ch es)
  where
    either : (at same : Bool) → at ≡ same → is_some (lookup (is_at (nat_cmp ch)) es) ≡ is_among (keys_of es) ch
        → is_some (cond at (Some e.1) (lookup (is_at (nat_cmp ch)) es)) ≡ (same || is_among (keys_of es) ch)
    either true true is rest = refl
    either true false is rest = cc
    either false true is rest = cc
    either false false is rest = rest

pub has_number : (ch : ℕ) (peers : BTreeMap ℕ Peer) → is_some (lookup (is_at (nat_cmp ch)) peers.entries) ≡ is_among (keys peers) ch
has_number ch peers = found_among ch peers.entries

-- what stands without a number lacks what was removed of it too
removed_of : (ch : ℕ) (es : List Entry) → without ch (keys_of (remove_entry (is_at (nat_cmp ch)) es)) ≡ without ch (keys_of es)
removed_of ch [] = refl
removed_of ch (e ∷ es) = either (is_at (nat_cmp ch) e.0) (e.0 == ch) (same_test ch e.0) refl (removed_of ch es)
  where
    either : (at same : Bool) → at ≡ same → (e.0 == ch) ≡ same → without ch (keys_of (remove_entry (is_at (nat_cmp ch)) es)) ≡ without ch (keys_of es)
        → without ch (keys_of (cond at es (e ∷ remove_entry (is_at (nat_cmp ch)) es))) ≡ cond (not same) (e.0 ∷ without ch (keys_of es)) (without ch (keys_of es))
    either true true is test rest = refl
    either true false is test rest = cc
    either false true is test rest = cc
    either false false is test rest = rw test (ap (λ (ns : List ℕ). e.0 ∷ ns) rest)

keeps_others : (ch : ℕ) (numbers : List ℕ) → is_among numbers ch ≡ false → without ch numbers ≡ numbers
keeps_others ch [] none = refl
keeps_others ch (n ∷ numbers) none = either (n == ch) none (keeps_others ch numbers)
  where
    either : (same : Bool) → (same || is_among numbers ch) ≡ false → (is_among numbers ch ≡ false → without ch numbers ≡ numbers) → cond (not same) (n ∷ without ch numbers) (without ch numbers) ≡ n ∷ numbers
    either true none rest = cc
    either false none rest = ap (λ (ns : List ℕ). n ∷ ns) (rest none)

-- the numbers once one was removed
pub numbers_removed : (ch : ℕ) (before after : BTreeMap ℕ Peer) → after.entries ≡ remove_entry (is_at (nat_cmp ch)) before.entries → UpdatesBy nat_cmp (nat_cmp ch) before after None
    → keys after ≡ without ch (keys before)
numbers_removed ch before after entries updates =
    let gone : is_among (keys after) ch ≡ false = sym (found_among ch after.entries) ∙ ap is_some updates.1 in
    sym (keeps_others ch (keys after) gone) ∙ ap (λ (es : List Entry). without ch (keys_of es)) entries ∙ removed_of ch before.entries

-- a number above all others goes last
goes_last : (number : ℕ) (peer : Peer) (es : List Entry) → list_all (is_below number) (keys_of es) ≡ true → keys_of (insert_entry nat_cmp es number peer) ≡ keys_of es ++ number ∷ []
goes_last number peer [] all = refl
goes_last number peer (e ∷ es) all =
    let parts = and_parts (is_below number e.0) (list_all (is_below number) (keys_of es)) all in
    ap (λ (r : Ordering). keys_of (match_ordering r ((number, peer) ∷ e ∷ es) ((e.0, peer) ∷ es) (e ∷ insert_entry nat_cmp es number peer))) (above number e.0 (ltb-true e.0 number parts.0))
    ∙ ap (λ (ns : List ℕ). e.0 ∷ ns) (goes_last number peer es parts.1)
  where
    above : (n m : ℕ) → m < n → nat_cmp n m ≡ Greater
    above n m h =
        ap (λ (t : Bool). cond t Less (cond (n == m) Equal Greater)) (not_less n m h)
        ∙ ap (λ (t : Bool). cond t Equal Greater) (not_equal n m h)
      where
        not_less : (n m : ℕ) → m < n → nat_lt n m ≡ false
        not_less n m h = grind (arith, nat_tests)

        not_equal : (n m : ℕ) → m < n → (n == m) ≡ false
        not_equal n m h = grind (arith, nat_tests)

pub numbers_pushed : (number : ℕ) (peer : Peer) (before after : BTreeMap ℕ Peer) → list_all (is_below number) (keys before) ≡ true → after.entries ≡ insert_entry nat_cmp before.entries number peer
    → keys after ≡ keys before ++ number ∷ []
numbers_pushed number peer before after all entries = ap (λ (es : List Entry). keys_of es) entries ∙ goes_last number peer before.entries all

-- ---- up to a greatest number

none_above : (last ch : ℕ) (numbers : List ℕ) → ch ≡ last + 1 → list_all (is_up_to last) numbers ≡ true → is_among numbers ch ≡ false
none_above last ch [] e all = refl
none_above last ch (n ∷ numbers) e all =
    let parts = and_parts (is_up_to last n) (list_all (is_up_to last) numbers) all in
    let other : (n == ch) ≡ false = ne_eqb n ch (λ same. omega (arith, same, e, leb-true n last parts.0)) in
    rw other (none_above last ch numbers e parts.1)

-- the next number is unused
pub next_unused : (last number : ℕ) (clients dialled : List ℕ) (ready : Option ℕ) → number ≡ last + 1 → list_all (is_up_to last) clients ≡ true → list_all (is_up_to last) dialled ≡ true
    → IsUnused (record { clients = clients; dialled = dialled; ready = ready }) (record { 0 = number })
next_unused last number clients dialled ready is low high =
    record {
      not_standard = λ e. omega (arith, e, is);
      not_open = rw (none_above last number clients is low) (none_above last number dialled is high);
    }

-- all are still up to the greatest number once that one rose
pub up_to_next : (last number : ℕ) (numbers : List ℕ) → number ≡ last + 1 → list_all (is_up_to last) numbers ≡ true → list_all (is_up_to number) numbers ≡ true
up_to_next last number [] is all = refl
up_to_next last number (n ∷ numbers) is all =
    let parts = and_parts (is_up_to last n) (list_all (is_up_to last) numbers) all in
    and_from (is_up_to number n) (list_all (is_up_to number) numbers) (le-leb n number (omega (arith, is, leb-true n last parts.0))) (up_to_next last number numbers is parts.1)

-- all are up to the greatest number with one more too
pub up_to_opened : (last number : ℕ) (numbers now : List ℕ) → number ≡ last + 1 → now ≡ numbers ++ number ∷ [] → list_all (is_up_to last) numbers ≡ true → list_all (is_up_to number) now ≡ true
up_to_opened last number numbers now is opened all =
    let itself : is_up_to number number ≡ true = le-leb number number (omega arith) in
    rw opened (list_all-append (is_up_to number) numbers (number ∷ [])
    ∙ and_from (list_all (is_up_to number) numbers) (is_up_to number number && true) (up_to_next last number numbers is all) (rw itself refl))

-- all numbers are below the next one
pub below_next : (last number : ℕ) (numbers : List ℕ) → number ≡ last + 1 → list_all (is_up_to last) numbers ≡ true → list_all (is_below number) numbers ≡ true
below_next last number [] is all = refl
below_next last number (n ∷ numbers) is all =
    let parts = and_parts (is_up_to last n) (list_all (is_up_to last) numbers) all in
    and_from (is_below number n) (list_all (is_below number) numbers) (less n number (omega (arith, is, leb-true n last parts.0))) (below_next last number numbers is parts.1)
  where
    less : (n m : ℕ) → n < m → nat_lt n m ≡ true
    less n m h = grind (arith, nat_tests)
