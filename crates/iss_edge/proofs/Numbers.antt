-- The numbers of channels in memory: which are open, and which are to come.
use Rattle.std.proofs.Common.{◌≡◌, ℕ, ◌+◌, ◌≤◌, ◌<◌, ◌==◌, Bool, true, false, not, ◌&&◌, ◌||◌, cond, List, [], ◌∷◌, ◌++◌, nat_le, nat_lt, Option, refl, sym, ap, subst, ◌∙◌, arith}
use Rattle.std.specs.List.{list_all, filter}
use Rattle.std.proofs.lemmas.Bool.{ne_eqb, ltb-true, leb-true, lt-ltb, and_parts, and_from}
use Rattle.std.proofs.lemmas.List.Folds.{list_any-append, list_all-append}
use Rattle.iss_edge.specs.declared.outside.Channel.{Channel}
use Rattle.iss_edge.specs.declared.outside.Script.{Script}
use Rattle.iss_edge.specs.declared.outside.Script.TheVariants.{Client, More, Ended, Time, Idle}
use Rattle.iss_edge.specs.Channels.{is_among, IsUnused, without}
use Rattle.iss_edge.specs.Memory.{is_client_number, is_dialled_number, are_to_come}

not_true : (b : Bool) → not b ≡ true → b ≡ false
not_true true e = cc
not_true false e = refl

neither : (a b : Bool) → (a || b) ≡ false → (a ≡ false) × (b ≡ false)
neither true b e = cc
neither false b e = (refl, e)

-- none of fewer numbers is this one either
filter_among : (keep : ℕ → Bool) (numbers : List ℕ) (ch : ℕ) → is_among numbers ch ≡ false → is_among (filter keep numbers) ch ≡ false
filter_among keep [] ch none = refl
filter_among keep (n ∷ numbers) ch none =
    let apart = neither (n == ch) (is_among numbers ch) none in
    either (keep n) apart.0 (filter_among keep numbers ch apart.1)
  where
    either : (stays : Bool) → (n == ch) ≡ false → is_among (filter keep numbers) ch ≡ false → is_among (cond stays (n ∷ filter keep numbers) (filter keep numbers)) ch ≡ false
    either true other none = rw other none
    either false other none = none

-- fewer of what pass a test pass it
pub filter_all : (test keep : ℕ → Bool) (numbers : List ℕ) → list_all test numbers ≡ true → list_all test (filter keep numbers) ≡ true
filter_all test keep [] all = refl
filter_all test keep (n ∷ numbers) all =
    let parts = and_parts (test n) (list_all test numbers) all in
    either (keep n) parts.0 (filter_all test keep numbers parts.1)
  where
    either : (stays : Bool) → test n ≡ true → list_all test (filter keep numbers) ≡ true → list_all test (cond stays (n ∷ filter keep numbers) (filter keep numbers)) ≡ true
    either true here all = rw here all
    either false here all = all

-- what is to come may come if fewer numbers are known
to_come_fewer : (items : List Script) (known fewer : List ℕ) → ((ch : ℕ) → is_among known ch ≡ false → is_among fewer ch ≡ false) → are_to_come known items ≡ true → are_to_come fewer items ≡ true
to_come_fewer [] known fewer less come = refl
to_come_fewer (Client ch ∷ items) known fewer less come =
    let outer = and_parts (is_client_number ch.0 && not (is_among known ch.0)) (are_to_come (known ++ ch.0 ∷ []) items) come in
    let inner = and_parts (is_client_number ch.0) (not (is_among known ch.0)) outer.0 in
    let other : is_among known ch.0 ≡ false = not_true (is_among known ch.0) inner.1 in
    and_from (is_client_number ch.0 && not (is_among fewer ch.0)) (are_to_come (fewer ++ ch.0 ∷ []) items)
    (and_from (is_client_number ch.0) (not (is_among fewer ch.0)) inner.0 (ap not (less ch.0 other)))
    (to_come_fewer items (known ++ ch.0 ∷ []) (fewer ++ ch.0 ∷ []) (λ c none. more known fewer ch.0 c (less c) none) outer.1)
  where
    more : (known fewer : List ℕ) (n c : ℕ) → (is_among known c ≡ false → is_among fewer c ≡ false) → is_among (known ++ n ∷ []) c ≡ false → is_among (fewer ++ n ∷ []) c ≡ false
    more known fewer n c less none =
        let apart = neither (is_among known c) (is_among (n ∷ []) c) (sym (list_any-append (λ number. number == c) known (n ∷ [])) ∙ none) in
        list_any-append (λ number. number == c) fewer (n ∷ []) ∙ rw (less apart.0) apart.1
to_come_fewer (More ch bytes ∷ items) known fewer less come = to_come_fewer items known fewer less come
to_come_fewer (Ended ch ∷ items) known fewer less come = to_come_fewer items known fewer less come
to_come_fewer (Time at ∷ items) known fewer less come = to_come_fewer items known fewer less come
to_come_fewer (Idle ∷ items) known fewer less come = to_come_fewer items known fewer less come

-- what holds of the numbers still holds once one was closed
pub numbers_closed : (ch : ℕ) (clients dialled : List ℕ) (items : List Script) (dials : ℕ) → are_to_come clients items ≡ true → list_all is_client_number clients ≡ true → list_all (is_dialled_number dials) dialled ≡ true
    → (are_to_come (without ch clients) items ≡ true) × (list_all is_client_number (without ch clients) ≡ true) × (list_all (is_dialled_number dials) (without ch dialled) ≡ true)
numbers_closed ch clients dialled items dials come low high = (
  to_come_fewer items clients (without ch clients) (λ c none. filter_among (λ n. not (n == ch)) clients c none) come,
  filter_all is_client_number (λ n. not (n == ch)) clients low,
  filter_all (is_dialled_number dials) (λ n. not (n == ch)) dialled high,
)

-- dialled numbers are none below, and clients' are none above
none_dialled : (ch dials : ℕ) (dialled : List ℕ) → ch ≤ 1000000 → list_all (is_dialled_number dials) dialled ≡ true → is_among dialled ch ≡ false
none_dialled ch dials [] low all = refl
none_dialled ch dials (n ∷ dialled) low all =
    let parts = and_parts (is_dialled_number dials n) (list_all (is_dialled_number dials) dialled) all in
    let above = and_parts (nat_lt 1000000 n) (nat_lt n (dials + 1000001)) parts.0 in
    let other : (n == ch) ≡ false = ne_eqb n ch (λ e. omega (arith, e, ltb-true 1000000 n above.0)) in
    rw other (none_dialled ch dials dialled low parts.1)

none_higher : (ch dials : ℕ) (dialled : List ℕ) → ch ≡ dials + 1000001 → list_all (is_dialled_number dials) dialled ≡ true → is_among dialled ch ≡ false
none_higher ch dials [] e all = refl
none_higher ch dials (n ∷ dialled) e all =
    let parts = and_parts (is_dialled_number dials n) (list_all (is_dialled_number dials) dialled) all in
    let above = and_parts (nat_lt 1000000 n) (nat_lt n (dials + 1000001)) parts.0 in
    let other : (n == ch) ≡ false = ne_eqb n ch (λ same. omega (arith, same, e, ltb-true n (dials + 1000001) above.1)) in
    rw other (none_higher ch dials dialled e parts.1)

none_client : (ch : ℕ) (clients : List ℕ) → 1000000 < ch → list_all is_client_number clients ≡ true → is_among clients ch ≡ false
none_client ch [] high all = refl
none_client ch (n ∷ clients) high all =
    let parts = and_parts (is_client_number n) (list_all is_client_number clients) all in
    let within = and_parts (nat_le 1 n) (nat_le n 1000000) parts.0 in
    let other : (n == ch) ≡ false = ne_eqb n ch (λ e. omega (arith, e, leb-true n 1000000 within.1)) in
    rw other (none_client ch clients high parts.1)

-- a client comes on a number that is unused
pub client_unused : (ch : Channel) (clients dialled : List ℕ) (ready : Option ℕ) (script items : List Script) (dials : ℕ) → are_to_come clients script ≡ true → script ≡ Client ch ∷ items → list_all (is_dialled_number dials) dialled ≡ true
    → IsUnused (record { clients = clients; dialled = dialled; ready = ready }) ch
client_unused ch clients dialled ready script items dials come next high =
    let first : are_to_come clients (Client ch ∷ items) ≡ true = subst (λ (s : List Script). are_to_come clients s ≡ true) next come in
    let outer = and_parts (is_client_number ch.0 && not (is_among clients ch.0)) (are_to_come (clients ++ ch.0 ∷ []) items) first in
    let inner = and_parts (is_client_number ch.0) (not (is_among clients ch.0)) outer.0 in
    let within = and_parts (nat_le 1 ch.0) (nat_le ch.0 1000000) inner.0 in
    record {
      not_standard = λ e. omega (arith, e, leb-true 1 ch.0 within.0);
      not_open = rw (not_true (is_among clients ch.0) inner.1) (none_dialled ch.0 dials dialled (leb-true ch.0 1000000 within.1) high);
    }

-- a dial opens a number that is unused
pub dial_unused : (ch : Channel) (clients dialled : List ℕ) (ready : Option ℕ) (dials : ℕ) → ch.0 ≡ dials + 1000001 → list_all is_client_number clients ≡ true → list_all (is_dialled_number dials) dialled ≡ true
    → IsUnused (record { clients = clients; dialled = dialled; ready = ready }) ch
dial_unused ch clients dialled ready dials is low high =
    record {
      not_standard = λ e. omega (arith, e, is);
      not_open = rw (none_client ch.0 clients (omega (arith, is)) low) (none_higher ch.0 dials dialled is high);
    }

wider : (dials : ℕ) (dialled : List ℕ) → list_all (is_dialled_number dials) dialled ≡ true → list_all (is_dialled_number (dials + 1)) dialled ≡ true
wider dials [] all = refl
wider dials (n ∷ dialled) all =
    let parts = and_parts (is_dialled_number dials n) (list_all (is_dialled_number dials) dialled) all in
    let above = and_parts (nat_lt 1000000 n) (nat_lt n (dials + 1000001)) parts.0 in
    and_from (is_dialled_number (dials + 1) n) (list_all (is_dialled_number (dials + 1)) dialled)
    (and_from (nat_lt 1000000 n) (nat_lt n (dials + 1 + 1000001)) above.0 (lt-ltb n (dials + 1 + 1000001) (omega (arith, ltb-true n (dials + 1000001) above.1))))
    (wider dials dialled parts.1)

-- the numbers of dials once there was one more
pub dialled_more : (dials number : ℕ) (dialled : List ℕ) → number ≡ dials + 1000001 → list_all (is_dialled_number dials) dialled ≡ true → list_all (is_dialled_number (dials + 1)) (dialled ++ number ∷ []) ≡ true
dialled_more dials number dialled is all =
    let last : is_dialled_number (dials + 1) number ≡ true =
    and_from (nat_lt 1000000 number) (nat_lt number (dials + 1 + 1000001)) (lt-ltb 1000000 number (omega (arith, is))) (lt-ltb number (dials + 1 + 1000001) (omega (arith, is))) in
    list_all-append (is_dialled_number (dials + 1)) dialled (number ∷ [])
    ∙ and_from (list_all (is_dialled_number (dials + 1)) dialled) (is_dialled_number (dials + 1) number && true) (wider dials dialled all) (rw last refl)
