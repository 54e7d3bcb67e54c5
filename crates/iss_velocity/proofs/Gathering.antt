-- All that was counted, gathered row by row.
use Rattle.std.proofs.Common.{◌≡◌, ℕ, ◌+◌, ℤ, Bool, true, false, cond, ◌&&◌, ◌==◌, nat_le, List, [], ◌∷◌, length, drop, slice_get, Option, Some, None, is_some, refl, sym, ap, ap₂, ◌∙◌, subst, arith}
use Rattle.std.specs.Prelude.{unwrap_or}
use Rattle.std.specs.List.{list_all, AllByRecursion}
use Rattle.std.specs.List.Sorted.{IsStrictlySortedBy}
use Rattle.std.specs.Map.{lookup, keys_of}
use Rattle.std.specs.Str.{bytes_eq}
use Rattle.std.specs.declared.cmp.Ordering.TheVariants.{Less}
use Rattle.std.specs.Ordering.{nat_cmp, int_cmp, int_eq, is_eq, ordering_then}
use Rattle.std.specs.Cmp.Lexicographic.{slice_cmp}
use Rattle.std.specs.BTreeMap as tree
use Rattle.std.specs.BTreeMap.{insert_entry, is_at}
use Rattle.std.proofs.lemmas.Bool.{and_parts}
use Rattle.std.proofs.lemmas.Bool.Decides.{nat_tests}
use Rattle.std.proofs.lemmas.Map.Text.{is_eq-slice_cmp}
use Rattle.iss_model.specs.declared.txn.Used.{Used}
use Rattle.iss_model.proofs.Names.{one_name, name-sym}
use Rattle.iss_velocity.specs.declared.counters.Counter.{Counter}
use Rattle.iss_velocity.specs.Counting.{Users, Past, by_name, by_span, at_place, in_span, or_else, past_at, counters_at}
use Rattle.iss_velocity.specs.Lists.{rising_from}
use Rattle.iss_velocity.specs.Keeping.{has_no_zero}
use Rattle.iss_velocity.specs.Showing.{Rows, by_row, row_at, is_rows_plain, one_row, rows_of_user, AreAdded, AreLeft, AreRowsOf, IsPut}
use Rattle.iss_velocity.proofs.Lookups.{nothing_else, int-sym, both_equal, place_test, span_test}
use Rattle.iss_velocity.proofs.Turning.{keys_more, one_number}
use Rattle.iss_velocity.proofs.Walks.{lower, none_below}
use Rattle.iss_velocity.proofs.Controlling.{dropped}
use Rattle.iss_velocity.proofs.Putting.{no_more}

abbrev Added : Type 0
Added = ℕ → List ℕ → ℤ → Option Used

or_after : (o p q : Option Used) → or_else (or_else o p) q ≡ or_else o (or_else p q)
or_after None p q = refl
or_after (Some x) p q = refl

-- all are left at first
pub all_left : (all : Added) (rows : Rows) → AreLeft all all rows rows
all_left all rows = record { at = λ p u n. refl; plain = λ h. h }

-- some are added, and the rest is left
pub fewer_left : (all left one rest : Added) (old now new : Rows) → AreLeft all left old now → AreAdded one now new
    → ((p : ℕ) (u : List ℕ) (n : ℤ) → left p u n ≡ or_else (one p u n) (rest p u n)) → AreLeft all rest old new
fewer_left all left one rest old now new l a e =
    record {
      at = λ p u n.
          ap (λ (o : Option Used). or_else o (rest p u n)) (a.at p u n) ∙ or_after (row_at now p u n) (one p u n) (rest p u n)
          ∙ ap (or_else (row_at now p u n)) (sym (e p u n)) ∙ l.at p u n;
      plain = λ h. a.plain (l.plain h);
    }

-- what is left is the rest
pub as_left : (all left rest : Added) (old now : Rows) → AreLeft all left old now → ((p : ℕ) (u : List ℕ) (n : ℤ) → left p u n ≡ rest p u n) → AreLeft all rest old now
as_left all left rest old now l e =
    record { at = λ p u n. ap (or_else (row_at now p u n)) (sym (e p u n)) ∙ l.at p u n; plain = l.plain }

-- all are added if nothing is left
pub none_left : (all left : Added) (old now : Rows) → AreLeft all left old now → ((p : ℕ) (u : List ℕ) (n : ℤ) → left p u n ≡ None) → AreAdded all old now
none_left all left old now l e =
    record {
      at = λ p u n. sym (nothing_else (row_at now p u n)) ∙ ap (or_else (row_at now p u n)) (sym (e p u n)) ∙ l.at p u n;
      plain = l.plain;
    }

-- the test of a row
pub row_test : (place : ℕ) (user : List ℕ) (number : ℤ) (p : ℕ) (u : List ℕ) (n : ℤ)
    → is_at (by_row (place, (user, number))) (p, (u, n)) ≡ (bytes_eq u user && ((place == p) && int_eq number n))
row_test place user number p u n =
    both_equal (nat_cmp place p) (ordering_then (slice_cmp nat_cmp user u) (int_cmp number n))
    ∙ ap₂ (λ (x y : Bool). x && y) (place_test place p ∙ same_places)
    (both_equal (slice_cmp nat_cmp user u) (int_cmp number n)
    ∙ ap (λ (b : Bool). b && int_eq number n) (is_eq-slice_cmp user u ∙ name-sym user u))
    ∙ swap (place == p) (bytes_eq u user) (int_eq number n)
  where
    same_places : (p == place) ≡ (place == p)
    same_places = grind (arith, nat_tests)

    swap : (a b c : Bool) → (a && (b && c)) ≡ (b && (a && c))
    swap true true c = refl
    swap true false c = refl
    swap false true c = refl
    swap false false c = refl

-- a row that passes the test has the key
one_key : (place : ℕ) (user : List ℕ) (number : ℤ) (p : ℕ) (u : List ℕ) (n : ℤ) → (bytes_eq u user && ((place == p) && int_eq number n)) ≡ true
    → (rows : Rows) → row_at rows p u n ≡ row_at rows place user number
one_key place user number p u n h rows =
    let parts = and_parts (bytes_eq u user) ((place == p) && int_eq number n) h in
    let more = and_parts (place == p) (int_eq number n) parts.1 in
    let same : place ≡ p = grind (arith, nat_tests) in
    ap (λ (x : List ℕ). row_at rows p x n) (one_name u user parts.0)
    ∙ ap (λ (x : ℕ). row_at rows x user n) (sym same)
    ∙ ap (λ (x : ℤ). row_at rows place user x) (sym (one_number number n more.1))

-- a row is added if there is none of its span
pub added_new : (old new : Rows) (place : ℕ) (user : List ℕ) (number : ℤ) (used : Used) → is_some (row_at old place user number) ≡ false → has_no_zero user ≡ true
    → tree.Updates by_row old new (place, (user, number)) (Some used)
    → new.entries ≡ insert_entry by_row old.entries (place, (user, number)) used
    → AreAdded (one_row place user number used) old new
added_new old new place user number used lacking plain updates entries =
    record {
      at = λ p u n.
          updates.0 (p, (u, n)) ∙ ap (λ (b : Bool). cond b (Some used) (row_at old p u n)) (row_test place user number p u n)
          ∙ by p u n (bytes_eq u user && ((place == p) && int_eq number n)) refl;
      plain = λ h. ap (λ (es : List ((ℕ × (List ℕ × ℤ)) × Used)). list_all (λ (k : ℕ × (List ℕ × ℤ)). has_no_zero k.1.0) (keys_of es)) entries
          ∙ keys_more by_row (λ (k : ℕ × (List ℕ × ℤ)). has_no_zero k.1.0) old.entries (place, (user, number)) used h plain;
    }
  where
    lacks : (o : Option Used) → is_some o ≡ false → Some used ≡ or_else o (Some used)
    lacks None e = refl
    lacks (Some x) e = cc

    by : (p : ℕ) (u : List ℕ) (n : ℤ) (b : Bool) → (bytes_eq u user && ((place == p) && int_eq number n)) ≡ b
        → cond b (Some used) (row_at old p u n) ≡ or_else (row_at old p u n) (cond b (Some used) None)
    by p u n true h = lacks (row_at old p u n) (ap is_some (one_key place user number p u n h old) ∙ lacking)
    by p u n false h = sym (nothing_else (row_at old p u n))

-- nothing is added if there is one
pub added_none : (rows : Rows) (place : ℕ) (user : List ℕ) (number : ℤ) (used : Used) → is_some (row_at rows place user number) ≡ true
    → AreAdded (one_row place user number used) rows rows
added_none rows place user number used stands =
    record { at = λ p u n. by p u n (bytes_eq u user && ((place == p) && int_eq number n)) refl; plain = λ h. h }
  where
    has : (o p : Option Used) → is_some o ≡ true → o ≡ or_else o p
    has None p e = cc
    has (Some x) p e = refl

    by : (p : ℕ) (u : List ℕ) (n : ℤ) (b : Bool) → (bytes_eq u user && ((place == p) && int_eq number n)) ≡ b
        → row_at rows p u n ≡ or_else (row_at rows p u n) (cond b (Some used) None)
    by p u n true h = has (row_at rows p u n) (Some used) (ap is_some (one_key place user number p u n h rows) ∙ stands)
    by p u n false h = sym (nothing_else (row_at rows p u n))

-- a span's row before those of other spans
pub past_head : (e : (List ℕ × (ℕ × ℤ)) × Used) (es : List ((List ℕ × (ℕ × ℤ)) × Used)) (p : ℕ) (u : List ℕ) (n : ℤ)
    → lookup (is_at (by_span (u, (p, n)))) (e ∷ es) ≡ or_else (one_row e.0.1.0 e.0.0 e.0.1.1 e.1 p u n) (lookup (is_at (by_span (u, (p, n)))) es)
past_head e es p u n =
    ap (λ (b : Bool). cond b (Some e.1) (lookup (is_at (by_span (u, (p, n)))) es)) (span_test p u n e.0)
    ∙ by (bytes_eq u e.0.0 && ((e.0.1.0 == p) && int_eq e.0.1.1 n))
  where
    by : (b : Bool) → cond b (Some e.1) (lookup (is_at (by_span (u, (p, n)))) es) ≡ or_else (cond b (Some e.1) None) (lookup (is_at (by_span (u, (p, n)))) es)
    by true = refl
    by false = refl

-- a counter before a user's other ones
module _ (user : List ℕ) (c : Counter) (cs : List Counter) (rising : rising_from 0 (c ∷ cs) ≡ true) where
  later : (p : ℕ) → (c.place == p) ≡ true → at_place p cs ≡ None
  later p h =
      let parts = and_parts (nat_le 0 c.place) (rising_from (c.place + 1) cs) rising in
      none_below (c.place + 1) p cs parts.1 (grind (arith, nat_tests))

  pub rest_rises : rising_from 0 cs ≡ true
  rest_rises = lower 0 (c.place + 1) cs (grind (arith, nat_tests)) (and_parts (nat_le 0 c.place) (rising_from (c.place + 1) cs) rising).1

  pub counter_head : (p : ℕ) (u : List ℕ) (n : ℤ) → rows_of_user user (c ∷ cs) p u n ≡ or_else (rows_of_user user (c ∷ []) p u n) (rows_of_user user cs p u n)
  counter_head p u n = by (bytes_eq u user) (c.place == p) refl
    where
      by : (a b : Bool) → (c.place == p) ≡ b
          → cond a (in_span n (cond b (Some c) (at_place p cs))) None ≡ or_else (cond a (in_span n (cond b (Some c) None)) None) (cond a (in_span n (at_place p cs)) None)
      by true true h = sym (nothing_else (in_span n (Some c))) ∙ ap (λ (o : Option Counter). or_else (in_span n (Some c)) (in_span n o)) (sym (later p h))
      by true false h = refl
      by false b h = refl

-- a counter alone
pub counter_used : (user : List ℕ) (c : Counter) (used : Used) (old new : Rows) → c.used ≡ Some used → AreAdded (one_row c.place user c.number used) old new
    → AreAdded (rows_of_user user (c ∷ [])) old new
counter_used user c used old new e a =
    record {
      at = λ p u n. a.at p u n ∙ ap (or_else (row_at old p u n)) (by n (bytes_eq u user) (c.place == p) (int_eq c.number n) refl);
      plain = a.plain;
    }
  where
    here : (i : Bool) → cond i (Some used) None ≡ cond i c.used None
    here true = sym e
    here false = refl

    by : (n : ℤ) (x y i : Bool) → int_eq c.number n ≡ i → cond (x && (y && i)) (Some used) None ≡ cond x (in_span n (cond y (Some c) None)) None
    by n true true i h = here i ∙ ap (λ (b : Bool). cond b c.used None) (sym h)
    by n true false i h = refl
    by n false y i h = refl

pub counter_unused : (user : List ℕ) (c : Counter) (rows : Rows) → c.used ≡ None → AreAdded (rows_of_user user (c ∷ [])) rows rows
counter_unused user c rows e =
    record {
      at = λ p u n. sym (nothing_else (row_at rows p u n)) ∙ ap (or_else (row_at rows p u n)) (by n (bytes_eq u user) (c.place == p));
      plain = λ h. h;
    }
  where
    here : (i : Bool) → None ≡ cond i c.used None
    here true = sym e
    here false = refl

    by : (n : ℤ) (x y : Bool) → None ≡ cond x (in_span n (cond y (Some c) None)) None
    by n true true = here (int_eq c.number n)
    by n true false = refl
    by n false y = refl

-- what is left of a user's counters from an index on
abbrev FromIndex : List ℕ → List Counter → ℕ → Rows → Rows → Type 0
FromIndex user cs i old now = (rising_from 0 (drop i cs) ≡ true) × AreLeft (rows_of_user user cs) (rows_of_user user (drop i cs)) old now

from_here : (user : List ℕ) (cs : List Counter) (i : ℕ) (c : Counter) (old now : Rows) → slice_get cs i ≡ Some c → FromIndex user cs i old now
    → (rising_from 0 (c ∷ drop (i + 1) cs) ≡ true) × AreLeft (rows_of_user user cs) (rows_of_user user (c ∷ drop (i + 1) cs)) old now
from_here user cs i c old now e l = subst (λ (xs : List Counter). (rising_from 0 xs ≡ true) × AreLeft (rows_of_user user cs) (rows_of_user user xs) old now) (dropped cs i c e) l

pub counter_added : (user : List ℕ) (cs : List Counter) (i : ℕ) (c : Counter) (old now new : Rows) → slice_get cs i ≡ Some c → FromIndex user cs i old now
    → AreAdded (rows_of_user user (c ∷ [])) now new → FromIndex user cs (i + 1) old new
counter_added user cs i c old now new e l a =
    let m = from_here user cs i c old now e l in (
      rest_rises user c (drop (i + 1) cs) m.0,
      fewer_left (rows_of_user user cs) (rows_of_user user (c ∷ drop (i + 1) cs)) (rows_of_user user (c ∷ [])) (rows_of_user user (drop (i + 1) cs)) old now new m.1 a
          (counter_head user c (drop (i + 1) cs) m.0),
    )

pub counters_done : (user : List ℕ) (cs : List Counter) (i : ℕ) (old now : Rows) → FromIndex user cs i old now → i ≡ length cs → AreAdded (rows_of_user user cs) old now
counters_done user cs i old now l e =
    none_left (rows_of_user user cs) (rows_of_user user (drop i cs)) old now l.1
    (λ p u n. ap (λ (xs : List Counter). rows_of_user user xs p u n) (no_more cs i e) ∙ at n (bytes_eq u user))
  where
    at : (n : ℤ) (b : Bool) → cond b (in_span n None) None ≡ None
    at n true = refl
    at n false = refl

-- a user's counters before those of other users
abbrev pub rows_of_all : List (List ℕ × List Counter) → ℕ → List ℕ → ℤ → Option Used
rows_of_all es p u n = in_span n (at_place p (unwrap_or (lookup (is_at (by_name u)) es) []))

no_user : (u first : List ℕ) (es : List (List ℕ × List Counter)) → bytes_eq u first ≡ true → AllByRecursion (λ (y : List ℕ). by_name first y ≡ Less) (keys_of es)
    → lookup (is_at (by_name u)) es ≡ None
no_user u first [] same above = refl
no_user u first (e ∷ es) same above =
    let other : is_eq (by_name u e.0) ≡ false = ap (λ (x : List ℕ). is_eq (by_name x e.0)) (one_name u first same) ∙ ap is_eq above.0 in
    ap (λ (b : Bool). cond b (Some e.1) (lookup (is_at (by_name u)) es)) other ∙ no_user u first es same above.1

pub user_head : (user : List ℕ) (cs : List Counter) (es : List (List ℕ × List Counter)) → IsStrictlySortedBy by_name (keys_of ((user, cs) ∷ es)) → (p : ℕ) (u : List ℕ) (n : ℤ)
    → rows_of_all ((user, cs) ∷ es) p u n ≡ or_else (rows_of_user user cs p u n) (rows_of_all es p u n)
unfolding IsStrictlySortedBy
user_head user cs es sorted p u n =
    ap (λ (b : Bool). in_span n (at_place p (unwrap_or (cond b (Some cs) (lookup (is_at (by_name u)) es)) []))) (is_eq-slice_cmp u user)
    ∙ by (bytes_eq u user) refl
  where
    by : (b : Bool) → bytes_eq u user ≡ b
        → in_span n (at_place p (unwrap_or (cond b (Some cs) (lookup (is_at (by_name u)) es)) []))
        ≡ or_else (cond b (in_span n (at_place p cs)) None) (rows_of_all es p u n)
    by true h =
        sym (nothing_else (in_span n (at_place p cs)))
        ∙ ap (λ (o : Option (List Counter)). or_else (in_span n (at_place p cs)) (in_span n (at_place p (unwrap_or o [])))) (sym (no_user u user es h sorted.0))
    by false h = refl

pub users_after : (e : List ℕ × List Counter) (es : List (List ℕ × List Counter)) → IsStrictlySortedBy by_name (keys_of (e ∷ es)) → IsStrictlySortedBy by_name (keys_of es)
unfolding IsStrictlySortedBy
users_after e es sorted = sorted.1

-- all counters and all spans that have passed
pub all_rows : (users : Users) (past : Past) (first half rows : Rows) → ((p : ℕ) (u : List ℕ) (n : ℤ) → row_at first p u n ≡ None) → is_rows_plain first ≡ true
    → AreAdded (λ p u n. in_span n (at_place p (counters_at users u))) first half
    → AreAdded (λ p u n. past_at past u p n) half rows → AreRowsOf users past rows
all_rows users past first half rows empty plain a b =
    record {
      at = λ p u n. b.at p u n
          ∙ ap (λ (o : Option Used). or_else o (past_at past u p n))
          (a.at p u n ∙ ap (λ (o : Option Used). or_else o (in_span n (at_place p (counters_at users u)))) (empty p u n));
      plain = b.plain (a.plain plain);
    }

-- what is put among the spans that have passed
pub put_so : (user : List ℕ) (place : ℕ) (number : ℤ) (used : Used) (past after : Past) → has_no_zero user ≡ true
    → tree.Updates by_span past after (user, (place, number)) (Some used)
    → after.entries ≡ insert_entry by_span past.entries (user, (place, number)) used → IsPut user place number used past after
put_so user place number used past after plain updates entries =
    record {
      at = λ u p n.
          updates.0 (u, (p, n))
          ∙ ap (λ (b : Bool). cond b (Some used) (past_at past u p n)) (span_test place user number (u, (p, n)) ∙ turned u p n)
          ∙ by (bytes_eq u user && ((place == p) && int_eq number n)) (past_at past u p n);
      plain = λ h. ap (λ (es : List ((List ℕ × (ℕ × ℤ)) × Used)). list_all (λ (k : List ℕ × (ℕ × ℤ)). has_no_zero k.0) (keys_of es)) entries
          ∙ keys_more by_span (λ (k : List ℕ × (ℕ × ℤ)). has_no_zero k.0) past.entries (user, (place, number)) used h plain;
    }
  where
    same_places : (p : ℕ) → (p == place) ≡ (place == p)
    same_places p = grind (arith, nat_tests)

    turned : (u : List ℕ) (p : ℕ) (n : ℤ) → (bytes_eq user u && ((p == place) && int_eq n number)) ≡ (bytes_eq u user && ((place == p) && int_eq number n))
    turned u p n = ap₂ (λ (x y : Bool). x && y) (name-sym user u) (ap₂ (λ (x y : Bool). x && y) (same_places p) (int-sym n number))

    by : (b : Bool) (o : Option Used) → cond b (Some used) o ≡ or_else (cond b (Some used) None) o
    by true o = refl
    by false o = refl

-- a walk over the spans that have passed
pub past_added : (past : Past) (e : (List ℕ × (ℕ × ℤ)) × Used) (es its : List ((List ℕ × (ℕ × ℤ)) × Used)) (old now new : Rows) → its ≡ e ∷ es
    → AreLeft (λ p u n. past_at past u p n) (λ p u n. lookup (is_at (by_span (u, (p, n)))) its) old now
    → AreAdded (one_row e.0.1.0 e.0.0 e.0.1.1 e.1) now new
    → AreLeft (λ p u n. past_at past u p n) (λ p u n. lookup (is_at (by_span (u, (p, n)))) es) old new
past_added past e es its old now new f l a =
    fewer_left (λ p u n. past_at past u p n) (λ p u n. lookup (is_at (by_span (u, (p, n)))) its) (one_row e.0.1.0 e.0.0 e.0.1.1 e.1) (λ p u n. lookup (is_at (by_span (u, (p, n)))) es)
    old now new l a
    (λ p u n. ap (λ (xs : List ((List ℕ × (ℕ × ℤ)) × Used)). lookup (is_at (by_span (u, (p, n)))) xs) f ∙ past_head e es p u n)

pub past_done : (past : Past) (its : List ((List ℕ × (ℕ × ℤ)) × Used)) (old now : Rows) → its ≡ []
    → AreLeft (λ p u n. past_at past u p n) (λ p u n. lookup (is_at (by_span (u, (p, n)))) its) old now → AreAdded (λ p u n. past_at past u p n) old now
past_done past its old now f l =
    none_left (λ p u n. past_at past u p n) (λ p u n. lookup (is_at (by_span (u, (p, n)))) its) old now l
    (λ p u n. ap (λ (xs : List ((List ℕ × (ℕ × ℤ)) × Used)). lookup (is_at (by_span (u, (p, n)))) xs) f)

-- a walk over the users
abbrev OfUsers : Users → List (List ℕ × List Counter) → Rows → Rows → Type 0
OfUsers users its old now = IsStrictlySortedBy by_name (keys_of its) × AreLeft (λ p u n. in_span n (at_place p (counters_at users u))) (rows_of_all its) old now

pub users_added : (users : Users) (user : List ℕ) (cs : List Counter) (es its : List (List ℕ × List Counter)) (old now new : Rows) → its ≡ (user, cs) ∷ es
    → OfUsers users its old now → AreAdded (rows_of_user user cs) now new → OfUsers users es old new
users_added users user cs es its old now new f l a =
    let sorted = subst (λ (xs : List (List ℕ × List Counter)). IsStrictlySortedBy by_name (keys_of xs)) f l.0 in (
      users_after (user, cs) es sorted,
      fewer_left (λ p u n. in_span n (at_place p (counters_at users u))) (rows_of_all its) (rows_of_user user cs) (rows_of_all es) old now new l.1 a
          (λ p u n. ap (λ (xs : List (List ℕ × List Counter)). rows_of_all xs p u n) f ∙ user_head user cs es sorted p u n),
    )

pub users_done : (users : Users) (its : List (List ℕ × List Counter)) (old now : Rows) → its ≡ [] → OfUsers users its old now
    → AreAdded (λ p u n. in_span n (at_place p (counters_at users u))) old now
users_done users its old now f l =
    none_left (λ p u n. in_span n (at_place p (counters_at users u))) (rows_of_all its) old now l.1
    (λ p u n. ap (λ (xs : List (List ℕ × List Counter)). rows_of_all xs p u n) f)
