-- A counter that is turned to a row's span, or made for it: nothing is counted in another way.
use Rattle.std.proofs.Common.{◌≡◌, ℕ, ◌+◌, ℤ, Bool, true, false, cond, ◌&&◌, ◌==◌, nat_le, List, [], ◌∷◌, set, slice_get, Option, Some, None, is_some, refl, sym, ap, ap₂, ◌∙◌, subst, arith, w64, of_z}
use Rattle.std.specs.List.{list_all}
use Rattle.std.specs.Map.{keys_of}
use Rattle.std.specs.Str.{bytes_eq}
use Rattle.std.specs.List.{insert}
use Rattle.std.specs.declared.cmp.Ordering.{Ordering}
use Rattle.std.specs.declared.cmp.Ordering.TheVariants.{Less, Equal, Greater}
use Rattle.std.specs.Ordering.{int_eq, match_ordering}
use Rattle.std.specs.Cmp.{signed_Decides, int_eq_equiv}
use Rattle.std.specs.BTreeMap as tree
use Rattle.std.specs.BTreeMap.{insert_entry}
use Rattle.std.proofs.lemmas.Bool.{and_parts}
use Rattle.std.proofs.lemmas.Bool.Decides.{nat_tests}
use Rattle.iss_model.specs.declared.txn.UsageRow.{UsageRow}
use Rattle.iss_model.specs.declared.txn.Used.{Used}
use Rattle.iss_model.specs.rules.Controls.{Group, counts}
use Rattle.iss_model.proofs.Names.{name-sym, its_name}
use Rattle.iss_velocity.specs.declared.counters.Counter.{Counter}
use Rattle.iss_velocity.specs.declared.standing.Standing.{Standing}
use Rattle.iss_velocity.specs.Spanning.{span_number}
use Rattle.iss_velocity.specs.Counting.{Past, by_span, put_of, at_place, in_span, or_else, past_at, used_at_place}
use Rattle.iss_velocity.specs.Lists.{IsSplit, AreReady}
use Rattle.iss_velocity.specs.Keeping.{has_no_zero, IsKeptPast, IsTurned, IsReady, StaysSame}
use Rattle.iss_velocity.proofs.Lookups.{span_test}
use Rattle.iss_velocity.proofs.Walks.{stands_here, put_split, put_at, new_split, new_at}

-- numbers that pass the test are one
pub one_number : (m n : ℤ) → int_eq m n ≡ true → m ≡ n
one_number m n h = (signed_Decides m n).0 h

pub same_number : (n : ℤ) → int_eq n n ≡ true
same_number n = (signed_Decides n n).1 refl

pub itself : (n : ℕ) → (n == n) ≡ true
itself n = grind (arith, nat_tests)

twice : {A : Type 0} (o : Option A) → or_else o o ≡ o
twice None = refl
twice (Some x) = refl

-- keys that pass a test, with one more
module _ {K X : Type 0} (cmp : K → K → Ordering) (test : K → Bool) where
  pub keys_more : (es : List (K × X)) (k : K) (v : X) → list_all test (keys_of es) ≡ true → test k ≡ true → list_all test (keys_of (insert_entry cmp es k v)) ≡ true
  keys_more [] k v h own = ap (λ (b : Bool). b && true) own
  keys_more (e ∷ es) k v h own = at (cmp k e.0) (keys_more es k v parts.1 own)
    where
      parts : (test e.0 ≡ true) × (list_all test (keys_of es) ≡ true)
      parts = and_parts (test e.0) (list_all test (keys_of es)) h

      at : (o : Ordering) → list_all test (keys_of (insert_entry cmp es k v)) ≡ true
          → list_all test (keys_of (match_ordering o ((k, v) ∷ e ∷ es) ((e.0, v) ∷ es) (e ∷ insert_entry cmp es k v))) ≡ true
      at Less rest = ap₂ (λ (a b : Bool). a && b) own h
      at Equal rest = h
      at Greater rest = ap₂ (λ (a b : Bool). a && b) parts.0 rest

-- nothing is counted in another way if nothing is done
pub stays : (user : List ℕ) (cs : List Counter) (past : Past) → StaysSame user cs past cs past
stays user cs past = record { same = λ p n. refl; others = λ u p n h. refl; plain = λ h. h }

pub stays_kept : (user : List ℕ) (cs : List Counter) (past after : Past) → IsKeptPast past after → StaysSame user cs past cs after
stays_kept user cs past after k =
    record {
      same = λ p n. ap (λ (o : Option Used). or_else (in_span n (at_place p cs)) o) (k.same user p n);
      others = λ u p n h. k.same u p n;
      plain = k.plain;
    }

-- one after the other
pub stays_then : (user : List ℕ) (a b c : List Counter) (p q r : Past) → StaysSame user a p b q → StaysSame user b q c r → StaysSame user a p c r
stays_then user a b c p q r s t =
    record {
      same = λ place n. t.same place n ∙ s.same place n;
      others = λ u place n h. t.others u place n h ∙ s.others u place n h;
      plain = λ h. t.plain (s.plain h);
    }

-- a counter that is of the span already
pub turned_already : (user : List ℕ) (number : ℤ) (c : Counter) (past : Past) → int_eq c.number number ≡ true → is_some c.used ≡ true → IsTurned user number c past past c
turned_already user number c past e h =
    record {
      is = λ i. record { place = c.place; number = one_number c.number number e i; used = own i };
      same = λ n. refl;
      others = λ u p n h. refl;
      plain = λ h. h;
    }
  where
    kept : (o : Option Used) → is_some o ≡ true → (p : Option Used) → o ≡ or_else o p
    kept None h p = cc
    kept (Some x) h p = refl

    own : c.used ≡ or_else (in_span number (Some c)) (past_at past user c.place number)
    own = kept c.used h (past_at past user c.place number)
        ∙ ap (λ (b : Bool). or_else (cond b c.used None) (past_at past user c.place number)) (sym e)

-- a counter without a row, turned
pub turned_unused : (user : List ℕ) (number : ℤ) (c t : Counter) (past : Past) → c.used ≡ None → t ≡ record { place = c.place; number = number; used = past_at past user c.place number }
    → IsTurned user number c past past t
turned_unused user number c t past e d =
    subst (IsTurned user number c past past) (sym d) (record {
      is = λ i. record { place = c.place; number = number; used = sym (nothing number (past_at past user c.place number)) i };
      same = λ n. counted n ∙ sym (nothing n (past_at past user c.place n));
      others = λ u p n h. refl;
      plain = λ h. h;
    })
  where
    either : (b : Bool) (p : Option Used) → or_else (cond b None None) p ≡ p
    either true p = refl
    either false p = refl

    nothing : (n : ℤ) (p : Option Used) → or_else (in_span n (Some c)) p ≡ p
    nothing n p = ap (λ (o : Option Used). or_else (cond (int_eq c.number n) o None) p) e ∙ either (int_eq c.number n) p

    at : (n : ℤ) (b : Bool) → int_eq number n ≡ b → or_else (cond b (past_at past user c.place number) None) (past_at past user c.place n) ≡ past_at past user c.place n
    at n true h = ap (λ (m : ℤ). or_else (past_at past user c.place m) (past_at past user c.place n)) (one_number number n h) ∙ twice (past_at past user c.place n)
    at n false h = refl

    counted : (n : ℤ) → or_else (cond (int_eq number n) (past_at past user c.place number) None) (past_at past user c.place n) ≡ past_at past user c.place n
    counted n = at n (int_eq number n) refl

-- numbers are apart if their bits are
pub apart_by_bits : (m n : ℤ) → (of_z w64 m ≡ of_z w64 n → ⊥) → int_eq m n ≡ false
apart_by_bits m n h = at (int_eq m n) refl
  where
    at : (b : Bool) → int_eq m n ≡ b → b ≡ false
    at true e = absurd (h (ap (of_z w64) (one_number m n e)))
    at false e = refl

-- a counter that leaves its span to those that have passed
pub turned_over : (user : List ℕ) (number : ℤ) (c t : Counter) (used : Used) (past after : Past) → has_no_zero user ≡ true → int_eq c.number number ≡ false → c.used ≡ Some used
    → tree.Updates by_span past after (user, (c.place, c.number)) (Some used)
    → after.entries ≡ insert_entry by_span past.entries (user, (c.place, c.number)) used
    → t ≡ record { place = c.place; number = number; used = past_at after user c.place number }
    → IsTurned user number c past after t
turned_over user number c t used past after plain e f updates entries d =
    subst (IsTurned user number c past after) (sym d) (record {
      is = λ i. record { place = c.place; number = number; used = own i };
      same = λ n. at n (int_eq c.number n) refl (int_eq number n) refl;
      others = λ u p n h.
          passed u p n
          ∙ ap (λ (b : Bool). cond b (Some used) (past_at past u p n)) (apart u p n h);
      plain = λ h. ap (λ (es : List ((List ℕ × (ℕ × ℤ)) × Used)). list_all (λ (k : List ℕ × (ℕ × ℤ)). has_no_zero k.0) (keys_of es)) entries
          ∙ keys_more by_span (λ (k : List ℕ × (ℕ × ℤ)). has_no_zero k.0) past.entries (user, (c.place, c.number)) used h plain;
    })
  where
    passed : (u : List ℕ) (p : ℕ) (n : ℤ) → past_at after u p n ≡ cond (bytes_eq user u && ((p == c.place) && int_eq n c.number)) (Some used) (past_at past u p n)
    passed u p n =
        updates.0 (u, (p, n))
        ∙ ap (λ (b : Bool). cond b (Some used) (past_at past u p n)) (span_test c.place user c.number (u, (p, n)))

    here : (n : ℤ) → past_at after user c.place n ≡ cond (int_eq n c.number) (Some used) (past_at past user c.place n)
    here n =
        passed user c.place n
        ∙ ap₂ (λ (a b : Bool). cond (a && (b && int_eq n c.number)) (Some used) (past_at past user c.place n)) (its_name user) (itself c.place)

    swapped : (m n : ℤ) (b : Bool) → int_eq m n ≡ b → int_eq n m ≡ b
    swapped m n b h = int_eq_equiv.symm n m ∙ h

    old_number : past_at after user c.place number ≡ past_at past user c.place number
    old_number =
        here number ∙ ap (λ (b : Bool). cond b (Some used) (past_at past user c.place number)) (swapped c.number number false e)

    own : past_at after user c.place number ≡ or_else (in_span number (Some c)) (past_at past user c.place number)
    own = old_number ∙ ap (λ (b : Bool). or_else (cond b c.used None) (past_at past user c.place number)) (sym e)

    apart : (u : List ℕ) (p : ℕ) (n : ℤ) → (bytes_eq u user && (p == c.place)) ≡ false → (bytes_eq user u && ((p == c.place) && int_eq n c.number)) ≡ false
    apart u p n h = by (bytes_eq user u) (bytes_eq u user) (p == c.place) (int_eq n c.number) (name u) h
      where
        name : (u : List ℕ) → bytes_eq user u ≡ bytes_eq u user
        name u = name-sym user u

        by : (a b d i : Bool) → a ≡ b → (b && d) ≡ false → (a && (d && i)) ≡ false
        by true true true i g k = cc
        by true true false i g k = refl
        by true false d i g k = cc
        by false b d i g k = refl

    at : (n : ℤ) (b : Bool) → int_eq c.number n ≡ b → (d : Bool) → int_eq number n ≡ d
        → or_else (cond (int_eq number n) (past_at after user c.place number) None) (past_at after user c.place n)
        ≡ or_else (cond (int_eq c.number n) c.used None) (past_at past user c.place n)
    at n true g true k =
        let one : c.number ≡ number = one_number c.number n g ∙ sym (one_number number n k) in
        let wrong : int_eq c.number number ≡ true = ap (λ (m : ℤ). int_eq c.number m) (sym one) ∙ same_number c.number in
        (let absurdly : true ≡ false = sym wrong ∙ e in cc)
    at n true g false k =
        ap₂ (λ (x : Bool) (o : Option Used). or_else (cond x (past_at after user c.place number) None) o) k
        (here n ∙ ap (λ (x : Bool). cond x (Some used) (past_at past user c.place n)) (swapped c.number n true g))
        ∙ sym (ap₂ (λ (x : Bool) (o : Option Used). or_else (cond x o None) (past_at past user c.place n)) g f)
    at n false g d k =
        ap₂ (λ (o q : Option Used). or_else (cond (int_eq number n) o None) q) old_number
        (here n ∙ ap (λ (x : Bool). cond x (Some used) (past_at past user c.place n)) (swapped c.number n false g))
        ∙ ap (λ (x : Bool). or_else (cond x (past_at past user c.place number) None) (past_at past user c.place n)) k
        ∙ once d k
        ∙ sym (ap (λ (x : Bool). or_else (cond x c.used None) (past_at past user c.place n)) g)
      where
        once : (d : Bool) → int_eq number n ≡ d → or_else (cond d (past_at past user c.place number) None) (past_at past user c.place n) ≡ past_at past user c.place n
        once true h = ap (λ (m : ℤ). or_else (past_at past user c.place m) (past_at past user c.place n)) (one_number number n h) ∙ twice (past_at past user c.place n)
        once false h = refl

-- a counter that stands, turned in its place
module _ (user : List ℕ) (number : ℤ) (cs : List Counter) (next place : ℕ) (s : IsSplit cs next place) (past after : Past) (c turned : Counter)
    (found : at_place place cs ≡ Some c) (t : IsTurned user number c past after turned) where
  its_place : turned.place ≡ c.place
  its_place = ap (λ (x : Counter). x.place) t.is

  here : (slice_get cs next ≡ Some c) × ((c.place == place) ≡ true)
  here = stands_here cs next place s c found

  pub turned_at : (p : ℕ) → at_place p (set cs next turned) ≡ cond (p == place) (Some turned) (at_place p cs)
  turned_at p = put_at cs next place s c turned here.0 here.1 its_place p

  pub turned_split : IsSplit (set cs next turned) next place
  turned_split = put_split cs next place s c turned here.0 here.1 its_place

  pub turned_kept : (p : ℕ) → (p == place) ≡ false → at_place p (set cs next turned) ≡ at_place p cs
  turned_kept p h = turned_at p ∙ ap (λ (b : Bool). cond b (Some turned) (at_place p cs)) h

  same_place : c.place ≡ place
  same_place = (let h = here.1 in grind (arith, nat_tests))

  pub turned_ready : IsReady user place number cs past (set cs next turned)
  turned_ready =
      record {
        is = turned_at place ∙ ap (λ (b : Bool). cond b (Some turned) (at_place place cs)) (itself place)
            ∙ ap (λ (x : Counter). Some x) t.is
            ∙ (λ i. Some (record { place = same_place i; number = number; used = or_else (in_span number (Some c)) (past_at past user (same_place i) number) }))
            ∙ ap (λ (o : Option Counter). Some (record { place = place; number = number; used = or_else (in_span number o) (past_at past user place number) })) (sym found);
      }

  pub turned_stays : StaysSame user cs past (set cs next turned) after
  turned_stays =
      record {
        same = λ p n. at p n (p == place) refl;
        others = λ u p n h. t.others u p n (ap (λ (b : Bool). b && (p == c.place)) h);
        plain = t.plain;
      }
    where
      at : (p : ℕ) (n : ℤ) (b : Bool) → (p == place) ≡ b → used_at_place (set cs next turned) after user p n ≡ used_at_place cs past user p n
      at p n true h =
          let one : p ≡ c.place = (let e = same_place in grind (arith, nat_tests)) in
          let two : p ≡ place = grind (arith, nat_tests) in
          ap (λ (o : Option Counter). or_else (in_span n o) (past_at after user p n)) (turned_at p ∙ ap (λ (x : Bool). cond x (Some turned) (at_place p cs)) h)
          ∙ ap (λ (q : ℕ). or_else (in_span n (Some turned)) (past_at after user q n)) one
          ∙ t.same n
          ∙ ap (λ (q : ℕ). or_else (in_span n (Some c)) (past_at past user q n)) (sym one)
          ∙ ap (λ (o : Option Counter). or_else (in_span n o) (past_at past user p n)) (sym found ∙ ap (λ (q : ℕ). at_place q cs) (sym two))
      at p n false h =
          let other : (p == c.place) ≡ false = ap (λ (q : ℕ). p == q) same_place ∙ h in
          ap₂ (λ (o : Option Counter) (u : Option Used). or_else (in_span n o) u) (turned_kept p h)
          (t.others user p n (ap₂ (λ (x y : Bool). x && y) (its_name user) other))

-- a counter that is made for a row
module _ (user : List ℕ) (number : ℤ) (cs : List Counter) (next place : ℕ) (s : IsSplit cs next place) (past : Past) (none : at_place place cs ≡ None) where
  made : Counter
  made = record { place = place; number = number; used = past_at past user place number }

  pub made_split : IsSplit (insert cs next (record { place = place; number = number; used = past_at past user place number })) next place
  made_split = new_split cs next place s (record { place = place; number = number; used = past_at past user place number }) none refl

  made_at : (p : ℕ) → at_place p (insert cs next (record { place = place; number = number; used = past_at past user place number }))
      ≡ cond (p == place) (Some (record { place = place; number = number; used = past_at past user place number })) (at_place p cs)
  made_at p = new_at cs next place s (record { place = place; number = number; used = past_at past user place number }) none refl p

  pub made_kept : (p : ℕ) → (p == place) ≡ false → at_place p (insert cs next (record { place = place; number = number; used = past_at past user place number })) ≡ at_place p cs
  made_kept p h = made_at p ∙ ap (λ (b : Bool). cond b (Some (record { place = place; number = number; used = past_at past user place number })) (at_place p cs)) h

  pub made_ready : IsReady user place number cs past (insert cs next (record { place = place; number = number; used = past_at past user place number }))
  made_ready =
      record {
        is = made_at place ∙ ap (λ (b : Bool). cond b (Some (record { place = place; number = number; used = past_at past user place number })) (at_place place cs)) (itself place)
            ∙ ap (λ (o : Option Counter). Some (record { place = place; number = number; used = or_else (in_span number o) (past_at past user place number) })) (sym none);
      }

  pub made_stays : StaysSame user cs past (insert cs next (record { place = place; number = number; used = past_at past user place number })) past
  made_stays = record { same = λ p n. at p n (p == place) refl; others = λ u p n h. refl; plain = λ h. h }
    where
      once : (n : ℤ) (b : Bool) → int_eq number n ≡ b → or_else (cond b (past_at past user place number) None) (past_at past user place n) ≡ past_at past user place n
      once n true h = ap (λ (m : ℤ). or_else (past_at past user place m) (past_at past user place n)) (one_number number n h) ∙ twice (past_at past user place n)
      once n false h = refl

      at : (p : ℕ) (n : ℤ) (b : Bool) → (p == place) ≡ b
          → used_at_place (insert cs next (record { place = place; number = number; used = past_at past user place number })) past user p n ≡ used_at_place cs past user p n
      at p n true h =
          let one : p ≡ place = grind (arith, nat_tests) in
          ap (λ (o : Option Counter). or_else (in_span n o) (past_at past user p n))
          (made_at p ∙ ap (λ (x : Bool). cond x (Some (record { place = place; number = number; used = past_at past user place number })) (at_place p cs)) h)
          ∙ ap (λ (q : ℕ). or_else (cond (int_eq number n) (past_at past user place number) None) (past_at past user q n)) one
          ∙ once n (int_eq number n) refl
          ∙ ap (λ (q : ℕ). past_at past user q n) (sym one)
          ∙ ap (λ (o : Option Counter). or_else (in_span n o) (past_at past user p n)) (sym none ∙ ap (λ (q : ℕ). at_place q cs) (sym one))
      at p n false h = ap (λ (o : Option Counter). or_else (in_span n o) (past_at past user p n)) (made_kept p h)

-- the counters of the controls before a place stay ready while the next one is made ready
module _ (controls : List Standing) (groups : List Group) (row : UsageRow) (old : List Counter) (past : Past) where
  pub none_ready : (cs : List Counter) → AreReady controls groups row old past cs 0
  none_ready cs = record { ready = λ p s h e k. absurd (never p h) }
    where
      never : (p : ℕ) → nat_le (p + 1) 0 ≡ true → ⊥
      never p h = omega (arith, (nat_le_holds p h))
        where
          nat_le_holds : (p : ℕ) → nat_le (p + 1) 0 ≡ true → p + 1 ≡ 0
          nat_le_holds p h = grind (arith, nat_tests)

  pub one_more_ready : (before cs : List Counter) (now : Past) (end : ℕ) (s : Standing) → AreReady controls groups row old past before end
      → slice_get controls end ≡ Some s
      → StaysSame row.user old past before now
      → IsReady row.user end (span_number s row) before now cs
      → ((p : ℕ) → (p == end) ≡ false → at_place p cs ≡ at_place p before)
      → AreReady controls groups row old past cs (end + 1)
  one_more_ready before cs now end s r found same ready kept =
      record { ready = λ p t h e k. at p t (p == end) refl h e k }
    where
      at : (p : ℕ) (t : Standing) (b : Bool) → (p == end) ≡ b → nat_le (p + 1) (end + 1) ≡ true → slice_get controls p ≡ Some t → counts groups (put_of t) row ≡ true
          → at_place p cs ≡ Some (record { place = p; number = span_number t row; used = used_at_place old past row.user p (span_number t row) })
      at p t true g h e k =
          let one : p ≡ end = grind (arith, nat_tests) in
          let same_standing : Some s ≡ Some t = sym found ∙ ap (λ (q : ℕ). slice_get controls q) (sym one) ∙ e in
          let own : s ≡ t = cc in
          ap (λ (q : ℕ). at_place q cs) one ∙ ready.is
          ∙ ap (λ (x : Standing). Some (record { place = end; number = span_number x row; used = used_at_place before now row.user end (span_number x row) })) own
          ∙ ap (λ (u : Option Used). Some (record { place = end; number = span_number t row; used = u })) (same.same end (span_number t row))
          ∙ ap (λ (q : ℕ). Some (record { place = q; number = span_number t row; used = used_at_place old past row.user q (span_number t row) })) (sym one)
      at p t false g h e k =
          let below : nat_le (p + 1) end ≡ true = grind (arith, nat_tests) in
          kept p g ∙ r.ready p t below e k

  pub same_ready : (cs : List Counter) (end : ℕ) (s : Standing) → AreReady controls groups row old past cs end
      → slice_get controls end ≡ Some s → counts groups (put_of s) row ≡ false → AreReady controls groups row old past cs (end + 1)
  same_ready cs end s r found not_counted =
      record { ready = λ p t h e k. at p t (p == end) refl h e k }
    where
      at : (p : ℕ) (t : Standing) (b : Bool) → (p == end) ≡ b → nat_le (p + 1) (end + 1) ≡ true → slice_get controls p ≡ Some t → counts groups (put_of t) row ≡ true
          → at_place p cs ≡ Some (record { place = p; number = span_number t row; used = used_at_place old past row.user p (span_number t row) })
      at p t true g h e k =
          let one : p ≡ end = grind (arith, nat_tests) in
          let same_standing : Some s ≡ Some t = sym found ∙ ap (λ (q : ℕ). slice_get controls q) (sym one) ∙ e in
          let own : s ≡ t = cc in
          let wrong : true ≡ false = sym k ∙ ap (λ (x : Standing). counts groups (put_of x) row) (sym own) ∙ not_counted in
          absurd (cc)
      at p t false g h e k = r.ready p t (grind (arith, nat_tests)) e k

-- a counter is ready, and nothing else has changed
pub record IsMadeReady (user : List ℕ) (place : ℕ) (number : ℤ) (next : ℕ) (old : List Counter) (past : Past) (new : List Counter) (after : Past) : Type 0 where
  pub split : IsSplit new next place
  pub ready : IsReady user place number old past new
  pub same : StaysSame user old past new after
  pub kept : (p : ℕ) → (p == place) ≡ false → at_place p new ≡ at_place p old

pub made_so : (user : List ℕ) (number stored : ℤ) (cs new : List Counter) (next place : ℕ) (d : Counter) (past : Past) → IsSplit cs next place → None ≡ at_place place cs
    → d ≡ record { place = place; number = stored; used = past_at past user place stored } → stored ≡ number → new ≡ insert cs next d → IsMadeReady user place number next cs past new past
made_so user number stored cs new next place d past s none own is f =
    let e : d ≡ record { place = place; number = number; used = past_at past user place number } = own ∙ ap (λ (n : ℤ). record { place = place; number = n; used = past_at past user place n }) is in
    subst (λ (xs : List Counter). IsMadeReady user place number next cs past xs past) (sym (f ∙ ap (insert cs next) e))
    (record {
      split = made_split user number cs next place s past (sym none);
      ready = made_ready user number cs next place s past (sym none);
      same = made_stays user number cs next place s past (sym none);
      kept = made_kept user number cs next place s past (sym none);
    })

pub turned_so : (user : List ℕ) (number stored : ℤ) (cs new : List Counter) (next place : ℕ) (c turned : Counter) (past after : Past) → IsSplit cs next place → Some c ≡ at_place place cs
    → IsTurned user stored c past after turned → stored ≡ number → new ≡ set cs next turned → IsMadeReady user place number next cs past new after
turned_so user number stored cs new next place c turned past after s found own is f =
    let t : IsTurned user number c past after turned = subst (λ (n : ℤ). IsTurned user n c past after turned) is own in
    subst (λ (xs : List Counter). IsMadeReady user place number next cs past xs after) (sym f)
    (record {
      split = turned_split user number cs next place s past after c turned (sym found) t;
      ready = turned_ready user number cs next place s past after c turned (sym found) t;
      same = turned_stays user number cs next place s past after c turned (sym found) t;
      kept = turned_kept user number cs next place s past after c turned (sym found) t;
    })
