-- What the sums of a control have at a user's span is what its counters have counted there.
use Rattle.std.proofs.Common.{◌≡◌, ℕ, ℤ, Bool, true, false, cond, ◌&&◌, ◌==◌, nat_lt, List, [], ◌∷◌, ◌++◌, Option, Some, None, refl, sym, ap, ap₂, ◌∙◌, arith}
use Rattle.std.specs.Prelude.{unwrap_or}
use Rattle.std.specs.Option.{option_map}
use Rattle.std.specs.List.{filter_map, cons_option, list_all, AllByRecursion}
use Rattle.std.specs.List.Sorted.{IsStrictlySortedBy}
use Rattle.std.specs.Map.{lookup, keys_of}
use Rattle.std.specs.Str.{bytes_eq}
use Rattle.std.specs.declared.cmp.Ordering.{Ordering}
use Rattle.std.specs.declared.cmp.Ordering.TheVariants.{Less, Equal, Greater}
use Rattle.std.specs.Ordering.{nat_cmp, int_cmp, int_eq, is_eq, eq_by_cmp, ordering_then}
use Rattle.std.specs.Cmp.{int_eq_equiv}
use Rattle.std.specs.Cmp.Lexicographic.{slice_cmp, nat_list_cmp_total}
use Rattle.std.specs.BTreeMap.{is_at}
use Rattle.std.specs.FinMap as finite
use Rattle.std.proofs.lemmas.Bool.{and_parts}
use Rattle.std.proofs.lemmas.Bool.Decides.{nat_tests}
use Rattle.std.proofs.lemmas.Map.Text.{is_eq-slice_cmp}
use Rattle.iss_model.specs.declared.txn.Used.{Used}
use Rattle.iss_model.specs.rules.Controls.{counter_key}
use Rattle.iss_model.proofs.Names.{one_name}
use Rattle.iss_velocity.specs.declared.counters.Counter.{Counter}
use Rattle.iss_velocity.specs.Counting.{Users, Past, by_span, at_place, in_span, or_else, past_at, counters_at, used_at}
use Rattle.iss_velocity.specs.Keeping.{has_no_zero, counter_sum, user_sum, past_sum, sums_in, AreKeyed}
use Rattle.iss_velocity.proofs.KeyOrder.{same_key}

abbrev order : List ℕ → List ℕ → Ordering
order = slice_cmp nat_cmp

-- a key of a counter
pub record IsKey (key : List ℕ) : Type 0 where
  pub user : List ℕ
  pub number : ℤ
  pub plain : has_no_zero user ≡ true
  pub is : key ≡ counter_key user number

found_first : (b : Bool) (x : ℤ) (o p : Option ℤ) → cond b (Some x) (or_else o p) ≡ or_else (cond b (Some x) o) p
found_first true x o p = refl
found_first false x o p = refl

pub find_append : (q : List ℕ) (xs ys : List (List ℕ × ℤ)) → finite.find order q (xs ++ ys) ≡ or_else (finite.find order q xs) (finite.find order q ys)
find_append q [] ys = refl
find_append q (x ∷ xs) ys =
    ap (λ (o : Option ℤ). cond (eq_by_cmp order q x.0) (Some x.1) o) (find_append q xs ys)
    ∙ found_first (eq_by_cmp order q x.0) x.1 (finite.find order q xs) (finite.find order q ys)

pub nothing_else : {A : Type 0} (o : Option A) → or_else o None ≡ o
nothing_else None = refl
nothing_else (Some x) = refl

pub int-sym : (m n : ℤ) → int_eq m n ≡ int_eq n m
int-sym m n = int_eq_equiv.symm m n

-- tests by parts
pub both_equal : (r s : Ordering) → is_eq (ordering_then r s) ≡ (is_eq r && is_eq s)
both_equal Less s = refl
both_equal Equal s = refl
both_equal Greater s = refl

pub place_test : (a b : ℕ) → is_eq (nat_cmp a b) ≡ (b == a)
place_test a b = by_tests (nat_lt a b) (a == b) (b == a) (λ h. grind (arith, nat_tests)) (grind (arith, nat_tests))
  where
    by_tests : (l e s : Bool) → (l ≡ true → s ≡ false) → e ≡ s → is_eq (cond l Less (cond e Equal Greater)) ≡ s
    by_tests true e s p q = sym (p refl)
    by_tests false true s p q = q
    by_tests false false s p q = q

-- the test of a span
pub span_test : (place : ℕ) (user : List ℕ) (number : ℤ) (k : List ℕ × (ℕ × ℤ)) → is_at (by_span (user, (place, number))) k ≡ (bytes_eq user k.0 && ((k.1.0 == place) && int_eq k.1.1 number))
span_test place user number k =
    both_equal (slice_cmp nat_cmp user k.0) (ordering_then (nat_cmp place k.1.0) (int_cmp number k.1.1))
    ∙ ap₂ (λ (x y : Bool). x && y) (is_eq-slice_cmp user k.0)
    (both_equal (nat_cmp place k.1.0) (int_cmp number k.1.1)
    ∙ ap₂ (λ (x y : Bool). x && y) (place_test place k.1.0) (int-sym number k.1.1))

module _ (worth : Used → ℤ) (place : ℕ) (user : List ℕ) (number : ℤ) (plain : has_no_zero user ≡ true) where
  -- one counter before the others
  head : (other : List ℕ) (n : ℤ) (used : Option Used) (rest : List (List ℕ × ℤ)) → has_no_zero other ≡ true
      → finite.find order (counter_key user number) (cons_option (option_map (λ (u : Used). (counter_key other n, worth u)) used) rest)
      ≡ or_else (cond (bytes_eq user other) (option_map worth (cond (int_eq n number) used None)) None) (finite.find order (counter_key user number) rest)
  head other n None rest p = none (bytes_eq user other) (int_eq n number)
    where
      none : (b i : Bool) → finite.find order (counter_key user number) rest
          ≡ or_else (cond b (option_map worth (cond i None None)) None) (finite.find order (counter_key user number) rest)
      none true true = refl
      none true false = refl
      none false i = refl
  head other n (Some u) rest p =
      ap (λ (b : Bool). cond b (Some (worth u)) (finite.find order (counter_key user number) rest))
      (same_key user other number n plain p ∙ ap (λ (i : Bool). bytes_eq user other && i) (int-sym number n))
      ∙ some (bytes_eq user other) (int_eq n number)
    where
      some : (b i : Bool) → cond (b && i) (Some (worth u)) (finite.find order (counter_key user number) rest)
          ≡ or_else (cond b (option_map worth (cond i (Some u) None)) None) (finite.find order (counter_key user number) rest)
      some true true = refl
      some true false = refl
      some false i = refl

  -- one user before the others
  user_head : (other : List ℕ) (o : Option Counter) (rest : List (List ℕ × ℤ)) → has_no_zero other ≡ true
      → finite.find order (counter_key user number) (cons_option (counter_sum worth other o) rest)
      ≡ or_else (cond (bytes_eq user other) (option_map worth (in_span number o)) None) (finite.find order (counter_key user number) rest)
  user_head other None rest p = none (bytes_eq user other)
    where
      none : (b : Bool) → finite.find order (counter_key user number) rest ≡ or_else (cond b None None) (finite.find order (counter_key user number) rest)
      none true = refl
      none false = refl
  user_head other (Some c) rest p = head other c.number c.used rest p

  -- no later user is this one
  no_user : (first : List ℕ) (es : List (List ℕ × List Counter)) → bytes_eq user first ≡ true → AllByRecursion (λ (y : List ℕ). order first y ≡ Less) (keys_of es)
      → list_all has_no_zero (keys_of es) ≡ true → finite.find order (counter_key user number) (filter_map (user_sum worth place) es) ≡ None
  no_user first [] same above p = refl
  no_user first (e ∷ es) same above p =
      let parts = and_parts (has_no_zero e.0) (list_all has_no_zero (keys_of es)) p in
      let other : bytes_eq user e.0 ≡ false =
      ap (λ (u : List ℕ). bytes_eq u e.0) (one_name user first same) ∙ sym (is_eq-slice_cmp first e.0) ∙ ap is_eq above.0 in
      user_head e.0 (at_place place e.1) (filter_map (user_sum worth place) es) parts.0
      ∙ ap (λ (b : Bool). or_else (cond b (option_map worth (in_span number (at_place place e.1))) None) (finite.find order (counter_key user number) (filter_map (user_sum worth place) es))) other
      ∙ no_user first es same above.1 parts.1

  user_part : (es : List (List ℕ × List Counter)) → IsStrictlySortedBy order (keys_of es) → list_all has_no_zero (keys_of es) ≡ true
      → finite.find order (counter_key user number) (filter_map (user_sum worth place) es)
      ≡ option_map worth (in_span number (at_place place (unwrap_or (lookup (is_at (order user)) es) [])))
  unfolding IsStrictlySortedBy
  user_part [] sorted p = refl
  user_part (e ∷ es) sorted p =
      user_head e.0 (at_place place e.1) (filter_map (user_sum worth place) es) parts.0
      ∙ at (bytes_eq user e.0) refl (user_part es sorted.1 parts.1)
      ∙ ap (λ (b : Bool). option_map worth (in_span number (at_place place (unwrap_or (cond b (Some e.1) (lookup (is_at (order user)) es)) [])))) (sym (is_eq-slice_cmp user e.0))
    where
      parts : (has_no_zero e.0 ≡ true) × (list_all has_no_zero (keys_of es) ≡ true)
      parts = and_parts (has_no_zero e.0) (list_all has_no_zero (keys_of es)) p

      at : (b : Bool) → bytes_eq user e.0 ≡ b
          → finite.find order (counter_key user number) (filter_map (user_sum worth place) es)
          ≡ option_map worth (in_span number (at_place place (unwrap_or (lookup (is_at (order user)) es) [])))
          → or_else (cond b (option_map worth (in_span number (at_place place e.1))) None) (finite.find order (counter_key user number) (filter_map (user_sum worth place) es))
          ≡ option_map worth (in_span number (at_place place (unwrap_or (cond b (Some e.1) (lookup (is_at (order user)) es)) [])))
      at true t rest =
          ap (or_else (option_map worth (in_span number (at_place place e.1)))) (no_user e.0 es t sorted.0 parts.1)
          ∙ nothing_else (option_map worth (in_span number (at_place place e.1)))
      at false t rest = rest

  past_part : (es : List ((List ℕ × (ℕ × ℤ)) × Used)) → list_all (λ (k : List ℕ × (ℕ × ℤ)). has_no_zero k.0) (keys_of es) ≡ true
      → finite.find order (counter_key user number) (filter_map (past_sum worth place) es) ≡ option_map worth (lookup (is_at (by_span (user, (place, number)))) es)
  past_part [] p = refl
  past_part (e ∷ es) p =
      at (e.0.1.0 == place) (past_part es parts.1)
      ∙ ap (λ (b : Bool). option_map worth (cond b (Some e.1) (lookup (is_at (by_span (user, (place, number)))) es))) (sym (span_test place user number e.0))
    where
      parts : (has_no_zero e.0.0 ≡ true) × (list_all (λ (k : List ℕ × (ℕ × ℤ)). has_no_zero k.0) (keys_of es) ≡ true)
      parts = and_parts (has_no_zero e.0.0) (list_all (λ (k : List ℕ × (ℕ × ℤ)). has_no_zero k.0) (keys_of es)) p

      known : (b i : Bool) (o : Option Used) (z : Option ℤ) → z ≡ option_map worth o → cond (b && i) (Some (worth e.1)) z ≡ option_map worth (cond (b && (true && i)) (Some e.1) o)
      known true true o z f = refl
      known true false o z f = f
      known false i o z f = f

      unknown : (b : Bool) (i : Bool) (o : Option Used) (z : Option ℤ) → z ≡ option_map worth o → z ≡ option_map worth (cond (b && (false && i)) (Some e.1) o)
      unknown true i o z f = f
      unknown false i o z f = f

      at : (t : Bool) → finite.find order (counter_key user number) (filter_map (past_sum worth place) es) ≡ option_map worth (lookup (is_at (by_span (user, (place, number)))) es)
          → finite.find order (counter_key user number) (cons_option (cond t (Some (counter_key e.0.0 e.0.1.1, worth e.1)) None) (filter_map (past_sum worth place) es))
          ≡ option_map worth (cond (bytes_eq user e.0.0 && (t && int_eq e.0.1.1 number)) (Some e.1) (lookup (is_at (by_span (user, (place, number)))) es))
      at true rest =
          ap (λ (b : Bool). cond b (Some (worth e.1)) (finite.find order (counter_key user number) (filter_map (past_sum worth place) es)))
          (same_key user e.0.0 number e.0.1.1 plain parts.0 ∙ ap (λ (i : Bool). bytes_eq user e.0.0 && i) (int-sym number e.0.1.1))
          ∙ known (bytes_eq user e.0.0) (int_eq e.0.1.1 number) (lookup (is_at (by_span (user, (place, number)))) es)
          (finite.find order (counter_key user number) (filter_map (past_sum worth place) es)) rest
      at false rest =
          unknown (bytes_eq user e.0.0) (int_eq e.0.1.1 number) (lookup (is_at (by_span (user, (place, number)))) es)
          (finite.find order (counter_key user number) (filter_map (past_sum worth place) es)) rest

  mapped : (o p : Option Used) → or_else (option_map worth o) (option_map worth p) ≡ option_map worth (or_else o p)
  mapped None p = refl
  mapped (Some x) p = refl

  -- the sum at a key is what was counted
  pub get_sums : (users : Users) (past : Past) → AreKeyed users past → finite.get (sums_in worth users past place) (counter_key user number) ≡ option_map worth (used_at users past user place number)
  get_sums users past k =
      finite.get-from_entries nat_list_cmp_total (filter_map (user_sum worth place) users.entries ++ filter_map (past_sum worth place) past.entries) (counter_key user number)
      ∙ find_append (counter_key user number) (filter_map (user_sum worth place) users.entries) (filter_map (past_sum worth place) past.entries)
      ∙ ap₂ or_else (user_part users.entries k.ordered k.users_plain) (past_part past.entries k.past_plain)
      ∙ mapped (in_span number (at_place place (counters_at users user))) (past_at past user place number)

-- nothing else has a sum
module _ (worth : Used → ℤ) (place : ℕ) (q : List ℕ) where
  keyed : (user : List ℕ) (number : ℤ) (z : ℤ) (rest : Option ℤ) (b : Bool) → has_no_zero user ≡ true → eq_by_cmp order q (counter_key user number) ≡ b
      → (z' : ℤ) → (rest ≡ Some z' → IsKey q) → cond b (Some z) rest ≡ Some z' → IsKey q
  keyed user number z rest true p e z' later f =
      record { user = user; number = number; plain = p; is = one_name q (counter_key user number) (sym (is_eq-slice_cmp q (counter_key user number)) ∙ e) }
  keyed user number z rest false p e z' later f = later f

  user_keys : (es : List (List ℕ × List Counter)) → list_all has_no_zero (keys_of es) ≡ true → (z : ℤ) → finite.find order q (filter_map (user_sum worth place) es) ≡ Some z → IsKey q
  user_keys [] p z f = cc
  user_keys (e ∷ es) p z f = at (user_keys es parts.1 z) (at_place place e.1) f
    where
      parts : (has_no_zero e.0 ≡ true) × (list_all has_no_zero (keys_of es) ≡ true)
      parts = and_parts (has_no_zero e.0) (list_all has_no_zero (keys_of es)) p

      used_at_key : (finite.find order q (filter_map (user_sum worth place) es) ≡ Some z → IsKey q) → (n : ℤ) (o : Option Used)
          → finite.find order q (cons_option (option_map (λ (u : Used). (counter_key e.0 n, worth u)) o) (filter_map (user_sum worth place) es)) ≡ Some z → IsKey q
      used_at_key rest n None g = rest g
      used_at_key rest n (Some u) g =
          keyed e.0 n (worth u) (finite.find order q (filter_map (user_sum worth place) es)) (eq_by_cmp order q (counter_key e.0 n)) parts.0 refl z
          rest g

      at : (finite.find order q (filter_map (user_sum worth place) es) ≡ Some z → IsKey q) → (o : Option Counter)
          → finite.find order q (cons_option (counter_sum worth e.0 o) (filter_map (user_sum worth place) es)) ≡ Some z → IsKey q
      at rest None g = rest g
      at rest (Some c) g = used_at_key rest c.number c.used g

  past_keys : (es : List ((List ℕ × (ℕ × ℤ)) × Used)) → list_all (λ (k : List ℕ × (ℕ × ℤ)). has_no_zero k.0) (keys_of es) ≡ true
      → (z : ℤ) → finite.find order q (filter_map (past_sum worth place) es) ≡ Some z → IsKey q
  past_keys [] p z f = cc
  past_keys (e ∷ es) p z f = at (past_keys es parts.1 z) (e.0.1.0 == place) f
    where
      parts : (has_no_zero e.0.0 ≡ true) × (list_all (λ (k : List ℕ × (ℕ × ℤ)). has_no_zero k.0) (keys_of es) ≡ true)
      parts = and_parts (has_no_zero e.0.0) (list_all (λ (k : List ℕ × (ℕ × ℤ)). has_no_zero k.0) (keys_of es)) p

      at : (finite.find order q (filter_map (past_sum worth place) es) ≡ Some z → IsKey q) → (t : Bool) → finite.find order q (cons_option (cond t (Some (counter_key e.0.0 e.0.1.1, worth e.1)) None) (filter_map (past_sum worth place) es)) ≡ Some z → IsKey q
      at rest true g =
          keyed e.0.0 e.0.1.1 (worth e.1) (finite.find order q (filter_map (past_sum worth place) es)) (eq_by_cmp order q (counter_key e.0.0 e.0.1.1)) parts.0 refl z
          rest g
      at rest false g = rest g

  pub sums_keys : (users : Users) (past : Past) → AreKeyed users past → (z : ℤ) → finite.get (sums_in worth users past place) q ≡ Some z → IsKey q
  sums_keys users past k z f =
      either (finite.find order q (filter_map (user_sum worth place) users.entries)) refl
      (sym (find_append q (filter_map (user_sum worth place) users.entries) (filter_map (past_sum worth place) past.entries))
      ∙ sym (finite.get-from_entries nat_list_cmp_total (filter_map (user_sum worth place) users.entries ++ filter_map (past_sum worth place) past.entries) q) ∙ f)
    where
      either : (o : Option ℤ) → finite.find order q (filter_map (user_sum worth place) users.entries) ≡ o
          → or_else (finite.find order q (filter_map (user_sum worth place) users.entries)) (finite.find order q (filter_map (past_sum worth place) past.entries)) ≡ Some z → IsKey q
      either None e g =
          past_keys past.entries k.past_plain z (ap (λ (o : Option ℤ). or_else o (finite.find order q (filter_map (past_sum worth place) past.entries))) (sym e) ∙ g)
      either (Some y) e g = user_keys users.entries k.users_plain y e
