-- Places by key stay found if others are added or taken away.
use Rattle.std.proofs.Common.{◌≡◌, ℕ, ◌<◌, ◌≤◌, nat_lt, ◌==◌, Bool, true, false, cond, ◌&&◌, List, [], refl, sym, ap, ◌∙◌, subst, true≢false, arith}
use Rattle.std.proofs.lemmas.Bool.Decides.{nat_tests}
use Rattle.std.specs.Prelude.{Option, Some, None}
use Rattle.std.specs.declared.cmp.Ordering.{Ordering}
use Rattle.std.specs.declared.cmp.Ordering.TheVariants.{Less, Equal, Greater}
use Rattle.std.specs.Ordering.{nat_cmp, ordering_then, is_eq}
use Rattle.std.specs.Cmp.{unsigned_ties}
use Rattle.std.specs.BTreeMap.{is_at}
use Rattle.std.specs.Map.{lookup}
use Rattle.iss_channels.specs.Places.{by_place, has, Puts, passes, AreFound}

-- ---- numbers

pub same_number : (n m : ℕ) → is_eq (nat_cmp n m) ≡ true → n ≡ m
same_number n m e = by_test n m (unsigned_ties n m ∙ e)
  where
    by_test : (n m : ℕ) → (n == m) ≡ true → n ≡ m
    by_test n m e = grind (arith, nat_tests)

pub itself : (n : ℕ) → is_eq (nat_cmp n n) ≡ true
itself n = sym (unsigned_ties n n) ∙ by_test n
  where
    by_test : (n : ℕ) → (n == n) ≡ true
    by_test n = grind (arith, nat_tests)

pub turned : (n m : ℕ) → is_eq (nat_cmp n m) ≡ is_eq (nat_cmp m n)
turned n m = sym (unsigned_ties n m) ∙ by_test n m ∙ unsigned_ties m n
  where
    by_test : (n m : ℕ) → (n == m) ≡ (m == n)
    by_test n m = grind (arith, nat_tests)

pub apart_below : (n m : ℕ) → m < n → is_eq (nat_cmp n m) ≡ false
apart_below n m h = sym (unsigned_ties n m) ∙ by_test n m h
  where
    by_test : (n m : ℕ) → m < n → (n == m) ≡ false
    by_test n m h = grind (arith, nat_tests)

pub is_above : (n m : ℕ) → n ≤ m → is_eq (nat_cmp n m) ≡ false → n < m
is_above n m h e = by_test n m h (unsigned_ties n m ∙ e)
  where
    by_test : (n m : ℕ) → n ≤ m → (n == m) ≡ false → n < m
    by_test n m h e = grind (arith, nat_tests)

pub less_is : (n m : ℕ) → nat_cmp n m ≡ Less → n < m
less_is n m e = by_test n m (by_order (nat_lt n m) (n == m) e)
  where
    by_order : (a b : Bool) → cond a Less (cond b Equal Greater) ≡ Less → a ≡ true
    by_order true b e = refl
    by_order false true e = absurd (true≢false (ap is_eq e))
    by_order false false e = absurd (not_less e)
      where
        not_less : Greater ≡ Less → ⊥
        not_less e = cc

    by_test : (n m : ℕ) → nat_lt n m ≡ true → n < m
    by_test n m e = grind (arith, nat_tests)

pub is_greater : (n m : ℕ) → m < n → nat_cmp n m ≡ Greater
is_greater n m h =
    ap (λ (t : Bool). cond t Less (cond (n == m) Equal Greater)) (not_less n m h)
    ∙ ap (λ (t : Bool). cond t Equal Greater) (not_equal n m h)
  where
    not_less : (n m : ℕ) → m < n → nat_lt n m ≡ false
    not_less n m h = grind (arith, nat_tests)

    not_equal : (n m : ℕ) → m < n → (n == m) ≡ false
    not_equal n m h = grind (arith, nat_tests)

then_eq : (r s : Ordering) → is_eq (ordering_then r s) ≡ (is_eq r && is_eq s)
then_eq Less s = refl
then_eq Equal s = refl
then_eq Greater s = refl

and_true : (a : Bool) → (a && true) ≡ a
and_true true = refl
and_true false = refl

and_false : (a : Bool) → (a && false) ≡ false
and_false true = refl
and_false false = refl

-- ---- places stay found

module _ {K T : Type 0} (order : K → K → Ordering) (key_of : T → K) where
  -- the thing has this key
  abbrev of_key : K → T → Bool
  of_key k x = is_eq (order (key_of x) k)

  module _ (old new : List (K × ℕ)) (es fs : List (ℕ × T)) (key : K) (place : ℕ) (is : Bool) (w : Option T) (found : AreFound order key_of old es) (puts : Puts order key place is old new)
      (looks : (n : ℕ) → lookup (is_at (nat_cmp n)) fs ≡ cond (is_eq (nat_cmp place n)) w (lookup (is_at (nat_cmp n)) es))
      (agree : (k : K) → cond (is_eq (order key k)) is (passes (of_key k) (lookup (is_at (nat_cmp place)) es)) ≡ passes (of_key k) w) where
    exact_at : (k : K) (n : ℕ) (b : Bool) → is_eq (nat_cmp place n) ≡ b → has order new k n ≡ passes (of_key k) (lookup (is_at (nat_cmp n)) fs)
    exact_at k n true e =
        puts k n
        ∙ ap (λ (t : Bool). cond t is (has order old k n)) (then_eq (order key k) (nat_cmp place n) ∙ ap (λ (t : Bool). is_eq (order key k) && t) e ∙ and_true (is_eq (order key k)))
        ∙ ap (λ (t : Bool). cond (is_eq (order key k)) is t) (found.exact k n)
        ∙ subst (λ (m : ℕ). cond (is_eq (order key k)) is (passes (of_key k) (lookup (is_at (nat_cmp m)) es)) ≡ passes (of_key k) w) (same_number place n e) (agree k)
        ∙ sym (ap (passes (of_key k)) (looks n ∙ ap (λ (t : Bool). cond t w (lookup (is_at (nat_cmp n)) es)) e))
    exact_at k n false e =
        puts k n
        ∙ ap (λ (t : Bool). cond t is (has order old k n)) (then_eq (order key k) (nat_cmp place n) ∙ ap (λ (t : Bool). is_eq (order key k) && t) e ∙ and_false (is_eq (order key k)))
        ∙ found.exact k n
        ∙ sym (ap (passes (of_key k)) (looks n ∙ ap (λ (t : Bool). cond t w (lookup (is_at (nat_cmp n)) es)) e))

    put_found : AreFound order key_of new fs
    put_found = record { exact = λ k n. exact_at k n (is_eq (nat_cmp place n)) refl }

  -- one thing more, at a place where none stood
  pub more_found : (old new : List (K × ℕ)) (es fs : List (ℕ × T)) (place : ℕ) (x : T) → AreFound order key_of old es → Puts order (key_of x) place true old new
      → ((n : ℕ) → lookup (is_at (nat_cmp n)) fs ≡ cond (is_eq (nat_cmp place n)) (Some x) (lookup (is_at (nat_cmp n)) es)) → lookup (is_at (nat_cmp place)) es ≡ None → AreFound order key_of new fs
  more_found old new es fs place x found puts looks none =
      put_found old new es fs (key_of x) place true (Some x) found puts looks
      (λ k. ap (λ (o : Option T). cond (is_eq (order (key_of x) k)) true (passes (of_key k) o)) none ∙ either (is_eq (order (key_of x) k)))
    where
      either : (b : Bool) → cond b true false ≡ b
      either true = refl
      either false = refl

  -- one thing less
  pub less_found : (old new : List (K × ℕ)) (es fs : List (ℕ × T)) (place : ℕ) (x : T) → AreFound order key_of old es → Puts order (key_of x) place false old new
      → ((n : ℕ) → lookup (is_at (nat_cmp n)) fs ≡ cond (is_eq (nat_cmp place n)) None (lookup (is_at (nat_cmp n)) es)) → lookup (is_at (nat_cmp place)) es ≡ Some x → AreFound order key_of new fs
  less_found old new es fs place x found puts looks at =
      put_found old new es fs (key_of x) place false None found puts looks
      (λ k. ap (λ (o : Option T). cond (is_eq (order (key_of x) k)) false (passes (of_key k) o)) at ∙ either (is_eq (order (key_of x) k)))
    where
      either : (b : Bool) → cond b false b ≡ false
      either true = refl
      either false = refl

  -- a place that was added and taken away again
  pub back_found : (old new last : List (K × ℕ)) (es : List (ℕ × T)) (key : K) (place : ℕ) → AreFound order key_of old es → Puts order key place true old new → Puts order key place false new last
      → lookup (is_at (nat_cmp place)) es ≡ None → AreFound order key_of last es
  back_found old new last es key place found puts gone none =
      put_found old last es es key place false None found (λ k n. gone k n ∙ both (is_eq (by_place order (key, place) (k, n))) (has order new k n) (has order old k n) (puts k n))
      (λ n. as_none n (is_eq (nat_cmp place n)) refl)
      (λ k. ap (λ (o : Option T). cond (is_eq (order key k)) false (passes (of_key k) o)) none ∙ neither (is_eq (order key k)))
    where
      both : (b a o : Bool) → a ≡ cond b true o → cond b false a ≡ cond b false o
      both true a o e = refl
      both false a o e = e

      neither : (b : Bool) → cond b false false ≡ false
      neither true = refl
      neither false = refl

      as_none : (n : ℕ) (b : Bool) → is_eq (nat_cmp place n) ≡ b → lookup (is_at (nat_cmp n)) es ≡ cond (is_eq (nat_cmp place n)) None (lookup (is_at (nat_cmp n)) es)
      as_none n true e =
          subst (λ (m : ℕ). lookup (is_at (nat_cmp m)) es ≡ None) (same_number place n e) none
          ∙ sym (ap (λ (t : Bool). cond t None (lookup (is_at (nat_cmp n)) es)) e)
      as_none n false e = sym (ap (λ (t : Bool). cond t None (lookup (is_at (nat_cmp n)) es)) e)

  -- another thing of the same key stands at a place
  pub still_found : (places : List (K × ℕ)) (es fs : List (ℕ × T)) (place : ℕ) (x y : T) → AreFound order key_of places es
      → ((n : ℕ) → lookup (is_at (nat_cmp n)) fs ≡ cond (is_eq (nat_cmp place n)) (Some y) (lookup (is_at (nat_cmp n)) es)) → lookup (is_at (nat_cmp place)) es ≡ Some x → key_of y ≡ key_of x
      → AreFound order key_of places fs
  still_found places es fs place x y found looks at same = record { exact = λ k n. found.exact k n ∙ at_place k n (is_eq (nat_cmp place n)) refl }
    where
      at_place : (k : K) (n : ℕ) (b : Bool) → is_eq (nat_cmp place n) ≡ b → passes (of_key k) (lookup (is_at (nat_cmp n)) es) ≡ passes (of_key k) (lookup (is_at (nat_cmp n)) fs)
      at_place k n true e =
          ap (passes (of_key k)) (subst (λ (m : ℕ). lookup (is_at (nat_cmp m)) es ≡ Some x) (same_number place n e) at)
          ∙ ap (λ (j : K). is_eq (order j k)) (sym same)
          ∙ sym (ap (passes (of_key k)) (looks n ∙ ap (λ (t : Bool). cond t (Some y) (lookup (is_at (nat_cmp n)) es)) e))
      at_place k n false e = sym (ap (passes (of_key k)) (looks n ∙ ap (λ (t : Bool). cond t (Some y) (lookup (is_at (nat_cmp n)) es)) e))

  -- nothing stands
  pub nothing_found : AreFound order key_of [] []
  nothing_found = record { exact = λ k n. refl }
