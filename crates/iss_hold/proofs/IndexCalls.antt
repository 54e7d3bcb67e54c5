-- What calls on the indexes leave.
use Rattle.std.proofs.Common.{◌≡◌, ℕ, ◌==◌, Bool, true, false, cond, ◌&&◌, List, [], ◌∷◌, refl, sym, ap, ap₂, ◌∙◌, subst, arith}
use Rattle.std.proofs.lemmas.Bool.Decides.{nat_tests}
use Rattle.std.specs.Prelude.{Option, Some, None, IsSome, is_some, unwrap_or}
use Rattle.std.specs.declared.cmp.Ordering.{Ordering}
use Rattle.std.specs.declared.cmp.Ordering.TheVariants.{Less, Equal, Greater}
use Rattle.std.specs.Ordering.{nat_cmp, ordering_then, is_eq}
use Rattle.std.specs.Cmp.{unsigned_ties}
use Rattle.std.specs.Cmp.Lexicographic.{slice_cmp}
use Rattle.std.specs.Str.{bytes_eq}
use Rattle.std.specs.BTreeMap as tree
use Rattle.std.specs.BTreeMap.{BTreeMap, is_at, insert_entry}
use Rattle.std.specs.Map.{lookup, remove_entry}
use Rattle.std.proofs.lemmas.Option.{none-some}
use Rattle.std.proofs.lemmas.Map.Text.{is_eq-slice_cmp}
use Rattle.iss_model.proofs.Names.{one_name}
use Rattle.iss_hold.specs.Indexes.{by_user, by_expiry}
use Rattle.iss_hold.specs.Sums.{sum_in}

then_eq : (r s : Ordering) → is_eq (ordering_then r s) ≡ (is_eq r && is_eq s)
then_eq Less s = refl
then_eq Equal s = refl
then_eq Greater s = refl

-- two keys of users are one if both parts are
pub user_test : (a b : List ℕ × ℕ) → is_at (by_user a) b ≡ (bytes_eq a.0 b.0 && (a.1 == b.1))
user_test a b =
    then_eq (slice_cmp nat_cmp a.0 b.0) (nat_cmp a.1 b.1)
    ∙ ap₂ (λ (x y : Bool). x && y) (is_eq-slice_cmp a.0 b.0) (sym (unsigned_ties a.1 b.1))

pub both_true : (a b : Bool) → (a && b) ≡ true → (a ≡ true) × (b ≡ true)
both_true true b h = (refl, h)
both_true false b h = cc

pub one_number : (a b : ℕ) → (a == b) ≡ true → a ≡ b
one_number a b h = grind (arith, nat_tests)

same_user : (a b : List ℕ × ℕ) → is_at (by_user a) b ≡ true → a ≡ b
same_user a b h =
    let parts = both_true (bytes_eq a.0 b.0) (a.1 == b.1) (sym (user_test a b) ∙ h) in
    λ i. (one_name a.0 b.0 parts.0 i, one_number a.1 b.1 parts.1 i)

pub none_some : {A : Type 0} (o : Option A) → is_some o ≡ false → o ≡ None
none_some None h = refl
none_some (Some x) h = cc

begun_by : (b : Bool) (o : Option ℕ) → (b ≡ true → o ≡ None) → unwrap_or (cond b (Some 0) o) 0 ≡ unwrap_or o 0
begun_by true o h = ap (λ (x : Option ℕ). unwrap_or x 0) (sym (h refl))
begun_by false o h = refl

-- a sum that begins with 0 is what it was
pub begun_same : (m n : BTreeMap (List ℕ × ℕ) ℕ) (key : List ℕ × ℕ) → is_some (tree.get by_user m key) ≡ false → tree.Updates by_user m n key (Some 0)
    → (user : List ℕ) (number : ℕ) → sum_in n user number ≡ sum_in m user number
begun_same m n key none u user number =
    ap (λ (o : Option ℕ). unwrap_or o 0) (u.0 (user, number))
    ∙ begun_by (is_at (by_user key) (user, number)) (tree.get by_user m (user, number))
    (λ (e : is_at (by_user key) (user, number) ≡ true). ap (λ (k : List ℕ × ℕ). tree.get by_user m k) (sym (same_user key (user, number) e)) ∙ none_some (tree.get by_user m key) none)

pub stands_by : (b : Bool) (n : ℕ) (o : Option ℕ) → IsSome o → IsSome (cond b (Some n) o)
stands_by true n o h = refl
stands_by false n o h = h

pub begun_stay : (m n : BTreeMap (List ℕ × ℕ) ℕ) (key : List ℕ × ℕ) (sum : ℕ) → tree.Updates by_user m n key (Some sum)
    → (user : List ℕ) (number : ℕ) → IsSome (tree.get by_user m (user, number)) → IsSome (tree.get by_user n (user, number))
begun_stay m n key sum u user number h =
    subst (λ (o : Option ℕ). IsSome o) (sym (u.0 (user, number))) (stands_by (is_at (by_user key) (user, number)) sum (tree.get by_user m (user, number)) h)

-- an expiry of another record is another key
pub other_key : (a b : ℕ × ℕ) → (a.1 == b.1) ≡ false → is_at (by_expiry a) b ≡ false
other_key a b apart =
    then_eq (nat_cmp a.0 b.0) (nat_cmp a.1 b.1)
    ∙ ap (λ (t : Bool). is_eq (nat_cmp a.0 b.0) && t) (sym (unsigned_ties a.1 b.1) ∙ apart)
    ∙ never (is_eq (nat_cmp a.0 b.0))
  where
    never : (t : Bool) → (t && false) ≡ false
    never true = refl
    never false = refl

own_key : (a : ℕ × ℕ) → is_at (by_expiry a) a ≡ true
own_key a =
    then_eq (nat_cmp a.0 a.0) (nat_cmp a.1 a.1)
    ∙ ap₂ (λ (s t : Bool). s && t) (sym (unsigned_ties a.0 a.0) ∙ itself a.0) (sym (unsigned_ties a.1 a.1) ∙ itself a.1)
  where
    itself : (n : ℕ) → (n == n) ≡ true
    itself n = grind (arith, nat_tests)

-- an expiry that was entered and taken out again leaves all as it was
pub left_again : (key : ℕ × ℕ) (place : ℕ) (es : List ((ℕ × ℕ) × ℕ)) → lookup (is_at (by_expiry key)) es ≡ None
    → remove_entry (is_at (by_expiry key)) (insert_entry by_expiry es key place) ≡ es
left_again key place [] none = ap (λ (b : Bool). cond b [] ((key, place) ∷ [])) (own_key key)
left_again key place (e ∷ es) none = at (by_expiry key e.0) refl (left_again key place es)
  where
    at : (o : Ordering) → by_expiry key e.0 ≡ o → (lookup (is_at (by_expiry key)) es ≡ None → remove_entry (is_at (by_expiry key)) (insert_entry by_expiry es key place) ≡ es)
        → remove_entry (is_at (by_expiry key)) (insert_entry by_expiry (e ∷ es) key place) ≡ e ∷ es
    at Less is rest = rw is (ap (λ (b : Bool). cond b (e ∷ es) ((key, place) ∷ remove_entry (is_at (by_expiry key)) (e ∷ es))) (own_key key))
    at Equal is rest =
        let first : Some e.1 ≡ None = rw is at none in
        absurd (none-some e.1 (sym first))
    at Greater is rest =
        let next : lookup (is_at (by_expiry key)) es ≡ None = rw is at none in
        rw (is, is) (ap (λ (xs : List ((ℕ × ℕ) × ℕ)). e ∷ xs) (rest next))
