-- The places of things, by a key.
use Rattle.std.specs.Prelude.{◌≡◌, ℕ, ◌<◌, ◌≤◌, ◌^◌, Bool, true, false, List, Option, Some, None, if◌then◌else◌}
use Rattle.std.specs.declared.cmp.Ordering.{Ordering}
use Rattle.std.specs.List.{list_any}
use Rattle.std.specs.Ordering.{nat_cmp, ordering_then, is_eq}
use Rattle.std.specs.BTreeMap.{is_at}
use Rattle.std.specs.Map.{lookup}

-- the order by key, and then by place
abbrev pub by_place : {K : Type 0} → (K → K → Ordering) → (K × ℕ) → (K × ℕ) → Ordering
by_place order a b = ordering_then (order a.0 b.0) (nat_cmp a.1 b.1)

-- a key has this place
abbrev pub has : {K : Type 0} → (K → K → Ordering) → List (K × ℕ) → K → ℕ → Bool
has order places key place = list_any (is_at (by_place order (key, place))) places

-- a key has this place then or doesn't, as is said, and all else is as before
abbrev pub Puts : {K : Type 0} → (K → K → Ordering) → K → ℕ → Bool → List (K × ℕ) → List (K × ℕ) → Type 0
Puts {K} order key place is before after =
    (k : K) (n : ℕ) → has order after k n ≡ (if is_eq (by_place order (key, place) (k, n)) then is else has order before k n)

-- the first place of a key
pub record IsFirst {K : Type 0} (order : K → K → Ordering) (places : List (K × ℕ)) (key : K) (place : ℕ) : Type 0 where
  pub there : has order places key place ≡ true
  pub least : (n : ℕ) → n < 2 ^ 64 → has order places key n ≡ true → place ≤ n

-- there is a thing, and it passes a test
abbrev pub passes : {T : Type 0} → (T → Bool) → Option T → Bool
passes test None = false
passes test (Some x) = test x

-- each thing's place is found by its key, and no key has another place
pub record AreFound {K T : Type 0} (order : K → K → Ordering) (key_of : T → K) (places : List (K × ℕ)) (entries : List (ℕ × T)) : Type 0 where
  pub exact : (key : K) (place : ℕ)
      → has order places key place ≡ passes (λ x. is_eq (order (key_of x) key)) (lookup (is_at (nat_cmp place)) entries)
