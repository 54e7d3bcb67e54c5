-- Things by channel: the first one on a channel, and the list with one more, with one less, and after one received something.
use Rattle.std.proofs.Common.{◌≡◌, ℕ, ◌+◌, ◌<◌, ◌^◌, ◌==◌, Bool, true, false, cond, List, [], ◌∷◌, ◌++◌, find, filter, not, refl, sym, ap, ◌∙◌, subst, true≢false, arith}
use Rattle.std.proofs.lemmas.Bool.Decides.{nat_tests}
use Rattle.std.specs.Prelude.{Option, Some, None, IsSome, IfSome, IfNone, is_some}
use Rattle.std.specs.List.{AllByRecursion}
use Rattle.std.specs.List.Sorted.{IsStrictlySortedBy}
use Rattle.std.specs.Ordering.{nat_cmp, is_eq}
use Rattle.std.specs.Cmp.{unsigned_ties}
use Rattle.std.specs.BTreeMap as tree
use Rattle.std.specs.BTreeMap.{BTreeMap, insert_entry, is_at}
use Rattle.std.specs.Map.{keys_of, values_of, lookup, remove_entry, set_value}
use Rattle.iss_edge.specs.declared.outside.Channel.{Channel}
use Rattle.iss_channels.specs.Places.{has, Puts, IsFirst, passes, AreFound}
use Rattle.iss_channels.specs.Placed.{Placed, is_on, one_more, things_of, IsKept, Takes, ChangesFirst}
use Rattle.iss_channels.proofs.Lookups.{none_below, more_looks, less_looks, less_below, more_below, goes_last, values_push, StandsFirst, stands_first, none_stands, looked, first_found, changes_first, others_stay, all_stay}
use Rattle.iss_channels.proofs.FoundPlaces.{more_found, less_found, back_found, still_found}

module _ {T : Type 0} (channel_of : T → Channel) (next : ℕ) (things : BTreeMap ℕ T) (places : List (ℕ × ℕ)) (kept : IsKept channel_of next things places) where
  module _ (ch : Channel) where
    -- the channel has the places of the things on it
    exact_on : (n : ℕ) → has nat_cmp places ch.0 n ≡ passes (is_on channel_of ch) (lookup (is_at (nat_cmp n)) things.entries)
    exact_on n = kept.found.exact ch.0 n ∙ (λ i. passes (λ x. sym (unsigned_ties (channel_of x).0 ch.0) i) (lookup (is_at (nat_cmp n)) things.entries))

    -- its first place is that of the first thing on it
    pub first_on : (place : ℕ) → IsFirst nat_cmp places ch.0 place → StandsFirst (is_on channel_of ch) place things.entries
    first_on place first =
        stands_first (is_on channel_of ch) things.entries place next kept.placed.below kept.placed.rising (sym (exact_on place) ∙ first.there)
        (λ n less passed. first.least n (let few = kept.placed.few in omega (arith, less, few)) (exact_on n ∙ passed))

    pub none_on : ((n : ℕ) → n < 2 ^ 64 → has nat_cmp places ch.0 n ≡ false) → AllByRecursion (λ x. is_on channel_of ch x ≡ false) (values_of things.entries)
    none_on none =
        none_stands (is_on channel_of ch) things.entries next kept.placed.below kept.placed.rising
        (λ n less. sym (exact_on n) ∙ none n (let few = kept.placed.few in omega (arith, less, few)))

    -- the thing at its first place is the first one on it
    pub found_on : (place : ℕ) → IsFirst nat_cmp places ch.0 place → lookup (is_at (nat_cmp place)) things.entries ≡ find (is_on channel_of ch) (values_of things.entries)
    found_on place first =
        let at = first_on place first in
        looked (is_on channel_of ch) place things.entries at ∙ sym (first_found (is_on channel_of ch) place things.entries at)

  -- nothing stands at the next place
  pub next_free : lookup (is_at (nat_cmp next)) things.entries ≡ None
  next_free = none_below next things.entries kept.placed.below

  module _ (after : ℕ) (more : BTreeMap ℕ T) (x : T) (up : after ≡ next + 1) (entries : more.entries ≡ insert_entry nat_cmp things.entries next x) where
    pub goes_behind : more.entries ≡ things.entries ++ (next, x) ∷ []
    goes_behind = entries ∙ goes_last things.entries next x kept.placed.below

    -- one thing more
    pub kept_more : (new : List (ℕ × ℕ)) → after < 2 ^ 64 → tree.IsOrdered nat_cmp more → Puts nat_cmp (channel_of x).0 next true places new → IsKept channel_of after more new
    kept_more new few rising puts =
        record {
          placed = record {
            few = few;
            below = subst (λ (es : List (ℕ × T)). AllByRecursion (λ n. n < after) (keys_of es)) (sym goes_behind) (more_below things.entries next after x (omega (arith, up)) kept.placed.below);
            rising = rising;
          };
          found = more_found nat_cmp (λ y. (channel_of y).0) places new things.entries more.entries next x kept.found puts
              (subst (λ (es : List (ℕ × T)). (n : ℕ) → lookup (is_at (nat_cmp n)) es ≡ cond (is_eq (nat_cmp next n)) (Some x) (lookup (is_at (nat_cmp n)) things.entries)) (sym goes_behind)
              (more_looks things.entries next x kept.placed.below)) next_free;
        }

    pub pushed : (old : Placed T) → record { next = next; entries = things.entries } ≡ old → record { next = after; entries = more.entries } ≡ one_more old x
    pushed old view = (λ i. record { next = up i; entries = goes_behind i }) ∙ ap (λ (p : Placed T). one_more p x) view

    pub pushed_things : values_of more.entries ≡ values_of things.entries ++ x ∷ []
    pushed_things = ap (λ (es : List (ℕ × T)). values_of es) goes_behind ∙ values_push things.entries next x

  -- a place that was added and taken away again
  pub kept_back : (same : BTreeMap ℕ T) (new last : List (ℕ × ℕ)) (key : ℕ) → same.entries ≡ things.entries → Puts nat_cmp key next true places new → Puts nat_cmp key next false new last
      → IsKept channel_of next same last
  kept_back same new last key e puts gone =
      record {
        placed = record {
          few = kept.placed.few;
          below = subst (λ (es : List (ℕ × T)). AllByRecursion (λ n. n < next) (keys_of es)) (sym e) kept.placed.below;
          rising = subst (λ (es : List (ℕ × T)). IsStrictlySortedBy nat_cmp (keys_of es)) (sym e) kept.placed.rising;
        };
        found = subst (λ (es : List (ℕ × T)). AreFound nat_cmp (λ y. (channel_of y).0) last es) (sym e)
            (back_found nat_cmp (λ y. (channel_of y).0) places new last things.entries key next kept.found puts gone next_free);
      }

  module _ (ch : Channel) (place : ℕ) (at : StandsFirst (is_on channel_of ch) place things.entries) where
    own_thing : (x : T) → lookup (is_at (nat_cmp place)) things.entries ≡ Some x → at.thing ≡ x
    own_thing x stands = some_same at.thing x (sym (looked (is_on channel_of ch) place things.entries at) ∙ stands)
      where
        some_same : (a b : T) → Some a ≡ Some b → a ≡ b
        some_same a b e = cc

    own_test : (x : T) → lookup (is_at (nat_cmp place)) things.entries ≡ Some x → is_on channel_of ch x ≡ true
    own_test x stands = ap (is_on channel_of ch) (sym (own_thing x stands)) ∙ at.own

    own_channel : (x : T) → lookup (is_at (nat_cmp place)) things.entries ≡ Some x → (channel_of x).0 ≡ ch.0
    own_channel x stands = by_test (channel_of x).0 ch.0 (own_test x stands)
      where
        by_test : (n m : ℕ) → (n == m) ≡ true → n ≡ m
        by_test n m e = grind (arith, nat_tests)

    -- something stands there
    pub stands_there : lookup (is_at (nat_cmp place)) things.entries ≡ None → ⊥
    stands_there none = no_thing at.thing (sym none ∙ looked (is_on channel_of ch) place things.entries at)
      where
        no_thing : (x : T) → None ≡ Some x → ⊥
        no_thing x e = cc

    module _ (x : T) (stands : lookup (is_at (nat_cmp place)) things.entries ≡ Some x) where
      -- one thing less
      pub kept_less : (rest : BTreeMap ℕ T) (new : List (ℕ × ℕ)) → rest.entries ≡ remove_entry (is_at (nat_cmp place)) things.entries → tree.IsOrdered nat_cmp rest
          → Puts nat_cmp ch.0 place false places new → IsKept channel_of next rest new
      kept_less rest new entries rising puts =
          record {
            placed = record {
              few = kept.placed.few;
              below = subst (λ (es : List (ℕ × T)). AllByRecursion (λ n. n < next) (keys_of es)) (sym entries) (less_below things.entries place next kept.placed.below);
              rising = rising;
            };
            found = less_found nat_cmp (λ y. (channel_of y).0) places new things.entries rest.entries place x kept.found
                (subst (λ (n : ℕ). Puts nat_cmp n place false places new) (sym (own_channel x stands)) puts)
                (subst (λ (es : List (ℕ × T)). (n : ℕ) → lookup (is_at (nat_cmp n)) es ≡ cond (is_eq (nat_cmp place n)) None (lookup (is_at (nat_cmp n)) things.entries)) (sym entries)
                (less_looks things.entries place kept.placed.rising)) stands;
          }

      pub taken_from : (rest : List (ℕ × T)) → rest ≡ remove_entry (is_at (nat_cmp place)) things.entries
          → Takes (is_on channel_of ch) place x (record { next = next; entries = things.entries }) (record { next = next; entries = rest })
      taken_from rest entries = record { at = stands; own = own_test x stands; next = refl; entries = entries }

      -- it received something, and stays on its channel
      pub kept_received : (changed : BTreeMap ℕ T) (y : T) → channel_of y ≡ channel_of x → tree.WritesThrough nat_cmp (nat_cmp place) things y changed → IsKept channel_of next changed places
      kept_received changed y same writes =
          record {
            placed = record {
              few = kept.placed.few;
              below = subst (λ (ns : List ℕ). AllByRecursion (λ n. n < next) ns) (sym writes.1) kept.placed.below;
              rising = writes.4;
            };
            found = still_found nat_cmp (λ z. (channel_of z).0) places things.entries changed.entries place x y kept.found
                (writes.3 (subst (λ (o : Option T). IsSome o) (sym stands) refl)).0 stands (ap (λ (c : Channel). c.0) same);
          }

      pub received_first : (R : T → T → Type 0) (changed : List (ℕ × T)) (y : T) → channel_of y ≡ channel_of x → changed ≡ set_value (is_at (nat_cmp place)) things.entries y → R x y
          → ChangesFirst (is_on channel_of ch) R (values_of things.entries) (values_of changed)
      received_first R changed y same entries reads =
          changes_first (is_on channel_of ch) R place things.entries changed y at entries
          (ap (λ (c : Channel). c.0 == ch.0) same ∙ own_test x stands) (subst (λ (z : T). R z y) (sym (own_thing x stands)) reads)

-- ---- all things on a channel are taken out one by one

module _ {T : Type 0} (test : T → Bool) (before after : Placed T) where
  -- the others are those that they were
  pub others_then : (o : Option (ℕ × T)) → IfSome o (λ taken. Takes test taken.0 taken.1 before after) → IfNone o (after ≡ before)
      → filter (λ x. not (test x)) (things_of after) ≡ filter (λ x. not (test x)) (things_of before)
  others_then None takes same = ap (λ (p : Placed T). filter (λ x. not (test x)) (things_of p)) same
  others_then (Some taken) takes same =
      ap (λ (es : List (ℕ × T)). filter (λ x. not (test x)) (values_of es)) takes.entries ∙ others_stay test before.entries taken.0 taken.1 takes.own takes.at

  -- all things stand as before if none is found
  pub none_left : (o : Option (ℕ × T)) → is_some o ≡ false → IfNone o (AllByRecursion (λ x. test x ≡ false) (things_of before)) → IfNone o (after ≡ before)
      → things_of after ≡ filter (λ x. not (test x)) (things_of before)
  none_left None e none same = ap (λ (p : Placed T). things_of p) same ∙ sym (all_stay test (things_of before) none)
  none_left (Some taken) e none same = absurd (true≢false e)
