-- Things at places, in the order in which they came.
use Rattle.std.specs.Prelude.{◌≡◌, ℕ, ◌+◌, ◌<◌, ◌^◌, ◌==◌, Bool, true, false, List, [], ◌∷◌, ◌++◌, Option, Some}
use Rattle.std.specs.List.{AllByRecursion}
use Rattle.std.specs.List.Sorted.{IsStrictlySortedBy}
use Rattle.std.specs.Ordering.{nat_cmp}
use Rattle.std.specs.BTreeMap.{BTreeMap, is_at}
use Rattle.std.specs.Map.{keys_of, values_of, lookup, remove_entry}
use Rattle.iss_edge.specs.declared.outside.Channel.{Channel}
use Rattle.iss_channels.specs.Places.{AreFound}

-- things with their places, in the order in which they came, and the place that the next one will have
pub record Placed (T : Type 0) : Type 0 where
  pub next : ℕ
  pub entries : List (ℕ × T)

-- the things, in the order in which they came
abbrev pub things_of : {T : Type 0} → Placed T → List T
things_of p = values_of p.entries

-- the thing at a place
abbrev pub thing_at : {T : Type 0} → Placed T → ℕ → Option T
thing_at p place = lookup (is_at (nat_cmp place)) p.entries

-- one thing more came
abbrev pub one_more : {T : Type 0} → Placed T → T → Placed T
one_more p x = record { next = p.next + 1; entries = p.entries ++ (p.next, x) ∷ [] }

-- the thing is on this channel
abbrev pub is_on : {T : Type 0} → (T → Channel) → Channel → T → Bool
is_on channel_of ch x = (channel_of x).0 == ch.0

-- places rise, and each is below the next one
pub record ArePlaced {T : Type 0} (p : Placed T) : Type 0 where
  pub few : p.next < 2 ^ 64
  pub below : AllByRecursion (λ n. n < p.next) (keys_of p.entries)
  pub rising : IsStrictlySortedBy nat_cmp (keys_of p.entries)

-- a thing that passes a test was taken out from its place
pub record Takes {T : Type 0} (test : T → Bool) (place : ℕ) (x : T) (before after : Placed T) : Type 0 where
  pub at : thing_at before place ≡ Some x
  pub own : test x ≡ true
  pub next : after.next ≡ before.next
  pub entries : after.entries ≡ remove_entry (is_at (nat_cmp place)) before.entries

-- the first thing that passes a test was changed so, and passes it still; all others are as before
pub record ChangesFirst {T : Type 0} (test : T → Bool) (R : T → T → Type 0) (before after : List T) : Type 0 where
  pub front : List T
  pub was : T
  pub is : T
  pub rest : List T
  pub found : before ≡ front ++ was ∷ rest
  pub then : after ≡ front ++ is ∷ rest
  pub others : AllByRecursion (λ x. test x ≡ false) front
  pub own : test was ≡ true
  pub still : test is ≡ true
  pub changed : R was is

-- the first thing on a channel received these bytes, and told this of them
abbrev pub FirstReceives : {T Told : Type 0} → (T → Channel) → (T → List ℕ → Told → T → Type 0) → Channel → List ℕ → List T → List T → Told → Type 0
FirstReceives channel_of receives ch piece before after told =
    ChangesFirst (is_on channel_of ch) (λ x y. receives x piece told y) before after

-- things at places, each found by its channel
pub record IsKept {T : Type 0} (channel_of : T → Channel) (next : ℕ) (things : BTreeMap ℕ T) (places : List (ℕ × ℕ)) : Type 0 where
  pub placed : ArePlaced (record { next = next; entries = things.entries })
  pub found : AreFound nat_cmp (λ x. (channel_of x).0) places things.entries
