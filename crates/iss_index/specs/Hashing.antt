-- Where the place of a name is kept: in a slot of the group that its hash points to, or else in a tree.
use Rattle.std.specs.Prelude.{◌≡◌, ℕ, ◌+◌, ◌-◌, ◌/◌, ◌%◌, ◌^◌, ◌≤◌, ◌==◌, Bool, true, false, not, ◌&&◌, List, [], ◌∷◌, ◌++◌, find, length, Option, Some, None, option_map, set, replicate, slice_get}
use Rattle.std.specs.BTreeMap.{BTreeMap, get}
use Rattle.std.specs.Cmp.Lexicographic.{slice_cmp}
use Rattle.std.specs.Hash.FoldHasher.{initial, write, finish}
use Rattle.std.specs.Int.{w32, from_le_bytes}
use Rattle.std.specs.List.{AllByRecursion, IsDistinct}
use Rattle.std.specs.Option.{option_or}
use Rattle.std.specs.Ordering.{nat_cmp}
use Rattle.std.specs.Str.{bytes_eq}
use Rattle.iss_index.specs.declared.groups.Group.{Group}
use Rattle.iss_index.specs.declared.groups.Slot.{Slot}
use Rattle.iss_index.specs.declared.places.NamePlaces.{NamePlaces}
use Rattle.iss_index.specs.Places.{place_of}

-- the hash of a name, in 64 bits
unfoldable pub hash_of : List ℕ → ℕ
hash_of name = finish (write initial name)

-- the place that a slot has, counted from 1, or 0 if it is free
unfoldable pub rank_of : Slot → ℕ
rank_of s = from_le_bytes w32 s.rank

-- there is a slot, and it is free
abbrev pub is_zero : Option Slot → Bool
is_zero None = false
is_zero (Some s) = rank_of s == 0

-- the part of a hash that a slot keeps
abbrev pub tag_of : ℕ → ℕ
tag_of hash = hash % 2 ^ 8

-- the group, of this number of groups, that a hash points to
abbrev pub group_of : ℕ → ℕ → ℕ
group_of count hash = hash / 2 ^ 32 % count

-- there is a name, and it is this one
abbrev pub is_name : List ℕ → Option (List ℕ) → Bool
is_name name None = false
is_name name (Some n) = bytes_eq n name

-- the name at a place is this one
abbrev pub is_at : List (List ℕ) → ℕ → List ℕ → Bool
is_at names place name = is_name name (slice_get names place)

-- a slot has the place of this name
abbrev pub slot_has : ℕ → List (List ℕ) → List ℕ → Slot → Bool
slot_has tag names name s = s.tag == tag && not (rank_of s == 0) && is_at names (rank_of s - 1) name

-- the place of this name in slots of a group
abbrev pub in_slots : ℕ → List (List ℕ) → List ℕ → List Slot → Option ℕ
in_slots tag names name slots = option_map (λ s. rank_of s - 1) (find (slot_has tag names name) slots)

-- the slots of a group, or none
abbrev pub slots_of : Option Group → List Slot
slots_of None = []
slots_of (Some group) = group.slots

-- the slots of the group at a place
abbrev pub slots_at : List Group → ℕ → List Slot
slots_at groups i = slots_of (slice_get groups i)

-- the last slot of a group is free: slots are filled from the first on
abbrev pub has_room : List Slot → Bool
has_room slots = is_zero (slice_get slots 11)

-- the place that groups and a tree give for a name
abbrev pub found_in : List Group → BTreeMap (List ℕ) ℕ → List (List ℕ) → List ℕ → Option ℕ
found_in groups others names name =
    option_or (in_slots (tag_of (hash_of name)) names name (slots_at groups (group_of (length groups) (hash_of name))))
    (get (slice_cmp nat_cmp) others name)

-- no slot has a place beyond this number of places
abbrev pub AreWithin : ℕ → List Slot → Type 0
AreWithin count slots = AllByRecursion (λ s. rank_of s ≤ count) slots

-- groups and a tree find exactly these names, each at its place, and a name whose group has room isn't in the tree
pub record AreFound (groups : List Group) (others : BTreeMap (List ℕ) ℕ) (names : List (List ℕ)) : Type 0 where
  pub found : (name : List ℕ) → found_in groups others names name ≡ place_of name names
  pub clear : (name : List ℕ) → has_room (slots_at groups (group_of (length groups) (hash_of name))) ≡ true → get (slice_cmp nat_cmp) others name ≡ None
  pub within : AllByRecursion (λ g. AreWithin (length names) g.slots) groups

-- A name was put after these: groups and a tree that found them all find it too.
abbrev pub PutsName : List Group → BTreeMap (List ℕ) ℕ → List Group → BTreeMap (List ℕ) ℕ → List ℕ → ℕ → Type 0
PutsName before others after others_after name place =
    (names : List (List ℕ)) → AreFound before others names → place ≡ length names → place_of name names ≡ None
    → AreFound after others_after (names ++ name ∷ [])

-- these places are those of these names, and of no other
abbrev pub Finds : NamePlaces → List (List ℕ) → Type 0
Finds places names = AreFound places.groups.items places.others names

-- whatever names they were the places of, they are still
abbrev pub StaysFound : NamePlaces → NamePlaces → Type 0
StaysFound before after = (names : List (List ℕ)) → Finds before names → Finds after names

-- the place of one name more was put among them
abbrev pub PutsPlace : NamePlaces → NamePlaces → List ℕ → ℕ → Type 0
PutsPlace before after name place = PutsName before.groups.items before.others after.groups.items after.others name place

-- the group that a name's hash points to has a free slot
abbrev pub has_room_for : List Group → List ℕ → Bool
has_room_for groups name = has_room (slots_at groups (group_of (length groups) (hash_of name)))

-- a free slot took the place of a name
pub record FillsSlot (before after : List Slot) (tag place : ℕ) : Type 0 where
  pub at : ℕ
  pub slot : Slot
  pub free : option_map (λ s. rank_of s) (slice_get before at) ≡ Some 0
  pub tagged : slot.tag ≡ tag
  pub ranked : rank_of slot ≡ place + 1
  pub now : after ≡ set before at slot

-- a free slot of the group that a name's hash points to took its place
pub record FillsGroup (before after : List Group) (name : List ℕ) (place : ℕ) : Type 0 where
  pub slots : List Slot
  pub fills : FillsSlot (slots_at before (group_of (length before) (hash_of name))) slots (tag_of (hash_of name)) place
  pub now : after ≡ set before (group_of (length before) (hash_of name)) (record { slots = slots })

-- a group whose slots are free
unfoldable pub free_group : Group
free_group = record { slots = replicate 12 (record { tag = 0; rank = replicate 4 0 }) }

-- groups and a tree find each of these names at its place, and no name stands twice
pub record AreNamesKept (groups : List Group) (others : BTreeMap (List ℕ) ℕ) (names : List (List ℕ)) : Type 0 where
  pub found : AreFound groups others names
  pub apart : IsDistinct bytes_eq names
