-- Sums that stand in a tree of the standard library.
use Rattle.std.specs.Prelude.{ℕ, ℤ, pos, ◌-ℤ◌, Bool, true, false, List}
use Rattle.std.specs.Ordering.{nat_cmp}
use Rattle.std.specs.Cmp.Lexicographic.{slice_cmp}
use Rattle.std.specs.BTreeMap as tree
use Rattle.std.specs.BTreeMap.{BTreeMap}
use Rattle.std.specs.FinMap as map
use Rattle.iss_model.specs.state.Kept.{Kept, after_change}

-- the sums that a tree holds
abbrev pub kept_in : BTreeMap (List ℕ) ℤ → Kept
kept_in sums = map.from_sorted sums.entries

-- the keys of a tree rise
abbrev pub IsInOrder : BTreeMap (List ℕ) ℤ → Type 0
IsInOrder sums = tree.IsOrdered (slice_cmp nat_cmp) sums

-- the sums without what was added at a key, and without the key if it didn't stand before
abbrev pub taken_back : Kept → List ℕ → ℤ → Bool → Kept
taken_back sums key by true = after_change sums (record { key = key; by = pos 0 -ℤ by })
taken_back sums key by false = map.remove sums key
