-- How notices are kept: each that isn't acknowledged yet by its number.
use Rattle.std.specs.Prelude.{◌≡◌, ℕ, ◌<◌, ◌≤◌, List, [], ◌∷◌, box_value}
use Rattle.std.specs.Global.{Box}
use Rattle.std.specs.List.{AllByRecursion}
use Rattle.std.specs.Ordering.{nat_cmp}
use Rattle.std.specs.List.Sorted.{IsStrictlySortedBy}
use Rattle.std.specs.Map.{keys_of}
use Rattle.std.specs.BTreeMap.{BTreeMap}
use Rattle.iss_model.specs.declared.call.Notice.{Notice}

-- a notice stands at its own number, which is one of those that were made
pub record IsAtNumber (made : ℕ) (entry : ℕ × Notice) : Type 0 where
  pub own : entry.1.number ≡ entry.0
  pub first : 0 < entry.0
  pub last : entry.0 ≤ made

-- each notice stands at its own number, in their order
pub record AreNoticesKept (made : ℕ) (pending : List (ℕ × Notice)) : Type 0 where
  pub each : AllByRecursion (IsAtNumber made) pending
  pub rising : IsStrictlySortedBy nat_cmp (keys_of pending)

-- the notices of boxes, by number
abbrev pub unboxed : List (ℕ × Box Notice) → List (ℕ × Notice)
unboxed [] = []
unboxed (entry ∷ entries) = (entry.0, box_value entry.1) ∷ unboxed entries

-- the notices that a tree keeps in boxes, by number
abbrev pub noted : BTreeMap ℕ (Box Notice) → List (ℕ × Notice)
noted pending = unboxed pending.entries
