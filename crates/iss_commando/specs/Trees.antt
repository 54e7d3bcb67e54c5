-- Sums that stand in a tree of the standard library, and what is noted of them.
use Rattle.std.specs.Prelude.{ℕ, ℤ, pos, List, [], map}
use Rattle.std.specs.BTreeMap.{BTreeMap}
use Rattle.std.specs.FinMap as finite
use Rattle.iss_model.specs.declared.entry.Entry.TheVariants as entry
use Rattle.iss_model.specs.Sums.{stood_changes}
use Rattle.iss_model.specs.state.Kept.{Kept, after_changes}

-- a sum of a tree, as it is kept
abbrev pub kept_sum : List ℕ × ℕ → List ℕ × ℤ
kept_sum e = (e.0, pos e.1)

-- the sums that a tree holds
abbrev pub kept_in : BTreeMap (List ℕ) ℕ → Kept
kept_in sums = finite.from_entries (map kept_sum sums.entries)

-- the sums after an amount stood in, whichever set allowed it
abbrev pub after_stood : Kept → List ℕ → List ℕ → ℕ → ℕ → Kept
after_stood sums product user amount at = after_changes sums (stood_changes (entry.Stood [] product user amount at))
