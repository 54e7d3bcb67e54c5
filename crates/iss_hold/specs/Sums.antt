-- The sums of users, as an index keeps them.
use Rattle.std.specs.Prelude.{ℕ, List, unwrap_or}
use Rattle.std.specs.BTreeMap as tree
use Rattle.std.specs.BTreeMap.{BTreeMap}
use Rattle.iss_hold.specs.Indexes.{by_user}

-- the sum of a user in the currency of a number, 0 if there is none
abbrev pub sum_in : BTreeMap (List ℕ × ℕ) ℕ → List ℕ → ℕ → ℕ
sum_in sums user number = unwrap_or (tree.get by_user sums (user, number)) 0
