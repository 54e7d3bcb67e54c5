-- Kept sums: for each key that was changed, what the changes so far come to.
use Rattle.std.specs.Prelude.{ℕ, ◌^◌, ℤ, pos, neg_ℤ, ◌+ℤ◌, ◌<ℤ◌, List, fold, unwrap_or}
use Rattle.std.specs.Ordering.{nat_cmp}
use Rattle.std.specs.Cmp.Lexicographic.{slice_cmp}
use Rattle.std.specs.FinMap as map
use Rattle.std.specs.Coded.{Coded, coded_ℕ, coded_ℤ, coded_list}
use Rattle.iss_model.specs.declared.entry.Entry.{Entry}
use Rattle.iss_model.specs.declared.entry.Row.{Row}
use Rattle.iss_model.specs.Sums.{Change}

-- sums by key, in the order of the keys
abbrev pub Kept : Type 0
Kept = map.FinMap (slice_cmp nat_cmp) ℤ

-- sums by key are stored as their entries
abbrev pub kept_code : Coded Kept
kept_code = map.code (coded_list coded_ℕ) coded_ℤ

-- no key was changed yet
abbrev pub nothing_kept : Kept
nothing_kept = map.empty

-- the sum at a key: 0 if it was never changed
abbrev pub kept_at : Kept → List ℕ → ℤ
kept_at sums key = unwrap_or (map.get sums key) (pos 0)

-- the sums after one more change
abbrev pub after_change : Kept → Change → Kept
after_change sums c = map.insert sums c.key (kept_at sums c.key +ℤ c.by)

-- the sums after these changes
abbrev pub after_changes : Kept → List Change → Kept
after_changes sums changes = fold after_change sums changes

-- the sums that the entries of these rows leave
abbrev pub kept_of : (Entry → List Change) → List Row → Kept
kept_of changes rows = fold (λ sums row. after_changes sums (changes row.entry)) nothing_kept rows

-- a sum lies strictly between -2^62 and 2^62
pub record IsSmall (sum : ℤ) : Type 0 where
  pub low : neg_ℤ (pos (2 ^ 62)) <ℤ sum
  pub high : sum <ℤ pos (2 ^ 62)

-- each sum does
abbrev pub AreSmall : Kept → Type 0
AreSmall sums = (key : List ℕ) → IsSmall (kept_at sums key)
