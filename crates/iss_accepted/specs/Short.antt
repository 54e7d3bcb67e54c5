-- How rows are kept in few bytes.
use Rattle.std.specs.Prelude.{◌+◌, ◌-◌, ◌<◌, ◌==◌, if◌then◌else◌, ℕ, List, [], ◌∷◌, length, Option, Some, None}
use Rattle.std.specs.List.{AllByRecursion, slice_get}
use Rattle.iss_model.specs.declared.decision.Verdict.{Verdict}
use Rattle.iss_model.specs.declared.decision.Verdict.TheVariants as verdict
use Rattle.iss_accepted.specs.declared.row.EventRow.{EventRow}
use Rattle.iss_accepted.specs.declared.short.ShortRow.{ShortRow}
use Rattle.iss_accepted.specs.Standing.{Standing}
use Rattle.iss_accepted.specs.Kept.{standings_of, IsKept}

-- The verdict of a code, if these are the other ones: 0 is none, 1 and 2 are the two that are frequent, and 3 + n is the other one at place n.
abbrev pub verdict_of : List Verdict → ℕ → Option Verdict
verdict_of others code =
    if code == 0 then None
    else if code == 1 then Some verdict.Done
    else if code == 2 then Some verdict.Approved
    else slice_get others (code - 3)

-- the code of a verdict that is noted after this many other ones
abbrev pub code_of : ℕ → Verdict → ℕ
code_of count verdict.Done = 1
code_of count verdict.Approved = 2
code_of count (verdict.Partial currency amount) = count + 3
code_of count (verdict.Declined reason) = count + 3

-- what a verdict adds to the other ones
abbrev pub other_of : Verdict → List Verdict
other_of verdict.Done = []
other_of verdict.Approved = []
other_of (verdict.Partial currency amount) = verdict.Partial currency amount ∷ []
other_of (verdict.Declined reason) = verdict.Declined reason ∷ []

-- where the first of these rows begins, or the size of the buffer if there is none
abbrev pub next_start : ℕ → List ShortRow → ℕ
next_start size [] = size
next_start size (row ∷ rows) = row.start

-- the whole row, whose bytes end there
abbrev pub row_of : List Verdict → ℕ → ShortRow → EventRow
row_of others end row =
    record {
      number = row.number;
      start = row.start;
      end = end;
      verdict = verdict_of others row.verdict.code;
    }

-- The whole rows over a buffer of this size. Each row's bytes end where those of the next begin, and the last one's at the buffer's end.
abbrev pub rows_of : List Verdict → ℕ → List ShortRow → List EventRow
rows_of others size [] = []
rows_of others size (row ∷ rows) = row_of others (next_start size rows) row ∷ rows_of others size rows

-- the events of all rows
abbrev pub standings_in : List ℕ → List Verdict → List ShortRow → List Standing
standings_in bytes others rows = standings_of bytes (rows_of others (length bytes) rows)

-- the place of a code, if it has one, is below this count
abbrev pub IsWithin : ℕ → ℕ → Type 0
IsWithin count code = code < count + 3

-- The whole rows are kept as they should be, and each verdict that has a place stands there.
pub record IsKeptShort (bytes : List ℕ) (others : List Verdict) (rows : List ShortRow) (names : List (List ℕ)) (decided : List ℕ) : Type 0 where
  pub kept : IsKept bytes (rows_of others (length bytes) rows) names decided
  pub within : AllByRecursion (λ row. IsWithin (length others) row.verdict.code) rows
