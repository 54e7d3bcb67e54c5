-- Rows in few bytes stand for whole ones, also as other verdicts are added.
use Rattle.std.proofs.Common.{◌≡◌, ℕ, zero, suc, ◌+◌, ◌-◌, ◌<◌, ◌==◌, false, List, [], ◌∷◌, ◌++◌, length, Option, Some, slice_get, drop, get_or, set, refl, sym, ap, ap₂, subst, ◌∙◌, arith, length-append}
use Rattle.std.specs.List.{AllByRecursion}
use Rattle.std.proofs.lemmas.Bool.Decides.{nat_tests}
use Rattle.std.proofs.lemmas.List.{get_or_default}
use Rattle.iss_model.specs.declared.decision.Verdict.{Verdict}
use Rattle.iss_model.specs.declared.decision.Verdict.TheVariants as verdict
use Rattle.iss_index.proofs.Grown.{last_there}
use Rattle.iss_accepted.specs.declared.row.EventRow.{EventRow}
use Rattle.iss_accepted.specs.declared.short.ShortRow.{ShortRow}
use Rattle.iss_accepted.specs.Short.{verdict_of, code_of, other_of, next_start, row_of, rows_of, IsWithin}

-- ---- a row at a place

pub rows_length : (others : List Verdict) (size : ℕ) (rows : List ShortRow) → length (rows_of others size rows) ≡ length rows
rows_length others size [] = refl
rows_length others size (row ∷ rows) = ap (λ (n : ℕ). suc n) (rows_length others size rows)

-- the whole row at a place
abbrev pub whole_row : List Verdict → ℕ → List ShortRow → ℕ → ShortRow → EventRow
whole_row others size rows place row = row_of others (next_start size (drop (suc place) rows)) row

pub whole_at : (others : List Verdict) (size : ℕ) (rows : List ShortRow) (place : ℕ) (row : ShortRow) → place < length rows
    → row ≡ get_or rows place row → slice_get (rows_of others size rows) place ≡ Some (whole_row others size rows place row)
whole_at others size [] place row below own = absurd (omega (arith, below))
whole_at others size (r ∷ rows) zero row below own = ap (λ (x : ShortRow). Some (row_of others (next_start size rows) x)) (sym own)
whole_at others size (r ∷ rows) (suc place) row below own = whole_at others size rows place row (omega (arith, below)) own

-- ---- a row is added

-- the bytes of the last row end where those of the new one begin
end_last : (size after : ℕ) (rows : List ShortRow) (row : ShortRow) → row.start ≡ size → next_start after (rows ++ row ∷ []) ≡ next_start size rows
end_last size after [] row begins = begins
end_last size after (r ∷ rows) row begins = refl

pub rows_last : (others : List Verdict) (size after : ℕ) (rows : List ShortRow) (row : ShortRow) → row.start ≡ size
    → rows_of others after (rows ++ row ∷ []) ≡ rows_of others size rows ++ row_of others after row ∷ []
rows_last others size after [] row begins = refl
rows_last others size after (r ∷ rows) row begins =
    ap₂ (λ (end : ℕ) (rs : List EventRow). row_of others end r ∷ rs) (end_last size after rows row begins) (rows_last others size after rows row begins)

-- ---- other verdicts are added

-- what stands at a place stays there
place_stays : (xs ys : List Verdict) (place : ℕ) → place < length xs → slice_get (xs ++ ys) place ≡ slice_get xs place
place_stays [] ys place below = absurd (omega (arith, below))
place_stays (x ∷ xs) ys zero below = refl
place_stays (x ∷ xs) ys (suc place) below = place_stays xs ys place (omega (arith, below))

-- the verdict of a code that has a place
other_at : (others : List Verdict) (place : ℕ) → verdict_of others (place + 3) ≡ slice_get others place
other_at others place =
    let none : (place + 3 == 0) ≡ false = grind (arith, nat_tests) in
    let done : (place + 3 == 1) ≡ false = grind (arith, nat_tests) in
    let approved : (place + 3 == 2) ≡ false = grind (arith, nat_tests) in
    let back : place + 3 - 3 ≡ place = omega arith in
    rw (none, done, approved, back) refl

-- what is so of the codes with no place, and of those with one, is so of each within a count
each_code : (P : ℕ → Type 0) (count : ℕ) → P 0 → P 1 → P 2 → ((place : ℕ) → place < count → P (place + 3)) → (code : ℕ) → IsWithin count code → P code
each_code P count none done approved placed zero within = none
each_code P count none done approved placed (suc zero) within = done
each_code P count none done approved placed (suc (suc zero)) within = approved
each_code P count none done approved placed (suc (suc (suc place))) within =
    let same : place + 3 ≡ suc (suc (suc place)) = omega arith in
    subst P same (placed place (omega (arith, within)))

verdict_stays : (others more : List Verdict) (code : ℕ) → IsWithin (length others) code → verdict_of (others ++ more) code ≡ verdict_of others code
verdict_stays others more code within =
    each_code (λ (n : ℕ). verdict_of (others ++ more) n ≡ verdict_of others n) (length others) refl refl refl
    (λ place below. other_at (others ++ more) place ∙ place_stays others more place below ∙ sym (other_at others place)) code within

within_stays : (others more : List Verdict) (code : ℕ) → IsWithin (length others) code → IsWithin (length (others ++ more)) code
within_stays others more code within = omega (arith, length-append others more, within)

-- each row's verdict stands if it has a place
abbrev pub AreWithin : List Verdict → List ShortRow → Type 0
AreWithin others rows = AllByRecursion (λ row. IsWithin (length others) row.verdict.code) rows

-- a row with another verdict
abbrev pub with_verdict : EventRow → Option Verdict → EventRow
with_verdict row v = record row { verdict = v }

pub rows_stay : (others more : List Verdict) (size : ℕ) (rows : List ShortRow) → AreWithin others rows → rows_of (others ++ more) size rows ≡ rows_of others size rows
rows_stay others more size [] within = refl
rows_stay others more size (row ∷ rows) within =
    ap₂ (λ (v : Option Verdict) (rs : List EventRow). with_verdict (row_of others (next_start size rows) row) v ∷ rs)
    (verdict_stays others more row.verdict.code within.0) (rows_stay others more size rows within.1)

pub all_within : (others more : List Verdict) (rows : List ShortRow) → AreWithin others rows → AreWithin (others ++ more) rows
all_within others more [] within = tt
all_within others more (row ∷ rows) within = (within_stays others more row.verdict.code within.0, all_within others more rows within.1)

-- ---- a row's verdict is noted

verdict_noted : (others : List Verdict) (v : Verdict) → verdict_of (others ++ other_of v) (code_of (length others) v) ≡ Some v
verdict_noted others verdict.Done = refl
verdict_noted others verdict.Approved = refl
verdict_noted others (verdict.Partial currency amount) =
    other_at (others ++ verdict.Partial currency amount ∷ []) (length others) ∙ last_there others (verdict.Partial currency amount)
verdict_noted others (verdict.Declined reason) =
    other_at (others ++ verdict.Declined reason ∷ []) (length others) ∙ last_there others (verdict.Declined reason)

within_noted : (others : List Verdict) (v : Verdict) → IsWithin (length (others ++ other_of v)) (code_of (length others) v)
within_noted others verdict.Done = omega arith
within_noted others verdict.Approved = omega arith
within_noted others (verdict.Partial currency amount) = omega (arith, length-append others (verdict.Partial currency amount ∷ []))
within_noted others (verdict.Declined reason) = omega (arith, length-append others (verdict.Declined reason ∷ []))

-- a row that begins where the one at its place did changes no other
next_set : (size : ℕ) (rows : List ShortRow) (place : ℕ) (row : ShortRow) → row.start ≡ (get_or rows place row).start
    → next_start size (set rows place row) ≡ next_start size rows
next_set size [] place row begins = refl
next_set size (r ∷ rows) zero row begins = begins
next_set size (r ∷ rows) (suc place) row begins = refl

rows_set : (others : List Verdict) (size : ℕ) (rows : List ShortRow) (place : ℕ) (row : ShortRow) → row.start ≡ (get_or rows place row).start
    → rows_of others size (set rows place row) ≡ set (rows_of others size rows) place (whole_row others size rows place row)
rows_set others size [] place row begins = refl
rows_set others size (r ∷ rows) zero row begins = refl
rows_set others size (r ∷ rows) (suc place) row begins =
    ap₂ (λ (end : ℕ) (rs : List EventRow). row_of others end r ∷ rs) (next_set size rows place row begins) (rows_set others size rows place row begins)

within_set : (others : List Verdict) (rows : List ShortRow) (place : ℕ) (row : ShortRow) → AreWithin others rows → IsWithin (length others) row.verdict.code
    → AreWithin others (set rows place row)
within_set others [] place row within own = tt
within_set others (r ∷ rows) zero row within own = (own, within.1)
within_set others (r ∷ rows) (suc place) row within own = (within.0, within_set others rows place row within.1 own)

module _ (others : List Verdict) (size : ℕ) (rows : List ShortRow) (place : ℕ) (row : ShortRow) (v : Verdict) (within : AreWithin others rows) where
  -- the row with the verdict
  abbrev pub noted : ShortRow
  noted = record row { verdict = record { code = code_of (length others) v } }

  pub rows_noted : place < length rows → row ≡ get_or rows place row
      → rows_of (others ++ other_of v) size (set rows place noted) ≡ set (rows_of others size rows) place (with_verdict (whole_row others size rows place row) (Some v))
  rows_noted below own =
      rows_set (others ++ other_of v) size rows place noted
      (ap (λ (r : ShortRow). r.start) own ∙ ap (λ (r : ShortRow). r.start) (get_or_default rows place row noted below))
      ∙ ap₂ (λ (rs : List EventRow) (o : Option Verdict). set rs place (with_verdict (whole_row others size rows place row) o))
      (rows_stay others (other_of v) size rows within) (verdict_noted others v)

  pub all_noted : AreWithin (others ++ other_of v) (set rows place noted)
  all_noted = within_set (others ++ other_of v) rows place noted (all_within others (other_of v) rows within) (within_noted others v)
