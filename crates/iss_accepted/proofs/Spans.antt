-- Rows over a buffer that grows: what each spells stays, and a new row spells what was added.
use Rattle.std.proofs.Common.{◌≡◌, ℕ, ◌-◌, ◌≤◌, true, List, [], ◌∷◌, ◌++◌, length, take, drop, Option, refl, sym, ap, ap₂, subst, ◌∙◌, arith, length-append}
use Rattle.std.specs.Prelude.{IsSome}
use Rattle.std.specs.List.{AllByRecursion}
use Rattle.std.proofs.lemmas.List.{take-append-le, drop-append-le, drop_at, take_all, length-drop}
use Rattle.iss_model.specs.declared.input.Record.{Record}
use Rattle.iss_model.specs.Inputs.{event_token}
use Rattle.iss_model.specs.texts.Spelling.{spelling, is_record}
use Rattle.iss_codec.specs.TakingRecords.{record_spelled}
use Rattle.iss_codec.proofs.TakenRecords.{spelled_again}
use Rattle.iss_accepted.specs.declared.row.EventRow.{EventRow}
use Rattle.iss_accepted.specs.Standing.{Standing, IsNamed}
use Rattle.iss_accepted.specs.Kept.{bytes_of, record_read, event_by, record_of, standing_of, standings_of, IsSpelledIn}

-- bytes within a buffer stay if more are added to it
part_stays : (bytes more : List ℕ) (start end : ℕ) → start ≤ end → end ≤ length bytes
    → take (end - start) (drop start (bytes ++ more)) ≡ take (end - start) (drop start bytes)
part_stays bytes more start end begins within =
    let low : start ≤ length bytes = omega arith in
    let fits : end - start ≤ length (drop start bytes) = omega (arith, length-drop start bytes) in
    ap (take (end - start)) (drop-append-le start bytes more low) ∙ take-append-le (end - start) (drop start bytes) more fits

-- the bytes that were added, from the buffer's end on
part_added : (bytes more : List ℕ) (start end : ℕ) → start ≡ length bytes → end ≡ length (bytes ++ more)
    → take (end - start) (drop start (bytes ++ more)) ≡ more
part_added bytes more start end begins ends =
    let long : length more ≤ end - start = omega (arith, length-append bytes more, begins, ends) in
    ap (take (end - start)) (drop_at bytes more start (sym begins)) ∙ take_all (end - start) more long

-- a standing by its row's bytes
abbrev pub standing_by : EventRow → List ℕ → Standing
standing_by row spelled = record { event = event_by row.number (record_read (record_spelled spelled)); verdict = row.verdict }

pub standing_stays : (bytes more : List ℕ) (row : EventRow) → IsSpelledIn bytes row → standing_of (bytes ++ more) row ≡ standing_of bytes row
standing_stays bytes more row spelled = ap (standing_by row) (part_stays bytes more row.start row.end spelled.begins spelled.within)

spelled_stays : (bytes more : List ℕ) (row : EventRow) → IsSpelledIn bytes row → IsSpelledIn (bytes ++ more) row
spelled_stays bytes more row spelled =
    let same : standing_of (bytes ++ more) row ≡ standing_of bytes row = standing_stays bytes more row spelled in
    record {
      begins = spelled.begins;
      within = omega (arith, length-append bytes more, spelled.within);
      spelled =
          part_stays bytes more row.start row.end spelled.begins spelled.within
          ∙ spelled.spelled
          ∙ ap (λ (s : Standing). spelling (record_of s.event)) (sym same);
      form = subst (λ (s : Standing). is_record (record_of s.event) ≡ true) (sym same) spelled.form;
      named = subst IsNamed (sym same) spelled.named;
    }

pub standings_stay : (bytes more : List ℕ) (rows : List EventRow) → AllByRecursion (IsSpelledIn bytes) rows → standings_of (bytes ++ more) rows ≡ standings_of bytes rows
standings_stay bytes more [] spelled = refl
standings_stay bytes more (row ∷ rows) spelled =
    ap₂ (λ (s : Standing) (ss : List Standing). s ∷ ss) (standing_stays bytes more row spelled.0) (standings_stay bytes more rows spelled.1)

pub all_stay : (bytes more : List ℕ) (rows : List EventRow) → AllByRecursion (IsSpelledIn bytes) rows → AllByRecursion (IsSpelledIn (bytes ++ more)) rows
all_stay bytes more [] spelled = tt
all_stay bytes more (row ∷ rows) spelled = (spelled_stays bytes more row spelled.0, all_stay bytes more rows spelled.1)

-- the standing of a row whose record's bytes were added
abbrev pub standing_new : EventRow → Record → Standing
standing_new row r = record { event = event_by row.number r; verdict = row.verdict }

module _ (bytes all : List ℕ) (row : EventRow) (r : Record) (added : all ≡ bytes ++ spelling r) (begins : row.start ≡ length bytes) (ends : row.end ≡ length all) (form : is_record r ≡ true) where
  bytes_new : bytes_of all row ≡ spelling r
  bytes_new =
      ap (bytes_of_row) added
      ∙ part_added bytes (spelling r) row.start row.end begins (ends ∙ ap (λ (xs : List ℕ). length xs) added)
    where
      bytes_of_row : List ℕ → List ℕ
      bytes_of_row xs = bytes_of xs row

  pub new_standing : standing_of all row ≡ standing_new row r
  new_standing =
      ap (standing_by row) bytes_new
      ∙ ap (λ (o : Option Record). standing_new row (record_read o)) (spelled_again r form)

  pub new_spelled : IsSome (event_token r.input) → IsSpelledIn all row
  new_spelled named =
      record {
        begins = omega (arith, begins, ends, ap (λ (xs : List ℕ). length xs) added, length-append bytes (spelling r));
        within = omega (arith, ends);
        spelled = bytes_new ∙ ap (λ (s : Standing). spelling (record_of s.event)) (sym new_standing);
        form = subst (λ (s : Standing). is_record (record_of s.event) ≡ true) (sym new_standing) form;
        named = subst IsNamed (sym new_standing) named;
      }

-- what holds of each of a list, and of one more
pub all_last : {A : Type 0} (P : A → Type 0) (xs : List A) (y : A) → AllByRecursion P xs → P y → AllByRecursion P (xs ++ y ∷ [])
all_last P [] y all here = (here, tt)
all_last P (x ∷ xs) y all here = (all.0, all_last P xs y all.1 here)
