-- What is kept in few bytes if it changes.
use Rattle.std.proofs.Common.{◌≡◌, ℕ, ◌<◌, true, List, [], ◌∷◌, ◌++◌, length, find, Some, None, slice_get, get_or, set, refl, sym, ap, ap₂, subst, ◌∙◌, arith}
use Rattle.std.proofs.lemmas.Option.{get_or_from_slice_get}
use Rattle.iss_model.specs.declared.decision.Verdict.{Verdict}
use Rattle.iss_model.specs.declared.input.Record.{Record}
use Rattle.iss_model.specs.Inputs.{event_token, is_event}
use Rattle.iss_model.specs.texts.Spelling.{spelling, is_record}
use Rattle.iss_model.specs.rules.Facts.{Accepted}
use Rattle.iss_index.specs.Places.{place_of}
use Rattle.iss_accepted.specs.declared.row.EventRow.{EventRow}
use Rattle.iss_accepted.specs.declared.short.ShortRow.{ShortRow}
use Rattle.iss_accepted.specs.declared.short.ShortVerdict.{ShortVerdict}
use Rattle.iss_accepted.specs.Values.{EventsNow, with_decision}
use Rattle.iss_accepted.specs.Standing.{decision_named}
use Rattle.iss_accepted.specs.Kept.{standings_of, events_now, IsKept}
use Rattle.iss_accepted.specs.Short.{verdict_of, code_of, other_of, row_of, rows_of, standings_in, IsWithin, IsKeptShort}
use Rattle.iss_accepted.proofs.Spans.{all_last}
use Rattle.iss_accepted.proofs.Steps.{kept_none, placed_within, decided_kept, decided_view}
use Rattle.iss_accepted.proofs.Added.{with_record, added_shows}
use Rattle.iss_accepted.proofs.Shortened.{AreWithin, rows_length, whole_row, whole_at, rows_last, rows_stay, all_within, rows_noted, all_noted}

-- what is kept agrees, and shows these events
pub record ShowsShort (bytes : List ℕ) (others : List Verdict) (rows : List ShortRow) (names : List (List ℕ)) (decided : List ℕ) (value : EventsNow) : Type 0 where
  pub kept : IsKeptShort bytes others rows names decided
  pub view : events_now (standings_in bytes others rows) decided ≡ value

pub short_none : (bytes : List ℕ) (others : List Verdict) (rows : List ShortRow) (names : List (List ℕ)) (decided : List ℕ) → rows ≡ [] → names ≡ [] → decided ≡ []
    → IsKeptShort bytes others rows names decided
short_none bytes others rows names decided none empty undecided =
    record {
      kept = kept_none bytes (rows_of others (length bytes) rows) names decided (ap (rows_of others (length bytes)) none) empty undecided;
      within = subst (AreWithin others) (sym none) tt;
    }

module _ (bytes : List ℕ) (others : List Verdict) (rows : List ShortRow) (names : List (List ℕ)) (decided : List ℕ) (value : EventsNow)
    (kept : IsKeptShort bytes others rows names decided) (view : events_now (standings_in bytes others rows) decided ≡ value) where
  -- the whole rows
  abbrev pub whole_rows : List EventRow
  whole_rows = rows_of others (length bytes) rows

  pub verdicts_more : (more others_now : List Verdict) → others_now ≡ others ++ more → ShowsShort bytes others_now rows names decided value
  verdicts_more more others_now grown =
      let same : rows_of others_now (length bytes) rows ≡ whole_rows =
      ap (λ (vs : List Verdict). rows_of vs (length bytes) rows) grown ∙ rows_stay others more (length bytes) rows kept.within
      in
      record {
        kept = record {
          kept = subst (λ (rs : List EventRow). IsKept bytes rs names decided) (sym same) kept.kept;
          within = subst (λ (vs : List Verdict). AreWithin vs rows) (sym grown) (all_within others more rows kept.within);
        };
        view = ap (λ (rs : List EventRow). events_now (standings_of bytes rs) decided) same ∙ view;
      }

  -- an event is added
  pub event_more : (all : List ℕ) (rows_now : List ShortRow) (names_now : List (List ℕ)) (row : ShortRow) (r : Record) (token : List ℕ)
      → all ≡ bytes ++ spelling r → row.start ≡ length bytes → is_record r ≡ true → row.verdict.code ≡ 0
      → event_token r.input ≡ Some token → find (λ (a : Accepted). is_event token a.input) value.accepted ≡ None
      → names_now ≡ names ++ token ∷ [] → rows_now ≡ rows ++ row ∷ []
      → ShowsShort all others rows_now names_now decided (with_record value row.number r)
  event_more all rows_now names_now row r token added begins form pending own unknown noted pushed =
      let shows =
      added_shows bytes whole_rows names decided value kept.kept view all (rows_of others (length all) rows_now) names_now
      (row_of others (length all) row) r token added begins refl form (ap (verdict_of others) pending) own unknown noted
      (ap (rows_of others (length all)) pushed ∙ rows_last others (length bytes) (length all) rows row begins)
      in
      record {
        kept = record {
          kept = shows.kept;
          within =
              subst (AreWithin others) (sym pushed)
              (all_last (λ r. IsWithin (length others) r.verdict.code) rows row kept.within (omega (arith, pending)));
        };
        view = shows.view;
      }

  -- the whole row that was found in the same lists
  pub row_found : (place : ℕ) (whole : EventRow) (others_now : List Verdict) (size : ℕ) (rows_now : List ShortRow) → slice_get (rows_of others_now size rows_now) place ≡ Some whole
      → others_now ≡ others → size ≡ length bytes → rows_now ≡ rows → whole ≡ get_or whole_rows place whole
  row_found place whole others_now size rows_now found same long unchanged =
      sym (get_or_from_slice_get whole_rows place whole whole
      (subst (λ (vs : List Verdict). slice_get (rows_of vs (length bytes) rows) place ≡ Some whole) same
      (subst (λ (n : ℕ). slice_get (rows_of others_now n rows) place ≡ Some whole) long
      (subst (λ (rs : List ShortRow). slice_get (rows_of others_now size rs) place ≡ Some whole) unchanged found))))

  -- the row of a token
  module _ (token : List ℕ) (place : ℕ) (is : Some place ≡ place_of token names) where
    pub place_below : place < length rows
    place_below =
        subst (λ (n : ℕ). place < n) (rows_length others (length bytes) rows) (placed_within bytes whole_rows names decided value token kept.kept view place is)

    -- the event receives its verdict
    pub verdict_more : (row : ShortRow) → row ≡ get_or rows place row → (v : Verdict) → decision_named token value.decisions ≡ None
        → (others_now : List Verdict) (rows_now : List ShortRow) (decided_now : List ℕ) (kept_so : ShortVerdict)
        → kept_so.code ≡ code_of (length others) v → others_now ≡ others ++ other_of v
        → rows_now ≡ set rows place (record row { verdict = kept_so }) → decided_now ≡ decided ++ place ∷ []
        → ShowsShort bytes others_now rows_now names decided_now (with_decision value token v)
    verdict_more row own v undecided others_now rows_now decided_now kept_so so grown set_so pushed =
        let whole = whole_row others (length bytes) rows place row in
        let whole_own = sym (get_or_from_slice_get whole_rows place whole whole (whole_at others (length bytes) rows place row place_below own)) in
        let now : rows_now ≡ set rows place (record row { verdict = record { code = code_of (length others) v } }) =
        set_so ∙ ap (λ (code : ℕ). set rows place (record row { verdict = record { code = code } })) so
        in
        let rows_are : rows_of others_now (length bytes) rows_now ≡ set whole_rows place (record whole { verdict = Some v }) =
        ap₂ (λ (vs : List Verdict) (rs : List ShortRow). rows_of vs (length bytes) rs) grown now
        ∙ rows_noted others (length bytes) rows place row v kept.within place_below own
        in
        record {
          kept = record {
            kept =
                decided_kept bytes whole_rows names decided value token kept.kept view place whole is whole_own v undecided
                (rows_of others_now (length bytes) rows_now) decided_now rows_are pushed;
            within =
                subst (λ (vs : List Verdict). AreWithin vs rows_now) (sym grown)
                (subst (AreWithin (others ++ other_of v)) (sym now) (all_noted others (length bytes) rows place row v kept.within));
          };
          view =
              decided_view bytes whole_rows names decided value token kept.kept view place whole is whole_own v undecided
              (rows_of others_now (length bytes) rows_now) decided_now rows_are pushed;
        }
