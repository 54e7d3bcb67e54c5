-- What is kept if an event is added.
use Rattle.std.proofs.Common.{◌≡◌, ℕ, true, cond, List, [], ◌∷◌, ◌++◌, length, map, find, Option, Some, None, refl, sym, ap, ap₂, subst, ◌∙◌}
use Rattle.std.specs.Prelude.{IsSome, option_map, is_some}
use Rattle.std.specs.List.{AllByRecursion, IsDistinct}
use Rattle.std.specs.Str.{bytes_eq}
use Rattle.std.proofs.lemmas.List.{map-append}
use Rattle.iss_model.specs.declared.input.Record.{Record}
use Rattle.iss_model.specs.Inputs.{event_token, is_event}
use Rattle.iss_model.specs.texts.Spelling.{spelling, is_record}
use Rattle.iss_model.specs.rules.Facts.{Accepted}
use Rattle.iss_index.proofs.Placed.{apart-last, names-last}
use Rattle.iss_accepted.specs.declared.row.EventRow.{EventRow}
use Rattle.iss_accepted.specs.Values.{EventsNow}
use Rattle.iss_accepted.specs.Standing.{Standing, name_of, token_or_none, standing_named, AreDecided}
use Rattle.iss_accepted.specs.Kept.{event_by, standing_of, standings_of, events_now, IsSpelledIn, IsKept}
use Rattle.iss_accepted.proofs.Spans.{standings_stay, all_stay, all_last, standing_new, new_standing, new_spelled}
use Rattle.iss_accepted.proofs.Decided.{decisions_last, decided_last}
use Rattle.iss_accepted.proofs.Found.{event_in, event_found}
use Rattle.iss_accepted.proofs.Steps.{all_named, new_unplaced}

-- what is kept agrees, and shows these events
pub record Shows (bytes : List ℕ) (rows : List EventRow) (names : List (List ℕ)) (decided : List ℕ) (value : EventsNow) : Type 0 where
  pub kept : IsKept bytes rows names decided
  pub view : events_now (standings_of bytes rows) decided ≡ value

-- the events with a record of this number after them, if it is an event
abbrev pub with_record : EventsNow → ℕ → Record → EventsNow
with_record value number r = record value { accepted = value.accepted ++ (cond (is_some (event_token r.input)) (event_by number r ∷ []) []) }

module _ (bytes : List ℕ) (rows : List EventRow) (names : List (List ℕ)) (decided : List ℕ) (value : EventsNow)
    (kept : IsKept bytes rows names decided) (view : events_now (standings_of bytes rows) decided ≡ value) where
  -- ---- an event is added

  module _ (all : List ℕ) (rows_now : List EventRow) (names_now : List (List ℕ)) (row : EventRow) (r : Record) (token : List ℕ)
      (added : all ≡ bytes ++ spelling r) (begins : row.start ≡ length bytes) (ends : row.end ≡ length all)
      (form : is_record r ≡ true) (pending : row.verdict ≡ None)
      (own : event_token r.input ≡ Some token) (unknown : find (λ (a : Accepted). is_event token a.input) value.accepted ≡ None)
      (noted : names_now ≡ names ++ token ∷ [])
      (pushed : rows_now ≡ rows ++ row ∷ []) where
    -- the event that is added
    abbrev pub newest : Standing
    newest = standing_new row r

    name_is : name_of newest ≡ token
    name_is = ap token_or_none own

    standings_now : standings_of all rows_now ≡ standings_of bytes rows ++ newest ∷ []
    standings_now =
        ap (λ (rs : List EventRow). standings_of all rs) pushed
        ∙ map-append (standing_of all) rows (row ∷ [])
        ∙ ap₂ (λ (ss : List Standing) (s : Standing). ss ++ s ∷ [])
        (ap (λ (bs : List ℕ). standings_of bs rows) added ∙ standings_stay bytes (spelling r) rows kept.spelled)
        (new_standing bytes all row r added begins ends form)

    not_named : standing_named (name_of newest) (standings_of bytes rows) ≡ None
    not_named =
        ap (λ (n : List ℕ). standing_named n (standings_of bytes rows)) name_is
        ∙ nothing (standing_named token (standings_of bytes rows))
        (sym (event_found token (standings_of bytes rows) (all_named bytes rows kept.spelled))
        ∙ ap (λ (e : EventsNow). find (λ (a : Accepted). is_event token a.input) e.accepted) view
        ∙ unknown)
      where
        nothing : (o : Option Standing) → option_map event_in o ≡ None → o ≡ None
        nothing None e = refl
        nothing (Some s) e = cc

    row_named : IsSome (event_token r.input)
    row_named = subst (λ (o : Option (List ℕ)). IsSome o) (sym own) refl

    added_kept : IsKept all rows_now names_now decided
    added_kept =
        record {
          spelled =
              subst (λ (rs : List EventRow). AllByRecursion (IsSpelledIn all) rs) (sym pushed)
              (all_last (IsSpelledIn all) rows row
              (subst (λ (bs : List ℕ). AllByRecursion (IsSpelledIn bs) rows) (sym added) (all_stay bytes (spelling r) rows kept.spelled))
              (new_spelled bytes all row r added begins ends form row_named));
          placed =
              noted
              ∙ ap₂ (λ (ns : List (List ℕ)) (n : List ℕ). ns ++ n ∷ []) kept.placed (sym name_is)
              ∙ sym (ap (λ (ss : List Standing). map name_of ss) standings_now ∙ names-last name_of (standings_of bytes rows) newest);
          apart =
              subst (IsDistinct bytes_eq) (sym noted)
              (apart-last token names kept.apart (new_unplaced bytes rows names decided value token kept view unknown));
          verdicts =
              subst (λ (ss : List Standing). AreDecided ss decided) (sym standings_now)
              (decided_last (standings_of bytes rows) newest decided kept.verdicts pending);
        }

    added_view : events_now (standings_of all rows_now) decided ≡ with_record value row.number r
    added_view =
        ap (λ (ss : List Standing). events_now ss decided) standings_now
        ∙ (λ j. record {
          accepted = map-append (λ (s : Standing). s.event) (standings_of bytes rows) (newest ∷ []) j;
          decisions = decisions_last (standings_of bytes rows) newest decided kept.verdicts pending j;
        })
        ∙ ap (λ (e : EventsNow). record e { accepted = e.accepted ++ event_by row.number r ∷ [] }) view
        ∙ ap (λ (o : Option (List ℕ)). record value { accepted = value.accepted ++ (cond (is_some o) (event_by row.number r ∷ []) []) }) (sym own)

    pub added_shows : Shows all rows_now names_now decided (with_record value row.number r)
    added_shows = record { kept = added_kept; view = added_view }
