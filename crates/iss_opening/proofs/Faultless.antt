-- A device that shows records after its image, each next on those before it, has no fault after the image.
use Rattle.std.proofs.Common.{◌≡◌, ℕ, ◌+◌, ◌≤◌, inl, inr, List, [], ◌∷◌, ◌++◌, length, sym, ap, subst, ◌∙◌, arith, length-append}
use Rattle.std.specs.Prelude.{IsTrue}
use Rattle.std.specs.List.{list_all}
use Rattle.iss_journal.specs.Place.{Place}
use Rattle.iss_journal.specs.Region.{frame_size, Shows}
use Rattle.iss_journal.specs.Opening.{RecordAt, BadAt}
use Rattle.iss_journal.specs.Reading.{ReadUpTo}
use Rattle.iss_journal.proofs.ReadLemmas.{next_shown, reads_on, bad_shows_nothing}
use Rattle.iss_halves.specs.Forms.{Layout}
use Rattle.iss_halves.specs.Finding.{found_region}
use Rattle.iss_model.specs.declared.input.Record.{Record}
use Rattle.iss_model.specs.declared.limits.TheConstants.{MOST_RECORDS}
use Rattle.iss_model.specs.texts.Spelling.{is_record}
use Rattle.iss_codec.specs.Meanings.{IsSpellingOf}
use Rattle.iss_core.specs.Values.{CoreNow, IsNext}
use Rattle.iss_standing.specs.Standing.{bodies_of}
use Rattle.iss_opening.specs.Reading.{core_after, AreNext, IsNotNext, ReadsOn}
use Rattle.iss_opening.proofs.Afters.{after_count}
use Rattle.iss_opening.proofs.Spelled.{SpelledAt, same_record, same_records, spelled_at}

-- after the image the device shows these records, each next on those before it, and no more than there may be
pub record ShowsNext (layout : Layout) (image : List ℕ) (start : CoreNow) (rs : List Record) (device : List ℕ) : Type 0 where
  pub spelled : IsTrue (list_all is_record rs)
  pub next : AreNext start rs
  pub few : start.state.count + length rs ≤ MOST_RECORDS
  pub shows : Shows (found_region layout image device) (bodies_of rs) device

-- each of these is next on the core after those before it
next_at : (c : CoreNow) (before : List Record) (r : Record) (after : List Record) → AreNext c (before ++ r ∷ after) → IsNext (core_after c before) r
next_at c [] r after next = next.0
next_at c (x ∷ before) r after next = next_at (core_after c (x ∷ [])) before r after next.1

module _ (layout : Layout) (image : List ℕ) (start : CoreNow) (rs : List Record) (device : List ℕ) (on : ShowsNext layout image start rs device) (read : List Record) (place : Place) (reads : ReadsOn layout image start read place device) where
  pub no_bad_record : BadAt place device → ⊥
  no_bad_record bad =
      bad_shows_nothing (found_region layout image device) (bodies_of read) (bodies_of rs) place device reads.read bad on.shows

  module _ (body : List ℕ) (there : RecordAt place body device) where
    -- the body after what was read is that of one of the records
    body_spelled : SpelledAt rs (bodies_of read) body
    body_spelled =
        let region = found_region layout image device in
        let moved : Place = record { gate = place.gate + frame_size body; to = place.to } in
        let more : ReadUpTo region (bodies_of read ++ body ∷ []) moved device = reads_on region (bodies_of read) body place device reads.read there in
        let next = next_shown region (bodies_of read ++ body ∷ []) (bodies_of rs) moved device more on.shows in
        spelled_at rs (bodies_of read) body next.left on.spelled next.begins

    pub no_bad_spelling : ((r : Record) → IsSpellingOf r body → ⊥) → ⊥
    no_bad_spelling none = none body_spelled.here body_spelled.spelled

    pub no_bad_history : (r : Record) → IsSpellingOf r body → IsNotNext (core_after start read) r → ⊥
    no_bad_history r spelled not_next =
        let found = body_spelled in
        let before : found.before ≡ read = same_records found.before read found.all_spelled reads.spelled found.before_is in
        let same : found.here ≡ r = same_record found.here r found.spelled.0 spelled.0 (sym found.spelled.1 ∙ spelled.1) in
        let next : IsNext (core_after start found.before) found.here = next_at start found.before found.here found.after (subst (λ (l : List Record). AreNext start l) found.is on.next) in
        let count : length rs ≡ length found.before + length (found.here ∷ found.after) = ap (λ (l : List Record). length l) found.is ∙ length-append found.before (found.here ∷ found.after) in
        elim not_next [
          | inl never ↦ never (subst (λ (l : List Record). IsNext (core_after start l) r) before (subst (λ (x : Record). IsNext (core_after start found.before) x) same next))
          | inr full ↦ absurd (omega (arith, full, after_count start read, count, ap (λ (l : List Record). length l) before, on.few))
        ]
