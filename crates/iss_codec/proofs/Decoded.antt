-- A record that is read was spelled so, and a record that is spelled so is read.
use Rattle.std.proofs.Common.{◌≡◌, ℕ, List, Option, Some, None, Result, Ok, Err, sym, ap, ◌∙◌}
use Rattle.std.specs.Prelude.{IfOk, IfSome}
use Rattle.iss_model.specs.declared.input.Record.{Record}
use Rattle.iss_model.specs.texts.Spelling.{AreBytes}
use Rattle.iss_codec.specs.TakingRecords.{record_spelled}
use Rattle.iss_codec.proofs.TakenRecords.{spelled_takes, spelled_again}
use Rattle.iss_codec.proofs.TakenLaws.{none_read}
use Rattle.iss_codec.specs.Meanings.{IsSpellingOf}

pub is_found : {E : Type 0} (bytes : List ℕ) (result : Result (Option Record) E) → AreBytes bytes → IfOk result (λ found. found ≡ record_spelled bytes)
    → IfOk result (λ found. IfSome found (λ r. IsSpellingOf r bytes))
is_found bytes (Ok (Some r)) fits h = spelled_takes bytes r fits (sym h)
is_found bytes (Ok None) fits h = tt
is_found bytes (Err e) fits h = tt

pub is_only : {E : Type 0} (bytes : List ℕ) (result : Result (Option Record) E) → IfOk result (λ found. found ≡ record_spelled bytes) → (r : Record) → IsSpellingOf r bytes
    → IfOk result (λ found. found ≡ Some r)
is_only bytes (Ok found) h r so = h ∙ ap record_spelled so.1 ∙ spelled_again r so.0
is_only bytes (Err e) h r so = tt

pub is_none : {E : Type 0} (bytes : List ℕ) (result : Result (Option Record) E) → IfOk result (λ found. found ≡ record_spelled bytes)
    → IfOk result (λ found. found ≡ None → (r : Record) → IsSpellingOf r bytes → ⊥)
is_none bytes (Ok found) h = λ none r so. none_read bytes r (sym h ∙ none) so
is_none bytes (Err e) h = tt
