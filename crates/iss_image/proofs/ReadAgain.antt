-- A state that is read has these bytes as its image, and a state of which they are the image is read.
use Rattle.std.proofs.Common.{◌≡◌, ℕ, List, Option, Some, None, Result, Ok, Err, sym, ap, ◌∙◌}
use Rattle.std.specs.Prelude.{IfOk, IfSome}
use Rattle.iss_model.specs.declared.state.State.{State}
use Rattle.iss_model.specs.texts.Spelling.{AreBytes}
use Rattle.iss_image.specs.States.{state_spelled, IsImageOf}
use Rattle.iss_image.proofs.StateFields.{spelled_takes, spelled_again, none_spelled}

pub is_found : {E : Type 0} (bytes : List ℕ) (result : Result (Option State) E) → AreBytes bytes → IfOk result (λ found. found ≡ state_spelled bytes)
    → IfOk result (λ found. IfSome found (λ s. IsImageOf s bytes))
is_found bytes (Ok (Some s)) fits h = spelled_takes bytes s fits (sym h)
is_found bytes (Ok None) fits h = tt
is_found bytes (Err e) fits h = tt

pub is_only : {E : Type 0} (bytes : List ℕ) (result : Result (Option State) E) → IfOk result (λ found. found ≡ state_spelled bytes) → (s : State) → IsImageOf s bytes
    → IfOk result (λ found. found ≡ Some s)
is_only bytes (Ok found) h s so = h ∙ ap state_spelled so.1 ∙ spelled_again s so.0
is_only bytes (Err e) h s so = tt

pub is_none : {E : Type 0} (bytes : List ℕ) (result : Result (Option State) E) → IfOk result (λ found. found ≡ state_spelled bytes)
    → IfOk result (λ found. found ≡ None → (s : State) → IsImageOf s bytes → ⊥)
is_none bytes (Ok found) h = λ none s so. none_spelled bytes s (sym h ∙ none) so
is_none bytes (Err e) h = tt
