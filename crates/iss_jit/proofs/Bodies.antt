-- The JSON value that a body is, by whether it is text.
use Rattle.std.proofs.Common.{◌≡◌, ℕ, Bool, true, false, List, None, refl}
use Rattle.std.specs.Str.{is_utf8, IsUtf8}
use Rattle.std.proofs.lemmas.Str.{IsUtf8-from_is_utf8, is_utf8-from_IsUtf8}
use Rattle.serde_json.specs.Read.{read}
use Rattle.iss_jit.specs.Outcomes.{json_of}

pub of_text : (body : List ℕ) → IsUtf8 body → read body ≡ json_of body
unfolding json_of
of_text body text = rw (is_utf8-from_IsUtf8 body text)

other_at : (b : Bool) (body : List ℕ) → is_utf8 body ≡ b → (IsUtf8 body → ⊥) → None ≡ json_of body
unfolding json_of
other_at true body text other = absurd (other (IsUtf8-from_is_utf8 body text))
other_at false body no_text other = rw no_text

pub of_other : (body : List ℕ) → (IsUtf8 body → ⊥) → None ≡ json_of body
of_other body other = other_at (is_utf8 body) body refl other
