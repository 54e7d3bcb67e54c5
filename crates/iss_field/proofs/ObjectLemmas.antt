-- The object that bytes are, by whether they are text.
use Rattle.std.proofs.Common.{◌≡◌, ℕ, Bool, true, false, List, None, option_and_then, refl}
use Rattle.std.specs.Str.{is_utf8, IsUtf8}
use Rattle.std.proofs.lemmas.Str.{IsUtf8-from_is_utf8, is_utf8-from_IsUtf8}
use Rattle.serde_json.specs.Read.{read}
use Rattle.iss_field.specs.Objects.{if_object, object_of}

pub of_text : (bytes : List ℕ) → IsUtf8 bytes → option_and_then if_object (read bytes) ≡ object_of bytes
unfolding object_of
of_text bytes text = rw (is_utf8-from_IsUtf8 bytes text)

other_at : (b : Bool) (bytes : List ℕ) → is_utf8 bytes ≡ b → (IsUtf8 bytes → ⊥) → None ≡ object_of bytes
unfolding object_of
other_at true bytes text other = absurd (other (IsUtf8-from_is_utf8 bytes text))
other_at false bytes no_text other = rw no_text

pub of_other : (bytes : List ℕ) → (IsUtf8 bytes → ⊥) → None ≡ object_of bytes
of_other bytes other = other_at (is_utf8 bytes) bytes refl other
