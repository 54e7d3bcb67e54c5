-- A field of the codec is what the contracts say of one.
use Rattle.std.proofs.Common.{◌≡◌, ℕ, Bool, List, ◌++◌, length, Option, refl, subst}
use Rattle.std.proofs.lemmas.List.{drop_at}
use Rattle.iss_model.specs.texts.Spelling.{AreBytes}
use Rattle.iss_codec.proofs.NumberBytes.{bytes_after}
use Rattle.iss_codec.proofs.TakenFields.{IsField}
use Rattle.iss_image_lists.specs.Meanings.{IsSpelledSo}

-- what comes after bytes are bytes
rest_fits : (text rest bytes : List ℕ) → bytes ≡ text ++ rest → AreBytes bytes → AreBytes rest
rest_fits text rest bytes e fits =
    subst AreBytes (drop_at text rest (length text) refl) (bytes_after (length text) (text ++ rest) (subst AreBytes e fits))

pub field_of : {A : Type 0} {taker : List ℕ → Option (A × List ℕ)} {text : A → List ℕ} {form : A → Bool} → IsSpelledSo taker text form → IsField taker text form
field_of {text = text} so =
    record {
      takes = λ bytes x fits e. let b = so.back bytes x fits e in (record { parts = b.0; fits = rest_fits (text x.0) x.1 bytes b.0 fits }, b.1);
      again = so.again;
    }

pub spelled_so : {A : Type 0} {taker : List ℕ → Option (A × List ℕ)} {text : A → List ℕ} {form : A → Bool} → IsField taker text form → IsSpelledSo taker text form
spelled_so field = record { back = λ bytes x fits e. let t = field.takes bytes x fits e in (t.0.parts, t.1); again = field.again }
