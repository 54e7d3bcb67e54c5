-- A field of several, taken after those before it and before those after it.
use Rattle.std.proofs.Common.{◌≡◌, ℕ, Bool, true, List, [], ◌++◌, Option, Some, refl, ap, ◌∙◌}
use Rattle.iss_model.specs.texts.Spelling.{AreBytes}
use Rattle.iss_codec.specs.Taking.{◌>>=◌}
use Rattle.iss_codec.proofs.TakenFields.{bind_some, IsSplit, IsField, split_on}

-- A field taken after others, with what follows from it and the steps that are left.
pub step : {A B : Type 0} {taker : List ℕ → Option (A × List ℕ)} {text : A → List ℕ} {form : A → Bool} {P : Type 0} → IsField taker text form
    → (whole prefix bytes : List ℕ) (f : A × List ℕ → Option B) (y : B) → IsSplit whole prefix bytes → (taker bytes >>= f) ≡ Some y
    → ((value : A) (rest : List ℕ) → IsSplit whole (prefix ++ text value) rest → form value ≡ true → f (value, rest) ≡ Some y → P) → P
step {taker = taker} field whole prefix bytes f y before e next =
    let x = bind_some (taker bytes) f y e in
    let t = field.takes bytes x.0 before.fits x.1 in
    next x.0.0 x.0.1 (split_on whole prefix bytes _ x.0.1 before t.0) t.1 x.2

pub start : (bytes : List ℕ) → AreBytes bytes → IsSplit bytes [] bytes
start bytes fits = record { parts = refl; fits = fits }

-- a field before what the next steps read
pub again_step : {A B : Type 0} {taker : List ℕ → Option (A × List ℕ)} {text : A → List ℕ} {form : A → Bool} → IsField taker text form
    → (x : A) (rest : List ℕ) (f : A × List ℕ → Option B) (y : Option B) → form x ≡ true → f (x, rest) ≡ y → (taker (text x ++ rest) >>= f) ≡ y
again_step field x rest f y h e = ap (λ r. r >>= f) (field.again x rest h) ∙ e
