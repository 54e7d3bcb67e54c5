-- One value alone, as more values come.
use Rattle.std.proofs.Common.{◌≡◌, refl, ℕ, List, [], ◌∷◌, Option, Some, None}
use Rattle.iss_http.specs.declared.lengths.ContentLength.{ContentLength}
use Rattle.iss_http.specs.declared.lengths.ContentLength.TheVariants.{Absent, Bad, Good}
use Rattle.iss_http.specs.Lengths.{length_of, good_length, lone_length}

-- what the length is after these values, if it was this one before
abbrev pub more_length : ContentLength → List (List ℕ) → ContentLength
more_length Absent texts = lone_length texts
more_length Bad [] = Bad
more_length Bad (text ∷ texts) = Bad
more_length (Good n) [] = Good n
more_length (Good n) (text ∷ texts) = Bad

pub first_length : (text : List ℕ) (texts : List (List ℕ)) → more_length Absent (text ∷ texts) ≡ more_length (good_length (length_of text)) texts
first_length text [] = by (length_of text)
  where
    by : (o : Option ℕ) → good_length o ≡ more_length (good_length o) []
    by None = refl
    by (Some n) = refl
first_length text (other ∷ texts) = by (length_of text)
  where
    by : (o : Option ℕ) → Bad ≡ more_length (good_length o) (other ∷ texts)
    by None = refl
    by (Some n) = refl

pub no_more : (x : ContentLength) → more_length x [] ≡ x
no_more Absent = refl
no_more Bad = refl
no_more (Good n) = refl
