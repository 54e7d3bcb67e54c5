-- Numbers of two and of three digits, with leading zeros.
use Rattle.std.proofs.Common.{◌≡◌, ℕ, ◌+◌, ◌<◌, ◌≤◌, ◌/◌, ◌%◌, false, List, [], ◌∷◌, ◌++◌, ⊎_elim, refl, ap, ◌∙◌, arith}
use Rattle.std.specs.Fmt.{decimal, padded_integral, format_spec, char_count}
use Rattle.std.proofs.lemmas.Bool.{cases_lt}
use Rattle.std.proofs.lemmas.Fmt.{decimal_digit, decimal_step}
use Rattle.iss_model.specs.Amounts.{last_digits}

-- a number's text after zeros, up to this number of places
abbrev padded_to : ℕ → List ℕ → List ℕ
padded_to width text = padded_integral (format_spec 32 0 4 width 18446744073709551615) false [] text

one : (n : ℕ) → n < 10 → decimal n ≡ (48 + n) ∷ []
one n h = decimal_digit n h

two : (n : ℕ) → 10 ≤ n → n < 100 → decimal n ≡ (48 + n / 10) ∷ (48 + n % 10) ∷ []
two n low high = decimal_step n low (omega arith) ∙ ap (λ front. front ++ (48 + n % 10) ∷ []) (one (n / 10) (omega arith))

three : (n : ℕ) → 100 ≤ n → n < 1000 → decimal n ≡ (48 + n / 10 / 10) ∷ (48 + n / 10 % 10) ∷ (48 + n % 10) ∷ []
three n low high = decimal_step n (omega arith) (omega arith) ∙ ap (λ front. front ++ (48 + n % 10) ∷ []) (two (n / 10) (omega arith) (omega arith))

pad : (a b : ℕ) → (padded_to 2 (a ∷ []) ≡ 48 ∷ a ∷ []) × (padded_to 2 (a ∷ b ∷ []) ≡ a ∷ b ∷ [])
unfolding padded_integral char_count
pad a b = (refl, refl)

pad_more : (a b c : ℕ) → (padded_to 3 (a ∷ []) ≡ 48 ∷ 48 ∷ a ∷ []) × (padded_to 3 (a ∷ b ∷ []) ≡ 48 ∷ a ∷ b ∷ []) × (padded_to 3 (a ∷ b ∷ c ∷ []) ≡ a ∷ b ∷ c ∷ [])
unfolding padded_integral char_count
pad_more a b c = (refl, refl, refl)

two_alike : (a b c d : ℕ) → a ≡ c → b ≡ d → a ∷ b ∷ [] ≡ c ∷ d ∷ []
two_alike a b c d p q = cc

three_alike : (a b c d e f : ℕ) → a ≡ d → b ≡ e → c ≡ f → a ∷ b ∷ c ∷ [] ≡ d ∷ e ∷ f ∷ []
three_alike a b c d e f p q r = cc

-- what `{:02}` writes of a number below 100
pub two_digits : (n : ℕ) → n < 100 → padded_integral (format_spec 32 0 4 2 18446744073709551615) false [] (decimal n) ≡ last_digits 2 n
two_digits n h = ⊎_elim
    (λ low. ap (padded_to 2) (one n low) ∙ (pad (48 + n) 0).0 ∙ two_alike 48 (48 + n) _ _ (omega arith) (omega arith))
    (λ low. ap (padded_to 2) (two n low h) ∙ (pad (48 + n / 10) (48 + n % 10)).1 ∙ two_alike (48 + n / 10) (48 + n % 10) _ _ (omega arith) refl)
    (cases_lt n 10)

-- what `{:03}` writes of a number below 1000
pub three_digits : (n : ℕ) → n < 1000 → padded_integral (format_spec 32 0 4 3 18446744073709551615) false [] (decimal n) ≡ last_digits 3 n
three_digits n h = ⊎_elim
    (λ low. ap (padded_to 3) (one n low) ∙ (pad_more (48 + n) 0 0).0 ∙ three_alike 48 48 (48 + n) _ _ _ (omega arith) (omega arith) (omega arith))
    (λ low. ⊎_elim
    (λ few. ap (padded_to 3) (two n low few) ∙ (pad_more (48 + n / 10) (48 + n % 10) 0).1 ∙ three_alike 48 (48 + n / 10) (48 + n % 10) _ _ _ (omega arith) (omega arith) refl)
    (λ many. ap (padded_to 3) (three n many h) ∙ (pad_more (48 + n / 10 / 10) (48 + n / 10 % 10) (48 + n % 10)).2 ∙ three_alike (48 + n / 10 / 10) (48 + n / 10 % 10) (48 + n % 10) _ _ _ (omega arith) refl refl)
    (cases_lt n 100))
    (cases_lt n 10)
