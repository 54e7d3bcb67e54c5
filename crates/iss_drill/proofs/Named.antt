-- A letter and a number in decimal are a token.
use Rattle.std.proofs.Common.{◌≡◌, ℕ, ◌+◌, ◌%◌, ◌<◌, ◌≤◌, ◌^◌, Bool, true, false, ◌&&◌, nat_le, List, [], ◌∷◌, length, refl, sym, ap, subst, ◌∙◌, arith}
use Rattle.std.specs.Prelude.{IsTrue}
use Rattle.std.specs.Fmt.{decimal}
use Rattle.std.specs.List.{list_all}
use Rattle.std.proofs.lemmas.Bool.Decides.{nat_tests}
use Rattle.std.proofs.lemmas.List.Folds.{list_all-append}
use Rattle.std.proofs.lemmas.Fmt.{decimal_by_steps, length-decimal-le}
use Rattle.iss_model.specs.Tokens.{is_token, is_token_byte}

digit_byte : (d : ℕ) → d < 10 → is_token_byte (48 + d) ≡ true
digit_byte d lt = grind (arith, nat_tests)

both : (a b : Bool) → a ≡ true → b ≡ true → (a && b) ≡ true
both true b e h = h
both false b e h = e

token_bytes : (n : ℕ) → n < 2 ^ 64 → list_all is_token_byte (decimal n) ≡ true
token_bytes n small =
    decimal_by_steps (λ (k : ℕ) (ds : List ℕ). list_all is_token_byte ds ≡ true)
    (λ k lt. both (is_token_byte (48 + k)) true (digit_byte k lt) refl)
    (λ k ds le is.
    list_all-append is_token_byte ds ((48 + k % 10) ∷ [])
    ∙ both (list_all is_token_byte ds) (is_token_byte (48 + k % 10) && true) is (both (is_token_byte (48 + k % 10)) true (digit_byte (k % 10) (omega arith)) refl))
    n small

pub token_named : (letter n : ℕ) → IsTrue (is_token_byte letter) → n < 2 ^ 32 → IsTrue (is_token (letter ∷ decimal n))
token_named letter n is small =
    let few : length (decimal n) ≤ 10 = length-decimal-le 10 n (omega arith) (omega (arith, small)) (omega (arith, small)) in
    both (nat_le 1 (length (letter ∷ decimal n)) && nat_le (length (letter ∷ decimal n)) 36) (list_all is_token_byte (letter ∷ decimal n))
    (both (nat_le 1 (length (letter ∷ decimal n))) (nat_le (length (letter ∷ decimal n)) 36) (grind (arith, nat_tests)) (grind (arith, nat_tests)))
    (both (is_token_byte letter) (list_all is_token_byte (decimal n)) is (token_bytes n (omega (arith, small))))

-- a text of a letter and digits is a token
pub token_of_text : (letter n : ℕ) (text digits : List ℕ) → IsTrue (is_token_byte letter) → n < 2 ^ 32 → text ≡ letter ∷ digits → digits ≡ decimal n → IsTrue (is_token text)
token_of_text letter n text digits is small e h =
    subst (λ (t : List ℕ). IsTrue (is_token t)) (sym (e ∙ ap (λ (t : List ℕ). letter ∷ t) h)) (token_named letter n is small)
