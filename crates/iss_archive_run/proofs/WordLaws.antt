-- The words of a statement: more than three, or two.
use Rattle.std.proofs.Common.{◌≡◌, ℕ, ◌-◌, ◌≤◌, List, [], ◌∷◌, length, map, take, drop, get_or, refl, sym, ap, ◌∙◌, arith}
use Rattle.std.specs.Prelude.{String, string_bytes}
use Rattle.std.proofs.lemmas.List.{length-map}
use Rattle.iss_statement.specs.Words.{asked_of_words, asked_in}
use Rattle.iss_archive_run.specs.Words.{command_of_words, command_in, statement_command}

not_three : (name database : List ℕ) (asked : List (List ℕ)) → (length asked ≡ 1 → ⊥) → command_of_words (name ∷ database ∷ asked) ≡ statement_command name database (asked_of_words asked)
unfolding command_of_words
not_three name database [] other = refl
not_three name database (word ∷ []) other = absurd (other refl)
not_three name database (word ∷ more ∷ words) other = refl

take_whole : {X : Type 0} (xs : List X) → take (length xs) xs ≡ xs
take_whole [] = refl
take_whole {X = X} (x ∷ xs) = ap (λ (l : List X). x ∷ l) (take_whole xs)

pub said_of : {Z : Type 0} (words : List (String Z)) (a b : String Z) (name database : List ℕ) → 2 ≤ length words → (length words ≡ 3 → ⊥) → a ≡ get_or words 0 a → b ≡ get_or words 1 b → name ≡ string_bytes a
    → database ≡ string_bytes b → statement_command name database (asked_in (take (length words - 2) (drop 2 words))) ≡ command_in words
said_of [] a b name database low other is_a is_b is_name is_database = absurd (omega (arith, low))
said_of (x ∷ []) a b name database low other is_a is_b is_name is_database = absurd (omega (arith, low))
said_of (x ∷ y ∷ words) a b name database low other is_a is_b is_name is_database =
    let first : name ≡ string_bytes x = is_name ∙ ap string_bytes is_a in
    let second : database ≡ string_bytes y = is_database ∙ ap string_bytes is_b in
    let all : length (x ∷ y ∷ words) - 2 ≡ length words = omega arith in
    let cut : take (length (x ∷ y ∷ words) - 2) words ≡ words = ap (λ (n : ℕ). take n words) all ∙ take_whole words in
    let many : length (map string_bytes words) ≡ length words = length-map words string_bytes in
    (λ i. statement_command (first i) (second i) (asked_in (cut i)))
    ∙ sym (not_three (string_bytes x) (string_bytes y) (map string_bytes words) (λ e. other (omega (arith, many, e))))
