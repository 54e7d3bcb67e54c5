-- The line that tells whether two devices stand for the same.
use Rattle.std.specs.Prelude.{ℕ, Bool, List, [], ◌∷◌, ◌++◌, codes, decimal, if◌then◌else◌}
use Rattle.iss_model.specs.texts.Wordings.{in_quotes}

-- a truth value as JSON has it
abbrev pub truth_text : Bool → List ℕ
truth_text same = if same then codes "true" else codes "false"

-- `{"records":n,"same":true}`, or `false`, and a line feed
unfoldable pub same_line : ℕ → Bool → List ℕ
same_line records same =
    123 ∷ in_quotes (codes "records") ++ 58 ∷ decimal records ++ 44 ∷ in_quotes (codes "same") ++ 58 ∷ truth_text same ++ 125 ∷ 10 ∷ []
