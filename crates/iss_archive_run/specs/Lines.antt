-- The line that tells how far an archive goes.
use Rattle.std.specs.Prelude.{ℕ, List, [], ◌∷◌, ◌++◌, codes, decimal}
use Rattle.iss_model.specs.texts.Wordings.{in_quotes}

-- `{"posts":p,"records":r}` and a line feed
unfoldable pub archived_line : ℕ → ℕ → List ℕ
archived_line posts records =
    123 ∷ in_quotes (codes "posts") ++ 58 ∷ decimal posts ++ 44 ∷ in_quotes (codes "records") ++ 58 ∷ decimal records ++ 125 ∷ 10 ∷ []
