-- The line that tells a fault of HTTP, piece by piece.
use Rattle.std.proofs.Common.{◌≡◌, ℕ, List, [], ◌∷◌, ◌++◌, codes, sym, ap, ◌∙◌, append_assoc}
use Rattle.iss_model.specs.texts.AnswerLines.{http_fault_line}

four : (a b c d : List ℕ) → a ++ b ++ c ++ d ≡ a ++ (b ++ (c ++ d))
four a b c d = append_assoc (a ++ b) c d ∙ append_assoc a b (c ++ d)

five : (a b c d e : List ℕ) → a ++ b ++ c ++ d ++ e ≡ a ++ (b ++ (c ++ (d ++ e)))
five a b c d e = append_assoc (a ++ b ++ c) d e ∙ four a b c (d ++ e)

-- a text in quotation marks, what follows it in the braces, and the end of the line
quoted : (text more : List ℕ) → text ++ (34 ∷ []) ++ more ++ (125 ∷ []) ++ (10 ∷ []) ≡ text ++ (34 ∷ (more ++ codes "}\n"))
quoted text more = five text (34 ∷ []) more (125 ∷ []) (10 ∷ [])

pub fault_told : (text : List ℕ) → codes "{\"fault\":\"" ++ text ++ codes "\",\"reply\":\"http\"}\n" ≡ http_fault_line text
unfolding http_fault_line
fault_told text =
    append_assoc (codes "{\"fault\":\"") text (codes "\",\"reply\":\"http\"}\n")
    ∙ ap (λ (t : List ℕ). codes "{\"fault\":\"" ++ t) (sym (quoted text (codes ",\"reply\":\"http\"")))
