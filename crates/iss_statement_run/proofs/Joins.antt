-- Lines that are joined one by one.
use Rattle.std.proofs.Common.{◌≡◌, ℕ, ◌+◌, ◌<◌, List, [], ◌∷◌, ◌++◌, length, drop, get_or, sym, ap, ◌∙◌, append_assoc, append-nil, refl}
use Rattle.std.specs.List.{concat}
use Rattle.std.proofs.lemmas.List.{drop_more}

-- one line more
pub joined_next : (lines : List (List ℕ)) (i : ℕ) (line text next : List ℕ) → i < length lines → line ≡ get_or lines i line → text ++ concat (drop i lines) ≡ concat lines → next ≡ text ++ line
    → next ++ concat (drop (i + 1) lines) ≡ concat lines
joined_next lines i line text next within is before put =
    ap (λ (t : List ℕ). t ++ concat (drop (i + 1) lines)) put
    ∙ append_assoc text line (concat (drop (i + 1) lines))
    ∙ ap (λ (l : List ℕ). text ++ (l ++ concat (drop (i + 1) lines))) is
    ∙ ap (λ (l : List (List ℕ)). text ++ concat l) (sym (drop_more lines i line within))
    ∙ before

drop_whole : (xs : List (List ℕ)) → drop (length xs) xs ≡ []
drop_whole [] = refl
drop_whole (x ∷ xs) = drop_whole xs

-- all of them
pub joined_all : (lines : List (List ℕ)) (i : ℕ) (text : List ℕ) → i ≡ length lines → text ++ concat (drop i lines) ≡ concat lines → text ≡ concat lines
joined_all lines i text is joined =
    sym (append-nil text)
    ∙ ap (λ (l : List (List ℕ)). text ++ concat l) (sym (ap (λ (n : ℕ). drop n lines) is ∙ drop_whole lines))
    ∙ joined
