-- What a line buffer keeps of several bytes at once.
use Rattle.std.proofs.Common.{◌≡◌, ℕ, ◌-◌, ◌<◌, ◌≤◌, true, nat_lt, List, [], ◌∷◌, ◌++◌, length, take, drop, fold, refl, sym, ap, ◌∙◌, append-nil, append_assoc, arith, length-append}
use Rattle.std.proofs.lemmas.List.{length-take, take-append-drop}
use Rattle.std.proofs.lemmas.List.Sums.{fold-append}
use Rattle.std.proofs.lemmas.Bool.Decides.{nat_tests}
use Rattle.iss_top.specs.Lines.{kept_with}

kept_byte : (line : List ℕ) (b : ℕ) → length line < 16385 → kept_with line b ≡ line ++ b ∷ []
kept_byte line b h =
    let short : nat_lt (length line) 16385 ≡ true = grind (arith, nat_tests) in
    rw short refl

-- as many bytes as there is room for are all kept
kept_short : (line bytes : List ℕ) → length bytes ≤ 16385 - length line → fold kept_with line bytes ≡ line ++ bytes
kept_short line [] h = sym (append-nil line)
kept_short line (b ∷ bs) h =
    ap (λ (l : List ℕ). fold kept_with l bs) (kept_byte line b (omega (arith, h)))
    ∙ kept_short (line ++ b ∷ []) bs (omega (arith, h, length-append {A = ℕ} line (b ∷ [])))
    ∙ append_assoc line (b ∷ []) bs

pub kept_run : (line bytes : List ℕ) (n : ℕ) → n ≤ 16385 - length line → fold kept_with (line ++ take n bytes) (drop n bytes) ≡ fold kept_with line bytes
kept_run line bytes n h =
    ap (λ (l : List ℕ). fold kept_with l (drop n bytes)) (sym (kept_short line (take n bytes) (omega (arith, h, length-take n bytes))))
    ∙ sym (fold-append kept_with line (take n bytes) (drop n bytes))
    ∙ ap (fold kept_with line) (take-append-drop n bytes)
