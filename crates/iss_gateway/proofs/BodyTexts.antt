-- The text of a body, piece by piece.
use Rattle.std.proofs.Common.{◌≡◌, ℕ, pos, List, [], ◌∷◌, ◌++◌, codes, sym, ap, ◌∙◌, append_assoc}
use Rattle.uuid.specs.Text.{hyphenated_text, lower}
use Rattle.iss_model.specs.declared.currency.Currency.{Currency}
use Rattle.iss_model.specs.Amounts.{amount_text}
use Rattle.iss_model.specs.texts.Wordings.{line_of, with_text}
use Rattle.iss_gateway.specs.Bodies.{funded_line}

-- two texts after each other, with what stands before, between and after them
pieces : (a t : List ℕ)
    → (((a ++ (34 ∷ [])) ++ (44 ∷ (codes "\"token\":\"" ++ (t ++ (34 ∷ []))))) ++ (125 ∷ [])) ++ (10 ∷ []) ≡ a ++ (codes "\",\"token\":\"" ++ (t ++ codes "\"}\n"))
pieces a t =
    append_assoc ((a ++ (34 ∷ [])) ++ (44 ∷ (codes "\"token\":\"" ++ (t ++ (34 ∷ []))))) (125 ∷ []) (10 ∷ [])
    ∙ append_assoc (a ++ (34 ∷ [])) (44 ∷ (codes "\"token\":\"" ++ (t ++ (34 ∷ [])))) (125 ∷ 10 ∷ [])
    ∙ append_assoc a (34 ∷ []) ((44 ∷ (codes "\"token\":\"" ++ (t ++ (34 ∷ [])))) ++ (125 ∷ 10 ∷ []))
    ∙ ap (λ (s : List ℕ). a ++ (34 ∷ 44 ∷ (codes "\"token\":\"" ++ s))) (append_assoc t (34 ∷ []) (125 ∷ 10 ∷ []))

line_is : (a t : List ℕ) → line_of (with_text (codes "amount") a ∷ with_text (codes "token") t ∷ []) ≡ codes "{\"amount\":\"" ++ (a ++ (codes "\",\"token\":\"" ++ (t ++ codes "\"}\n")))
line_is a t = ap (λ (s : List ℕ). codes "{\"amount\":\"" ++ s) (pieces a t)

pub funded_is : (token : List ℕ) (amount : ℕ) (c : Currency)
    → funded_line token amount c ≡ codes "{\"amount\":\"" ++ (amount_text (pos amount) c ++ (codes "\",\"token\":\"" ++ (hyphenated_text lower token ++ codes "\"}\n")))
unfolding funded_line
funded_is token amount c = line_is (amount_text (pos amount) c) (hyphenated_text lower token)

pub funded_after : (old token : List ℕ) (amount : ℕ) (c : Currency)
    → old ++ codes "{\"amount\":\"" ++ amount_text (pos amount) c ++ codes "\",\"token\":\"" ++ hyphenated_text lower token ++ codes "\"}\n" ≡ old ++ funded_line token amount c
funded_after old token amount c =
    let p = codes "{\"amount\":\"" in
    let a = amount_text (pos amount) c in
    let q = codes "\",\"token\":\"" in
    let t = hyphenated_text lower token in
    let r = codes "\"}\n" in
    append_assoc (old ++ p ++ a ++ q) t r ∙ append_assoc (old ++ p ++ a) q (t ++ r) ∙ append_assoc (old ++ p) a (q ++ (t ++ r)) ∙ append_assoc old p (a ++ (q ++ (t ++ r)))
    ∙ ap (λ (s : List ℕ). old ++ s) (sym (funded_is token amount c))
