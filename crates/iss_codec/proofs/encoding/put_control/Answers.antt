use Rattle.std.proofs.Common.{rules, ◌≡◌, ◌++◌, OnOk, ℕ, FitsSigned, w16, List, [], ◌∷◌, Result, Ok, Err, append_assoc, ap, ◌∙◌}
use Rattle.std.proofs.lemmas.Int.{to_z-of_z}
use Rattle.iss_model.specs.Inputs.{window_number}
use Rattle.iss_model.specs.texts.Spelling.{currency_bytes, limits_bytes, offset_bytes}
use Rattle.iss_codec.proofs.encoding.put_control.Goals as goal

-- a text after what follows the first ones
added : (o t p x q : List ℕ) → p ≡ o ++ t → q ≡ p ++ x → q ≡ o ++ (t ++ x)
added o t p x q e h = h ∙ ap (λ (l : List ℕ). l ++ x) e ∙ append_assoc o t x

added_last : {T E : Type 0} (r : Result T E) (o t p x y q : List ℕ) → p ≡ o ++ t → x ≡ y → OnOk r (q ≡ p ++ x) → OnOk r (q ≡ o ++ (t ++ y))
added_last (Ok a) o t p x y q e f h = added o t p x q e h ∙ ap (λ (l : List ℕ). o ++ (t ++ l)) f
added_last (Err a) o t p x y q e f h = tt

pub returns-clause-spelled : goal.returns-clause-spelled
returns-clause-spelled g c =
    let v = c.args.control.now in
    let o = c.args.out.now.items in
    let token_bytes : List ℕ → List ℕ = g.W.PutsTokens.token_bytes c.args.way.now in
    let fits : FitsSigned w16 v.offset = search rules in
    let terms : List ℕ = token_bytes c.args.token.now ++ token_bytes v.name ++ currency_bytes v.currency ++ (window_number v.window ∷ []) ++ limits_bytes v.amount_limit v.usage_limit in
    let first : c.push.new.self.items ≡ o ++ (token_bytes c.args.token.now ++ token_bytes v.name ++ currency_bytes v.currency ++ (window_number v.window ∷ [])) = search (rules, append_assoc) in
    let limits : c.put_limits.new.out.items ≡ o ++ terms = added o _ _ _ _ first c.in_ok-put_limits.ensures in
    let association = added o _ _ _ _ limits c.in_ok-put_association.ensures.spelled in
    let scope = added o _ _ _ _ association c.in_ok-put_scope.ensures.spelled in
    let active = added o _ _ _ _ scope c.in_ok-put_flag.ensures in
    added_last c.put_offset.result o _ _ _ _ _ active (ap offset_bytes (to_z-of_z w16 v.offset fits)) c.put_offset.ensures
