use Rattle.std.proofs.Common.{◌≡◌, ℕ, List, ◌∷◌, ◌++◌, codes, ap, ◌∙◌}
use Rattle.std.proofs.lemmas.Result.{on_ok_weaker}
use Rattle.uuid.specs.Text.{hyphenated_text, lower}
use Rattle.iss_model.specs.texts.GatewayTexts.{token_text}
use Rattle.iss_model.specs.texts.Wordings.{member_text, with_text}
use Rattle.iss_jit.proofs.CallTexts.{token}
use Rattle.iss_jit.proofs.members.put_call.Goals as goal

pub returns : goal.returns
returns c =
    let text : c.as_bytes.result.now ≡ token_text c.args.instance c.args.call.0 =
    c.as_bytes.ensures.value ∙ c.encode_lower-text.ensures.text ∙ ap (hyphenated_text lower) (c.hyphenated.ensures ∙ c.uuid.ensures)
    ∙ token c.args.instance c.args.call.0 in
    on_ok_weaker c.put_opened.result
    (λ e. e ∙ ap (λ (t : List ℕ). c.args.out.now.items ++ (44 ∷ member_text (with_text (codes "token") t))) text)
    c.put_opened.ensures
