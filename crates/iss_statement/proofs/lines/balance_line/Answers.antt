use Rattle.std.proofs.Common.{◌≡◌, ◌++◌, ℤ, codes, FitsSigned, w64, to_z, of_z, ap, ◌∙◌, arith, rules}
use Rattle.std.proofs.lemmas.Int.{ints}
use Rattle.iss_model.specs.Amounts.{amount_text}
use Rattle.iss_statement.proofs.LineTexts.{in_three, balance_text}
use Rattle.iss_statement.proofs.lines.balance_line.Goals as goal

pub returns : goal.returns
returns c =
    let fits : FitsSigned w64 c.narrow.result = search rules in
    let same : to_z w64 (of_z w64 c.narrow.result) ≡ c.args.balance = omega (arith, ints, c.narrow.ensures) in
    let written : c.as_bytes.result.now ≡ amount_text (to_z w64 (of_z w64 c.narrow.result)) c.args.currency = search rules in
    let b = c.as_bytes.result.now in
    c.from.ensures
    ∙ in_three _ _ _ _ (codes "{\"balance\":\"" ++ b) (codes "\",\"line\":\"" ++ c.args.which.now) (codes "\"}\n")
    c.new-line.ensures.items c.in_ok-put_text.ensures c.in_ok-put_text-2.ensures c.in_ok-extend_from_slice.ensures.items
    ∙ balance_text b c.args.which.now c.args.balance c.args.currency (written ∙ ap (λ (n : ℤ). amount_text n c.args.currency) same)
