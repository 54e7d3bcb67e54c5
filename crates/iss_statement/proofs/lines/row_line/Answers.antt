use Rattle.std.proofs.Common.{◌≡◌, ◌++◌, ℕ, ℤ, List, codes, decimal, FitsSigned, w64, to_z, of_z, ap, ◌∙◌, arith, rules}
use Rattle.std.proofs.lemmas.Int.{ints}
use Rattle.iss_model.specs.Amounts.{amount_text}
use Rattle.iss_archive.specs.Statable.{signed_amount}
use Rattle.iss_archive.specs.Statement.{account_text, other_side}
use Rattle.iss_statement.specs.Openings.{end_piece}
use Rattle.iss_statement.proofs.LineTexts.{row_text}
use Rattle.iss_statement.proofs.lines.row_line.Goals as goal

pub returns : goal.returns
returns c =
    let row = c.args.row.now in
    let u = c.args.user.now in
    let by : c.signed_amount.result ≡ signed_amount u c.args.currency row = c.signed_amount.ensures.value in
    let fits : FitsSigned w64 c.narrow.result = search rules in
    let same : to_z w64 (of_z w64 c.narrow.result) ≡ signed_amount u c.args.currency row = omega (arith, ints, c.narrow.ensures, by) in
    let written : c.as_bytes.result.now ≡ amount_text (to_z w64 (of_z w64 c.narrow.result)) c.args.currency = search rules in
    let side : c.account_text.result.now ≡ account_text (other_side u c.args.currency row) = c.account_text.ensures ∙ ap account_text c.other_side.ensures in
    let b = c.as_bytes.result.now in
    let o = c.account_text.result.now in
    c.from.ensures
    ∙ c.in_ok-put_members.ensures
    ∙ ap
    (λ (t : List ℕ).
    t ++ (codes "{\"amount\":\"" ++ b) ++ (codes "\",\"at\":" ++ decimal row.at) ++ (codes ",\"other\":\"" ++ o) ++ (codes "\",\"record\":" ++ decimal row.number)
    ++ end_piece row.txn)
    c.new-line.ensures.items
    ∙ row_text u c.args.currency row b o (written ∙ ap (λ (n : ℤ). amount_text n c.args.currency) same) side
