use Rattle.std.proofs.Common.{rules, ℕ, ℤ, List, ◌∷◌, ◌++◌, codes, ap, ◌∙◌, FitsSigned, w64}
use Rattle.std.proofs.lemmas.Int.{to_z-of_z}
use Rattle.iss_model.specs.declared.currency.Currency.TheVariants.{Usd}
use Rattle.iss_model.specs.Amounts.{amount_text}
use Rattle.iss_model.specs.texts.Wordings.{member_text, with_number, with_text}
use Rattle.iss_drill.specs.Reports.{totals_in}
use Rattle.iss_jit.proofs.Objects.{and_then}
use Rattle.iss_drill.proofs.Reports.{drill_line_is}
use Rattle.iss_drill.proofs.report.drill_line.Goals as goal

pub returns : goal.returns
returns c =
    let t = c.args.totals.now in
    let gateway_fits : FitsSigned w64 t.gateway = search rules in
    let held_fits : FitsSigned w64 t.held = search rules in
    let network_fits : FitsSigned w64 t.network = search rules in
    let programme_fits : FitsSigned w64 t.programme = search rules in
    let approved = c.in_ok-put_count.ensures ∙ ap (λ (t : List ℕ). t ++ (123 ∷ member_text (with_number (codes "approved") c.args.totals.now.approved))) c.new-line.ensures.items in
    let declined = and_then _ c.in_ok-put_count-2.ensures approved in
    let gateway = and_then _ (c.in_ok-put_amount.ensures ∙ ap (λ (z : ℤ). c.put_count-2.new.out.items ++ (44 ∷ member_text (with_text (codes "gateway") (amount_text z Usd)))) (to_z-of_z w64 t.gateway gateway_fits)) declined in
    let held = and_then _ (c.in_ok-put_amount-2.ensures ∙ ap (λ (z : ℤ). c.put_amount.new.out.items ++ (44 ∷ member_text (with_text (codes "held") (amount_text z Usd)))) (to_z-of_z w64 t.held held_fits)) gateway in
    let lines = and_then _ (c.in_ok-put_count-3.ensures ∙ ap (λ (n : ℕ). c.put_amount-2.new.out.items ++ (44 ∷ member_text (with_number (codes "lines") n))) c.from.ensures) held in
    let network = and_then _ (c.in_ok-put_amount-3.ensures ∙ ap (λ (z : ℤ). c.put_count-3.new.out.items ++ (44 ∷ member_text (with_text (codes "network") (amount_text z Usd)))) (to_z-of_z w64 t.network network_fits)) lines in
    let notices = and_then _ c.in_ok-put_count-4.ensures network in
    let programme = and_then _ (c.in_ok-put_amount-4.ensures ∙ ap (λ (z : ℤ). c.put_count-4.new.out.items ++ (44 ∷ member_text (with_text (codes "programme") (amount_text z Usd)))) (to_z-of_z w64 t.programme programme_fits)) notices in
    let records = and_then _ (c.in_ok-put_count-5.ensures ∙ ap (λ (n : ℕ). c.put_amount-4.new.out.items ++ (44 ∷ member_text (with_number (codes "records") n))) c.from-2.ensures) programme in
    let repeats = and_then _ (c.in_ok-put_count-6.ensures ∙ ap (λ (n : ℕ). c.put_count-5.new.out.items ++ (44 ∷ member_text (with_number (codes "repeats") n))) c.from-3.ensures) records in
    c.in_ok-extend_from_slice.ensures.items ∙ ap (λ (t : List ℕ). t ++ codes "}\n") repeats ∙ drill_line_is (totals_in c.args.totals.now)
