use Rattle.std.proofs.Common.{rules, ◌≡◌, List, ℕ, ap, ◌∙◌}
use Rattle.iss_model.specs.Amounts.{amount_text}
use Rattle.iss_model.specs.Sums.{account_currency}
use Rattle.iss_event.specs.ReportLines.{account_piece, balance_text}
use Rattle.iss_event.proofs.ReportTexts.{whole, account_text, account_as}
use Rattle.iss_event.proofs.report.balance_line.Goals as goal

pub returns-clause-text : goal.returns-clause-text
returns-clause-text c =
    let a = c.args.account.now in
    let balance : c.as_bytes.result.now ≡ amount_text c.args.balance (account_currency a) = search rules in
    let held : c.as_bytes-2.result.now ≡ amount_text c.args.held (account_currency a) = search rules in
    whole c.put_account.new.out.items c.new-line.result.items (account_piece a c.as_bytes.result.now c.as_bytes-2.result.now) (balance_text a c.args.balance c.args.held)
    c.new-line.ensures.items c.in_ok-put_account.ensures
    (ap (λ (t : List ℕ). account_piece a t c.as_bytes-2.result.now) balance ∙ ap (λ (t : List ℕ). account_piece a (amount_text c.args.balance (account_currency a)) t) held
    ∙ account_text a c.args.balance c.args.held)

pub returns-clause-of_facts : goal.returns-clause-of_facts
returns-clause-of_facts c = λ f is. returns-clause-text c ∙ account_as f c.args.account.now c.args.balance c.args.held is
