use Rattle.std.proofs.Common.{List, ℕ, ◌++◌, codes, sym, ap, ◌∙◌}
use Rattle.iss_model.specs.declared.account.Account.{Account}
use Rattle.iss_event.specs.ReportLines.{start_piece, account_piece}
use Rattle.iss_event.proofs.Lines.{named}
use Rattle.iss_event.proofs.report.put_account.Goals as goal

pub returns-in-Gateway : goal.returns-in-Gateway
returns-in-Gateway c =
    named c.put_sheet.result _ _ _ _
    (ap (λ (a : Account). account_piece a c.args.balance.now c.args.held.now) c.in-Gateway.is ∙ ap (λ (code : List ℕ). start_piece (codes "gateway") c.args.balance.now code ++ codes "\"}\n") (sym c.code.ensures.code))
    c.put_sheet.ensures

pub returns-in-Network : goal.returns-in-Network
returns-in-Network c =
    named c.put_sheet-in-Network.result _ _ _ _
    (ap (λ (a : Account). account_piece a c.args.balance.now c.args.held.now) c.in-Network.is ∙ ap (λ (code : List ℕ). start_piece (codes "network") c.args.balance.now code ++ codes "\"}\n") (sym c.code-in-Network.ensures.code))
    c.put_sheet-in-Network.ensures

pub returns-in-Programme : goal.returns-in-Programme
returns-in-Programme c =
    named c.put_sheet-in-Programme.result _ _ _ _
    (ap (λ (a : Account). account_piece a c.args.balance.now c.args.held.now) c.in-Programme.is ∙ ap (λ (code : List ℕ). start_piece (codes "programme") c.args.balance.now code ++ codes "\"}\n") (sym c.code-in-Programme.ensures.code))
    c.put_sheet-in-Programme.ensures
