use Rattle.std.proofs.Common.{arith}
use Rattle.iss_model.specs.state.Cores.{core_facts}
use Rattle.iss_model.specs.texts.BalanceLines.{account_line}
use Rattle.iss_texts.proofs.Rows.{none_more}
use Rattle.iss_report.proofs.Reporting.{lines_more}
use Rattle.iss_report.proofs.lines.put_accounts.Goals as goal

pub loop-account-init : goal.loop-account-init
loop-account-init c = none_more c.args.texts.now

pub loop-account-preserved : goal.loop-account-preserved
loop-account-preserved c =
    lines_more (account_line (core_facts c.args.core.now.state)) c.args.accounts.now c.loop-account.account-index c.account-item.result c.args.texts.now c.loop-account.texts c.put_account.new.texts
    (omega arith) c.account-item.is c.loop-account.invariant c.in_ok-put_account.ensures
