use Rattle.std.proofs.Common.{map, take}
use Rattle.iss_model.specs.state.Cores.{core_facts}
use Rattle.iss_model.specs.texts.BalanceLines.{account_line}
use Rattle.iss_texts.specs.TextRows.{Gains}
use Rattle.iss_report.proofs.lines.put_accounts.Given as goal

abbrev pub invariant-loop-account : goal.invariant-loop-account
invariant-loop-account l = Gains (map (account_line (core_facts l.core.state)) (take l.account-index l.accounts)) l.initial.texts l.texts
