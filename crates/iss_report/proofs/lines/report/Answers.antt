use Rattle.std.proofs.Common.{map, List, ap, ◌∙◌}
use Rattle.iss_model.specs.declared.account.Account.{Account}
use Rattle.iss_model.specs.Sums.{account_key}
use Rattle.iss_model.specs.state.Cores.{core_facts}
use Rattle.iss_report.proofs.Reporting.{whole_lines, reported}
use Rattle.iss_report.proofs.lines.report.Goals as goal

pub returns-clause-on_book : goal.returns-clause-on_book
returns-clause-on_book c rs stands =
    reported c.args.core.now rs c.deref.result.now c.new-texts.result c.put_accounts.new.texts c.put_counts.new.texts stands
    (ap (λ (l : List Account). map account_key l) c.deref.ensures.value ∙ c.in_ok-accounts.ensures.on_book rs stands) c.new-texts.ensures c.in_ok-put_accounts.ensures c.in_ok-put_counts.ensures

pub returns-clause-whole : goal.returns-clause-whole
returns-clause-whole c =
    whole_lines (core_facts c.args.core.now.state) c.deref.result.now c.new-texts.result c.put_accounts.new.texts c.put_counts.new.texts c.new-texts.ensures c.in_ok-put_accounts.ensures c.in_ok-put_counts.ensures
