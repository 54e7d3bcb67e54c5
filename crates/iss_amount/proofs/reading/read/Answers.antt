use Rattle.std.proofs.Common.{sym, ◌∙◌}
use Rattle.iss_amount.proofs.Readings.{amount_of_limit}
use Rattle.iss_amount.proofs.reading.read.Goals as goal

pub returns-clause-number : goal.returns-clause-number
returns-clause-number c =
    c.checked_amount.ensures ∙ sym (amount_of_limit c.args.text.now c.args.currency c.in_ok-amount.amount (sym c.in_ok-amount.ensures.number))
