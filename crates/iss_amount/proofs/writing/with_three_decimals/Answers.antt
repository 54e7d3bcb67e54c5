use Rattle.std.proofs.Common.{append_assoc, rules}
use Rattle.iss_amount.proofs.PaddedDigits.{three_digits}
use Rattle.iss_amount.proofs.writing.with_three_decimals.Goals as goal

pub returns : goal.returns
returns c =
    let written = simp (c.laid_out.ensures, three_digits c.args.rest c.requires) at c.format.ensures.ok in
    simp append_assoc (search (rules, written))
