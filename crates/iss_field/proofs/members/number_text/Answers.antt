use Rattle.std.proofs.Common.{◌≤◌, length, get_or, arith}
use Rattle.iss_field.proofs.PlainTexts.{number_first}
use Rattle.iss_field.proofs.members.number_text.Goals as goal

pub returns-clause-number : goal.returns-clause-number
returns-clause-number c =
    let d = c.args.rest.now in
    let long : 1 ≤ length d = grind arith in
    let low : 49 ≤ get_or d 0 0 = grind arith in
    let high : get_or d 0 0 ≤ 57 = grind arith in
    number_first d c.digits_end-end.result long low high c.digits_end-end.ensures.run
