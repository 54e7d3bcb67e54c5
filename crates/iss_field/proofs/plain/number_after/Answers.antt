use Rattle.std.proofs.Common.{◌≤◌, length, get_or, slice_range, sym, ap, ◌∙◌, subst, arith}
use Rattle.json.specs.Print.{IsNumber}
use Rattle.iss_field.proofs.PlainTexts.{number_at}
use Rattle.iss_field.proofs.plain.number_after.Goals as goal

pub returns-clause-number : goal.returns-clause-number
returns-clause-number c =
    let d = c.as_bytes-bytes.result.now in
    let end = c.digits_end-end.result in
    let low : 49 ≤ get_or d 1 0 = grind arith in
    let high : get_or d 1 0 ≤ 57 = grind arith in
    let long : 2 ≤ length d = grind arith in
    let number = number_at d end long low high c.digits_end-end.ensures.run in
    subst IsNumber (ap (λ l. slice_range l 1 end) c.as_bytes-bytes.ensures.value ∙ sym c.range.ensures.value) number
