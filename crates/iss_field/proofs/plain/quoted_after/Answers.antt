use Rattle.std.proofs.Common.{◌≡◌, ◌+◌, ◌<◌, ◌≤◌, ◌∷◌, ◌++◌, length, drop, get_or, slice_range, sym, ap, ap₂, ◌∙◌, arith}
use Rattle.json.specs.Print.{quoted}
use Rattle.iss_field.proofs.PlainTexts.{text_quoted}
use Rattle.iss_field.proofs.plain.quoted_after.Goals as goal

pub returns-clause-spelled : goal.returns-clause-spelled
returns-clause-spelled c =
    let d = c.as_bytes-bytes.result.now in
    let end = c.plain_end-end.result in
    let first : get_or d 0 0 ≡ c.args.first = grind arith in
    let second : get_or d 1 0 ≡ 34 = grind arith in
    let bound : end < length d = grind arith in
    let mark : get_or d end 0 ≡ 34 = grind arith in
    let long : 2 ≤ length d = grind arith in
    let text = text_quoted d c.args.first end long first second c.plain_end-end.ensures.run bound mark in
    let is = c.as_bytes-bytes.ensures.value in
    sym is ∙ text ∙ ap₂ (λ s t. c.args.first ∷ (quoted s ++ t)) (ap (λ l. slice_range l 2 end) is ∙ sym c.range.ensures.value) (ap (drop (end + 1)) is ∙ sym c.in_ok-after.ensures.after.1)
