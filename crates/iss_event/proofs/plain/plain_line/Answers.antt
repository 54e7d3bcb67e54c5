use Rattle.std.proofs.Common.{◌≡◌, ◌∙◌, sym, ap, arith, false, length, nat_lt}
use Rattle.iss_model.specs.declared.limits.TheConstants.{LONGEST_LINE}
use Rattle.iss_event.specs.declared.kind.Kind.TheVariants as kind
use Rattle.iss_event.specs.PlainLines.{kind_text}
use Rattle.iss_event.proofs.PlainLines.{line_told}
use Rattle.iss_event.proofs.plain.plain_line.Goals as goal

pub returns-in-Authorization : goal.returns-in-Authorization
returns-in-Authorization c =
    let line = c.args.line.now in
    let short : nat_lt LONGEST_LINE (length line) ≡ false = grind arith in
    line_told c.args.mode kind.Authorization c.in_ok-kind.kind.now line c.in_ok-kind.rest.now c.purchase_line.result c.if-not-is_ascii.ensures.cases short
    (ap kind_text (sym c.in-Authorization.is) ∙ c.in_ok-plain_kind.ensures) c.in_ok-kind.ensures.spelled c.purchase_line.ensures

pub returns-in-Answer : goal.returns-in-Answer
returns-in-Answer c =
    let line = c.args.line.now in
    let short : nat_lt LONGEST_LINE (length line) ≡ false = grind arith in
    line_told c.args.mode kind.Answer c.in_ok-kind.kind.now line c.in_ok-kind.rest.now c.answer_line.result c.if-not-is_ascii.ensures.cases short
    (ap kind_text (sym c.in-Answer.is) ∙ c.in_ok-plain_kind.ensures) c.in_ok-kind.ensures.spelled c.answer_line.ensures

pub returns-in-Load : goal.returns-in-Load
returns-in-Load c =
    let line = c.args.line.now in
    let short : nat_lt LONGEST_LINE (length line) ≡ false = grind arith in
    line_told c.args.mode kind.Load c.in_ok-kind.kind.now line c.in_ok-kind.rest.now c.load_line.result c.if-not-is_ascii.ensures.cases short
    (ap kind_text (sym c.in-Load.is) ∙ c.in_ok-plain_kind.ensures) c.in_ok-kind.ensures.spelled c.load_line.ensures

pub returns-in-Clearing : goal.returns-in-Clearing
returns-in-Clearing c =
    let line = c.args.line.now in
    let short : nat_lt LONGEST_LINE (length line) ≡ false = grind arith in
    line_told c.args.mode kind.Clearing c.in_ok-kind.kind.now line c.in_ok-kind.rest.now c.operation_line.result c.if-not-is_ascii.ensures.cases short
    (ap kind_text (sym c.in-Clearing.is) ∙ c.in_ok-plain_kind.ensures) c.in_ok-kind.ensures.spelled c.operation_line.ensures

pub returns-in-Increment : goal.returns-in-Increment
returns-in-Increment c =
    let line = c.args.line.now in
    let short : nat_lt LONGEST_LINE (length line) ≡ false = grind arith in
    line_told c.args.mode kind.Increment c.in_ok-kind.kind.now line c.in_ok-kind.rest.now c.operation_line-in-Increment.result c.if-not-is_ascii.ensures.cases short
    (ap kind_text (sym c.in-Increment.is) ∙ c.in_ok-plain_kind.ensures) c.in_ok-kind.ensures.spelled c.operation_line-in-Increment.ensures

pub returns-in-Reversal : goal.returns-in-Reversal
returns-in-Reversal c =
    let line = c.args.line.now in
    let short : nat_lt LONGEST_LINE (length line) ≡ false = grind arith in
    line_told c.args.mode kind.Reversal c.in_ok-kind.kind.now line c.in_ok-kind.rest.now c.operation_line-in-Reversal.result c.if-not-is_ascii.ensures.cases short
    (ap kind_text (sym c.in-Reversal.is) ∙ c.in_ok-plain_kind.ensures) c.in_ok-kind.ensures.spelled c.operation_line-in-Reversal.ensures

pub returns-in-Refund : goal.returns-in-Refund
returns-in-Refund c =
    let line = c.args.line.now in
    let short : nat_lt LONGEST_LINE (length line) ≡ false = grind arith in
    line_told c.args.mode kind.Refund c.in_ok-kind.kind.now line c.in_ok-kind.rest.now c.operation_line-in-Refund.result c.if-not-is_ascii.ensures.cases short
    (ap kind_text (sym c.in-Refund.is) ∙ c.in_ok-plain_kind.ensures) c.in_ok-kind.ensures.spelled c.operation_line-in-Refund.ensures
