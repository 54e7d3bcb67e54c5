use Rattle.std.proofs.Common.{subst, sym}
use Rattle.iss_event.specs.Readings.{IsReadAsLine}
use Rattle.iss_event.proofs.LeastLine.{read_least}
use Rattle.iss_event.proofs.LinesInForm.{read_input_in_form, read_stamp_in_form}
use Rattle.iss_event.proofs.OpenedLines.{read_open, not_opened}
use Rattle.iss_event.proofs.reading.read_line_in.Goals as goal

pub returns-in-Ok-clause-read : goal.returns-in-Ok-clause-read
returns-in-Ok-clause-read c = read_open c.args.mode c.args.line.now c.in-Ok.open c.read.result c.in-Ok.ensures c.read.ensures

pub returns-in-Ok-clause-input_form : goal.returns-in-Ok-clause-input_form
returns-in-Ok-clause-input_form c = read_input_in_form c.args.mode c.args.line.now c.read.result (returns-in-Ok-clause-read c)

pub returns-in-Ok-clause-stamp_form : goal.returns-in-Ok-clause-stamp_form
returns-in-Ok-clause-stamp_form c = read_stamp_in_form c.args.mode c.args.line.now c.read.result (returns-in-Ok-clause-read c)

pub returns-in-Ok-clause-least : goal.returns-in-Ok-clause-least
returns-in-Ok-clause-least c = read_least c.args.mode c.args.line.now c.read.result (returns-in-Ok-clause-read c)

pub returns-in-Err-clause-read : goal.returns-in-Err-clause-read
returns-in-Err-clause-read c = not_opened c.args.mode c.args.line.now c.in-Err.fault c.in-Err.ensures

pub returns-in-Some-clause-read : goal.returns-in-Some-clause-read
returns-in-Some-clause-read c = subst (λ said. IsReadAsLine said c.line_or_fault.result) (sym c.in-Some.ensures) c.line_or_fault.ensures

pub returns-in-Some-clause-input_form : goal.returns-in-Some-clause-input_form
returns-in-Some-clause-input_form c = read_input_in_form c.args.mode c.args.line.now c.line_or_fault.result (returns-in-Some-clause-read c)

pub returns-in-Some-clause-stamp_form : goal.returns-in-Some-clause-stamp_form
returns-in-Some-clause-stamp_form c = read_stamp_in_form c.args.mode c.args.line.now c.line_or_fault.result (returns-in-Some-clause-read c)

pub returns-in-Some-clause-least : goal.returns-in-Some-clause-least
returns-in-Some-clause-least c = read_least c.args.mode c.args.line.now c.line_or_fault.result (returns-in-Some-clause-read c)
