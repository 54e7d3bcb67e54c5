use Rattle.std.proofs.Common.{sym, ◌∙◌}
use Rattle.std.proofs.lemmas.Result.{IfOk-weaker}
use Rattle.iss_edge.specs.World.{Told}
use Rattle.iss_edge.specs.Outer.{outer_of}
use Rattle.iss_top.specs.Replaying.{IsOfDisk, TakesPartAs}
use Rattle.iss_top.proofs.Lasting.{anyway, if_err_weaker}
use Rattle.iss_top.proofs.TakenLines.{line_told, told_blank_line, told_fault_line, told_fault_part, told_read_line, told_read_part, told_no_line}
use Rattle.iss_top.proofs.ToldHears.{told_on_book, told_on_book_none}
use Rattle.iss_top.proofs.taking.take_line.Goals as goal

pub returns-in_err-tell_fault-in-Err-Form-clause-heard : goal.returns-in_err-tell_fault-in-Err-Form-clause-heard
returns-in_err-tell_fault-in-Err-Form-clause-heard g c =
    told_on_book c.args.store (outer_of (g.E.Edge.told c.args.edge.now) (g.E.Edge.heard c.args.edge.now)) (outer_of (g.E.Edge.told c.tell_fault.new.edge) (g.E.Edge.heard c.tell_fault.new.edge)) c.in_err-tell_fault-in-Err-Form.ensures.heard

pub returns-in_ok-tell_fault-in-Err-Form-clause-heard : goal.returns-in_ok-tell_fault-in-Err-Form-clause-heard
returns-in_ok-tell_fault-in-Err-Form-clause-heard g c =
    told_on_book c.args.store (outer_of (g.E.Edge.told c.args.edge.now) (g.E.Edge.heard c.args.edge.now)) (outer_of (g.E.Edge.told c.tell_fault.new.edge) (g.E.Edge.heard c.tell_fault.new.edge)) c.in_ok-tell_fault-in-Err-Form.ensures.heard

pub returns-then-is_blank-clause-heard : goal.returns-then-is_blank-clause-heard
returns-then-is_blank-clause-heard g c =
    told_on_book_none c.args.store (outer_of (g.E.Edge.told c.args.edge.now) (g.E.Edge.heard c.args.edge.now))

pub returns-in-Err-OutOfMemory-clause-heard : goal.returns-in-Err-OutOfMemory-clause-heard
returns-in-Err-OutOfMemory-clause-heard g c =
    told_on_book_none c.args.store (outer_of (g.E.Edge.told c.args.edge.now) (g.E.Edge.heard c.args.edge.now))

pub returns-then-is_blank-clause-taken : goal.returns-then-is_blank-clause-taken
returns-then-is_blank-clause-taken g c =
    told_blank_line c.args.line.now c.args.store (g.E.Edge.told c.args.edge.now) (sym c.is_blank.ensures ∙ c.if-is_blank.true)

pub returns-in_err-tell_fault-in-Err-Form-clause-part : goal.returns-in_err-tell_fault-in-Err-Form-clause-part
returns-in_err-tell_fault-in-Err-Form-clause-part g c =
    anyway c.from_residual.result
    (λ why. Told (TakesPartAs (IsOfDisk why) (line_told c.args.line.now) c.args.store) (g.E.Edge.told c.args.edge.now) (g.E.Edge.told c.tell_fault.new.edge))
    (λ why.
    told_fault_part (IsOfDisk why) c.args.line.now c.in-Err-Form.fault c.args.store (g.E.Edge.told c.args.edge.now) (g.E.Edge.told c.tell_fault.new.edge)
    (sym c.is_blank.ensures ∙ c.if-is_blank.false)
    (rw c.in-Err-Form.field-0-is at c.in-Err-Form.ensures.read)
    (rw c.in-Err-Form.field-0-is at c.in_err-tell_fault-in-Err-Form.ensures.part))

pub returns-in-Ok-clause-taken : goal.returns-in-Ok-clause-taken
returns-in-Ok-clause-taken g c =
    IfOk-weaker c.take_input.result _ _
    (λ next takes.
    told_read_line c.args.line.now c.in-Ok.said c.args.store next (g.E.Edge.told c.args.edge.now) (g.E.Edge.told c.take_input.new.edge)
    (sym c.is_blank.ensures ∙ c.if-is_blank.false) c.in-Ok.ensures.read takes)
    c.take_input.ensures.taken

pub returns-in-Ok-clause-part : goal.returns-in-Ok-clause-part
returns-in-Ok-clause-part g c =
    if_err_weaker c.take_input.result _ _
    (λ why.
    told_read_part (IsOfDisk why) c.args.line.now c.in-Ok.said c.args.store (g.E.Edge.told c.args.edge.now) (g.E.Edge.told c.take_input.new.edge)
    (sym c.is_blank.ensures ∙ c.if-is_blank.false) c.in-Ok.ensures.read)
    c.take_input.ensures.part

pub returns-in_ok-tell_fault-in-Err-Form-clause-taken : goal.returns-in_ok-tell_fault-in-Err-Form-clause-taken
returns-in_ok-tell_fault-in-Err-Form-clause-taken g c =
    told_fault_line c.args.line.now c.in-Err-Form.fault c.args.store (g.E.Edge.told c.args.edge.now) (g.E.Edge.told c.tell_fault.new.edge)
    (sym c.is_blank.ensures ∙ c.if-is_blank.false)
    (rw c.in-Err-Form.field-0-is at c.in-Err-Form.ensures.read)
    (rw c.in-Err-Form.field-0-is at c.in_ok-tell_fault-in-Err-Form.ensures.told)

pub returns-in-Err-OutOfMemory-clause-part : goal.returns-in-Err-OutOfMemory-clause-part
returns-in-Err-OutOfMemory-clause-part g c =
    told_no_line ⊥ c.args.line.now c.args.store (g.E.Edge.told c.args.edge.now)
