use Rattle.std.proofs.Common.{◌≡◌, Err, rules}
use Rattle.iss_edge.specs.Outer.{outer_of}
use Rattle.iss_store.specs.Saying.{texts_pending}
use Rattle.iss_top.specs.Statuses.{stop_status, stop_of_opening, stop_of_store}
use Rattle.iss_top.proofs.ToldReplays.{told_unopened_refuses, told_unopened_run, told_unopened_moments, told_waited_run, told_waited_moments, told_waited_refuses, told_run, told_moments, told_run_refuses}
use Rattle.iss_top.proofs.ToldHears.{told_says_lines}
use Rattle.iss_top.proofs.ToldPromptly.{told_unopened_prompt, told_waited_prompt, told_prompt}
use Rattle.iss_top.proofs.replay.replay.Goals as goal

pub returns-in_err-store-clause-prompt : goal.returns-in_err-store-clause-prompt
returns-in_err-store-clause-prompt g c =
    told_unopened_prompt (g.E.Edge.told c.args.edge.now) (g.E.Edge.told c.open.new.edge) (g.E.Edge.heard c.args.edge.now) (g.E.Edge.heard c.open.new.edge) c.in_err-store.ensures.moments c.in_err-store.ensures.heard

pub returns-in_err-resume-clause-prompt : goal.returns-in_err-resume-clause-prompt
returns-in_err-resume-clause-prompt g c =
    let sends = told_says_lines g.E.Edge.told g.E.Edge.heard g.E.Edge.channels c.open.new.edge c.resume.new.edge (texts_pending c.in_ok-store.store) (g.E.Edge.faults c.open.new.edge) (g.E.Edge.faults c.resume.new.edge) _ (c.in_err-resume.ensures.lines c.lines.ensures) c.in_err-resume.ensures.cause in
    told_waited_prompt c.in_ok-store.store (g.E.Edge.told c.args.edge.now) (g.E.Edge.told c.open.new.edge) (g.E.Edge.heard c.args.edge.now) (g.E.Edge.heard c.open.new.edge) c.in_ok-store.ensures.opened c.in_ok-store.ensures.heard (outer_of (g.E.Edge.told c.resume.new.edge) (g.E.Edge.heard c.resume.new.edge)) sends

pub returns-clause-prompt : goal.returns-clause-prompt
returns-clause-prompt g c =
    let says = (c.in_ok-resume.ensures.lines c.lines.ensures).says in
    let sends = told_says_lines g.E.Edge.told g.E.Edge.heard g.E.Edge.channels c.open.new.edge c.resume.new.edge (texts_pending c.in_ok-store.store) (g.E.Edge.faults c.open.new.edge) (g.E.Edge.faults c.resume.new.edge) _ (c.in_ok-resume.ensures.lines c.lines.ensures) c.in_ok-resume.ensures.cause in
    told_prompt c.in_ok-store.store c.in_ok-resume.ensures.lines_on_book (g.E.Edge.told c.args.edge.now) (g.E.Edge.told c.open.new.edge) (g.E.Edge.told c.resume.new.edge) (g.E.Edge.heard c.args.edge.now) (g.E.Edge.heard c.open.new.edge) (g.E.Edge.heard c.resume.new.edge) (outer_of (g.E.Edge.told c.take_lines.new.edge) (g.E.Edge.heard c.take_lines.new.edge))
    c.in_ok-store.ensures.opened c.in_ok-store.ensures.heard says sends c.take_lines.ensures.prompt

pub returns-in_err-store-clause-ran : goal.returns-in_err-store-clause-ran
returns-in_err-store-clause-ran g c =
    let failed : c.from_residual.result ≡ Err (stop_of_opening c.in_err-store.field-0.0) = search rules in
    rw failed (
    told_unopened_run c.in_err-store.field-0.0 (g.E.Edge.told c.args.edge.now) (g.E.Edge.told c.open.new.edge) c.in_err-store.ensures.opens c.in_err-store.ensures.moments c.in_err-store.ensures.refused
    )

pub returns-in_err-store-clause-moments : goal.returns-in_err-store-clause-moments
returns-in_err-store-clause-moments g c =
    told_unopened_moments (g.E.Edge.told c.args.edge.now) (g.E.Edge.told c.open.new.edge) c.in_err-store.ensures.moments

pub returns-in_err-store-clause-refused : goal.returns-in_err-store-clause-refused
returns-in_err-store-clause-refused g c =
    let failed : c.from_residual.result ≡ Err (stop_of_opening c.in_err-store.field-0.0) = search rules in
    rw failed (
    told_unopened_refuses c.in_err-store.field-0.0 (g.E.Edge.told c.args.edge.now) (g.E.Edge.told c.open.new.edge) c.in_err-store.ensures.opens c.in_err-store.ensures.moments c.in_err-store.ensures.refused
    )

pub returns-in_err-resume-clause-ran : goal.returns-in_err-resume-clause-ran
returns-in_err-resume-clause-ran g c =
    let failed : c.from_residual-in_err-resume.result ≡ Err (stop_of_store c.in_err-resume.field-0.0) = search rules in
    rw failed (
    told_waited_run c.in_ok-store.store c.in_err-resume.ensures.lines_on_book (g.E.Edge.told c.args.edge.now) (g.E.Edge.told c.open.new.edge) (g.E.Edge.told c.resume.new.edge) c.in_ok-store.ensures.opened
    c.in_err-resume.field-0.0 (g.E.Edge.faults c.open.new.edge) (g.E.Edge.faults c.resume.new.edge) c.in_err-resume.ensures.cause (c.in_err-resume.ensures.lines c.lines.ensures).part
    )

pub returns-in_err-resume-clause-moments : goal.returns-in_err-resume-clause-moments
returns-in_err-resume-clause-moments g c =
    told_waited_moments c.in_ok-store.store c.in_err-resume.ensures.lines_on_book (g.E.Edge.told c.args.edge.now) (g.E.Edge.told c.open.new.edge) (g.E.Edge.told c.resume.new.edge) c.in_ok-store.ensures.opened
    c.in_err-resume.field-0.0 (g.E.Edge.faults c.open.new.edge) (g.E.Edge.faults c.resume.new.edge) c.in_err-resume.ensures.cause (c.in_err-resume.ensures.lines c.lines.ensures).part

pub returns-in_err-resume-clause-refused : goal.returns-in_err-resume-clause-refused
returns-in_err-resume-clause-refused g c =
    let failed : c.from_residual-in_err-resume.result ≡ Err (stop_of_store c.in_err-resume.field-0.0) = search rules in
    rw failed (
    told_waited_refuses c.in_ok-store.store c.in_err-resume.ensures.lines_on_book (g.E.Edge.told c.args.edge.now) (g.E.Edge.told c.open.new.edge) (g.E.Edge.told c.resume.new.edge) c.in_ok-store.ensures.opened
    c.in_err-resume.field-0.0 (g.E.Edge.faults c.open.new.edge) (g.E.Edge.faults c.resume.new.edge) c.in_err-resume.ensures.cause (c.in_err-resume.ensures.lines c.lines.ensures).part
    )

pub returns-clause-ran : goal.returns-clause-ran
returns-clause-ran g c =
    told_run c.in_ok-store.store c.in_ok-resume.ensures.lines_on_book (g.E.Edge.told c.args.edge.now) (g.E.Edge.told c.open.new.edge) (g.E.Edge.told c.resume.new.edge) c.in_ok-store.ensures.opened
    (stop_status c.take_lines.result) c.take_lines.ensures.no_device (g.E.Edge.told c.take_lines.new.edge) (c.in_ok-resume.ensures.lines c.lines.ensures).says c.take_lines.ensures.ran

pub returns-clause-moments : goal.returns-clause-moments
returns-clause-moments g c =
    told_moments c.in_ok-store.store c.in_ok-resume.ensures.lines_on_book (g.E.Edge.told c.args.edge.now) (g.E.Edge.told c.open.new.edge) (g.E.Edge.told c.resume.new.edge) c.in_ok-store.ensures.opened
    (stop_status c.take_lines.result) c.take_lines.ensures.no_device (g.E.Edge.told c.take_lines.new.edge) (c.in_ok-resume.ensures.lines c.lines.ensures).says c.take_lines.ensures.ran

pub returns-clause-refused : goal.returns-clause-refused
returns-clause-refused g c =
    told_run_refuses c.in_ok-store.store c.in_ok-resume.ensures.lines_on_book (g.E.Edge.told c.args.edge.now) (g.E.Edge.told c.open.new.edge) (g.E.Edge.told c.resume.new.edge) c.in_ok-store.ensures.opened
    (stop_status c.take_lines.result) c.take_lines.ensures.no_device (g.E.Edge.told c.take_lines.new.edge) (c.in_ok-resume.ensures.lines c.lines.ensures).says c.take_lines.ensures.ran
