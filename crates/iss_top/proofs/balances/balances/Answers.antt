use Rattle.std.proofs.Common.{◌≡◌, Err, subst, sym, rules}
use Rattle.iss_core.specs.Values.{CoreNow, CoreStandsFor}
use Rattle.iss_texts.proofs.Rows.{all_end}
use Rattle.iss_top.specs.declared.stop.Stop.TheVariants as stop
use Rattle.iss_top.specs.Statuses.{stop_of_opening}
use Rattle.iss_top.proofs.ToldReports.{IsReportOf, told_unopened_report, told_unopened_report_moments, told_unmade_report, told_unmade_moments, told_unmade_refuses, told_stopped_report, told_stopped_moments, told_stopped_refuses, told_report, told_report_moments, told_report_refuses}
use Rattle.iss_top.proofs.ToldReplays.{told_unopened_refuses}
use Rattle.iss_top.proofs.balances.balances.Goals as goal

pub returns-in_err-store-clause-ran : goal.returns-in_err-store-clause-ran
returns-in_err-store-clause-ran g c =
    let failed : c.from_residual.result ≡ Err (stop_of_opening c.in_err-store.field-0.0) = search rules in
    rw failed (
    told_unopened_report c.in_err-store.field-0.0 (g.E.Edge.told c.args.edge.now) (g.E.Edge.told c.open.new.edge) c.in_err-store.ensures.opens c.in_err-store.ensures.moments c.in_err-store.ensures.refused
    )

pub returns-in_err-store-clause-moments : goal.returns-in_err-store-clause-moments
returns-in_err-store-clause-moments g c =
    told_unopened_report_moments (g.E.Edge.told c.args.edge.now) (g.E.Edge.told c.open.new.edge) c.in_err-store.ensures.moments

pub returns-in_err-store-clause-refused : goal.returns-in_err-store-clause-refused
returns-in_err-store-clause-refused g c =
    let failed : c.from_residual.result ≡ Err (stop_of_opening c.in_err-store.field-0.0) = search rules in
    rw failed (
    told_unopened_refuses c.in_err-store.field-0.0 (g.E.Edge.told c.args.edge.now) (g.E.Edge.told c.open.new.edge) c.in_err-store.ensures.opens c.in_err-store.ensures.moments c.in_err-store.ensures.refused
    )

pub returns-in_err-lines-clause-ran : goal.returns-in_err-lines-clause-ran
returns-in_err-lines-clause-ran g c =
    let failed : c.from_residual-in_err-lines.result ≡ Err stop.Memory = search rules in
    rw failed (told_unmade_report c.in_ok-store.store (g.E.Edge.told c.args.edge.now) (g.E.Edge.told c.open.new.edge) c.in_ok-store.ensures.opened)

pub returns-in_err-lines-clause-moments : goal.returns-in_err-lines-clause-moments
returns-in_err-lines-clause-moments g c =
    told_unmade_moments c.in_ok-store.store (g.E.Edge.told c.args.edge.now) (g.E.Edge.told c.open.new.edge) c.in_ok-store.ensures.opened

pub returns-in_err-lines-clause-refused : goal.returns-in_err-lines-clause-refused
returns-in_err-lines-clause-refused g c =
    let failed : c.from_residual-in_err-lines.result ≡ Err stop.Memory = search rules in
    rw failed (told_unmade_refuses c.in_ok-store.store (g.E.Edge.told c.args.edge.now) (g.E.Edge.told c.open.new.edge) c.in_ok-store.ensures.opened)

pub send-requires : goal.send-requires
send-requires g c =
    record { ends = all_end c.in_ok-lines.ensures.whole.lines c.in_ok-lines.lines c.in_ok-lines.ensures.whole.all }

pub returns-in-Ok-clause-ran : goal.returns-in-Ok-clause-ran
returns-in-Ok-clause-ran g c =
    let whole = c.in_ok-lines.ensures.whole in
    let is : IsReportOf c.in_ok-store.store c.in_ok-lines.lines =
    λ rs here. c.in_ok-lines.ensures.on_book rs (subst (λ (k : CoreNow). CoreStandsFor k rs) (sym c.core.ensures) here) in
    told_report c.in_ok-store.store (g.E.Edge.told c.args.edge.now) (g.E.Edge.told c.open.new.edge) (g.E.Edge.told c.send.new.edge) c.in_ok-store.ensures.opened c.in_ok-lines.lines whole.lines whole.all is
    (λ texts all. rw c.in-Ok.is at (c.send.ensures.told texts all))

pub returns-in-Ok-clause-moments : goal.returns-in-Ok-clause-moments
returns-in-Ok-clause-moments g c =
    let whole = c.in_ok-lines.ensures.whole in
    let is : IsReportOf c.in_ok-store.store c.in_ok-lines.lines =
    λ rs here. c.in_ok-lines.ensures.on_book rs (subst (λ (k : CoreNow). CoreStandsFor k rs) (sym c.core.ensures) here) in
    told_report_moments c.in_ok-store.store (g.E.Edge.told c.args.edge.now) (g.E.Edge.told c.open.new.edge) (g.E.Edge.told c.send.new.edge) c.in_ok-store.ensures.opened c.in_ok-lines.lines whole.lines whole.all is
    (λ texts all. rw c.in-Ok.is at (c.send.ensures.told texts all))

pub returns-in-Ok-clause-refused : goal.returns-in-Ok-clause-refused
returns-in-Ok-clause-refused g c =
    let whole = c.in_ok-lines.ensures.whole in
    let is : IsReportOf c.in_ok-store.store c.in_ok-lines.lines =
    λ rs here. c.in_ok-lines.ensures.on_book rs (subst (λ (k : CoreNow). CoreStandsFor k rs) (sym c.core.ensures) here) in
    told_report_refuses c.in_ok-store.store (g.E.Edge.told c.args.edge.now) (g.E.Edge.told c.open.new.edge) (g.E.Edge.told c.send.new.edge) c.in_ok-store.ensures.opened c.in_ok-lines.lines whole.lines whole.all is
    (λ texts all. rw c.in-Ok.is at (c.send.ensures.told texts all))

pub returns-clause-ran : goal.returns-clause-ran
returns-clause-ran g c =
    let whole = c.in_ok-lines.ensures.whole in
    let is : IsReportOf c.in_ok-store.store c.in_ok-lines.lines =
    λ rs here. c.in_ok-lines.ensures.on_book rs (subst (λ (k : CoreNow). CoreStandsFor k rs) (sym c.core.ensures) here) in
    told_stopped_report c.in_ok-store.store (g.E.Edge.told c.args.edge.now) (g.E.Edge.told c.open.new.edge) (g.E.Edge.told c.send.new.edge) c.in_ok-store.ensures.opened c.in_ok-lines.lines whole.lines whole.all is
    (λ texts all. rw c.in-Err.is at (c.send.ensures.part texts all))

pub returns-clause-moments : goal.returns-clause-moments
returns-clause-moments g c =
    let whole = c.in_ok-lines.ensures.whole in
    let is : IsReportOf c.in_ok-store.store c.in_ok-lines.lines =
    λ rs here. c.in_ok-lines.ensures.on_book rs (subst (λ (k : CoreNow). CoreStandsFor k rs) (sym c.core.ensures) here) in
    told_stopped_moments c.in_ok-store.store (g.E.Edge.told c.args.edge.now) (g.E.Edge.told c.open.new.edge) (g.E.Edge.told c.send.new.edge) c.in_ok-store.ensures.opened c.in_ok-lines.lines whole.lines whole.all is
    (λ texts all. rw c.in-Err.is at (c.send.ensures.part texts all))

pub returns-clause-refused : goal.returns-clause-refused
returns-clause-refused g c =
    let whole = c.in_ok-lines.ensures.whole in
    let is : IsReportOf c.in_ok-store.store c.in_ok-lines.lines =
    λ rs here. c.in_ok-lines.ensures.on_book rs (subst (λ (k : CoreNow). CoreStandsFor k rs) (sym c.core.ensures) here) in
    told_stopped_refuses c.in_ok-store.store (g.E.Edge.told c.args.edge.now) (g.E.Edge.told c.open.new.edge) (g.E.Edge.told c.send.new.edge) c.in_ok-store.ensures.opened c.in_ok-lines.lines whole.lines whole.all is
    (λ texts all. rw c.in-Err.is at (c.send.ensures.part texts all))
