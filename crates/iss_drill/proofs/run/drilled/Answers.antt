use Rattle.std.proofs.Common.{[], refl, sym, subst}
use Rattle.std.proofs.lemmas.Result.{IfOk-weaker}
use Rattle.iss_model.specs.state.Cores.{core_facts}
use Rattle.iss_core.specs.Values.{CoreNow}
use Rattle.iss_drill.specs.declared.tally.Tally.{Tally}
use Rattle.iss_drill.specs.Drills.{drill_run, drill_lines}
use Rattle.iss_drill.specs.Giving.{HasGiven}
use Rattle.iss_drill.specs.Reports.{IsTotals, HoldsAreFew}
use Rattle.iss_drill.proofs.Holdings.{holds_are_few}
use Rattle.iss_drill.proofs.Totals.{begun, drilled_line}
use Rattle.iss_drill.proofs.run.drilled.Goals as goal

pub returns : goal.returns
returns c =
    let n = c.args.n in
    let start : HasGiven (drill_run n) [] c.new-tally.result c.in_ok-fresh.fresh =
    subst (λ (t : Tally). HasGiven (drill_run n) [] t c.in_ok-fresh.fresh) (sym c.new-tally.ensures) (begun n c.in_ok-fresh.fresh c.in_ok-fresh.ensures.opened c.in_ok-fresh.ensures.size) in
    let given = c.in_ok-store.ensures.given (c.in_ok-ready.ensures.given (drill_run n) start) in
    let totals = subst (λ (core : CoreNow). IsTotals (core_facts core.state) c.give_events.new.tally c.taken_together-totals.result) c.core.ensures c.taken_together-totals.ensures in
    IfOk-weaker c.drill_line.result _ _
    (λ line written. drilled_line n c.give_events.new.tally c.in_ok-store.store c.taken_together-totals.result line.items given totals written)
    c.drill_line.ensures

pub taken_together-totals-requires : goal.taken_together-totals-requires
taken_together-totals-requires c =
    let n = c.args.n in
    let start : HasGiven (drill_run n) [] c.new-tally.result c.in_ok-fresh.fresh =
    subst (λ (t : Tally). HasGiven (drill_run n) [] t c.in_ok-fresh.fresh) (sym c.new-tally.ensures) (begun n c.in_ok-fresh.fresh c.in_ok-fresh.ensures.opened c.in_ok-fresh.ensures.size) in
    let given = c.in_ok-store.ensures.given (c.in_ok-ready.ensures.given (drill_run n) start) in
    subst (λ (core : CoreNow). HoldsAreFew core.state) (sym c.core.ensures)
    (holds_are_few (drill_run n) (drill_lines n) n c.give_events.new.tally c.in_ok-store.store refl c.requires.most c.in_ok-store.ensures.lines given)
