use Rattle.std.proofs.Common.{ap, ◌∙◌}
use Rattle.iss_model.specs.state.Cores.{Holdings}
use Rattle.iss_hold.specs.Holdings.{holdings_of}
use Rattle.iss_hold.specs.Restoring.{with_carried}
use Rattle.iss_hold.proofs.Restored.{holdings_with, total_low, on_ok, on_err}
use Rattle.iss_hold.proofs.holds.Holds.restore.Goals as goal

pub restore-requires-clause-low : goal.restore-requires-clause-low
restore-requires-clause-low c = total_low c.self.inside.table.holds c.args.self.now c.args.txn.now c.args.sums.now c.self.view_is c.requires.small

pub returns-clause-restored : goal.returns-clause-restored
returns-clause-restored c =
    let hs = c.self.inside.table.holds in
    on_ok c.restore.result
    (λ e. ap holdings_of e ∙ holdings_with hs c.args.txn.now c.args.sums.now
    ∙ ap (λ (h : Holdings). with_carried h c.args.txn.now c.args.sums.now) c.self.view_is)
    c.restore.ensures.restored

pub returns-clause-unchanged : goal.returns-clause-unchanged
returns-clause-unchanged c = on_err c.restore.result (λ e. ap holdings_of e ∙ c.self.view_is) c.restore.ensures.unchanged
