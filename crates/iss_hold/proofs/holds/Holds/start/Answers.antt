use Rattle.std.proofs.Common.{◌≡◌, sym, subst, ap, ◌∙◌}
use Rattle.std.specs.Prelude.{None}
use Rattle.iss_model.specs.rules.Activity.{txn_named}
use Rattle.iss_model.specs.state.Cores.{Holdings, with_txn}
use Rattle.iss_hold.specs.Holdings.{holdings_of}
use Rattle.iss_hold.proofs.Beginnings.{holdings_more}
use Rattle.iss_hold.proofs.Restored.{on_ok, on_err}
use Rattle.iss_hold.proofs.holds.Holds.start.Goals as goal

pub returns-clause-started : goal.returns-clause-started
returns-clause-started c =
    let hs = c.self.inside.table.holds in
    let t = c.args.txn.now in
    on_ok c.start.result
    (λ e. ap holdings_of e
    ∙ holdings_more hs t (subst (λ (h : Holdings). txn_named t.token h.txns ≡ None) (sym c.self.view_is) c.requires.unknown)
    ∙ ap (λ (h : Holdings). with_txn h t) c.self.view_is)
    c.start.ensures.started

pub returns-clause-unchanged : goal.returns-clause-unchanged
returns-clause-unchanged c = on_err c.start.result (λ e. ap holdings_of e ∙ c.self.view_is) c.start.ensures.unchanged
