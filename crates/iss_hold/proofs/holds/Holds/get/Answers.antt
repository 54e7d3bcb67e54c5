use Rattle.std.proofs.Common.{rules, ◌≡◌, sym, ap, ◌∙◌}
use Rattle.std.specs.Prelude.{None}
use Rattle.iss_model.specs.rules.Activity.{txn_named}
use Rattle.iss_model.specs.state.Cores.{Holdings}
use Rattle.iss_hold.proofs.Places.{inside, is_at}
use Rattle.iss_hold.proofs.HoldCalls.{parts_there, whole_small, not_started}
use Rattle.iss_hold.proofs.holds.Holds.get.Goals as goal

pub at-requires : goal.at-requires
at-requires c = inside c.args.txn.now c.self.invariant.placed c.in_ok-place.ensures

pub returns-clause-txn : goal.returns-clause-txn
returns-clause-txn c =
    let at = is_at c.self.invariant.placed c.in_ok-place.ensures c.at.ensures in
    sym at.found ∙ ap (λ (h : Holdings). txn_named c.args.txn.now h.txns) c.self.view_is

pub returns-clause-parts : goal.returns-clause-parts
returns-clause-parts c = parts_there (is_at c.self.invariant.placed c.in_ok-place.ensures c.at.ensures) c.self.view_is c.self.invariant.distinct

pub returns-clause-small : goal.returns-clause-small
returns-clause-small c = whole_small (is_at c.self.invariant.placed c.in_ok-place.ensures c.at.ensures) c.self.invariant.summed

pub returns-in_err-place-clause-txn : goal.returns-in_err-place-clause-txn
returns-in_err-place-clause-txn c =
    let failed : c.from_residual.result ≡ None = search rules in
    rw failed (sym (not_started c.args.txn.now c.self.invariant.placed c.in_err-place.ensures) ∙ ap (λ (h : Holdings). txn_named c.args.txn.now h.txns) c.self.view_is)
