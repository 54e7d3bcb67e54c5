use Rattle.std.proofs.Common.{ℕ, List, ap, ◌∙◌}
use Rattle.iss_model.specs.state.Cores.{Holdings, with_end}
use Rattle.iss_hold.specs.Holdings.{holdings_of}
use Rattle.iss_hold.proofs.Endings.{holdings_end}
use Rattle.iss_hold.proofs.holds.Holds.end.Goals as goal

pub returns : goal.returns
returns c =
    let hs = c.self.inside.table.holds in
    ap holdings_of c.end.ensures.ended
    ∙ holdings_end hs c.hold_of-place.result.0 c.hold_of-place.result.1 c.hold_of-place.ensures.is_there c.self.invariant.distinct
    ∙ ap (λ (name : List ℕ). with_end (holdings_of hs) name) c.hold_of-place.ensures.named
    ∙ ap (λ (h : Holdings). with_end h c.args.txn.now) c.self.view_is
